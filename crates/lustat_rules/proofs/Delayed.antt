-- A node that gives out `pre x` keeps the rules of names, types and clocks.
use Rattle.std.proofs.Common.{◌<◌, inl, inr, [], ◌∷◌, refl, arith}
use Rattle.std.specs.Prelude.{codes, Contains}
use Rattle.std.proofs.lemmas.List.Elements.{All-from_recursion}
use Rattle.lutree.specs.Tree.{NodeTree, program_of}
use Rattle.lutree.specs.Tree as tree
use Rattle.lutree.specs.declared.expr.Prefix.TheVariants.{Pre}
use Rattle.lutree.specs.declared.program.Kind.TheVariants.{Int}
use Rattle.lustat_rules.specs.Scope.{names_of, IsVariable, IsInput}
use Rattle.lustat_rules.specs.Clocks.{base, HasClock, Ends}
use Rattle.lustat_rules.specs.Accepted.{Rule, stage, Keeps}
use Rattle.lustat_rules.specs.Vectors.{delay, x}
use Rattle.lustat_rules.proofs.Fitting.{outside}
use Rattle.lustat_rules.proofs.OneNode.{keeps_one}
use Rattle.lustat_rules.proofs.Worked.{none_below, not_in, nothing_in, single_distinct, reaches_none}

abbrev pub bare : NodeTree
bare = delay (tree.unary Pre x)

pub kept_before : (r : Rule) → stage r < 3 → Keeps (program_of (bare ∷ [])) (codes "delay") r
kept_before Rule.duplicate_name h =
    keeps_one bare (codes "delay") Rule.duplicate_name tt (nothing_in (codes "delay")) (
      record { first = nothing_in (codes "x"); no_label = nothing_in (codes "x") },
      (record { first = not_in (codes "x" ∷ []) (codes "y") refl (refl, tt); no_label = nothing_in (codes "y") }, tt),
    )
    (tt, tt)
kept_before Rule.unknown_name h =
    keeps_one bare (codes "delay") Rule.unknown_name tt tt (record { type = tt; clock = tt }, (record { type = tt; clock = tt }, tt)) (
      record {
        left = All-from_recursion (IsVariable bare) (codes "y" ∷ []) (refl, tt);
        right = All-from_recursion (IsVariable bare) (codes "x" ∷ []) (refl, tt);
        parts = tt;
      },
      tt,
    )
kept_before Rule.unknown_node h = keeps_one bare (codes "delay") Rule.unknown_node tt tt (tt, (tt, tt)) ((λ k d l. absurd (none_below l)), tt)
kept_before Rule.type_mismatch h = keeps_one bare (codes "delay") Rule.type_mismatch tt tt (tt, (tt, tt)) ((λ a b c d. (Int ∷ [], refl, refl)), tt)
kept_before Rule.wrong_arity h =
    keeps_one bare (codes "delay") Rule.wrong_arity tt tt (tt, (tt, tt))
    (record { arguments = λ k d l. absurd (none_below l); inner = λ k d l. absurd (none_below l); values = refl; some = omega arith }, tt)
kept_before Rule.undefined h =
    keeps_one bare (codes "delay") Rule.undefined tt tt (inl (0, omega arith, refl), (inr (0, omega arith, refl), tt)) (tt, tt)
kept_before Rule.defined_twice h =
    keeps_one bare (codes "delay") Rule.defined_twice tt tt (tt, (tt, tt)) (
      record {
        once = single_distinct (codes "y");
        first = All-from_recursion (λ x. ¬ Contains [] x) (codes "y" ∷ []) (nothing_in (codes "y"), tt);
        no_input = All-from_recursion (λ x. ¬ IsInput bare x) (codes "y" ∷ []) (not_in (names_of bare.inputs) (codes "y") refl (refl, tt), tt);
      },
      tt,
    )
kept_before Rule.recursive_node h =
    keeps_one bare (codes "delay") Rule.recursive_node tt (λ f. reaches_none (codes "delay") bare refl refl f refl) (tt, (tt, tt)) (tt, tt)
kept_before Rule.no_main h = keeps_one bare (codes "delay") Rule.no_main refl tt (tt, (tt, tt)) (tt, tt)
kept_before Rule.bad_merge h = keeps_one bare (codes "delay") Rule.bad_merge tt tt (tt, (tt, tt)) (tt, tt)
kept_before Rule.clock_mismatch h =
    keeps_one bare (codes "delay") Rule.clock_mismatch tt tt (tt, (tt, tt))
    ((base, All-from_recursion (λ x. HasClock bare x base) (codes "y" ∷ []) (refl, tt), outside bare _ _ refl), tt)
kept_before Rule.not_a_clock h =
    keeps_one bare (codes "delay") Rule.not_a_clock tt tt
    (record { typed = tt; ends = Ends.at_base }, (record { typed = tt; ends = Ends.at_base }, tt)) (tt, tt)
kept_before Rule.clocked_parameter h =
    keeps_one bare (codes "delay") Rule.clocked_parameter tt tt
    (((λ i. refl), (λ o m. refl)), (((λ i. refl), (λ o m. refl)), tt)) ((λ k d l. absurd (none_below l)), tt)
kept_before Rule.hidden_clock h = keeps_one bare (codes "delay") Rule.hidden_clock tt tt ((λ e o. tt), ((λ e o. tt), tt)) (tt, tt)
kept_before Rule.maybe_nil h = absurd (omega (arith, h))
kept_before Rule.current_may_be_nil h = absurd (omega (arith, h))
