-- The sampler keeps all rules.
use Rattle.std.proofs.Common.{inl, inr, true, false, [], ◌∷◌, None, refl, arith}
use Rattle.std.specs.Prelude.{codes, Contains, IsFalse}
use Rattle.std.proofs.lemmas.List.Elements.{All-from_recursion}
use Rattle.lutree.specs.declared.expr.Pattern.TheVariants as patterns
use Rattle.lutree.specs.Tree.{EquationTree, program_of}
use Rattle.lutree.specs.declared.program.Kind.TheVariants.{Int}
use Rattle.lustat_rules.specs.Scope.{declarations_of, names_of, IsVariable, IsInput}
use Rattle.lustat_rules.specs.Clocks.{on, base, HasClock, Ends}
use Rattle.lustat_rules.specs.Classes.{Classes, IsRaised, NeedsMet, IsHeld, SamplersAreZero, HasClasses}
use Rattle.lustat_rules.specs.Accepted.{Rule, IsAccepted}
use Rattle.lustat_rules.specs.Vectors.{sampler, main}
use Rattle.lustat_rules.proofs.Fitting.{outside}
use Rattle.lustat_rules.proofs.OneNode.{keeps_one}
use Rattle.lustat_rules.proofs.Worked.{none_below, one_less, false_is_true, not_in, nothing_in, single_distinct, reaches_none}

classes : HasClasses sampler
classes =
    let a : Classes = λ x. false in (
      a,
      record {
        raised = All-from_recursion (IsRaised a) sampler.equations ((λ t. absurd (false_is_true t)), ((λ t. absurd (false_is_true t)), ((λ t. absurd (false_is_true t)), tt)));
        needs = All-from_recursion (λ (q : EquationTree). NeedsMet a q.right) sampler.equations (tt, ((tt, tt), ((tt, ((refl, tt), tt)), tt)));
        held =
            All-from_recursion (IsHeld a sampler) (declarations_of sampler) (
              record { input = λ i. refl; output = λ o. refl; clock = tt },
              (
                record { input = λ i. refl; output = λ o. refl; clock = tt },
                (
                  record { input = λ i. refl; output = λ o. refl; clock = tt },
                  (
                    record { input = λ i. refl; output = λ o. refl; clock = refl },
                    (record { input = λ i. refl; output = λ o. refl; clock = refl }, tt),
                  ),
                ),
              ),
            );
        sampled =
            All-from_recursion (SamplersAreZero a) sampler.equations
            (All-from_recursion (λ x. IsFalse (a x)) (codes "c" ∷ []) (refl, tt), ((λ k x l. absurd (none_below l)), ((λ k x l. absurd (none_below l)), tt)));
      },
    )

pub accepted : IsAccepted (program_of (sampler ∷ [])) main
accepted Rule.duplicate_name =
    keeps_one sampler main Rule.duplicate_name tt (nothing_in main) (
      record { first = nothing_in (codes "x"); no_label = nothing_in (codes "x") },
      (
        record { first = not_in (codes "x" ∷ []) (codes "c") refl (refl, tt); no_label = nothing_in (codes "c") },
        (
          record { first = not_in (codes "x" ∷ codes "c" ∷ []) (codes "y") refl (refl, (refl, tt)); no_label = nothing_in (codes "y") },
          (
            record { first = not_in (codes "x" ∷ codes "c" ∷ codes "y" ∷ []) (codes "z") refl (refl, (refl, (refl, tt))); no_label = nothing_in (codes "z") },
            (record { first = not_in (codes "x" ∷ codes "c" ∷ codes "y" ∷ codes "z" ∷ []) (codes "s") refl (refl, (refl, (refl, (refl, tt)))); no_label = nothing_in (codes "s") }, tt),
          ),
        ),
      ),
    )
    (tt, (tt, (tt, tt)))
accepted Rule.unknown_name =
    keeps_one sampler main Rule.unknown_name tt tt (
      record { type = tt; clock = tt },
      (
        record { type = tt; clock = tt },
        (record { type = tt; clock = tt }, (record { type = tt; clock = (refl, tt) }, (record { type = tt; clock = (refl, tt) }, tt))),
      ),
    ) (
      record {
        left = All-from_recursion (IsVariable sampler) (codes "s" ∷ []) (refl, tt);
        right = All-from_recursion (IsVariable sampler) (codes "x" ∷ codes "c" ∷ []) (refl, (refl, tt));
        parts = (tt, tt);
      },
      (
        record {
          left = All-from_recursion (IsVariable sampler) (codes "z" ∷ []) (refl, tt);
          right = All-from_recursion (IsVariable sampler) (codes "s" ∷ []) (refl, tt);
          parts = (tt, tt);
        },
        (
          record {
            left = All-from_recursion (IsVariable sampler) (codes "y" ∷ []) (refl, tt);
            right = All-from_recursion (IsVariable sampler) (codes "x" ∷ codes "y" ∷ codes "x" ∷ []) (refl, (refl, (refl, tt)));
            parts = (tt, (tt, tt));
          },
          tt,
        ),
      ),
    )
accepted Rule.unknown_node =
    keeps_one sampler main Rule.unknown_node tt tt (tt, (tt, (tt, (tt, (tt, tt)))))
    ((λ k d l. absurd (none_below l)), ((λ k d l. absurd (none_below l)), ((λ k d l. absurd (none_below l)), tt)))
accepted Rule.type_mismatch =
    keeps_one sampler main Rule.type_mismatch tt tt (tt, (tt, (tt, (tt, (tt, tt)))))
    ((λ a b c d. (Int ∷ [], refl, refl)), ((λ a b c d. (Int ∷ [], refl, refl)), ((λ a b c d. (Int ∷ [], refl, refl)), tt)))
accepted Rule.wrong_arity =
    keeps_one sampler main Rule.wrong_arity tt tt (tt, (tt, (tt, (tt, (tt, tt))))) (
      record { arguments = λ k d l. absurd (none_below l); inner = λ k d l. absurd (none_below l); values = refl; some = omega arith },
      (
        record { arguments = λ k d l. absurd (none_below l); inner = λ k d l. absurd (none_below l); values = refl; some = omega arith },
        (record { arguments = λ k d l. absurd (none_below l); inner = λ k d l. absurd (none_below l); values = refl; some = omega arith }, tt),
      ),
    )
accepted Rule.undefined =
    keeps_one sampler main Rule.undefined tt tt
    (inl (0, omega arith, refl), (inl (1, omega arith, refl), (inr (2, omega arith, refl), (inr (1, omega arith, refl), (inr (0, omega arith, refl), tt)))))
    (tt, (tt, (tt, tt)))
accepted Rule.defined_twice =
    keeps_one sampler main Rule.defined_twice tt tt (tt, (tt, (tt, (tt, (tt, tt))))) (
      record {
        once = single_distinct (codes "s");
        first = All-from_recursion (λ x. ¬ Contains [] x) (codes "s" ∷ []) (nothing_in (codes "s"), tt);
        no_input = All-from_recursion (λ x. ¬ IsInput sampler x) (codes "s" ∷ []) (not_in (names_of sampler.inputs) (codes "s") refl (refl, (refl, tt)), tt);
      },
      (
        record {
          once = single_distinct (codes "z");
          first = All-from_recursion (λ x. ¬ Contains (codes "s" ∷ []) x) (codes "z" ∷ []) (not_in (codes "s" ∷ []) (codes "z") refl (refl, tt), tt);
          no_input = All-from_recursion (λ x. ¬ IsInput sampler x) (codes "z" ∷ []) (not_in (names_of sampler.inputs) (codes "z") refl (refl, (refl, tt)), tt);
        },
        (
          record {
            once = single_distinct (codes "y");
            first = All-from_recursion (λ x. ¬ Contains (codes "s" ∷ codes "z" ∷ []) x) (codes "y" ∷ []) (not_in (codes "s" ∷ codes "z" ∷ []) (codes "y") refl (refl, (refl, tt)), tt);
            no_input = All-from_recursion (λ x. ¬ IsInput sampler x) (codes "y" ∷ []) (not_in (names_of sampler.inputs) (codes "y") refl (refl, (refl, tt)), tt);
          },
          tt,
        ),
      ),
    )
accepted Rule.recursive_node =
    keeps_one sampler main Rule.recursive_node tt (λ f. reaches_none main sampler refl refl f refl) (tt, (tt, (tt, (tt, (tt, tt))))) (tt, (tt, (tt, tt)))
accepted Rule.no_main = keeps_one sampler main Rule.no_main refl tt (tt, (tt, (tt, (tt, (tt, tt))))) (tt, (tt, (tt, tt)))
accepted Rule.bad_merge =
    keeps_one sampler main Rule.bad_merge tt tt (tt, (tt, (tt, (tt, (tt, tt))))) ((tt, tt), ((tt, tt), ((tt, (tt, tt)), tt)))
accepted Rule.clock_mismatch =
    keeps_one sampler main Rule.clock_mismatch tt tt (tt, (tt, (tt, (tt, (tt, tt))))) (
      (on (codes "c") (patterns.Truth true), All-from_recursion (λ x. HasClock sampler x (on (codes "c") (patterns.Truth true))) (codes "s" ∷ []) (refl, tt), outside sampler _ _ (refl, (base, refl, refl))),
      (
        (on (codes "c") (patterns.Truth true), All-from_recursion (λ x. HasClock sampler x (on (codes "c") (patterns.Truth true))) (codes "z" ∷ []) (refl, tt), outside sampler _ _ (tt, refl)),
        ((base, All-from_recursion (λ x. HasClock sampler x base) (codes "y" ∷ []) (refl, tt), outside sampler _ _ (refl, (refl, refl))), tt),
      ),
    )
accepted Rule.not_a_clock =
    keeps_one sampler main Rule.not_a_clock tt tt (
      record { typed = tt; ends = Ends.at_base },
      (
        record { typed = tt; ends = Ends.at_base },
        (
          record { typed = tt; ends = Ends.at_base },
          (
            record { typed = refl; ends = Ends.after (record { variable = codes "c"; pattern = patterns.Truth true }) None refl Ends.at_base },
            (record { typed = refl; ends = Ends.after (record { variable = codes "c"; pattern = patterns.Truth true }) None refl Ends.at_base }, tt),
          ),
        ),
      ),
    )
    ((tt, refl), ((tt, tt), ((tt, (tt, tt)), tt)))
accepted Rule.clocked_parameter =
    keeps_one sampler main Rule.clocked_parameter tt tt (
      ((λ i. refl), (λ o m. refl)),
      (
        ((λ i. refl), (λ o m. refl)),
        (
          ((λ i. refl), (λ o m. refl)),
          (
            ((λ i. absurd (not_in (names_of sampler.inputs) (codes "z") refl (refl, (refl, tt)) i)), (λ o m. absurd (m refl))),
            (((λ i. absurd (not_in (names_of sampler.inputs) (codes "s") refl (refl, (refl, tt)) i)), (λ o m. absurd (m refl))), tt),
          ),
        ),
      ),
    )
    ((λ k d l. absurd (none_below l)), ((λ k d l. absurd (none_below l)), ((λ k d l. absurd (none_below l)), tt)))
accepted Rule.hidden_clock =
    keeps_one sampler main Rule.hidden_clock tt tt
    ((λ e o. tt), ((λ e o. tt), ((λ e o. tt), ((λ e o. inl (1, one_less, refl)), ((λ e o. inl (1, one_less, refl)), tt)))))
    (tt, (tt, (tt, tt)))
accepted Rule.maybe_nil = keeps_one sampler main Rule.maybe_nil tt classes (tt, (tt, (tt, (tt, (tt, tt))))) (tt, (tt, (tt, tt)))
accepted Rule.current_may_be_nil =
    keeps_one sampler main Rule.current_may_be_nil tt tt (tt, (tt, (tt, (tt, (tt, tt)))))
    ((λ k d l. absurd (none_below l)), ((λ k d l. absurd (none_below l)), ((λ k d l. absurd (none_below l)), tt)))
