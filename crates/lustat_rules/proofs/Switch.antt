-- The program with a merge of three names keeps all rules.
use Rattle.std.proofs.Common.{inl, inr, false, List, [], ◌∷◌, None, refl, arith}
use Rattle.std.specs.Prelude.{codes, Contains, IsFalse}
use Rattle.std.proofs.lemmas.List.Elements.{All-from_recursion}
use Rattle.lutree.specs.declared.expr.Pattern.{Pattern}
use Rattle.lutree.specs.declared.expr.Pattern.TheVariants as patterns
use Rattle.lutree.specs.declared.program.Kind.TheVariants.{Int}
use Rattle.lutree.specs.Tree.{TypeTree, EquationTree}
use Rattle.lustat_rules.specs.Scope.{declarations_of, names_of, labels_of, IsVariable, IsInput}
use Rattle.lustat_rules.specs.Naming.{LabelKnown, PatternKnown}
use Rattle.lustat_rules.specs.Typing.{IsNumbered, AreNames}
use Rattle.lustat_rules.specs.Clocks.{on, base, HasClock, IsTypedClock, NamesClocks, Ends, FitsClockInside}
use Rattle.lustat_rules.specs.Parts as part
use Rattle.lustat_rules.specs.Classes.{Classes, IsRaised, NeedsMet, IsHeld, SamplersAreZero, HasClasses}
use Rattle.lustat_rules.specs.Accepted.{Rule, IsAccepted}
use Rattle.lustat_rules.specs.Vectors.{main}
use Rattle.lustat_rules.specs.EnumVectors.{mode, side, of_mode, up, down, off, patterns_of, whole, switch, switched}
use Rattle.lustat_rules.proofs.Fitting.{outside}
use Rattle.lustat_rules.proofs.OneNode.{each, keeps_typed}
use Rattle.lustat_rules.proofs.Worked.{none_below, false_is_true, not_in, nothing_in, single_distinct, reaches_none}

abbrev types : List TypeTree
types = mode ∷ side ∷ []

abbrev three : List Pattern
three = patterns_of (up ∷ down ∷ off ∷ [])

pub all_names : AreNames of_mode 3 three
all_names = record { count = refl; each = each (IsNumbered of_mode) three ((refl, refl), ((refl, refl), ((refl, refl), tt))) }

pub up_known : LabelKnown switched up
up_known = (mode, (refl, refl), refl)

pub down_known : LabelKnown switched down
down_known = (mode, (refl, refl), refl)

off_known : LabelKnown switched off
off_known = (mode, (refl, refl), refl)

-- the merge on m names clocks
pub names_clocks : NamesClocks switch (part.merge (codes "m") three 3)
names_clocks = (tt, All-from_recursion (λ p. IsTypedClock switch (record { variable = codes "m"; pattern = p })) three (refl, (refl, (refl, tt))))

pub whole_fits : FitsClockInside switch whole base
whole_fits = (refl, ((refl, (base, refl, refl)), (refl, (tt, tt))))

-- no variable of the node has the name of a name
unlabelled_m : ¬ Contains (labels_of types) (codes "m")
unlabelled_m = not_in (labels_of types) (codes "m") refl (refl, (refl, (refl, (refl, tt))))

unlabelled_k : ¬ Contains (labels_of types) (codes "k")
unlabelled_k = not_in (labels_of types) (codes "k") refl (refl, (refl, (refl, (refl, tt))))

unlabelled_x : ¬ Contains (labels_of types) (codes "x")
unlabelled_x = not_in (labels_of types) (codes "x") refl (refl, (refl, (refl, (refl, tt))))

unlabelled_y : ¬ Contains (labels_of types) (codes "y")
unlabelled_y = not_in (labels_of types) (codes "y") refl (refl, (refl, (refl, (refl, tt))))

unlabelled_z : ¬ Contains (labels_of types) (codes "z")
unlabelled_z = not_in (labels_of types) (codes "z") refl (refl, (refl, (refl, (refl, tt))))

classes : HasClasses switch
classes =
    let a : Classes = λ x. false in (
      a,
      record {
        raised = All-from_recursion (IsRaised a) switch.equations ((λ t. absurd (false_is_true t)), ((λ t. absurd (false_is_true t)), tt));
        needs = All-from_recursion (λ (q : EquationTree). NeedsMet a q.right) switch.equations (tt, ((refl, tt, (refl, tt, (refl, tt, tt))), tt));
        held =
            All-from_recursion (IsHeld a switch) (declarations_of switch) (
              record { input = λ i. refl; output = λ o. refl; clock = tt },
              (
                record { input = λ i. refl; output = λ o. refl; clock = tt },
                (
                  record { input = λ i. refl; output = λ o. refl; clock = tt },
                  (
                    record { input = λ i. refl; output = λ o. refl; clock = tt },
                    (record { input = λ i. refl; output = λ o. refl; clock = refl }, tt),
                  ),
                ),
              ),
            );
        sampled =
            All-from_recursion (SamplersAreZero a) switch.equations
            (All-from_recursion (λ x. IsFalse (a x)) (codes "m" ∷ []) (refl, tt), (All-from_recursion (λ x. IsFalse (a x)) (codes "m" ∷ codes "m" ∷ []) (refl, (refl, tt)), tt));
      },
    )

pub accepted : IsAccepted switched main
accepted Rule.duplicate_name =
    keeps_typed types switch main Rule.duplicate_name tt
    (nothing_in (codes "mode"), (not_in (codes "mode" ∷ []) (codes "side") refl (refl, tt), tt)) (
      (
        nothing_in (codes "Up"),
        (not_in (codes "Up" ∷ []) (codes "Down") refl (refl, tt), (not_in (codes "Up" ∷ codes "Down" ∷ []) (codes "Off") refl (refl, (refl, tt)), tt)),
      ),
      ((not_in (codes "Up" ∷ codes "Down" ∷ codes "Off" ∷ []) (codes "Left") refl (refl, (refl, (refl, tt))), tt), tt),
    )
    (nothing_in main) (
      record { first = nothing_in (codes "m"); no_label = unlabelled_m },
      (
        record { first = not_in (codes "m" ∷ []) (codes "k") refl (refl, tt); no_label = unlabelled_k },
        (
          record { first = not_in (codes "m" ∷ codes "k" ∷ []) (codes "x") refl (refl, (refl, tt)); no_label = unlabelled_x },
          (
            record { first = not_in (codes "m" ∷ codes "k" ∷ codes "x" ∷ []) (codes "y") refl (refl, (refl, (refl, tt))); no_label = unlabelled_y },
            (record { first = not_in (codes "m" ∷ codes "k" ∷ codes "x" ∷ codes "y" ∷ []) (codes "z") refl (refl, (refl, (refl, (refl, tt)))); no_label = unlabelled_z }, tt),
          ),
        ),
      ),
    )
    (tt, (tt, tt))
accepted Rule.unknown_name =
    keeps_typed types switch main Rule.unknown_name tt (tt, (tt, tt)) ((tt, (tt, (tt, tt))), ((tt, tt), tt)) tt (
      record { type = (mode, (refl, refl), refl); clock = tt },
      (
        record { type = (side, (refl, refl), refl); clock = tt },
        (record { type = tt; clock = tt }, (record { type = tt; clock = tt }, (record { type = tt; clock = (refl, down_known) }, tt))),
      ),
    ) (
      record {
        left = All-from_recursion (IsVariable switch) (codes "z" ∷ []) (refl, tt);
        right = All-from_recursion (IsVariable switch) (codes "x" ∷ codes "m" ∷ []) (refl, (refl, tt));
        parts = (tt, down_known);
      },
      (
        record {
          left = All-from_recursion (IsVariable switch) (codes "y" ∷ []) (refl, tt);
          right = All-from_recursion (IsVariable switch) (codes "m" ∷ codes "x" ∷ codes "m" ∷ codes "z" ∷ []) (refl, (refl, (refl, (refl, tt))));
          parts = (All-from_recursion (PatternKnown switched) three (up_known, (down_known, (off_known, tt))), ((tt, up_known), (tt, (tt, tt))));
        },
        tt,
      ),
    )
accepted Rule.unknown_node =
    keeps_typed types switch main Rule.unknown_node tt (tt, (tt, tt)) ((tt, (tt, (tt, tt))), ((tt, tt), tt)) tt (tt, (tt, (tt, (tt, (tt, tt)))))
    ((λ k d l. absurd (none_below l)), ((λ k d l. absurd (none_below l)), tt))
accepted Rule.type_mismatch =
    keeps_typed types switch main Rule.type_mismatch tt (tt, (tt, tt)) ((tt, (tt, (tt, tt))), ((tt, tt), tt)) tt (tt, (tt, (tt, (tt, (tt, tt)))))
    ((λ a b c d. (Int ∷ [], refl, refl)), ((λ a b c d. (Int ∷ [], refl, refl)), tt))
accepted Rule.wrong_arity =
    keeps_typed types switch main Rule.wrong_arity tt (tt, (tt, tt)) ((tt, (tt, (tt, tt))), ((tt, tt), tt)) tt (tt, (tt, (tt, (tt, (tt, tt))))) (
      record { arguments = λ k d l. absurd (none_below l); inner = λ k d l. absurd (none_below l); values = refl; some = omega arith },
      (record { arguments = λ k d l. absurd (none_below l); inner = λ k d l. absurd (none_below l); values = refl; some = omega arith }, tt),
    )
accepted Rule.undefined =
    keeps_typed types switch main Rule.undefined tt (tt, (tt, tt)) ((tt, (tt, (tt, tt))), ((tt, tt), tt)) tt
    (inl (0, omega arith, refl), (inl (1, omega arith, refl), (inl (2, omega arith, refl), (inr (1, omega arith, refl), (inr (0, omega arith, refl), tt)))))
    (tt, (tt, tt))
accepted Rule.defined_twice =
    keeps_typed types switch main Rule.defined_twice tt (tt, (tt, tt)) ((tt, (tt, (tt, tt))), ((tt, tt), tt)) tt (tt, (tt, (tt, (tt, (tt, tt))))) (
      record {
        once = single_distinct (codes "z");
        first = All-from_recursion (λ x. ¬ Contains [] x) (codes "z" ∷ []) (nothing_in (codes "z"), tt);
        no_input = All-from_recursion (λ x. ¬ IsInput switch x) (codes "z" ∷ []) (not_in (names_of switch.inputs) (codes "z") refl (refl, (refl, (refl, tt))), tt);
      },
      (
        record {
          once = single_distinct (codes "y");
          first = All-from_recursion (λ x. ¬ Contains (codes "z" ∷ []) x) (codes "y" ∷ []) (not_in (codes "z" ∷ []) (codes "y") refl (refl, tt), tt);
          no_input = All-from_recursion (λ x. ¬ IsInput switch x) (codes "y" ∷ []) (not_in (names_of switch.inputs) (codes "y") refl (refl, (refl, (refl, tt))), tt);
        },
        tt,
      ),
    )
accepted Rule.recursive_node =
    keeps_typed types switch main Rule.recursive_node tt (tt, (tt, tt)) ((tt, (tt, (tt, tt))), ((tt, tt), tt)) (λ f. reaches_none main switch refl refl f refl)
    (tt, (tt, (tt, (tt, (tt, tt)))))
    (tt, (tt, tt))
accepted Rule.no_main =
    keeps_typed types switch main Rule.no_main refl (tt, (tt, tt)) ((tt, (tt, (tt, tt))), ((tt, tt), tt)) tt (tt, (tt, (tt, (tt, (tt, tt))))) (tt, (tt, tt))
accepted Rule.bad_merge =
    keeps_typed types switch main Rule.bad_merge tt (tt, (tt, tt)) ((tt, (tt, (tt, tt))), ((tt, tt), tt)) tt (tt, (tt, (tt, (tt, (tt, tt)))))
    ((tt, tt), (((refl, all_names), ((tt, tt), (tt, (tt, tt)))), tt))
accepted Rule.clock_mismatch =
    keeps_typed types switch main Rule.clock_mismatch tt (tt, (tt, tt)) ((tt, (tt, (tt, tt))), ((tt, tt), tt)) tt (tt, (tt, (tt, (tt, (tt, tt))))) (
      (on (codes "m") (patterns.Label down), All-from_recursion (λ x. HasClock switch x (on (codes "m") (patterns.Label down))) (codes "z" ∷ []) (refl, tt), outside switch _ _ (refl, (base, refl, refl))),
      ((base, All-from_recursion (λ x. HasClock switch x base) (codes "y" ∷ []) (refl, tt), outside switch _ _ whole_fits), tt),
    )
accepted Rule.not_a_clock =
    keeps_typed types switch main Rule.not_a_clock tt (tt, (tt, tt)) ((tt, (tt, (tt, tt))), ((tt, tt), tt)) tt (
      record { typed = tt; ends = Ends.at_base },
      (
        record { typed = tt; ends = Ends.at_base },
        (
          record { typed = tt; ends = Ends.at_base },
          (
            record { typed = tt; ends = Ends.at_base },
            (record { typed = refl; ends = Ends.after (record { variable = codes "m"; pattern = patterns.Label down }) None refl Ends.at_base }, tt),
          ),
        ),
      ),
    )
    ((tt, refl), ((names_clocks, ((tt, refl), (tt, (tt, tt)))), tt))
accepted Rule.clocked_parameter =
    keeps_typed types switch main Rule.clocked_parameter tt (tt, (tt, tt)) ((tt, (tt, (tt, tt))), ((tt, tt), tt)) tt (
      ((λ i. refl), (λ o m. refl)),
      (
        ((λ i. refl), (λ o m. refl)),
        (
          ((λ i. refl), (λ o m. refl)),
          (
            ((λ i. refl), (λ o m. refl)),
            (((λ i. absurd (not_in (names_of switch.inputs) (codes "z") refl (refl, (refl, (refl, tt))) i)), (λ o m. absurd (m refl))), tt),
          ),
        ),
      ),
    )
    ((λ k d l. absurd (none_below l)), ((λ k d l. absurd (none_below l)), tt))
accepted Rule.hidden_clock =
    keeps_typed types switch main Rule.hidden_clock tt (tt, (tt, tt)) ((tt, (tt, (tt, tt))), ((tt, tt), tt)) tt
    ((λ e o. tt), ((λ e o. tt), ((λ e o. tt), ((λ e o. tt), ((λ e o. inl (0, omega arith, refl)), tt)))))
    (tt, (tt, tt))
accepted Rule.maybe_nil =
    keeps_typed types switch main Rule.maybe_nil tt (tt, (tt, tt)) ((tt, (tt, (tt, tt))), ((tt, tt), tt)) classes (tt, (tt, (tt, (tt, (tt, tt))))) (tt, (tt, tt))
accepted Rule.current_may_be_nil =
    keeps_typed types switch main Rule.current_may_be_nil tt (tt, (tt, tt)) ((tt, (tt, (tt, tt))), ((tt, tt), tt)) tt (tt, (tt, (tt, (tt, (tt, tt)))))
    ((λ k d l. absurd (none_below l)), ((λ k d l. absurd (none_below l)), tt))
