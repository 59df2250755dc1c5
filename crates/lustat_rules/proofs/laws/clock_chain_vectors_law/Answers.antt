use Rattle.std.proofs.Common.{◌≡◌, inl, inr, Some, None, Option, true, false, refl, sym, ap, subst, ◌∙◌, [], ◌∷◌, true≢false, arith}
use Rattle.std.specs.Prelude.{codes, unwrap_or}
use Rattle.std.proofs.lemmas.List.Elements.{All-from_recursion, All-contains}
use Rattle.lutree.specs.Tree.{EquationTree}
use Rattle.lutree.specs.Tree as tree
use Rattle.lutree.specs.declared.expr.Pattern.TheVariants as patterns
use Rattle.lutree.specs.declared.expr.Condition.{Condition}
use Rattle.lutree.specs.declared.expr.Infix.TheVariants.{Arrow}
use Rattle.lustat_rules.specs.Scope.{Clock, names_of, clock_of}
use Rattle.lustat_rules.specs.Clocks.{on, base, HasClock, Ends}
use Rattle.lustat_rules.specs.Classes.{ClockIsTrueAtFirst, IsTrueAtFirst, StartsWith}
use Rattle.lustat_rules.specs.Vectors.{defines}
use Rattle.lustat_rules.specs.Chains.{turned, chained}
use Rattle.lustat_rules.proofs.Fitting.{inside, outside}
use Rattle.lustat_rules.proofs.Worked.{zero_less, false_is_true, first_is, base_is_on, neither, not_in}
use Rattle.lustat_rules.proofs.Rounds.{turns, starts_so}
use Rattle.lustat_rules.proofs.laws.clock_chain_vectors_law.Goals as goal

abbrev not_c : Condition
not_c = record { variable = codes "c"; pattern = patterns.Truth false }

abbrev by_c : Condition
by_c = record { variable = codes "c"; pattern = patterns.Truth true }

abbrev by_b : Condition
by_b = record { variable = codes "b"; pattern = patterns.Truth true }

pub returns : goal.returns
returns c =
    let v_is = All-from_recursion (λ x. HasClock chained x (on (codes "c") (patterns.Truth true))) (codes "v" ∷ []) (refl, tt) in
    let c_is = All-from_recursion (λ x. HasClock chained x (on (codes "b") (patterns.Truth true))) (codes "c" ∷ []) (refl, tt) in
    record {
      false_at_first =
          All-from_recursion (ClockIsTrueAtFirst (turned (tree.truth false))) (codes "v" ∷ []) (
            (λ k e.
                subst (IsTrueAtFirst (turned (tree.truth false))) (ap (λ (o : Option Clock). unwrap_or (unwrap_or o None) not_c) e)
                (defines (codes "c") (tree.binary Arrow (tree.truth false) (tree.variable (codes "d"))), (0, omega arith, refl), refl, StartsWith.arrow (tree.variable (codes "d")))),
            tt,
          );
      true_at_first = λ f.
          let t = f 0 [] zero_less not_c refl in
          All-contains (λ (q : EquationTree). q.left ≡ codes "c" ∷ [] → ¬ StartsWith (patterns.Truth false) q.right) (turned (tree.truth true)).equations t.0
          (All-from_recursion (λ (q : EquationTree). q.left ≡ codes "c" ∷ [] → ¬ StartsWith (patterns.Truth false) q.right) (turned (tree.truth true)).equations
          ((λ e s. true≢false (starts_so s)), ((λ e s. false_is_true (ap (λ l. first_is l (codes "c")) e)), ((λ e s. false_is_true (ap (λ l. first_is l (codes "c")) e)), tt))))
          t.1 t.2 t.3;
      sampled_twice = (on (codes "c") (patterns.Truth true), v_is, outside chained _ _ (refl, (on (codes "b") (patterns.Truth true), refl, (refl, (base, refl, refl)))));
      sampled_once = λ f. base_is_on ((inside f.2).1.2 ∙ sym (inside f.2).1.1);
      current_of_chain = (on (codes "b") (patterns.Truth true), c_is, outside chained _ _ (by_c, refl, refl));
      current_to_base = λ f.
          let found = inside f.2 in
          let same : codes "c" ≡ found.0.variable = ap (λ (o : Option Clock). (unwrap_or (unwrap_or o None) by_c).variable) found.1 in
          base_is_on (f.1 0 [] zero_less ∙ sym (subst (λ x. clock_of chained x ≡ Some f.0) (sym same) found.2));
      chain = record { typed = refl; ends = Ends.after by_c (on (codes "b") (patterns.Truth true)) refl (Ends.after by_b None refl Ends.at_base) };
      loop = λ f. turns f.ends (inl refl);
      loop_of_local = λ f. turns f.ends (inr refl);
      clock_is_an_output = λ e o. inr (0, omega arith, refl);
      clock_is_a_local = λ f.
          neither (not_in (names_of chained.inputs) (codes "l") refl (refl, (refl, tt))) (not_in (names_of chained.outputs) (codes "l") refl (refl, (refl, (refl, (refl, tt))))) (f refl (2, omega arith, refl));
    }
