use Rattle.std.proofs.Common.{refl, arith, [], ◌∷◌, true≢false}
use Rattle.std.specs.Prelude.{codes}
use Rattle.std.proofs.lemmas.List.Elements.{All-from_recursion}
use Rattle.lutree.specs.declared.program.Kind.TheVariants.{Int, Bool as Truths}
use Rattle.lustat_rules.specs.Scope.{IsVariable, IsNode, node_called}
use Rattle.lustat_rules.specs.Naming.{Call}
use Rattle.lustat_rules.specs.Vectors.{sampler, program, to_two}
use Rattle.lustat_rules.proofs.Worked.{zero_less_two, none_below, none_is_some, false_is_true, other_kinds}
use Rattle.std.proofs.Common.{◌≡◌, length}
use Rattle.std.specs.Prelude.{IfSome}
use Rattle.lustat_rules.proofs.laws.typing_vectors_law.Goals as goal

pub returns : goal.returns
returns c = record {
  typed = λ known calls arities merges. (Int ∷ [], refl, refl);
  typed_pair = λ known calls arities merges. (Int ∷ Truths ∷ [], refl, refl);
  truth_for_int = λ f.
      let t = f (record { left = All-from_recursion (IsVariable sampler) (codes "y" ∷ []) (refl, tt); right = All-from_recursion (IsVariable sampler) (codes "c" ∷ []) (refl, tt); parts = tt }) (λ k d l. absurd (none_below l)) (record { arguments = λ k d l. absurd (none_below l); inner = λ k d l. absurd (none_below l); values = refl; some = omega arith }) tt in
      true≢false (other_kinds (Int ∷ []) (Truths ∷ []) t.0 t.1 t.2);
  sum_of_truth = λ f.
      let t = f (record { left = All-from_recursion (IsVariable sampler) (codes "y" ∷ []) (refl, tt); right = All-from_recursion (IsVariable sampler) (codes "x" ∷ codes "c" ∷ []) (refl, (refl, tt)); parts = (tt, tt) }) (λ k d l. absurd (none_below l)) (record { arguments = λ k d l. absurd (none_below l); inner = λ k d l. absurd (none_below l); values = refl; some = omega arith }) (tt, tt) in
      none_is_some t.1;
  pair_turned = λ f.
      let t = f (record { left = All-from_recursion (IsVariable sampler) (codes "c" ∷ codes "y" ∷ []) (refl, (refl, tt)); right = All-from_recursion (IsVariable sampler) (codes "x" ∷ []) (refl, tt); parts = (tt, tt) }) (All-from_recursion (λ (c : Call). IsNode program c.node) (to_two ∷ []) (refl, tt)) (record { arguments = All-from_recursion (λ (c : Call). IfSome (node_called program c.node) (λ n. c.arguments ≡ length n.inputs)) (to_two ∷ []) (refl, tt); inner = λ k d l. absurd (none_below l); values = refl; some = omega arith }) (tt, tt) in
      false_is_true (other_kinds (Truths ∷ Int ∷ []) (Int ∷ Truths ∷ []) t.0 t.1 t.2);
  unknown_is_unjudged = λ known calls arities merges. absurd (false_is_true (known.right 0 [] zero_less_two));
}
