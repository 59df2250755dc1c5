use Rattle.std.proofs.Common.{◌≡◌, refl, arith, [], ◌∷◌, length}
use Rattle.std.specs.Prelude.{codes, IfSome, Contains}
use Rattle.std.proofs.lemmas.List.Elements.{All-from_recursion}
use Rattle.lustat_rules.specs.Scope.{IsVariable, IsInput, IsNode, names_of, node_called}
use Rattle.lustat_rules.specs.Naming.{Call}
use Rattle.lustat_rules.specs.Vectors.{sampler, program, to_one, to_two}
use Rattle.lustat_rules.proofs.Worked.{zero_less, one_less, zero_less_two, none_below, false_is_true, not_in, nothing_in, single_distinct}
use Rattle.lustat_rules.proofs.laws.naming_vectors_law.Goals as goal

pub returns : goal.returns
returns c = record {
  known = record { left = All-from_recursion (IsVariable sampler) (codes "y" ∷ []) (refl, tt); right = All-from_recursion (IsVariable sampler) (codes "x" ∷ codes "x" ∷ codes "c" ∷ []) (refl, (refl, (refl, tt))); parts = (tt, (tt, tt)) };
  unknown_left = λ f. false_is_true (f.left 0 [] zero_less);
  unknown_right = λ f. false_is_true (f.right 1 [] one_less);
  unknown_clock = λ f. false_is_true (f.right 1 [] one_less);
  known_node = All-from_recursion (λ (c : Call). IsNode program c.node) (to_one ∷ to_one ∷ []) (refl, (refl, tt));
  unknown_node = λ f. false_is_true (f 0 to_one zero_less);
  few_arguments = λ f. let e = f.arguments 0 to_one zero_less in omega (arith, e);
  two_inside = λ f. let e = f.inner 0 to_one zero_less in omega (arith, e);
  two_for_one = λ f. let e = f.values in omega (arith, e);
  one_for_two = λ f. let e = f.values in omega (arith, e);
  two_for_two = record { arguments = All-from_recursion (λ (c : Call). IfSome (node_called program c.node) (λ n. c.arguments ≡ length n.inputs)) (to_two ∷ []) (refl, tt); inner = λ k d l. absurd (none_below l); values = refl; some = omega arith };
  first = record { once = single_distinct (codes "y"); first = All-from_recursion (λ x. ¬ Contains [] x) (codes "y" ∷ []) (nothing_in (codes "y"), tt); no_input = All-from_recursion (λ x. ¬ IsInput sampler x) (codes "y" ∷ []) (not_in (names_of sampler.inputs) (codes "y") refl (refl, (refl, tt)), tt) };
  second = λ f. f.first 0 [] zero_less (2, omega arith, refl);
  twice_on_left = λ f. f.once 1 (codes "y") refl (0, zero_less, refl);
  of_an_input = λ f. f.no_input 0 [] zero_less (0, zero_less_two, refl);
}
