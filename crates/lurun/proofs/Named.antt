-- The names of the outputs, by their numbers and by the declarations.
use Rattle.std.proofs.Common.{◌≡◌, ℕ, suc, ◌+◌, Bool, true, false, cond, List, [], ◌∷◌, length, map, filter, Option, Some, refl, sym, ap, ap₂, ◌∙◌, arith}
use Rattle.std.specs.Prelude.{slice_get, unwrap_or}
use Rattle.std.specs.List.{range_with_len}
use Rattle.std.specs.Option.{option_map}
use Rattle.luflow.specs.declared.variable.Variable.{Variable}
use Rattle.luflow.specs.Variables.{is_output, is_output_of, outputs_of, variable_name}
use Rattle.luworld.specs.Needs.{PlanView}
use Rattle.lusite_program.specs.Programs.{output_names}

module _ {X : Type 0} (name : ℕ → List ℕ) (is : ℕ → Bool) (name_of : X → List ℕ) (is_it : X → Bool) where
  abbrev Numbered : ℕ → List X → Type 0
  Numbered a xs = (k : ℕ) (x : X) → slice_get xs k ≡ Some x → (is (a + k) ≡ is_it x) × (name (a + k) ≡ name_of x)

  one : (b : Bool) (a : ℕ) (x : X) (ns : List ℕ) (xs : List X) → name a ≡ name_of x → map name ns ≡ map name_of xs → map name (cond b (a ∷ ns) ns) ≡ map name_of (cond b (x ∷ xs) xs)
  one true a x ns xs same rest = ap₂ (λ (y : List ℕ) (ys : List (List ℕ)). y ∷ ys) same rest
  one false a x ns xs same rest = rest

  pub same_names : (a : ℕ) (xs : List X) → Numbered a xs → map name (filter is (range_with_len a (length xs))) ≡ map name_of (filter is_it xs)
  same_names a [] h = refl
  same_names a (x ∷ xs) h =
      let z : a + 0 ≡ a = omega arith in
      let here = h 0 x refl in
      let rest = same_names (a + 1) xs (λ k y e. let w = h (suc k) y e in let n : a + suc k ≡ (a + 1) + k = omega arith in (sym (ap is n) ∙ w.0, sym (ap name n) ∙ w.1)) in
      ap (λ (b : Bool). map name (cond b (a ∷ filter is (range_with_len (a + 1) (length xs))) (filter is (range_with_len (a + 1) (length xs))))) (sym (ap is z) ∙ here.0)
      ∙ one (is_it x) a x (filter is (range_with_len (a + 1) (length xs))) (filter is_it xs) (sym (ap name z) ∙ here.1) rest

pub names_are : (plan : PlanView) → output_names plan ≡ map (λ (x : Variable). x.name) (outputs_of plan.flat.variables)
names_are plan =
    same_names (variable_name plan.flat) (is_output_of plan.flat) (λ (x : Variable). x.name) (λ (x : Variable). is_output x.role) 0 plan.flat.variables
    (λ k x e. (at (λ (o : Option Variable). unwrap_or (option_map (λ (y : Variable). is_output y.role) o) false) k x e, at (λ (o : Option Variable). unwrap_or (option_map (λ (y : Variable). y.name) o) []) k x e))
  where
    at : {A : Type 0} (f : Option Variable → A) (k : ℕ) (x : Variable) → slice_get plan.flat.variables k ≡ Some x → f (slice_get plan.flat.variables (0 + k)) ≡ f (Some x)
    at f k x e = let z : 0 + k ≡ k = omega arith in ap (λ (n : ℕ). f (slice_get plan.flat.variables n)) z ∙ ap f e
