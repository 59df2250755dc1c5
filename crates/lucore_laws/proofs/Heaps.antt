-- The places of a heap.
use Rattle.std.proofs.Common.{◌≡◌, ℕ, ◌≤◌, false, List, [], ◌∷◌, map, subst, arith}
use Rattle.std.specs.Prelude.{IsPermutation, All}
use Rattle.std.specs.Ordering.{nat_cmp, is_lt}
use Rattle.std.specs.BinaryHeap.{IsUpperBound}
use Rattle.std.specs.declared.cmp.Reverse.{Reverse}
use Rattle.std.proofs.lemmas.Bool.Decides.{nat_tests}
use Rattle.std.proofs.lemmas.List.Elements.{All-cons, All-nil}
use Rattle.std.proofs.lemmas.List.Sorted.{IsPermutation-map}

abbrev places : List (Reverse ℕ) → List ℕ
places xs = map (λ (x : Reverse ℕ). x.0) xs

pub pushed_place : (x : ℕ) (xs ys : List (Reverse ℕ)) (old : List ℕ) → IsPermutation (record { 0 = x } ∷ xs) ys → places xs ≡ old → IsPermutation (x ∷ old) (places ys)
pushed_place x xs ys old p e = subst (λ zs. IsPermutation (x ∷ zs) (places ys)) e (IsPermutation-map (λ (x : Reverse ℕ). x.0) (record { 0 = x } ∷ xs) ys p)

pub popped_place : (x : Reverse ℕ) (xs ys : List (Reverse ℕ)) (old : List ℕ) → IsPermutation xs (x ∷ ys) → places xs ≡ old → IsPermutation old (x.0 ∷ places ys)
popped_place x xs ys old p e = subst (λ zs. IsPermutation zs (x.0 ∷ places ys)) e (IsPermutation-map (λ (x : Reverse ℕ). x.0) xs (x ∷ ys) p)

not_above : (x y : ℕ) → is_lt (nat_cmp y x) ≡ false → x ≤ y
not_above x y h = grind (arith, nat_tests)

bounded : (x : Reverse ℕ) (xs : List (Reverse ℕ)) → IsUpperBound (λ (a b : Reverse ℕ). nat_cmp b.0 a.0) x xs → All (λ y. x.0 ≤ y) (places xs)
bounded x [] h = All-nil (λ y. x.0 ≤ y)
bounded x (y ∷ ys) h = All-cons (λ z. x.0 ≤ z) y.0 (places ys) (not_above x.0 y.0 h.0) (bounded x ys h.1)

pub least_place : (x : Reverse ℕ) (xs : List (Reverse ℕ)) (old : List ℕ) → IsUpperBound (λ (a b : Reverse ℕ). nat_cmp b.0 a.0) x xs → places xs ≡ old → All (λ y. x.0 ≤ y) old
least_place x xs old h e = subst (All (λ y. x.0 ≤ y)) e (bounded x xs h)
