-- Tests that compute, and what they say.
use Rattle.std.proofs.Common.{◌≡◌, ◌≢◌, ℕ, ◌<◌, ◌≤◌, ◌⊎◌, inl, inr, Bool, true, false, eqb, ltb, refl, arith}
use Rattle.std.specs.Prelude.{not, ◌&&◌, ◌||◌}
use Rattle.std.proofs.lemmas.Bool.Decides.{nat_tests}

pub yes_no : (b : Bool) → (b ≡ true) ⊎ (b ≡ false)
yes_no true = inl refl
yes_no false = inr refl

pub same_from_test : (a b : ℕ) → eqb a b ≡ true → a ≡ b
same_from_test a b h = grind (arith, nat_tests)

pub test_from_same : (a b : ℕ) → a ≡ b → eqb a b ≡ true
test_from_same a b h = grind (arith, nat_tests)

pub apart_from_test : (a b : ℕ) → eqb a b ≡ false → a ≢ b
apart_from_test a b h e = absurd (grind (arith, nat_tests))

pub test_from_apart : (a b : ℕ) → a ≢ b → eqb a b ≡ false
test_from_apart a b h = grind (arith, nat_tests)

pub eqb_comm : (a b : ℕ) → eqb a b ≡ eqb b a
eqb_comm a b = grind (arith, nat_tests)

pub same_or_not : (a b : ℕ) → (a ≡ b) ⊎ (a ≢ b)
same_or_not a b = elim (yes_no (eqb a b)) [ inl e ↦ inl (same_from_test a b e) | inr e ↦ inr (apart_from_test a b e) ]

pub below_from_test : (a b : ℕ) → ltb a b ≡ true → a < b
below_from_test a b h = grind (arith, nat_tests)

pub test_from_below : (a b : ℕ) → a < b → ltb a b ≡ true
test_from_below a b h = grind (arith, nat_tests)

pub test_from_above : (a b : ℕ) → b ≤ a → ltb a b ≡ false
test_from_above a b h = grind (arith, nat_tests)

pub and_left : (a b : Bool) → (a && b) ≡ true → a ≡ true
and_left true b h = refl
and_left false b h = h

pub and_right : (a b : Bool) → (a && b) ≡ true → b ≡ true
and_right true b h = h
and_right false b h = cc

pub and_no : (a b : Bool) → b ≡ false → (a && b) ≡ false
and_no true b e = e
and_no false b e = refl

pub and_both : (a b : Bool) → a ≡ true → b ≡ true → (a && b) ≡ true
and_both true b h e = e
and_both false b h e = h

pub or_cases : (a b : Bool) → (a || b) ≡ true → (a ≡ true) ⊎ (b ≡ true)
or_cases true b h = inl refl
or_cases false b h = inr h

pub or_right : (a b : Bool) → b ≡ true → (a || b) ≡ true
or_right true b h = refl
or_right false b h = h

pub not_true : (a : Bool) → not a ≡ true → a ≡ false
not_true true h = cc
not_true false h = refl

pub true_not_false : (a : Bool) → a ≡ true → a ≡ false → ⊥
true_not_false true h e = absurd (let never : true ≡ false = e in cc)
true_not_false false h e = absurd (let never : false ≡ true = h in cc)
