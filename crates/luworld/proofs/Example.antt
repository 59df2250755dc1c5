-- The example meets what is asked of plans.
use Rattle.std.proofs.Common.{◌≡◌, ◌≢◌, ℕ, ◌<◌, ◌≤◌, Bool, true, false, cond, [], ◌∷◌, nat_eq, count_by, refl, ap, arith, ◌||◌, inl, inr, ⊎_elim, ◌⊎◌}
use Rattle.std.proofs.lemmas.Bool.{eqb-true, eq-eqb, ne_eqb, cases_eq}
use Rattle.luworld.specs.Outline.{IsOutline}
use Rattle.luworld.specs.Vectors.{example}
use Rattle.luworld.proofs.Passing.{one_if}

small : (b : Bool) → cond b 1 0 < 2
small true = omega arith
small false = omega arith

tells : (a b : ℕ) → ((one_if (nat_eq a b) ≡ 0) × (a ≢ b)) ⊎ ((one_if (nat_eq a b) ≡ 1) × (a ≡ b))
tells a b = ⊎_elim (λ e. inr (ap one_if (eq-eqb a b e), e)) (λ ne. inl (ap one_if (ne_eqb a b ne), ne)) (cases_eq a b)

other : (b : Bool) → ◌≡◌ {A = ℕ} 1 (cond (nat_eq (cond b 1 4) 3 || nat_eq (cond b 1 4) 5) 1 0) → ⊥
other true e = omega (arith, e)
other false e = omega (arith, e)

linked : (b : Bool) → count_by (nat_eq (cond b 1 4)) (0 ∷ 1 ∷ 4 ∷ 5 ∷ 3 ∷ 6 ∷ 7 ∷ 2 ∷ []) ≡ 1
linked true = refl
linked false = refl

pub example_is : (instants capacity : ℕ) → 1 ≤ capacity → IsOutline (example instants capacity)
example_is instants capacity room = record {
  room = room;
  stands_within = λ flow site is. let e = eqb-true site (cond (nat_eq flow 3 || nat_eq flow 5) 1 0) is in omega (arith, e, small (nat_eq flow 3 || nat_eq flow 5));
  home_within = λ flow. small (nat_eq flow 3 || nat_eq flow 5);
  receiver_within = λ link. omega arith;
  receiver_other = λ link lt. other (nat_eq link 0);
  ranked_once = λ flow. omega (arith, tells flow 0, tells flow 1, tells flow 2, tells flow 3, tells flow 4, tells flow 5, tells flow 6, tells flow 7);
  linked_once = λ link lt. linked (nat_eq link 0);
}
