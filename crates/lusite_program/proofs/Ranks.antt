-- The ranks of the flows that a site knows, and those between.
use Rattle.std.proofs.Common.{◌≡◌, ◌≢◌, ℕ, zero, suc, ◌+◌, ◌<◌, ◌≤◌, Bool, true, false, List, [], ◌∷◌, length, map, Some, refl, sym, ap, ◌∙◌, subst, arith, add-one}
use Rattle.std.specs.Prelude.{slice_get, slice_index, unwrap_or}
use Rattle.std.proofs.lemmas.List.{length-map}
use Rattle.std.proofs.lemmas.List.Elements.{All-get_or}
use Rattle.std.proofs.lemmas.Option.{slice_get_within}
use Rattle.luflow.specs.Program.{flows_of, IsOrdered}
use Rattle.luflow.proofs.Solutions.{place_in, some_at}
use Rattle.luworld.specs.Needs.{PlanView}
use Rattle.luworld.specs.Jobs.{knows}
use Rattle.lusite_program.specs.Programs.{SiteProgramView, ranks_of, places_of, rank_at}
use Rattle.lusite_program.proofs.Sifted.{or_there, sifted_in, before_first, between, rising, next_greater, or_end_in, sifted_has}

-- no flow of a rank from p to q is known
abbrev pub AreUnknown : PlanView → ℕ → ℕ → ℕ → Type 0
AreUnknown plan s p q = (r : ℕ) → p ≤ r → r < q → knows plan s (slice_index plan.flat.order r) ≡ false

mapped : (f : ℕ → ℕ) (xs : List ℕ) (k end : ℕ) → f end ≡ 0 → slice_index (map f xs) k ≡ f (unwrap_or (slice_get xs k) end)
mapped f [] k end e = sym e
mapped f (x ∷ xs) zero end e = refl
mapped f (x ∷ xs) (suc k) end e = mapped f xs k end e

pub none_there : (xs : List ℕ) (k : ℕ) → length xs ≤ k → slice_index xs k ≡ 0
none_there [] k le = refl
none_there (x ∷ xs) zero le = absurd (omega (arith, le))
none_there (x ∷ xs) (suc k) le = none_there xs k (omega (arith, le))

-- the ranks of the flows that a site knows
module _ (p : SiteProgramView) where
  abbrev order : List ℕ
  order = p.plan.flat.order

  abbrev is_known : ℕ → Bool
  is_known r = knows p.plan p.site (slice_index order r)

  abbrev ranks : List ℕ
  ranks = ranks_of p.plan p.site

  end_is : 0 + length order ≡ length order
  end_is = omega arith

  pub rank_le : (k : ℕ) → rank_at p k ≤ length order
  rank_le k = subst (λ (n : ℕ). unwrap_or (slice_get ranks k) n ≤ n) end_is (or_end_in is_known 0 (length order) k)

  -- the rank at hand, where it isn't behind the last
  pub rank_there : (k r : ℕ) → r ≡ rank_at p k → r < length order → slice_get ranks k ≡ Some r
  rank_there k r e lt = or_there ranks k (length order) r e lt

  pub rank_known : (k r : ℕ) → slice_get ranks k ≡ Some r → knows p.plan p.site (slice_index order r) ≡ true
  rank_known k r e = (sifted_in is_known 0 (length order) k r e).2

  pub rank_in : (k r : ℕ) → slice_get ranks k ≡ Some r → r < length order
  rank_in k r e = let w = (sifted_in is_known 0 (length order) k r e).1 in omega (arith, w)

  pub unknown_first : AreUnknown p.plan p.site 0 (rank_at p 0)
  unknown_first r low high = before_first is_known 0 (length order) r low (subst (λ (n : ℕ). r < unwrap_or (slice_get ranks 0) n) (sym end_is) high)

  pub rank_next : (k r : ℕ) → slice_get ranks k ≡ Some r → r < rank_at p (k + 1)
  rank_next k r e = subst (λ (m : ℕ). r < rank_at p m) (sym (add-one k)) (subst (λ (n : ℕ). r < unwrap_or (slice_get ranks (suc k)) n) end_is (next_greater is_known 0 (length order) k r e))

  pub unknown_next : (k r : ℕ) → slice_get ranks k ≡ Some r → AreUnknown p.plan p.site (r + 1) (rank_at p (k + 1))
  unknown_next k r e q low high =
      between is_known 0 (length order) k r q e (omega (arith, low))
      (subst (λ (n : ℕ). q < unwrap_or (slice_get ranks (suc k)) n) (sym end_is) (subst (λ (m : ℕ). q < rank_at p m) (add-one k) high))

  -- the place of the flow at hand, also behind the last
  pub place_here : (k r : ℕ) → r ≡ rank_at p k → slice_index (places_of p.plan p.site) k ≡ slice_index order r
  place_here k r e = mapped (slice_index order) ranks k (length order) (none_there order (length order) (omega arith)) ∙ ap (slice_index order) (sym e)

  module _ (ordered : IsOrdered p.plan.flat) where
    -- each is there once
    pub places_once : (j k : ℕ) → j < k → k < length (places_of p.plan p.site) → slice_index (places_of p.plan p.site) j ≢ slice_index (places_of p.plan p.site) k
    places_once j k l lk e =
        let n = length-map ranks (slice_index order) in
        let x = some_at ranks j (omega (arith, l, lk, n)) in
        let y = some_at ranks k (omega (arith, lk, n)) in
        let ex = place_here j x.0 (sym (ap (λ o. unwrap_or o (length order)) x.1)) in
        let ey = place_here k y.0 (sym (ap (λ o. unwrap_or o (length order)) y.1)) in
        let same = ordered.once x.0 y.0 (rank_in j x.0 x.1) (rank_in k y.0 y.1) (sym ex ∙ e ∙ ey) in
        let less = rising is_known 0 (length order) j k x.0 y.0 l x.1 y.1 in
        omega (arith, same, less)

    pub places_in : (k : ℕ) → k < length (places_of p.plan p.site) → slice_index (places_of p.plan p.site) k < flows_of p.plan.flat
    places_in k lk =
        let n = length-map ranks (slice_index order) in
        let x = some_at ranks k (omega (arith, lk, n)) in
        let ex = place_here k x.0 (sym (ap (λ o. unwrap_or o (length order)) x.1)) in
        let inside = All-get_or (λ i. i < flows_of p.plan.flat) order x.0 0 (rank_in k x.0 x.1) ordered.only_flows in
        omega (arith, ex, inside)

    -- each flow that the site knows is there
    pub places_has : (i : ℕ) → i < flows_of p.plan.flat → knows p.plan p.site i ≡ true → (k : ℕ) × (k < length (places_of p.plan p.site)) × (slice_index (places_of p.plan p.site) k ≡ i)
    places_has i li known =
        let w = place_in order i (ordered.all_flows i li) in
        let k = sifted_has is_known 0 (length order) w.0 (omega arith) (let l = w.1 in omega (arith, l)) (subst (λ (j : ℕ). knows p.plan p.site j ≡ true) (sym w.2) known) in
        let n = length-map ranks (slice_index order) in
        let l = slice_get_within ranks k.0 w.0 k.1 in
        (k.0, omega (arith, n, l), place_here k.0 w.0 (sym (ap (λ o. unwrap_or o (length order)) k.1)) ∙ w.2)
