-- What the table of beginnings finds.
use Rattle.std.proofs.Common.{◌≡◌, ◌∙◌, ◌↔◌, ◌⊎◌, inl, inr, ◌<◌, ◌≤◌, ℕ, List, map, Option, Some, None, sym, ap, arith, Contains}
use Rattle.std.specs.Prelude.{slice_get}
use Rattle.std.specs.Option.{option_map}
use Rattle.std.proofs.lemmas.Bool.{cases_lt}
use Rattle.std.proofs.lemmas.Option.{same_Some, none-some, slice_get-map, slice_get_within, slice_get-get_or, get_or_from_slice_get}
use Rattle.lutree.specs.declared.expr.Pattern.{Pattern}
use Rattle.lustat_rules.specs.Scope.{AreDistinct}
use Rattle.lubase.specs.Places.{first_place}
use Rattle.lubase.proofs.Finding.{there, found, least_place, in_take, first_is_new}
use Rattle.lustat_rules.specs.ClockRefs.{the_pattern}
use Rattle.lustat_init.specs.declared.begun.Beginning.{Beginning}
use Rattle.lustat_init.specs.Beginnings.{Begun, begun_view, spelled}

abbrev the_begun : List ℕ → Pattern → Begun
the_begun x p = record { name = x; pattern = p }

-- what is among them stands at a place
at_place : (bs : List Beginning) (b : Begun) → Contains (map begun_view bs) b → (j : ℕ) × (slice_get (map begun_view bs) j ≡ Some b)
at_place bs b h = (h.0, slice_get-get_or (map begun_view bs) h.0 b h.1 ∙ ap Some h.2)

-- its name stands there among the names
name_there : (bs : List Beginning) (j : ℕ) (b : Begun) → slice_get (map begun_view bs) j ≡ Some b → slice_get (spelled bs) j ≡ Some b.name
name_there bs j b h =
    slice_get-map (λ (x : Beginning). x.name.now) bs j
    ∙ same (slice_get bs j) (sym (slice_get-map begun_view bs j) ∙ h)
  where
    same : (o : Option Beginning) → option_map begun_view o ≡ Some b → option_map (λ (x : Beginning). x.name.now) o ≡ Some b.name
    same None e = absurd (none-some b e)
    same (Some x) e = ap (λ (c : Begun). Some c.name) (same_Some (begun_view x) b e)

-- where no name has a place, none is among them
pub none_there : (bs : List Beginning) (x : List ℕ) (p : Pattern) → first_place (spelled bs) x ≡ None → ¬ Contains (map begun_view bs) (the_begun x p)
none_there bs x p none h =
    let at = at_place bs (the_begun x p) h in
    let place = found (spelled bs) x at.0 (name_there bs at.0 (the_begun x p) at.1) in
    none-some place.0 (sym none ∙ place.1)

-- where no name stands twice, the one at the first place of a name is the only one
pub only_there : (bs : List Beginning) (x : List ℕ) (i : ℕ) (b : Beginning) (p : Pattern) → AreDistinct (spelled bs) → first_place (spelled bs) x ≡ Some i → slice_get bs i ≡ Some b
    → (the_pattern b.pattern ≡ p) ↔ Contains (map begun_view bs) (the_begun x p)
only_there bs x i b p once first at = (here, back)
  where
    seen : slice_get (map begun_view bs) i ≡ Some (begun_view b)
    seen = slice_get-map begun_view bs i ∙ ap (option_map begun_view) at

    name : b.name.now ≡ x
    name = same_Some b.name.now x (sym (name_there bs i (begun_view b) seen) ∙ there (spelled bs) x i first)

    here : the_pattern b.pattern ≡ p → Contains (map begun_view bs) (the_begun x p)
    here e =
        let same : begun_view b ≡ the_begun x p = ap (λ y. the_begun y (the_pattern b.pattern)) name ∙ ap (the_begun x) e in
        (i, slice_get_within (map begun_view bs) i (begun_view b) seen, get_or_from_slice_get (map begun_view bs) i (the_begun x p) (the_begun x p) (seen ∙ ap Some same))

    by_place : (j : ℕ) → slice_get (map begun_view bs) j ≡ Some (the_begun x p) → (i < j) ⊎ (j ≤ i) → the_pattern b.pattern ≡ p
    by_place j other (inl lt) = absurd (once j x (name_there bs j (the_begun x p) other) (in_take (spelled bs) j i x (there (spelled bs) x i first) lt))
    by_place j other (inr le) =
        let ge = least_place (spelled bs) x i j first (name_there bs j (the_begun x p) other) in
        let same : j ≡ i = omega (arith, le, ge) in
        ap (λ (c : Begun). c.pattern) (same_Some (begun_view b) (the_begun x p) (sym seen ∙ ap (slice_get (map begun_view bs)) (sym same) ∙ other))

    back : Contains (map begun_view bs) (the_begun x p) → the_pattern b.pattern ≡ p
    back h = let at_j = at_place bs (the_begun x p) h in by_place at_j.0 at_j.1 (cases_lt i at_j.0)

-- where each name stands first at its own place, none stands twice
pub distinct : (names : List (List ℕ)) → ((k : ℕ) (x : List ℕ) → slice_get names k ≡ Some x → first_place names x ≡ Some k) → AreDistinct names
distinct names own k x at = first_is_new names x k (own k x at)
