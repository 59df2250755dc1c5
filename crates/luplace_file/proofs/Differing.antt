-- Names that differ, found by a table of where each stands first.
use Rattle.std.proofs.Common.{◌≡◌, ◌≢◌, ℕ, zero, suc, ◌<◌, ◌≤◌, ◌+◌, List, [], ◌∷◌, length, Some, Bool, true, false, not, refl, sym, ap, subst, ◌∙◌, arith, inl, inr}
use Rattle.std.specs.Prelude.{slice_get, ◌&&◌, ◌||◌}
use Rattle.std.specs.Str.{bytes_eq}
use Rattle.std.proofs.lemmas.Bool.{false≢true, cases_lt}
use Rattle.std.proofs.lemmas.Slice.Eq.{bytes_eq-Decides}
use Rattle.std.proofs.lemmas.Option.{slice_get_within}
use Rattle.lubase.specs.Places.{first_place}
use Rattle.lubase.proofs.Finding.{there, found, least_place}
use Rattle.luplace_file.specs.Rules.{is_among, all_differ}

-- each of the names before a place stands there first
abbrev pub StandFirst : List (List ℕ) → ℕ → Type 0
StandFirst names i = (k : ℕ) (name : List ℕ) → k < i → slice_get names k ≡ Some name → first_place names name ≡ Some k

or_later : (a b : Bool) → b ≡ true → (a || b) ≡ true
or_later true b e = refl
or_later false b e = e

-- a name is among those where it stands, and stands where it is among them
pub among : (names : List (List ℕ)) (name : List ℕ) (k : ℕ) → slice_get names k ≡ Some name → is_among names name ≡ true
among [] name k is = absurd (cc)
among (other ∷ rest) name zero is =
    let same : other ≡ name = cc in
    ap (λ b. b || is_among rest name) ((bytes_eq-Decides other name).1 same)
among (other ∷ rest) name (suc k) is = or_later (bytes_eq other name) (is_among rest name) (among rest name k is)

at_step : (other name : List ℕ) (rest : List (List ℕ)) (b : Bool) → bytes_eq other name ≡ b
    → (is_among rest name ≡ true → (k : ℕ) × (slice_get rest k ≡ Some name))
    → (b || is_among rest name) ≡ true → (k : ℕ) × (slice_get (other ∷ rest) k ≡ Some name)
at_step other name rest true same more is = (0, ap Some ((bytes_eq-Decides other name).0 same))
at_step other name rest false differs more is = let later = more is in (suc later.0, later.1)

pub among_at : (names : List (List ℕ)) (name : List ℕ) → is_among names name ≡ true → (k : ℕ) × (slice_get names k ≡ Some name)
among_at [] name is = absurd (false≢true is)
among_at (other ∷ rest) name is = at_step other name rest (bytes_eq other name) refl (λ e. among_at rest name e) is

-- a name that stands at two places
abbrev IsTwice : List (List ℕ) → Type 0
IsTwice names = (i : ℕ) × (j : ℕ) × (name : List ℕ) × (i < j) × (slice_get names i ≡ Some name) × (slice_get names j ≡ Some name)

twice_step : (name : List ℕ) (rest : List (List ℕ)) (b : Bool) → is_among rest name ≡ b
    → (all_differ rest ≡ false → IsTwice rest) → (not b && all_differ rest) ≡ false → IsTwice (name ∷ rest)
twice_step name rest true is more e =
    let later = among_at rest name is in
    (0, suc later.0, name, omega arith, refl, later.1)
twice_step name rest false is more e =
    let later = more e in
    (suc later.0, suc later.1, later.2, (let lt = later.3 in omega arith), later.4, later.5)

twice : (names : List (List ℕ)) → all_differ names ≡ false → IsTwice names
twice [] e = absurd (false≢true (sym e))
twice (name ∷ rest) e = twice_step name rest (is_among rest name) refl (λ later. twice rest later) e

not_later : (a b : Bool) → b ≡ false → (a && b) ≡ false
not_later true b e = e
not_later false b e = refl

not_twice : (names : List (List ℕ)) (i j : ℕ) (name : List ℕ) → i < j → slice_get names i ≡ Some name → slice_get names j ≡ Some name → all_differ names ≡ false
not_twice [] i j name lt here there = absurd (cc)
not_twice (other ∷ rest) i zero name lt here there = absurd (omega arith)
not_twice (other ∷ rest) zero (suc j) name lt here there =
    let same : other ≡ name = cc in
    let is : is_among rest other ≡ true = subst (λ (n : List ℕ). is_among rest n ≡ true) (sym same) (among rest name j there) in
    ap (λ b. not b && all_differ rest) is
not_twice (other ∷ rest) (suc i) (suc j) name lt here there =
    not_later (not (is_among rest other)) (all_differ rest) (not_twice rest i j name (omega arith) here there)

-- ---- the table

never : (names : List (List ℕ)) → StandFirst names (length names) → IsTwice names → ⊥
never names first pair =
    let place = first pair.1 pair.2 (slice_get_within names pair.1 pair.2 pair.5) pair.5 in
    let le = least_place names pair.2 pair.1 pair.0 place pair.4 in
    let lt = pair.3 in
    omega arith

all_first : (names : List (List ℕ)) (b : Bool) → all_differ names ≡ b → StandFirst names (length names) → true ≡ all_differ names
all_first names true e first = sym e
all_first names false e first = absurd (never names first (twice names e))

pub differ_where_first : (names : List (List ℕ)) → StandFirst names (length names) → true ≡ all_differ names
differ_where_first names first = all_first names (all_differ names) refl first

below : (k i : ℕ) → k ≤ i → k ≢ i → k < i
below k i le ne = omega (arith, ne)

pub not_first : (names : List (List ℕ)) (i : ℕ) (name : List ℕ) → slice_get names i ≡ Some name → first_place names name ≢ Some i → false ≡ all_differ names
not_first names i name here differs =
    let place = found names name i here in
    let le = least_place names name place.0 i place.1 here in
    let other : place.0 ≢ i = λ same. differs (place.1 ∙ ap Some same) in
    sym (not_twice names place.0 i name (below place.0 i le other) (there names name place.0 place.1) here)

pub one_first_more : (names : List (List ℕ)) (i : ℕ) (name : List ℕ) → StandFirst names i → slice_get names i ≡ Some name → first_place names name ≡ Some i → StandFirst names (i + 1)
one_first_more names i name before here first k other lt is = elim (cases_lt k i) [
  | inl earlier ↦ before k other earlier is
  | inr ge ↦
      let same : k ≡ i = omega (arith, ge, lt) in
      let at : slice_get names i ≡ Some other = subst (λ (m : ℕ). slice_get names m ≡ Some other) same is in
      let equal : name ≡ other = cc in
      rw (same, ← equal) first
]
