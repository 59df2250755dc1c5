-- The sites of the main variables.
use Rattle.std.proofs.Common.{◌≡◌, ℕ, zero, suc, ◌+◌, Bool, true, false, List, [], ◌∷◌, length, Option, Some, None, cond, refl, ap, arith}
use Rattle.std.specs.Prelude.{All, not, ◌||◌, find, is_some, if◌then◌else◌}
use Rattle.std.specs.Str.{bytes_eq}
use Rattle.std.proofs.lemmas.Bool.{false≢true, true≢false}
use Rattle.luflow.specs.declared.variable.Variable.{Variable}
use Rattle.lubase.specs.Places.{place_from, first_place}
use Rattle.lubase.proofs.Sought.{at, first_such}
use Rattle.luplace_file.specs.Content.{PlaceView}
use Rattle.luplace_file.specs.Lawful.{IsLawful, AreSites}
use Rattle.luplace_file.specs.declared.place.Placed.{Placed}
use Rattle.luplace_file.specs.declared.error.PlaceError.{PlaceError}
use Rattle.luplace_file.specs.declared.error.PlaceError.TheVariants.{UnknownVariable, Unplaced, SplitCall}
use Rattle.luplace.specs.Placing.{named_by, sites_put, placed_by, is_variable, entry_names, variable_names}

-- what a name's entry says, or the default, are sites of the placement
put_sites : (n : ℕ) (variable default : List ℕ) (entries : List Placed) → AreSites n default → All (λ entry. AreSites n entry.sites) entries → AreSites n (named_by (find (λ entry. bytes_eq entry.variable variable) entries) default)
put_sites n variable default [] d h = d
put_sites n variable default (entry ∷ entries) d h = go (bytes_eq entry.variable variable) (put_sites n variable default entries d (λ k x l. h (suc k) x (omega arith)))
  where
    go : (b : Bool) → AreSites n (named_by (find (λ entry. bytes_eq entry.variable variable) entries) default) → AreSites n (named_by (cond b (Some entry) (find (λ entry. bytes_eq entry.variable variable) entries)) default)
    go true rest = h 0 entry (omega arith)
    go false rest = rest

pub placed_sites : (place : PlaceView) (xs : List Variable) → IsLawful place → All (AreSites (length place.sites)) (placed_by xs place)
placed_sites place [] lawful = λ k d l. absurd (omega arith)
placed_sites place (x ∷ xs) lawful = more (put_sites (length place.sites) x.name place.default place.place lawful.default_known lawful.entries_known) (placed_sites place xs lawful)
  where
    more : AreSites (length place.sites) (sites_put place x.name) → All (AreSites (length place.sites)) (placed_by xs place) → All (AreSites (length place.sites)) (placed_by (x ∷ xs) place)
    more first rest zero d l = first
    more first rest (suc k) d l = rest k d (omega arith)

pub placed_long : (place : PlaceView) (xs : List Variable) → length (placed_by xs place) ≡ length xs
placed_long place [] = refl
placed_long place (x ∷ xs) = ap suc (placed_long place xs)

pub entry_sought : (entries : List Placed) (x : List ℕ) → at entries (first_place (entry_names entries) x) ≡ find (λ entry. bytes_eq entry.variable x) entries
entry_sought entries x = first_such (λ (entry : Placed). entry.variable) entries x

-- a name is one of the variables exactly where it has a place among their names
pub variable_sought : (a : ℕ) (xs : List Variable) (x : List ℕ) → is_some (place_from a (variable_names xs) x) ≡ is_variable xs x
variable_sought a [] x = refl
variable_sought a (y ∷ xs) x = go (bytes_eq y.name x) (variable_sought (a + 1) xs x)
  where
    go : (b : Bool) → is_some (place_from (a + 1) (variable_names xs) x) ≡ is_variable xs x → is_some (cond b (Some a) (place_from (a + 1) (variable_names xs) x)) ≡ (b || is_variable xs x)
    go true h = refl
    go false h = h

-- the refusal, by whether each of the three rules is kept
abbrev pub choice : Bool → Bool → Bool → Option PlaceError
choice known placed together =
    if not known then Some UnknownVariable
    else (if not placed then Some Unplaced
    else (if not together then Some SplitCall
    else None))

pub choice_unplaced : (k p t : Bool) → k ≡ true → p ≡ false → choice k p t ≡ Some Unplaced
choice_unplaced true true t a b = absurd (true≢false b)
choice_unplaced true false t a b = refl
choice_unplaced false p t a b = absurd (false≢true a)

pub choice_split : (k p t : Bool) → k ≡ true → p ≡ true → t ≡ false → choice k p t ≡ Some SplitCall
choice_split true true true a b d = absurd (true≢false d)
choice_split true true false a b d = refl
choice_split true false t a b d = absurd (false≢true b)
choice_split false p t a b d = absurd (false≢true a)

pub choice_none : (k p t : Bool) → k ≡ true → p ≡ true → t ≡ true → choice k p t ≡ None
choice_none true true true a b d = refl
choice_none true true false a b d = absurd (false≢true d)
choice_none true false t a b d = absurd (false≢true b)
choice_none false p t a b d = absurd (false≢true a)
