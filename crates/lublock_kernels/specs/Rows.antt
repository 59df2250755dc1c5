-- Rows of words that are filled tick by tick.
use Rattle.std.specs.Prelude.{◌≡◌, ◌≢◌, ℕ, zero, suc, ◌+◌, ◌<◌, ◌≤◌, List, ℤ, pos, Bool, true, false, not}
use Rattle.std.specs.Prelude.{slice_index_or, Option, Some, None}
use Rattle.lutree.specs.declared.program.Kind.{Kind}
use Rattle.lutree.specs.declared.program.Kind.TheVariants.{Int as Ints, Bool as Truths, Enum}
use Rattle.lutree.specs.declared.expr.UnaryOperator.{UnaryOperator}
use Rattle.lutree.specs.declared.expr.BinaryOperator.{BinaryOperator}
use Rattle.luflow.specs.declared.form.Outcome.{Outcome}
use Rattle.luflow.specs.declared.form.Outcome.TheVariants.{Gives}
use Rattle.luflow.specs.Operators.{is_zero, single_of, double_of, single_sort, makes}
use Rattle.luflow.specs.declared.data.Datum.{Datum}
use Rattle.luflow.specs.declared.data.Datum.TheVariants.{Bool as Truth, Name}
use Rattle.luflow.specs.Streams.{is_value}
use Rattle.lublock_kernels.specs.Words.{datum_at, once}

-- the word of a row at a place
abbrev pub word_in : List ℤ → ℕ → ℤ
word_in row n = slice_index_or row n (pos 0)

-- up to this place the words stay
abbrev pub Keeps : ℕ → List ℤ → List ℤ → Type 0
Keeps from old new = (n : ℕ) → n ≤ from → word_in new n ≡ word_in old n

-- the word of a tick, counted from 0, was put, and the others stay
pub record IsPut (old : List ℤ) (tick : ℕ) (z : ℤ) (new : List ℤ) : Type 0 where
  pub word : word_in new (suc tick) ≡ z
  pub others : (n : ℕ) → n ≢ suc tick → word_in new n ≡ word_in old n

-- behind its first word a row has, for each of these ticks, a word that is right there
abbrev pub IsFilled : (ℕ → ℤ × Bool → Type 0) → ℕ → ℕ → List ℤ → Type 0
IsFilled R from to row = (m : ℕ) → from ≤ m → m < to → R m (word_in row (suc m), false)

abbrev pub is_ints : Kind → Bool
is_ints Ints = true
is_ints Truths = false
is_ints (Enum p n) = false

abbrev pub is_truths : Kind → Bool
is_truths Ints = false
is_truths Truths = true
is_truths (Enum p n) = false

abbrev pub is_names : Kind → Bool
is_names Ints = false
is_names Truths = false
is_names (Enum p n) = true

abbrev pub truth_in_word : ℤ → Bool
truth_in_word z = not (is_zero z)

-- where it is no fault, a word holds this whole number, and it has 64 bits
abbrev pub IsWhole : ℤ × Bool → Outcome → Type 0
IsWhole r v = r.1 ≡ false → v ≡ Gives (datum_at Ints r.0)

-- what an operator gives of words of this type, its word holds
abbrev pub IsSingle : UnaryOperator → ℤ → ℤ → Type 0
IsSingle op x z = single_of op (datum_at (single_sort op) x) ≡ Gives (datum_at (single_sort op) z)

abbrev pub IsDouble : BinaryOperator → Kind → ℤ → ℤ → ℤ → Type 0
IsDouble op u x y z = double_of op (datum_at u x) (datum_at u y) ≡ Gives (datum_at (makes op) z)

-- at each of these ticks
abbrev pub AreSingles : UnaryOperator → ℕ → ℕ → List ℤ → List ℤ → Type 0
AreSingles op from to x row = (n : ℕ) → from ≤ n → n < to → IsSingle op (word_in x (suc n))
    (word_in row (suc n))

abbrev pub AreDoubles : BinaryOperator → Kind → ℕ → ℕ → List ℤ → List ℤ → List ℤ → Type 0
AreDoubles op u from to x y row = (n : ℕ) → from ≤ n → n < to → IsDouble op u (word_in x (suc n))
    (word_in y (suc n)) (word_in row (suc n))

-- how often a row has a value of this type at its first n ticks
abbrev pub hits_in : List ℤ → Kind → Datum → ℕ → ℕ
hits_in row u d zero = 0
hits_in row u d (suc n) = hits_in row u d n + once (is_value d (datum_at u (word_in row (suc n))))

-- one word for each tick at which another row has a value, in order
abbrev pub IsGathered : Kind → Datum → ℕ → List ℤ → List ℤ → List ℤ → Type 0
IsGathered u d ticks c a row =
    (m : ℕ) → m < ticks → is_value d (datum_at u (word_in c (suc m))) ≡ true
    → word_in row (suc (hits_in c u d m)) ≡ word_in a (suc m)

-- at each tick the word of the last tick at which another row had a value
abbrev pub IsHeld : Kind → Datum → ℕ → ℕ → List ℤ → List ℤ → List ℤ → Type 0
IsHeld u d to limit c a row = (n : ℕ) → n < to → (word_in row (suc n) ≡ word_in a (hits_in c u d (suc n)))
    × (hits_in c u d (suc n) ≤ limit)

-- at each tick at which another row has a value, the next word
abbrev pub IsSpread : Kind → Datum → ℕ → ℕ → List ℤ → List ℤ → List ℤ → Type 0
IsSpread u d to limit c x row =
    (n : ℕ) → n < to → is_value d (datum_at u (word_in c (suc n))) ≡ true
    → (word_in row (suc n) ≡ word_in x (suc (hits_in c u d n))) × (hits_in c u d n < limit)

-- at the other ticks the words stay
abbrev pub StaysElsewhere : Kind → Datum → ℕ → List ℤ → List ℤ → List ℤ → Type 0
StaysElsewhere u d to c old new = (n : ℕ) → n < to → is_value d (datum_at u (word_in c (suc n))) ≡ false
    → word_in new (suc n) ≡ word_in old (suc n)

-- the value of a type at which a merge takes the branch of this number
abbrev pub branch_datum : Kind → ℕ → Option Datum
branch_datum Ints k = None
branch_datum Truths zero = Some (Truth true)
branch_datum Truths (suc zero) = Some (Truth false)
branch_datum Truths (suc (suc k)) = None
branch_datum (Enum p n) k = Some (Name k)

-- a row that has one number above 0 at each of these ticks
pub record IsSteady (row : List ℤ) (from to m : ℕ) : Type 0 where
  pub some : 0 < m
  pub words : (n : ℕ) → from ≤ n → n < to → word_in row (suc n) ≡ pos m
