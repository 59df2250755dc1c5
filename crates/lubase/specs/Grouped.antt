-- A search for vertices that reach themselves, between two steps.
use Rattle.std.specs.Prelude.{◌≡◌, ◌<◌, ◌≤◌, ◌+◌, ◌*◌, ◌⊎◌, ℕ, Bool, not, List, Some, length, count_by}
use Rattle.std.specs.Prelude.{slice_get, slice_index, Contains}
use Rattle.lubase.specs.declared.groups.Frame.{Frame}
use Rattle.lubase.specs.Graph.{Graph, row_of, PointsTo, Reaches}
use Rattle.lubase.specs.Search.{Has, Lacks, Each, EachPair}

-- each number is above those before it
abbrev pub IsRising : List ℕ → Type 0
IsRising bounds = (i j : ℕ) → i < j → j < length bounds → slice_index bounds i < slice_index bounds j

-- no group begins above a place and up to another
abbrev pub SameGroup : List ℕ → ℕ → ℕ → Type 0
SameGroup bounds i j = (b : ℕ) → Contains bounds b → b ≤ j → b ≤ i

-- a place of the stack that an edge leads back to, or the place from which edges are looked at
abbrev pub IsLow : List Bool → List Bool → List ℕ → List ℕ → ℕ → ℕ → Type 0
IsLow entered left places row here low =
    (low ≡ here) ⊎ ((k : ℕ) × (k < length row) × (slice_index row k < length entered)
    × Has entered (slice_index row k) × Lacks left (slice_index row k)
    × (slice_index places (slice_index row k) ≡ low))

-- what stands in a row between two places is no vertex, or is entered, and left or at a place from `low` on
abbrev pub IsLooked : List Bool → List Bool → List ℕ → List ℕ → ℕ → ℕ → ℕ → Type 0
IsLooked entered left places row from to low =
    (k : ℕ) → from ≤ k → k < to → slice_index row k < length entered →
    Has entered (slice_index row k) × (Lacks left (slice_index row k)
    → low ≤ slice_index places (slice_index row k))

module _ (g : Graph) (left : List Bool) (stack bounds : List ℕ) where
  -- what an edge from a place leads to: no vertex, one that is left, or one of the same group or a later one
  abbrev pub IsSettled : ℕ → ℕ → Type 0
  IsSettled j w = w < length g → Has left w ⊎ ((p : ℕ) × (p < length stack) × (slice_index stack p ≡ w)
      × SameGroup bounds p j)

  -- all edges of a place up to one of its row
  abbrev pub IsSettledTo : ℕ → ℕ → Type 0
  IsSettledTo j n = (k : ℕ) → k < n → k < length (row_of g (slice_index stack j))
      → IsSettled j (slice_index (row_of g (slice_index stack j)) k)

-- a frame of a place
abbrev pub HasFrame : List Frame → ℕ → Type 0
HasFrame frames j = (i : ℕ) × (f : Frame) × (slice_get frames i ≡ Some f) × (f.place ≡ j)

-- what is said of the vertex at a place of the stack
pub record Stands (g : Graph) (entered left : List Bool) (places stack : List ℕ) (j : ℕ) : Type 0 where
  pub inside : slice_index stack j < length g
  pub marked : Has entered (slice_index stack j)
  pub stays : Lacks left (slice_index stack j)
  pub placed : slice_index places (slice_index stack j) ≡ j

-- the marks, and the vertices that are left
pub record IsMarking (g : Graph) (entered left looped : List Bool) (places : List ℕ) : Type 0 where
  pub entered_long : length entered ≡ length g
  pub left_long : length left ≡ length g
  pub looped_long : length looped ≡ length g
  pub places_long : length places ≡ length g
  pub sooner : (v : ℕ) → Has left v → Has entered v
  pub closed : (v w : ℕ) → Has left v → PointsTo g v w → Has left w
  pub cyclic : (v : ℕ) → Has looped v → Reaches g v v
  pub straight : (v : ℕ) → Has left v → Lacks looped v → Reaches g v v → ⊥

-- the stack and its groups
pub record IsStack (g : Graph) (entered left : List Bool) (places stack bounds : List ℕ) : Type 0 where
  pub stands : (j : ℕ) → j < length stack → Stands g entered left places stack j
  pub found : (v : ℕ) → Has entered v → Lacks left v → (slice_index places v < length stack)
      × (slice_index stack (slice_index places v) ≡ v)
  pub forward : (i j : ℕ) → i < j → j < length stack → Reaches g (slice_index stack i) (slice_index stack j)
  pub back : (i j : ℕ) → i < j → j < length stack → SameGroup bounds i j → Reaches g (slice_index stack j)
      (slice_index stack i)
  pub rising : IsRising bounds
  pub begun : 0 < length stack → Contains bounds 0

-- the frames: those places of which edges are still to be looked at
pub record AreFrames (g : Graph) (left : List Bool) (stack bounds : List ℕ)
    (frames : List Frame) : Type 0 where
  pub inside : Each (λ f. f.place < length stack) frames
  pub rise : EachPair (λ f h. f.place < h.place) frames
  pub bounded : (b : ℕ) → Contains bounds b → HasFrame frames b
  pub looked : Each (λ f. IsSettledTo g left stack bounds f.place f.next) frames
  pub finished : (j : ℕ) → j < length stack → HasFrame frames j
      ⊎ IsSettledTo g left stack bounds j (length (row_of g (slice_index stack j)))

pub record IsGrouping (g : Graph) (entered left looped : List Bool) (places stack bounds : List ℕ)
    (frames : List Frame) : Type 0 where
  pub marking : IsMarking g entered left looped places
  pub standing : IsStack g entered left places stack bounds
  pub framed : AreFrames g left stack bounds frames

-- how many steps are left at most
abbrev pub frames_left : List Bool → List Frame → ℕ
frames_left entered frames = 2 * count_by not entered + length frames

-- what is left afterwards: what was left before, and the vertices of the stack between two places
pub record IsLeft (old new : List Bool) (stack : List ℕ) (from to : ℕ) : Type 0 where
  pub long : length new ≡ length old
  pub kept : (v : ℕ) → Has old v → Has new v
  pub within : (j : ℕ) → from ≤ j → j < to → Has new (slice_index stack j)
  pub only : (v : ℕ) → Has new v → Has old v ⊎ ((j : ℕ) × (from ≤ j) × (j < to) × (slice_index stack j ≡ v))

-- a vertex of the group that begins at a place reaches itself, if the group has another one or if it points
-- to itself
abbrev pub ComesBack : Graph → List ℕ → ℕ → ℕ → Type 0
ComesBack g stack from v = (from + 1 < length stack) ⊎ Contains (row_of g v) v

-- what reaches itself afterwards: what did before, and those of the vertices between two places that come
-- back
pub record IsFlagged (g : Graph) (old new : List Bool) (stack : List ℕ) (from to : ℕ) : Type 0 where
  pub long : length new ≡ length old
  pub kept : (v : ℕ) → Has old v → Has new v
  pub within : (j : ℕ) → from ≤ j → j < to → ComesBack g stack from (slice_index stack j)
      → Has new (slice_index stack j)
  pub only : (v : ℕ) → Has new v → Has old v ⊎ ((j : ℕ) × (from ≤ j) × (j < to) × (slice_index stack j ≡ v)
      × ComesBack g stack from v)
