-- The columns of statuses that blocks put out.
use Rattle.std.specs.Prelude.{◌≡◌, ◌≢◌, ℕ, zero, suc, ◌+◌, ◌<◌, ◌≤◌, true, false, List, [], length, Option}
use Rattle.std.specs.Prelude.{Some, None, Vec, cond, ◌⊎◌, slice_get, slice_index_or, ℤ}
use Rattle.std.specs.declared.alloc.Global.{Global}
use Rattle.lutree.specs.declared.program.Kind.{Kind}
use Rattle.luflow.specs.declared.data.Datum.{Datum}
use Rattle.luflow.specs.declared.data.Datum.TheVariants.{Nil}
use Rattle.luflow.specs.declared.data.Status.{Status}
use Rattle.luflow.specs.declared.data.Status.TheVariants.{Absent, Present}
use Rattle.luflow.specs.declared.form.Clock.{Clock}
use Rattle.luflow.specs.declared.form.Clock.TheVariants.{Base, On}
use Rattle.luflow.specs.declared.form.Flow.{Flow}
use Rattle.luflow.specs.declared.form.Form.TheVariants.{Constant}
use Rattle.luflow.specs.declared.variable.Variable.{Variable}
use Rattle.luflow.specs.Program.{FlatView, InputsView, flow_at, flows_of}
use Rattle.luflow.specs.Variables.{is_output}
use Rattle.luflow.specs.Streams.{Mark, Known, Broken, Streams}
use Rattle.luflow.specs.Solution.{IsSolution}
use Rattle.luflow.specs.Sound.{IsFit}
use Rattle.lueval_lines.specs.Frames.{has_value}
use Rattle.lublock.specs.declared.board.Board.{Board}
use Rattle.lublock_kernels.specs.Blocks.{Begins, IsRight, IsRightAt, datum_at, once}
use Rattle.lublock_kernels.specs.Parts.{Part, knows, IsRightIn}
use Rattle.lublock_kernels.specs.Rows.{word_in}
use Rattle.lublock_kernels.specs.Machine.{block_of, row_of, upto_of, known_of}

abbrev pub Column : Type 0
Column = Vec Status Global

-- some statuses more, of which this says each
pub record IsAdded (old new : List Status) (len : ℕ) (status : ℕ → Status) : Type 0 where
  pub long : length new ≡ length old + len
  pub kept : (m : ℕ) → m < length old → slice_get new m ≡ slice_get old m
  pub added : (n : ℕ) → n < len → slice_get new (length old + n) ≡ Some (status n)

-- a flow at its n-th tick in the block
abbrev pub present_at : Kind → List ℤ → ℕ → Status
present_at kind row n = Present (datum_at kind (word_in row (suc n)))

abbrev pub status_in : List Status → ℕ → Status
status_in of n = slice_index_or of n Absent

-- at how many of n instants from t on a variable has a value
abbrev pub seen_in : List Status → Datum → ℕ → ℕ → ℕ
seen_in of d t zero = 0
seen_in of d t (suc n) = seen_in of d t n + once (has_value d (status_in of (t + n)))

-- what a flow has at an instant at which its clock's variable has this status
abbrev pub slow_at : Kind → List ℤ → List Status → Datum → ℕ → ℕ → Status
slow_at kind row of d t n = cond (has_value d (status_in of (t + n)))
    (present_at kind row (seen_in of d t n)) Absent

-- The instant of the first status in a main variable's column, in a block from t on: of an output the first
-- of all, since its column is kept; of another variable the block's first.
abbrev pub first_for : Option Variable → ℕ → ℕ
first_for None t = t
first_for (Some x) t = cond (is_output x.role) 0 t

abbrev pub first_of : FlatView → ℕ → ℕ → ℕ
first_of flat v t = first_for (slice_get flat.variables v) t

-- The statuses of a flow on this clock at a block's instants were put at the end of its column, whose first
-- status is of instant s. The column of its clock's variable has b statuses of before the block.
abbrev pub IsShown : FlatView → List Column → ℕ → Kind → List ℤ → Clock → ℕ → ℕ → List Status → List Status
    → Type 0
IsShown flat columns s kind row Base t len old new =
    (s + length old ≡ t) × IsAdded old new len (present_at kind row)
IsShown flat columns s kind row (On c d) t len old new =
    (s + length old ≡ t) × (of : Column) × (slice_get columns c ≡ Some of) × (b : ℕ)
    × (first_of flat c t + b ≡ t) × (length of.items ≡ b + len)
    × IsAdded old new len (slow_at kind row of.items d b)

-- what a flow has, unless that is nil
abbrev pub IsNear : Mark → Status → Type 0
IsNear m Absent = m ≡ Known Absent
IsNear m (Present d) = (x : Datum) × (m ≡ Known (Present x)) × (x ≢ Nil → x ≡ d)

-- columns are what their flows have, those of outputs from the first instant on, and others from instant t on
pub record AreNear (flat : FlatView) (σ : Streams) (t : ℕ) (columns : List Column) : Type 0 where
  pub near : (v : ℕ) (x : Column) → slice_get columns v ≡ Some x → (m : ℕ) (s : Status)
      → slice_get x.items m ≡ Some s → IsNear (σ v (first_of flat v t + m)) s

-- of the columns those of outputs are as they were, and others are empty
abbrev pub AreKept : FlatView → List Column → List Column → Type 0
AreKept flat old new = (v : ℕ) (x : Column) → slice_get new v ≡ Some x
    → (((t : ℕ) → first_of flat v t ≡ 0) × (slice_get old v ≡ Some x)) ⊎ (x.items ≡ [])

-- a flow is right at each instant of a block
abbrev pub IsRightFlow : FlatView → InputsView → Streams → ℕ → ℕ → Board → ℕ → Type 0
IsRightFlow flat inputs σ t len board r = (n : ℕ) (flow : Flow) → flow_at flat r ≡ Some flow → n < len
    → IsRightAt inputs σ t (block_of board.rows.items board.spans.items) n r flow

-- Columns that were near are near, at each table and in each solution in which these flows are right in the
-- block.
pub record StaysNear (flat : FlatView) (t len : ℕ) (board : Board) (shown : ℕ → Type 0)
    (old new : List Column) : Type 0 where
  pub near : (inputs : InputsView) (σ : Streams) → IsFit flat inputs → IsSolution flat inputs σ
      → t + len ≤ inputs.instants
      → ((v : ℕ) → shown v → IsRightFlow flat inputs σ t len board v) → AreNear flat σ t old
      → AreNear flat σ t new

-- Columns that were near are near, for each part that knows these flows and is right in the block.
pub record StaysNearIn (flat : FlatView) (t len : ℕ) (board : Board) (needs : List ℕ)
    (old new : List Column) : Type 0 where
  pub near : (part : Part) (inputs : InputsView) (σ : Streams) → IsFit flat inputs → IsSolution flat inputs σ
      → t + len ≤ inputs.instants
      → ((k v : ℕ) → slice_get needs k ≡ Some v → knows part v ≡ true)
      → IsRightIn part flat inputs σ t len (block_of board.rows.items board.spans.items)
      → AreNear flat σ t old → AreNear flat σ t new

-- the same in each solution
abbrev pub AllNear : FlatView → InputsView → ℕ → List Column → Type 0
AllNear flat inputs t columns = (σ : Streams) → IsSolution flat inputs σ → AreNear flat σ t columns

-- a board before a block
pub record IsReady (flat : FlatView) (inputs : InputsView) (σ : Streams) (t : ℕ)
    (board : Board) : Type 0 where
  pub begins : Begins flat inputs σ t (block_of board.rows.items board.spans.items)
  pub constants : (r n : ℕ) (flow : Flow) → flow_at flat r ≡ Some flow → n < upto_of board.spans.items r
      → (d : Datum) × (flow.form ≡ Constant d) × (datum_at flow.kind (word_in (row_of board.rows.items r)
      (suc n)) ≡ d)
  pub known : (r : ℕ) → known_of board.spans.items r ≡ false

-- no flow is broken before an instant
abbrev pub IsSoundTo : FlatView → Streams → ℕ → Type 0
IsSoundTo flat σ t = (r u : ℕ) → r < flows_of flat → u < t → σ r u ≢ Broken

-- after the instants before t: what was put out, and where the next block begins, in each solution
pub record StandsAt (flat : FlatView) (inputs : InputsView) (t : ℕ) (board : Board)
    (columns : List Column) : Type 0 where
  pub ready : (σ : Streams) → IsSolution flat inputs σ → IsReady flat inputs σ t board
  pub near : AllNear flat inputs t columns
  pub sound : (σ : Streams) → IsSolution flat inputs σ → IsSoundTo flat σ t

-- a block was right, in each solution
abbrev pub IsRightBlock : FlatView → InputsView → ℕ → ℕ → Board → Type 0
IsRightBlock flat inputs t len board = (σ : Streams) → IsSolution flat inputs σ
    → IsRight flat inputs σ t len (block_of board.rows.items board.spans.items)

-- the columns of a whole run, in each solution, of which nothing is broken
pub record IsRun (flat : FlatView) (inputs : InputsView) (columns : List Column) : Type 0 where
  pub near : AllNear flat inputs inputs.instants columns
  pub sound : (σ : Streams) → IsSolution flat inputs σ → IsSoundTo flat σ inputs.instants
  pub len : length columns ≡ length flat.variables
