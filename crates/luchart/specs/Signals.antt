-- The flows that are drawn or dumped.
use Rattle.std.specs.Prelude.{ℕ, List, [], length, map, slice_get, slice_index_or, unwrap_or}
use Rattle.std.specs.List.{range_with_len}
use Rattle.std.specs.Option.{option_map}
use Rattle.lutree.specs.declared.program.Kind.{Kind}
use Rattle.lutree.specs.declared.program.Kind.TheVariants.{Int}
use Rattle.luflow.specs.declared.data.Status.{Status}
use Rattle.luflow.specs.declared.data.Datum.TheVariants.{Nil}
use Rattle.luflow.specs.declared.data.Status.TheVariants.{Present}
use Rattle.luflow.specs.declared.variable.Enum.{Enum}
use Rattle.luflow.specs.Tables.{OutputColumn}
use Rattle.luflow.specs.Types.{names_of}
use Rattle.luchart.specs.Pieces.{largest}
use Rattle.luchart.specs.declared.signal.Signal.{Signal as Borrowed}

-- a flow: its name, its type, the names of its type where that is an enumeration, and what it has at each
-- instant
pub record Signal : Type 0 where
  pub name : List ℕ
  pub kind : Kind
  pub names : List (List ℕ)
  pub statuses : List Status

-- the flow of this number: the column and the type of that number among these
abbrev pub signal_at : List Enum → List Kind → List OutputColumn → ℕ → Signal
signal_at types kinds columns i =
    let kind = unwrap_or (slice_get kinds i) Int in
    record {
      name = unwrap_or (option_map (λ (c : OutputColumn). c.name) (slice_get columns i)) [];
      kind = kind;
      names = names_of types kind;
      statuses = unwrap_or (option_map (λ (c : OutputColumn). c.statuses) (slice_get columns i)) [];
    }

-- a flow as the code has it
abbrev pub signal_view : Borrowed → Signal
signal_view s = record { name = s.name.now; kind = s.kind; names = s.names.now; statuses = s.statuses.now }

-- what a flow has at an instant; nil where that isn't known
abbrev pub status_at : Signal → ℕ → Status
status_at signal t = slice_index_or signal.statuses t (Present Nil)

-- the flows of columns of these types, in order
abbrev pub signals_of : List Enum → List Kind → List OutputColumn → List Signal
signals_of types kinds columns = map (signal_at types kinds columns) (range_with_len 0 (length columns))

-- flows as the code has them
abbrev pub signals_view : List Borrowed → List Signal
signals_view signals = map signal_view signals

-- how many instants are known of the flow of which most are
abbrev pub longest : List Signal → ℕ
longest signals = largest (map (λ (s : Signal). length s.statuses) signals)
