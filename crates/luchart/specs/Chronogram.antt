-- A chronogram, the chart of flows over time: a row for each flow and a cell for each instant.
--
--             0   1   2   3   4
--   heat      ################____
--   switches  1   1   1   1   2
--   heated    1   2   3   4   .
--
-- It is cut into strips, one under the other with an empty line between two; each begins with a row of
-- instants.
use Rattle.std.specs.Prelude.{ℕ, ◌+◌, ◌-◌, ◌*◌, ◌/◌, ◌^◌, ◌<◌, ◌≤◌, min, max, true, false, List, [], ◌++◌}
use Rattle.std.specs.Prelude.{length, map, codes, flat_map, nat_eq, Option, Some, None, unwrap_or}
use Rattle.std.specs.Prelude.{if◌then◌else◌}
use Rattle.std.specs.Fmt.{decimal}
use Rattle.std.specs.List.{range_with_len}
use Rattle.std.specs.Option.{option_map_or}
use Rattle.lutree.specs.declared.program.Kind.{Kind}
use Rattle.lutree.specs.declared.program.Kind.TheVariants as kinds
use Rattle.luflow.specs.declared.data.Datum.TheVariants as datum
use Rattle.luflow.specs.declared.data.Status.{Status}
use Rattle.luflow.specs.declared.data.Status.TheVariants.{Absent, Present}
use Rattle.luflow.specs.declared.variable.Enum.{Enum}
use Rattle.luflow.specs.Tables.{OutputColumn}
use Rattle.lutab.specs.Text.{datum_text}
use Rattle.lutab.specs.Outputs.{instants_of}
use Rattle.luchart.specs.Pieces.{repeated, at_right, at_left, largest}
use Rattle.luchart.specs.Signals.{Signal, signals_of, status_at}
use Rattle.luchart.specs.declared.layout.Layout.{Layout}

-- CELLS

-- the mark that fills a cell of a truth value, so that its row is a wave: `#` where it is true, `_` where it
-- is false, `.` where it is absent
abbrev pub mark_of : Kind → Status → Option (List ℕ)
mark_of kinds.Bool Absent = Some (codes ".")
mark_of kinds.Bool (Present (datum.Bool true)) = Some (codes "#")
mark_of kinds.Bool (Present (datum.Bool false)) = Some (codes "_")
mark_of _ _ = None

-- any other value as tables have it, and `.` where there is none
abbrev pub word_of : List (List ℕ) → Status → List ℕ
word_of names Absent = codes "."
word_of names (Present d) = datum_text names d

-- a cell of this width: a mark over the whole of it, or a word at its right
abbrev pub filled : ℕ → List (List ℕ) → Status → Option (List ℕ) → List ℕ
filled width names status (Some mark) = repeated mark width
filled width names status None = at_right width (word_of names status)

abbrev pub cell : ℕ → Signal → ℕ → List ℕ
cell width signal t = filled width signal.names (status_at signal t)
    (mark_of signal.kind (status_at signal t))

-- WIDTHS

-- the number of columns of a line, where its cells leave that open
abbrev pub line_width : ℕ
line_width = 100

-- the most columns that a cell gets; what is longer stands out of its cell
abbrev pub widest_cell : ℕ
widest_cell = 40

-- how many columns a word asks for: its own, and one for a blank
abbrev pub room_for : List ℕ → ℕ
room_for word = min widest_cell (1 + length word)

-- how many columns what stands in a cell asks for: none, where it is a mark
abbrev pub breadth : List (List ℕ) → Status → Option (List ℕ) → ℕ
breadth names status (Some mark) = 0
breadth names status None = room_for (word_of names status)

abbrev pub breadth_at : Signal → ℕ → ℕ
breadth_at signal t = breadth signal.names (status_at signal t) (mark_of signal.kind (status_at signal t))

-- for so many instants of a flow, from this one on
abbrev pub row_breadth : ℕ → ℕ → Signal → ℕ
row_breadth first count signal = largest (map (breadth_at signal) (range_with_len first count))

abbrev pub widest_row : ℕ → ℕ → List Signal → ℕ
widest_row first count signals = largest (map (row_breadth first count) signals)

abbrev pub widest_name : List Signal → ℕ
widest_name signals = largest (map (λ (s : Signal). room_for s.name) signals)

-- all cells are as wide as the widest, and as the number of the last instant; they have one column where all
-- are marks
abbrev pub cell_width : ℕ → ℕ → ℕ
cell_width widest last = if nat_eq widest 0 then 1 else max widest last

-- A chart shows so many instants from the first on, one at least, in cells of this width behind names in a
-- margin.
abbrev pub layout_of : List Signal → ℕ → ℕ → Layout
layout_of signals first count =
    let last = room_for (decimal (first + (count - 1))) in
    record {
      first = first;
      count = count;
      margin = max last (widest_name signals);
      width = cell_width (widest_row first count signals) last;
    }

-- what holds of each such layout
pub record IsLaidOut (layout : Layout) : Type 0 where
  pub some : 0 < layout.count
  pub inside : layout.first + layout.count < 2 ^ 64
  pub margin : layout.margin ≤ widest_cell
  pub wide : 0 < layout.width
  pub narrow : layout.width ≤ widest_cell

-- each instant has its number above it; where cells have one column, each tenth
abbrev pub stride : Layout → ℕ
stride layout = if nat_eq layout.width 1 then 10 else 1

-- how many instants a strip has: as many as there is room for, and one at least; where each tenth has its
-- number, whole tens
abbrev pub strip_length : Layout → ℕ
strip_length layout = max 1 ((line_width - layout.margin) / layout.width / stride layout * stride layout)

-- ROWS

-- a row: the name in the margin, and the cells of so many instants from this one on
abbrev pub row : Layout → ℕ → ℕ → Signal → List ℕ
row layout start count signal =
    at_left layout.margin signal.name ++ (flat_map (cell layout.width signal) (range_with_len start count)
    ++ codes "\n")

-- the number of an instant at the right of so many columns: its last digit stands above the last of them
abbrev pub number : ℕ → ℕ → List ℕ
number width t = at_right width (decimal t)

-- the numbers behind that of the first instant, one each stride
abbrev pub numbers : Layout → ℕ → ℕ → List ℕ
numbers layout start count =
    flat_map (λ k. number (stride layout * layout.width) (start + (k + 1) * stride layout))
    (range_with_len 0 ((count - 1) / stride layout))

-- the row of instants
abbrev pub head : Layout → ℕ → ℕ → List ℕ
head layout start count = number (layout.margin + layout.width) start ++ (numbers layout start count
    ++ codes "\n")

-- STRIPS

-- the rows of so many instants from this one on
abbrev pub rows : Layout → ℕ → ℕ → List Signal → List ℕ
rows layout start count signals = flat_map (row layout start count) signals

-- the first instant of strip k, and how many it has
abbrev pub strip_start : Layout → ℕ → ℕ
strip_start layout k = layout.first + k * strip_length layout

abbrev pub strip_count : Layout → ℕ → ℕ
strip_count layout k = min (strip_length layout) (layout.count - k * strip_length layout)

-- what stands before strip k: an empty line where it isn't the first
abbrev pub gap : ℕ → List ℕ
gap k = if nat_eq k 0 then [] else codes "\n"

abbrev pub strip : Layout → List Signal → ℕ → List ℕ
strip layout signals k =
    gap k ++ (head layout (strip_start layout k) (strip_count layout k) ++ rows layout (strip_start layout k)
    (strip_count layout k) signals)

-- as many strips as the instants take
abbrev pub strips : Layout → List Signal → List ℕ
strips layout signals =
    flat_map (strip layout signals) (range_with_len 0 ((layout.count - 1) / strip_length layout + 1))

-- THE CHART

-- where no instant is shown, the names alone
abbrev pub names : List Signal → List ℕ
names signals = flat_map (λ (s : Signal). s.name ++ codes "\n") signals

-- so many instants of flows, from the first on
abbrev pub chart : List Signal → ℕ → ℕ → List ℕ
chart signals first count = if nat_eq count 0 then names signals
    else strips (layout_of signals first count) signals

-- the first of so many instants that is shown, and how many are, where the first and the last may be given
abbrev pub first_shown : Option ℕ → ℕ
first_shown from = unwrap_or from 0

abbrev pub count_shown : ℕ → Option ℕ → Option ℕ → ℕ
count_shown instants from to = min instants (option_map_or (λ t. t + 1) to instants) - first_shown from

-- Columns of these types at the instants from one to another, both of which are shown; without one from the
-- first instant, and without the other to the last.
abbrev pub chart_text : List Enum → List Kind → List OutputColumn → Option ℕ → Option ℕ → List ℕ
chart_text types kinds columns from to =
    chart (signals_of types kinds columns) (first_shown from) (count_shown (instants_of columns) from to)
