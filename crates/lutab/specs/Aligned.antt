-- A table of columns whose fields stand at the right of their columns, with two blanks between two columns:
--
--    heat  switches
--    true         1
--   false         -
use Rattle.std.specs.Prelude.{ℕ, zero, suc, ◌-◌, List, [], ◌++◌, length, map, max, fold, flat_map}
use Rattle.std.specs.Prelude.{replicate, codes, slice_get, slice_index, slice_index_or, unwrap_or}
use Rattle.std.specs.List.{range_with_len}
use Rattle.std.specs.Option.{option_map}
use Rattle.lutree.specs.declared.program.Kind.{Kind}
use Rattle.luflow.specs.declared.data.Status.{Status}
use Rattle.luflow.specs.declared.data.Status.TheVariants.{Absent}
use Rattle.luflow.specs.declared.variable.Enum.{Enum}
use Rattle.luflow.specs.Tables.{OutputColumn}
use Rattle.lutab.specs.Text.{status_text}
use Rattle.lutab.specs.Outputs.{names_in, instants_of}

-- the name of column i, and what it has at all instants
abbrev pub name_at : List OutputColumn → ℕ → List ℕ
name_at columns i = unwrap_or (option_map (λ (c : OutputColumn). c.name) (slice_get columns i)) []

abbrev pub statuses_of : List OutputColumn → ℕ → List Status
statuses_of columns i = unwrap_or (option_map (λ (c : OutputColumn). c.statuses) (slice_get columns i)) []

-- what column i has at an instant, spelled by the names of its type
abbrev pub field_at : List Enum → List Kind → List OutputColumn → ℕ → ℕ → List ℕ
field_at types kinds columns t i =
    status_text (names_in types kinds i) (slice_index_or (statuses_of columns i) t Absent)

-- how wide a column is: as its name, or as what it has at an instant, if that is longer
abbrev pub wider : List (List ℕ) → ℕ → Status → ℕ
wider names most status = max most (length (status_text names status))

abbrev pub width_of : List Enum → List Kind → List OutputColumn → ℕ → ℕ
width_of types kinds columns i =
    fold (wider (names_in types kinds i)) (length (name_at columns i)) (statuses_of columns i)

abbrev pub widths_of : List Enum → List Kind → List OutputColumn → List ℕ
widths_of types kinds columns = map (width_of types kinds columns) (range_with_len 0 (length columns))

-- the blanks between a column and the one before it
abbrev pub gap_before : ℕ → List ℕ
gap_before zero = []
gap_before (suc i) = codes "  "

-- the field of column i, at the right of it
abbrev pub placed : List ℕ → ℕ → List ℕ → List ℕ
placed widths i field = gap_before i ++ (replicate (slice_index widths i - length field) 32 ++ field)

-- so many fields, and a line of them
abbrev pub fields_text : List ℕ → (ℕ → List ℕ) → ℕ → List ℕ
fields_text widths field n = flat_map (λ i. placed widths i (field i)) (range_with_len 0 n)

abbrev pub fields_line : List ℕ → (ℕ → List ℕ) → ℕ → List ℕ
fields_line widths field n = fields_text widths field n ++ codes "\n"

abbrev pub names_line : List ℕ → List OutputColumn → List ℕ
names_line widths columns = fields_line widths (name_at columns) (length columns)

abbrev pub instant_line : List Enum → List Kind → List OutputColumn → List ℕ → ℕ → List ℕ
instant_line types kinds columns widths t =
    fields_line widths (field_at types kinds columns t) (length columns)

abbrev pub aligned_lines : List Enum → List Kind → List OutputColumn → List ℕ → List ℕ
aligned_lines types kinds columns widths = names_line widths columns
    ++ flat_map (instant_line types kinds columns widths) (range_with_len 0 (instants_of columns))

-- columns of these types: a line of the names, and a line for each instant, all of one length
abbrev pub aligned_text : List Enum → List Kind → List OutputColumn → List ℕ
aligned_text types kinds columns = aligned_lines types kinds columns (widths_of types kinds columns)
