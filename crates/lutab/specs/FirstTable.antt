-- The table of inputs that a user begins with.
use Rattle.std.specs.Prelude.{◌≡◌, ◌≤◌, ℕ, pos, false, List, ◌++◌, map, replicate, Some, slice_get}
use Rattle.std.specs.List.{repeat}
use Rattle.lubase.specs.Limits.{most_instants}
use Rattle.lutree.specs.declared.program.Kind.{Kind}
use Rattle.lutree.specs.declared.program.Kind.TheVariants as kinds
use Rattle.luflow.specs.declared.data.Datum.{Datum}
use Rattle.luflow.specs.declared.data.Datum.TheVariants.{Int, Bool, Name}
use Rattle.luflow.specs.declared.variable.Enum.{Enum}
use Rattle.luflow.specs.declared.variable.Variable.{Variable}
use Rattle.luflow.specs.Flats.{IsFlat}
use Rattle.luflow.specs.Program.{Column, FlatView, InputsView}
use Rattle.luflow.specs.Types.{names_of}
use Rattle.luflow.specs.Variables.{inputs_of}
use Rattle.lutab.specs.Table.{header_text, IsTextOf}
use Rattle.lutab.specs.Text.{datum_text, line_text, IsFieldName}

-- 0, false, or the first name of an enumeration
abbrev pub first_datum : Kind → Datum
first_datum kinds.Int = Int (pos 0)
first_datum kinds.Bool = Bool false
first_datum (kinds.Enum place size) = Name 0

-- the same as a field, in a program with these types
abbrev pub first_field : List Enum → Variable → List ℕ
first_field types x = datum_text (names_of types x.kind) (first_datum x.kind)

-- a line in which each of these inputs has it
abbrev pub first_line : List Enum → List Variable → List ℕ
first_line types inputs = line_text (map (first_field types) inputs)

-- a table of so many instants: the header, and such a line for each
abbrev pub first_table : FlatView → ℕ → List ℕ
first_table flat n =
    header_text (inputs_of flat.variables) ++ repeat n (first_line flat.types (inputs_of flat.variables))

-- THE TABLE THAT IT SPELLS

-- what an input has at so many instants
abbrev pub first_column : ℕ → Variable → Column
first_column n x = record { name = x.name; values = replicate n (first_datum x.kind) }

-- the table of so many instants
abbrev pub first_inputs : FlatView → ℕ → InputsView
first_inputs flat n = record { instants = n; columns = map (first_column n) (inputs_of flat.variables) }

-- each enumeration has a first name, which a field spells
abbrev pub HaveFirstNames : List Enum → Type 0
HaveFirstNames types = (place : ℕ) (t : Enum) → slice_get types place ≡ Some t → IsFieldName t.names 0

-- the text is that of the table
abbrev pub FirstTableLaw : Type 0
FirstTableLaw = (flat : FlatView) (n : ℕ) → IsFlat flat → HaveFirstNames flat.types → n ≤ most_instants
    → IsTextOf flat.types (inputs_of flat.variables) (first_inputs flat n) (first_table flat n)
