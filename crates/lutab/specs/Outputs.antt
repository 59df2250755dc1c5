-- The text of a table of outputs, or of all main variables.
use Rattle.std.specs.Prelude.{ℕ, zero, suc, ◌+◌, Bool, if◌then◌else◌, List, [], ◌∷◌, ◌++◌, length, map}
use Rattle.std.specs.Prelude.{slice_get, slice_index_or, unwrap_or}
use Rattle.std.specs.Option.{option_map}
use Rattle.lutree.specs.declared.program.Kind.{Kind}
use Rattle.luflow.specs.declared.data.Status.TheVariants.{Absent}
use Rattle.luflow.specs.declared.variable.Enum.{Enum}
use Rattle.luflow.specs.declared.variable.Variable.{Variable}
use Rattle.luflow.specs.Program.{FlatView}
use Rattle.luflow.specs.Tables.{OutputColumn}
use Rattle.luflow.specs.Types.{names_of}
use Rattle.luflow.specs.Variables.{outputs_of}
use Rattle.lutab.specs.Text.{status_text, line_text}

-- the main variables that a text shows, in order of declaration: all of them, or the outputs alone
abbrev pub shown_of : Bool → List Variable → List Variable
shown_of all variables = if all then variables else outputs_of variables

-- the types of variables, in order
abbrev pub kinds_of : List Variable → List Kind
kinds_of variables = map (λ (x : Variable). x.kind) variables

-- the types of the outputs among these variables, in order
abbrev pub output_kinds : List Variable → List Kind
output_kinds variables = kinds_of (outputs_of variables)

-- the names of the type of this number among these; none where there is no such type, or it is no enumeration
abbrev pub names_in : List Enum → List Kind → ℕ → List (List ℕ)
names_in types kinds i = unwrap_or (option_map (names_of types) (slice_get kinds i)) []

-- what the outputs from number i on have at an instant, spelled by the names of their types
abbrev pub statuses_from : List Enum → List Kind → ℕ → List OutputColumn → ℕ → List (List ℕ)
statuses_from types kinds i [] t = []
statuses_from types kinds i (c ∷ cs) t = status_text (names_in types kinds i)
    (slice_index_or c.statuses t Absent) ∷ statuses_from types kinds (i + 1) cs t

abbrev pub statuses_at : List Enum → List Kind → List OutputColumn → ℕ → List (List ℕ)
statuses_at types kinds outputs t = statuses_from types kinds 0 outputs t

-- a line of the names
abbrev pub names_text : List OutputColumn → List ℕ
names_text outputs = line_text (map (λ c. c.name) outputs)

-- a line for each of the first n instants
abbrev pub lines_of : List Enum → List Kind → List OutputColumn → ℕ → List ℕ
lines_of types kinds outputs zero = []
lines_of types kinds outputs (suc n) =
    lines_of types kinds outputs n ++ line_text (statuses_at types kinds outputs n)

-- a line of the names, and a line for each of so many instants
abbrev pub lines_text : List Enum → List Kind → List OutputColumn → ℕ → List ℕ
lines_text types kinds outputs n = names_text outputs ++ lines_of types kinds outputs n

-- how many instants outputs have: all have as many as the first
abbrev pub instants_of : List OutputColumn → ℕ
instants_of [] = zero
instants_of (c ∷ cs) = length c.statuses

-- columns of these types: a line of the names, and a line for each instant
abbrev pub column_text : List Enum → List Kind → List OutputColumn → List ℕ
column_text types kinds columns = lines_text types kinds columns (instants_of columns)

-- the outputs of a program
abbrev pub output_text : FlatView → List OutputColumn → List ℕ
output_text flat outputs = column_text flat.types (output_kinds flat.variables) outputs
