-- Tables as the code has them.
use Rattle.std.specs.Prelude.{◌≡◌, ℕ, ◌≤◌, List, [], ◌∷◌, map, length, All, Vec, string_bytes}
use Rattle.std.specs.declared.string.String.{String}
use Rattle.std.specs.declared.alloc.Global.{Global}
use Rattle.lubase.specs.Limits.{most_instants}
use Rattle.luflow.specs.declared.data.Status.{Status}
use Rattle.luflow.specs.declared.values.Values.{Values}
use Rattle.luflow.specs.declared.variable.Variable.{Variable}
use Rattle.luflow.specs.Packed.{data_in}
use Rattle.luflow.specs.Program.{FlatView, InputsView, Column}
use Rattle.luflow.specs.Sound.{IsConstantOf, IsFit}
use Rattle.luflow.specs.Flats.{IsFlat}
use Rattle.luflow.specs.Variables.{inputs_of}

abbrev pub column_view : String Global × Values → Column
column_view x = record { name = string_bytes x.0; values = data_in x.1 }

abbrev pub columns_view : List (String Global × Values) → List Column
columns_view xs = map column_view xs

-- at most as many instants as a table may have, and each column has a value for each of them
pub record IsTable (table : InputsView) : Type 0 where
  pub few : table.instants ≤ most_instants
  pub long : All (λ column. length column.values ≡ table.instants) table.columns

-- The columns are those of these inputs, in order: of the input's name, and with a value of its type, never
-- nil, at each instant.
abbrev pub AreColumnsOf : List Variable → List Column → Type 0
AreColumnsOf [] [] = Unit {0}
AreColumnsOf [] (c ∷ cs) = ⊥
AreColumnsOf (x ∷ xs) [] = ⊥
AreColumnsOf (x ∷ xs) (c ∷ cs) = (c.name ≡ x.name) × All (IsConstantOf x.kind) c.values × AreColumnsOf xs cs

-- a table of a flat program's inputs
abbrev pub FitsProgram : FlatView → InputsView → Type 0
FitsProgram flat inputs = AreColumnsOf (inputs_of flat.variables) inputs.columns

-- what such a table gives to the flows that read it
abbrev pub FitsProgramLaw : Type 0
FitsProgramLaw = (flat : FlatView) (inputs : InputsView) → IsFlat flat → IsTable inputs
    → FitsProgram flat inputs → IsFit flat inputs

-- an output: its name, and what it has at each instant
pub record OutputColumn : Type 0 where
  pub name : List ℕ
  pub statuses : List Status

abbrev pub output_view : String Global × Vec Status Global → OutputColumn
output_view x = record { name = string_bytes x.0; statuses = x.1.items }

abbrev pub outputs_view : List (String Global × Vec Status Global) → List OutputColumn
outputs_view xs = map output_view xs

-- there is one at least, and all are as long as the first
abbrev pub AreOutputs : List OutputColumn → Type 0
AreOutputs [] = ⊥
AreOutputs (c ∷ cs) = All (λ x. length x.statuses ≡ length c.statuses) (c ∷ cs)
