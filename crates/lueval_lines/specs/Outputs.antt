-- The main variables' streams by name: those of the outputs, and all.
use Rattle.std.specs.Prelude.{List, [], ◌∷◌, ◌++◌, if◌then◌else◌}
use Rattle.luflow.specs.declared.data.Status.{Status}
use Rattle.luflow.specs.declared.variable.Variable.{Variable}
use Rattle.luflow.specs.Variables.{is_output}
use Rattle.luflow.specs.Tables.{OutputColumn}

-- a main variable with its stream, if it is an output
abbrev pub output_in : Variable → List Status → List OutputColumn
output_in x statuses = if is_output x.role then record { name = x.name; statuses = statuses } ∷ [] else []

-- the outputs by name, in order of declaration, each with its stream
abbrev pub outputs_in : List Variable → List (List Status) → List OutputColumn
outputs_in [] streams = []
outputs_in (x ∷ xs) [] = []
outputs_in (x ∷ xs) (s ∷ ss) = output_in x s ++ outputs_in xs ss

-- all main variables by name, in order of declaration, each with its stream
abbrev pub columns_in : List Variable → List (List Status) → List OutputColumn
columns_in [] streams = []
columns_in (x ∷ xs) [] = []
columns_in (x ∷ xs) (s ∷ ss) = record { name = x.name; statuses = s } ∷ columns_in xs ss
