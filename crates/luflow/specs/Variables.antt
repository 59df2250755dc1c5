-- The main variables by their roles.
use Rattle.std.specs.Prelude.{ℕ, Bool, true, false, List, [], slice_get, unwrap_or}
use Rattle.std.specs.List.{filter}
use Rattle.std.specs.Option.{option_map}
use Rattle.luflow.specs.declared.variable.Role.{Role}
use Rattle.luflow.specs.declared.variable.Role.TheVariants.{Input, Output, Local}
use Rattle.luflow.specs.declared.variable.Variable.{Variable}
use Rattle.luflow.specs.Program.{FlatView}

abbrev pub is_input : Role → Bool
is_input Input = true
is_input Output = false
is_input Local = false

abbrev pub is_output : Role → Bool
is_output Input = false
is_output Output = true
is_output Local = false

-- the inputs, in order of declaration
abbrev pub inputs_of : List Variable → List Variable
inputs_of variables = filter (λ x. is_input x.role) variables

-- the outputs, in order of declaration
abbrev pub outputs_of : List Variable → List Variable
outputs_of variables = filter (λ x. is_output x.role) variables

-- the name of a main variable, by its number
abbrev pub variable_name : FlatView → ℕ → List ℕ
variable_name flat v = unwrap_or (option_map (λ (x : Variable). x.name) (slice_get flat.variables v)) []

-- whether a main variable is an output, by its number
abbrev pub is_output_of : FlatView → ℕ → Bool
is_output_of flat v =
    unwrap_or (option_map (λ (x : Variable). is_output x.role) (slice_get flat.variables v)) false
