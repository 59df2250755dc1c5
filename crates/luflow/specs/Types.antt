-- The names of a program's types.
use Rattle.std.specs.Prelude.{ℕ, List, [], slice_get, unwrap_or}
use Rattle.std.specs.Option.{option_map}
use Rattle.lutree.specs.declared.program.Kind.{Kind}
use Rattle.lutree.specs.declared.program.Kind.TheVariants as kinds
use Rattle.luflow.specs.declared.variable.Enum.{Enum}
use Rattle.luflow.specs.declared.variable.Variable.{Variable}
use Rattle.luflow.specs.Program.{FlatView}

-- the names of a type, in order of declaration; none where it is no enumeration
abbrev pub names_of : List Enum → Kind → List (List ℕ)
names_of types kinds.Int = []
names_of types kinds.Bool = []
names_of types (kinds.Enum place size) =
    unwrap_or (option_map (λ (t : Enum). t.names) (slice_get types place)) []

-- the name of this number among these; nothing where there is none
abbrev pub name_of : List (List ℕ) → ℕ → List ℕ
name_of names k = unwrap_or (slice_get names k) []

-- the names of the type of a main variable, by its number
abbrev pub variable_names : FlatView → ℕ → List (List ℕ)
variable_names flat v = unwrap_or (option_map (λ (x : Variable). names_of flat.types x.kind)
    (slice_get flat.variables v)) []
