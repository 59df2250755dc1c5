-- How the texts of a plan name variables, sites, types and clocks.
use Rattle.std.specs.Prelude.{◌≡◌, ℕ, true, false, List, [], ◌++◌, codes, Result, IfOk, slice_get, unwrap_or}
use Rattle.std.specs.Prelude.{string_bytes}
use Rattle.std.specs.declared.string.String.{String}
use Rattle.std.specs.declared.alloc.Global.{Global}
use Rattle.std.specs.Option.{option_map}
use Rattle.lutree.specs.declared.program.Kind.{Kind}
use Rattle.lutree.specs.declared.program.Kind.TheVariants.{Int, Bool, Enum as Names}
use Rattle.luflow.specs.declared.data.Datum.TheVariants as datum
use Rattle.luflow.specs.declared.form.Clock.{Clock}
use Rattle.luflow.specs.declared.form.Clock.TheVariants.{Base, On}
use Rattle.luflow.specs.declared.form.Flow.{Flow}
use Rattle.luflow.specs.declared.variable.Enum.{Enum}
use Rattle.luflow.specs.declared.variable.Variable.{Variable}
use Rattle.luflow.specs.Program.{FlatView, flow_at}
use Rattle.luflow.specs.Types.{name_of, variable_names}
use Rattle.luflow.specs.Variables.{variable_name}

-- the name of a site, by its number
abbrev pub site_name : List (List ℕ) → ℕ → List ℕ
site_name names site = unwrap_or (slice_get names site) []

-- the name of a type of a program with these types
abbrev pub type_name : List Enum → Kind → List ℕ
type_name types Int = codes "int"
type_name types Bool = codes "bool"
type_name types (Names place size) = unwrap_or (option_map (λ (t : Enum). t.name) (slice_get types place)) []

-- the type of a main variable, by its number
abbrev pub type_of : FlatView → ℕ → List ℕ
type_of flat v = unwrap_or (option_map (λ (x : Variable). type_name flat.types x.kind)
    (slice_get flat.variables v)) []

-- the clock of a flow, by its place
abbrev pub clock_of : FlatView → ℕ → Clock
clock_of flat i = unwrap_or (option_map (λ (flow : Flow). flow.clock) (flow_at flat i)) Base

-- `c`, `not c` or `A(c)`, and nothing for the base clock
abbrev pub clock_text : FlatView → Clock → List ℕ
clock_text flat Base = []
clock_text flat (On c (datum.Bool false)) = codes "not " ++ variable_name flat c
clock_text flat (On c (datum.Bool true)) = variable_name flat c
clock_text flat (On c (datum.Name k)) =
    name_of (variable_names flat c) k ++ (codes "(" ++ (variable_name flat c ++ codes ")"))
clock_text flat (On c (datum.Int n)) = variable_name flat c
clock_text flat (On c datum.Nil) = variable_name flat c

-- The text has these bytes more, unless memory ran out.
abbrev pub Adds : {X E : Type 0} → Result X E → String Global → String Global → List ℕ → Type 0
Adds result old new more = IfOk result (λ _. string_bytes new ≡ string_bytes old ++ more)
