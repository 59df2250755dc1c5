-- Outputs that are observed, since they are never to be false (`--always`), and what is told where one is.
use Rattle.std.specs.Prelude.{◌≡◌, ◌&&◌, ℕ, Bool, true, false, not, List, [], ◌∷◌, ◌++◌, flat_map, codes}
use Rattle.std.specs.Prelude.{Option, if◌then◌else◌, find}
use Rattle.std.specs.Fmt.{decimal}
use Rattle.std.specs.List.{list_any, position}
use Rattle.std.specs.Option.{option_map_or}
use Rattle.std.specs.Str.{bytes_eq}
use Rattle.lutree.specs.declared.program.Kind.{Kind}
use Rattle.lutree.specs.declared.program.Kind.TheVariants as kinds
use Rattle.luflow.specs.declared.data.Datum.TheVariants as data_of
use Rattle.luflow.specs.declared.data.Status.{Status}
use Rattle.luflow.specs.declared.data.Status.TheVariants.{Present}
use Rattle.luflow.specs.declared.variable.Variable.{Variable}
use Rattle.luflow.specs.Program.{FlatView}
use Rattle.luflow.specs.Tables.{OutputColumn}
use Rattle.luflow.specs.Variables.{is_output}
use Rattle.luworld.specs.WorldViews.{WorldView}
use Rattle.lutab.specs.Outputs.{output_kinds}
use Rattle.luchart.specs.Signals.{Signal, signals_of}
use Rattle.luweave_text.specs.Waves.{AreOutputSignals}

-- NAMES

abbrev pub is_bool : Kind → Bool
is_bool kinds.Bool = true
is_bool _ = false

-- a main variable is a bool output of this name
abbrev pub is_observable : List ℕ → Variable → Bool
is_observable name x = is_output x.role && (is_bool x.kind && bytes_eq x.name name)

-- no main variable is
abbrev pub is_unknown : List Variable → List ℕ → Bool
is_unknown variables name = not (list_any (is_observable name) variables)

-- the first of the names that is no bool output of the main node
abbrev pub unobserved : List Variable → List (List ℕ) → Option (List ℕ)
unobserved variables names = find (is_unknown variables) names

-- VIOLATIONS

-- a flow is present and false
abbrev pub is_false : Status → Bool
is_false (Present (data_of.Bool value)) = not value
is_false _ = false

-- `A1 Violated NAME INSTANT`
abbrev pub violation_line : List ℕ → ℕ → List ℕ
violation_line name t = codes "A1 Violated " ++ (name ++ (codes " " ++ (decimal t ++ codes "\n")))

-- what is told of a flow: the least instant at which it is present and false, where there is one
abbrev pub violation : Signal → List ℕ
violation flow = option_map_or (violation_line flow.name) (position is_false flow.statuses) []

-- what is told of a name: that of the flow of this name
abbrev pub violation_if : List ℕ → Signal → List ℕ
violation_if name flow = if bytes_eq flow.name name then violation flow else []

abbrev pub violation_of : List Signal → List ℕ → List ℕ
violation_of flows name = flat_map (violation_if name) flows

-- what is told of flows that are observed by these names: a line for each that is false at some instant, in
-- the order of the names
abbrev pub violations : List (List ℕ) → List Signal → List ℕ
violations names flows = flat_map (violation_of flows) names

-- there is a line at least
abbrev pub has_lines : List ℕ → Bool
has_lines [] = false
has_lines (b ∷ bs) = true

-- OF WHAT A RUN AND A REPLAY SHOW

-- the outputs of a flat program, with these columns
abbrev pub output_flows : FlatView → List OutputColumn → List Signal
output_flows flat columns = signals_of flat.types (output_kinds flat.variables) columns

-- what is told of the outputs of a world, each as far as it was passed
pub record AreViolationsOf (names : List (List ℕ)) (w : WorldView) (told : List ℕ) : Type 0 where
  pub flows : List Signal
  pub are_flows : AreOutputSignals w flows
  pub told_is : told ≡ violations names flows
