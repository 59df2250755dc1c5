-- A value change dump of a run's outputs, in which the sites are scopes: an output is declared in the scope
-- of each site that computes it.
--
--   $timescale 1 us $end
--   $scope module main $end
--   $scope module left $end
--   $var integer 64 v0 total $end
--   $upscope $end
--   $scope module right $end
--   $upscope $end
--   $upscope $end
--   $enddefinitions $end
--   #0
--   b1 v0
--   #4
--
-- Where less is known of one output than of another, it is nil from there on. The last time is that behind
-- all that is known.
use Rattle.std.specs.Prelude.{◌≡◌, ℕ, List, [], ◌++◌, length, codes, flat_map, Some, slice_get, slice_index}
use Rattle.std.specs.Prelude.{option_map, unwrap_or, if◌then◌else◌}
use Rattle.std.specs.List.{range_with_len}
use Rattle.lutree.specs.declared.program.Kind.{Kind}
use Rattle.lutree.specs.declared.program.Kind.TheVariants.{Int}
use Rattle.luflow.specs.declared.data.Status.{Status}
use Rattle.luflow.specs.declared.variable.Variable.{Variable}
use Rattle.luflow.specs.Program.{FlatView}
use Rattle.luflow.specs.Types.{variable_names}
use Rattle.luflow.specs.Variables.{variable_name}
use Rattle.luworld.specs.Needs.{PlanView, sites_of, stands}
use Rattle.luworld.specs.Jobs.{outputs_of}
use Rattle.luworld.specs.WorldViews.{WorldView, IsCollected}
use Rattle.luchart.specs.Signals.{Signal, longest}
use Rattle.luchart.specs.Dump.{opening, closing, declaration, of_flows, times}
use Rattle.luweave_text.specs.WorldText.{site_name}

-- SCOPES

-- output k among the declarations of a site, where the site computes it
abbrev pub declared_at : PlanView → ℕ → ℕ → Signal → List ℕ
declared_at plan s k signal = if stands plan (slice_index (outputs_of plan) k) s then declaration k signal
    else []

-- the beginning of a scope of this name, and the end of one
abbrev pub scope_opening : List ℕ → List ℕ
scope_opening name = codes "$scope module " ++ (name ++ codes " $end\n")

abbrev pub scope_end : List ℕ
scope_end = codes "$upscope $end\n"

-- the declarations of the outputs that a site computes
abbrev pub site_flows : PlanView → List Signal → ℕ → List ℕ
site_flows plan signals s = of_flows (declared_at plan s) signals

-- the scope of a site
abbrev pub scope : PlanView → List Signal → ℕ → List ℕ
scope plan signals s = scope_opening (site_name plan.names s) ++ (site_flows plan signals s ++ scope_end)

-- those of all sites, in the scope of the main node
abbrev pub scopes : PlanView → List Signal → List ℕ
scopes plan signals = flat_map (scope plan signals) (range_with_len 0 (sites_of plan))

abbrev pub site_header : List ℕ → PlanView → List Signal → List ℕ
site_header main plan signals = opening main ++ (scopes plan signals ++ closing)

-- THE DUMP

-- the outputs of a plan's program, whose main node has this name
abbrev pub site_dump : List ℕ → PlanView → List Signal → List ℕ
site_dump main plan signals = site_header main plan signals ++ times signals (longest signals)

-- WHAT IS KNOWN OF A WORLD

-- the type of a main variable, by its number
abbrev pub variable_kind : FlatView → ℕ → Kind
variable_kind flat v = unwrap_or (option_map (λ (x : Variable). x.kind) (slice_get flat.variables v)) Int

-- a main variable, by its number, with these statuses
abbrev pub variable_signal : FlatView → ℕ → List Status → Signal
variable_signal flat v statuses = record {
  name = variable_name flat v;
  kind = variable_kind flat v;
  names = variable_names flat v;
  statuses = statuses;
}

-- output k of a world, as far as it was passed
pub record IsOutputSignal (w : WorldView) (k : ℕ) (signal : Signal) : Type 0 where
  pub variable : ℕ
  pub there : slice_get (outputs_of w.job.plan) k ≡ Some variable
  pub signal_is : signal ≡ variable_signal w.job.plan.flat variable signal.statuses
  pub collected : IsCollected w.job w.dones k signal.statuses

-- all outputs of a world, in order
pub record AreOutputSignals (w : WorldView) (signals : List Signal) : Type 0 where
  pub all : length signals ≡ length (outputs_of w.job.plan)
  pub each : (k : ℕ) (signal : Signal) → slice_get signals k ≡ Some signal → IsOutputSignal w k signal
