-- The dumps of a run and of a replay: the outputs over time, with the sites as scopes.
use Rattle.std.specs.Prelude.{◌≡◌, ℕ, List, map, Option, Some, None, slice_get}
use Rattle.lutree.specs.Tree.{ProgramTree}
use Rattle.luflow.specs.Program.{InputsView}
use Rattle.luflow.specs.Streams.{Known}
use Rattle.luflow.specs.Tables.{OutputColumn}
use Rattle.lusource.specs.Source.{SourceStreams, IsSourceSolution}
use Rattle.luworld.specs.Needs.{PlanView}
use Rattle.luworld.specs.WorldViews.{WorldView, IsPrefixOf}
use Rattle.lusource.specs.RunReports.{main_marks}
use Rattle.lutab.specs.Outputs.{output_kinds}
use Rattle.luchart.specs.Signals.{Signal, signals_of}
use Rattle.luweave_text.specs.Waves.{site_dump, AreOutputSignals}

-- the dump of columns of all outputs of a plan's program
abbrev pub run_dump : List ℕ → PlanView → List OutputColumn → List ℕ
run_dump main plan outputs =
    site_dump main plan (signals_of plan.flat.types (output_kinds plan.flat.variables) outputs)

-- the dump of the outputs of a world, each as far as it was passed
pub record IsWorldDumped (main : List ℕ) (w : WorldView) (dump : Option (List ℕ)) : Type 0 where
  pub signals : List Signal
  pub are_signals : AreOutputSignals w signals
  pub dump_is : dump ≡ Some (site_dump main w.job.plan signals)

-- the same where a path for it is given; else there is none
abbrev pub IsWorldDump : List ℕ → WorldView → Option (List ℕ) → Option (List ℕ) → Type 0
IsWorldDump main w None dump = dump ≡ None
IsWorldDump main w (Some path) dump = IsWorldDumped main w dump

-- each output is a prefix of what a solution of the source gives it
abbrev pub AreSignalsTrue : ProgramTree → List ℕ → InputsView → List Signal → Type 0
AreSignalsTrue tree main inputs signals =
    (σ : SourceStreams) → IsSourceSolution tree main inputs σ → (k : ℕ) (signal : Signal)
    → slice_get signals k ≡ Some signal
    → IsPrefixOf (map Known signal.statuses) (main_marks inputs σ signal.name)
