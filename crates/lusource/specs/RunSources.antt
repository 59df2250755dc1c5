-- What the source of a run says of its links and outputs.
use Rattle.std.specs.Prelude.{◌≡◌, ℕ, ◌<◌, ◌≤◌, false, List, [], length, map}
use Rattle.lutree.specs.Tree.{ProgramTree}
use Rattle.luflow.specs.declared.data.Status.{Status}
use Rattle.luflow.specs.declared.message.Msg.{Msg}
use Rattle.luflow.specs.Variables.{variable_name}
use Rattle.luflow.specs.Streams.{Stream, Known, is_broken}
use Rattle.luflow.specs.Messages.{marks, messages}
use Rattle.luworld.specs.Jobs.{JobView, carried}
use Rattle.lusource.specs.Source.{SourceStreams, IsSourceSolution}
use Rattle.lusource.specs.Agreement.{Agrees}

-- A synchronous solution of a run's source: of a program as it is written, with which the run's flat program
-- agrees at the run's inputs.
pub record IsMeant (job : JobView) (σ : SourceStreams) : Type 0 where
  pub program : ProgramTree
  pub main : List ℕ
  pub agrees : Agrees program main job.inputs job.plan.flat
  pub solves : IsSourceSolution program main job.inputs σ

-- what a solution of the source gives to a main variable
abbrev pub source_stream : JobView → SourceStreams → ℕ → Stream
source_stream job σ v = σ [] (variable_name job.plan.flat v)

-- the list of a link in the source's words: the present values of its variable before the first broken one,
-- each numbered, and the close where nothing is broken
abbrev pub source_list : JobView → SourceStreams → ℕ → List Msg
source_list job σ l = messages 0 (marks (source_stream job σ (carried job.plan l)) job.inputs.instants)

-- all statuses of a main variable in the source's words, none of them broken; a prefix of them
abbrev pub AreStatuses : JobView → SourceStreams → ℕ → List Status → Type 0
AreStatuses job σ v xs = map Known xs ≡ marks (source_stream job σ v) job.inputs.instants

abbrev pub BeginStatuses : JobView → SourceStreams → ℕ → List Status → Type 0
BeginStatuses job σ v xs =
    (m : ℕ) × (m ≤ job.inputs.instants) × (map Known xs ≡ marks (source_stream job σ v) m)

-- no main variable breaks in the source
abbrev pub NoneBreaks : JobView → SourceStreams → Type 0
NoneBreaks job σ = (v t : ℕ) → v < length job.plan.flat.variables → t < job.inputs.instants
    → is_broken (source_stream job σ v t) ≡ false
