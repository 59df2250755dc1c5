-- What a distributed run reports, and when that is true of its source program: no site, plan or schedule is
-- needed to read it.
use Rattle.std.specs.Prelude.{◌≡◌, ℕ, ◌+◌, ◌≤◌, List, [], length, map, All, Option, Some, None, slice_get}
use Rattle.std.specs.Prelude.{unwrap_or}
use Rattle.std.specs.Option.{option_map, option_and_then}
use Rattle.lutree.specs.declared.program.Kind.{Kind}
use Rattle.lutree.specs.declared.program.Kind.TheVariants as kinds
use Rattle.lutree.specs.Tree.{TypeTree, NodeTree, ProgramTree}
use Rattle.lustat_rules.specs.Scope.{kind_of, node_called}
use Rattle.luflow.specs.declared.data.Status.{Status}
use Rattle.luflow.specs.declared.form.FaultKind.{FaultKind}
use Rattle.luflow.specs.declared.message.Body.{Body}
use Rattle.luflow.specs.Program.{InputsView}
use Rattle.luflow.specs.Streams.{Mark, Known}
use Rattle.luflow.specs.Messages.{marks, carried_bodies}
use Rattle.luworld.specs.WorldViews.{IsPrefixOf}
use Rattle.lusource.specs.Source.{SourceStreams, IsSourceSolution}
use Rattle.lusource.specs.Faults.{IsSourceFault}

-- of a link: its variable and the names of that variable's type, by which its data are spelled, the sites
-- that send and receive, what was taken from it, and how many messages wait in it
pub record LinkLine : Type 0 where
  pub variable : List ℕ
  pub names : List (List ℕ)
  pub from : List ℕ
  pub to : List ℕ
  pub taken : List Body
  pub waiting : ℕ

-- how a site stands: it has done all that it had to, has more to do, or was stopped by a fault
pub data Ending : Type 0 where
  ended : Ending
  open_yet : Ending
  faulted : (variable : List ℕ) (instant : ℕ) (kind : FaultKind) → Ending

pub record SiteLine : Type 0 where
  pub name : List ℕ
  pub ending : Ending

-- of an output: its name, the names of its type, by which its data are spelled, and its statuses so far
pub record OutputLine : Type 0 where
  pub name : List ℕ
  pub names : List (List ℕ)
  pub statuses : List Status

pub record RunReport : Type 0 where
  pub links : List LinkLine
  pub sites : List SiteLine
  pub outputs : List OutputLine

-- the line of each site says that it has ended
abbrev pub HasEndedSites : RunReport → Type 0
HasEndedSites reported = All (λ (site : SiteLine). site.ending ≡ ended) reported.sites

-- what a solution of the source gives to a variable of the main node, at all instants of the table
abbrev pub main_marks : InputsView → SourceStreams → List ℕ → List Mark
main_marks inputs σ x = marks (σ [] x) inputs.instants

-- What was taken from a link is a prefix of its variable's present values, each once and in order, with the
-- close behind them; and there are no more messages than those.
pub record IsLinkTrue (inputs : InputsView) (σ : SourceStreams) (link : LinkLine) : Type 0 where
  pub taken : IsPrefixOf link.taken (carried_bodies (main_marks inputs σ link.variable))
  pub waiting : length link.taken + link.waiting ≤ length (carried_bodies (main_marks inputs σ link.variable))

-- all of them were taken
abbrev pub IsLinkWhole : InputsView → SourceStreams → LinkLine → Type 0
IsLinkWhole inputs σ link = link.taken ≡ carried_bodies (main_marks inputs σ link.variable)

-- what was reported of an output is a prefix of its variable's statuses; all of them
abbrev pub IsOutputTrue : InputsView → SourceStreams → OutputLine → Type 0
IsOutputTrue inputs σ output = IsPrefixOf (map Known output.statuses) (main_marks inputs σ output.name)

abbrev pub IsOutputWhole : InputsView → SourceStreams → OutputLine → Type 0
IsOutputWhole inputs σ output = map Known output.statuses ≡ main_marks inputs σ output.name

-- a fault that is reported is one of the source: an operator in the equation of this variable, or in an
-- instance of a call there, has no result at this instant
abbrev pub IsEndingTrue : ProgramTree → List ℕ → InputsView → SourceStreams → Ending → Type 0
IsEndingTrue program main inputs σ ended = Unit {0}
IsEndingTrue program main inputs σ open_yet = Unit {0}
IsEndingTrue program main inputs σ (faulted variable instant kind) =
    IsSourceFault program main inputs σ variable instant kind

abbrev pub IsSiteTrue : ProgramTree → List ℕ → InputsView → SourceStreams → SiteLine → Type 0
IsSiteTrue program main inputs σ site = IsEndingTrue program main inputs σ site.ending

-- the names of a type of a program with these types, in order of declaration; none where it is no enumeration
abbrev pub names_of : List TypeTree → Option Kind → List (List ℕ)
names_of types None = []
names_of types (Some kinds.Int) = []
names_of types (Some kinds.Bool) = []
names_of types (Some (kinds.Enum place size)) =
    unwrap_or (option_map (λ (t : TypeTree). t.names) (slice_get types place)) []

-- those of the type of a variable of the main node
abbrev pub names_reported : ProgramTree → List ℕ → List ℕ → List (List ℕ)
names_reported program main x = names_of program.types (option_and_then (λ (n : NodeTree). kind_of n x)
    (node_called program main))

-- What is reported is true of the source program at the table: for each of its synchronous solutions, of each
-- link, of each site's fault and of each output. Where every site has ended, links and outputs are whole.
-- Data are spelled by the names that the program declares.
pub record IsTrueOf (program : ProgramTree) (main : List ℕ) (inputs : InputsView)
    (reported : RunReport) : Type 0 where
  pub links : (σ : SourceStreams) → IsSourceSolution program main inputs σ
      → All (IsLinkTrue inputs σ) reported.links
  pub faults : (σ : SourceStreams) → IsSourceSolution program main inputs σ
      → All (IsSiteTrue program main inputs σ) reported.sites
  pub outputs : (σ : SourceStreams) → IsSourceSolution program main inputs σ
      → All (IsOutputTrue inputs σ) reported.outputs
  pub links_whole : (σ : SourceStreams) → IsSourceSolution program main inputs σ → HasEndedSites reported
      → All (IsLinkWhole inputs σ) reported.links
  pub outputs_whole : (σ : SourceStreams) → IsSourceSolution program main inputs σ → HasEndedSites reported
      → All (IsOutputWhole inputs σ) reported.outputs
  pub link_names : All (λ (link : LinkLine). link.names ≡ names_reported program main link.variable)
      reported.links
  pub output_names : All (λ (output : OutputLine). output.names ≡ names_reported program main output.name)
      reported.outputs
