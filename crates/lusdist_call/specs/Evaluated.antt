-- What an evaluation prints and dumps, and what it says of a fault.
use Rattle.std.specs.Prelude.{◌≡◌, ◌<◌, ℕ, Bool, false, List, [], map, Option, Some, None, slice_get}
use Rattle.std.specs.Prelude.{IsUtf8, if◌then◌else◌}
use Rattle.lutree.specs.Tree.{ProgramTree}
use Rattle.lutree.specs.declared.program.Kind.{Kind}
use Rattle.luflow.specs.declared.form.FaultKind.{FaultKind}
use Rattle.luflow.specs.declared.variable.Enum.{Enum}
use Rattle.luflow.specs.declared.variable.Variable.{Variable}
use Rattle.luflow.specs.Program.{FlatView, InputsView}
use Rattle.luflow.specs.Streams.{Known, Streams}
use Rattle.luflow.specs.Messages.{marks}
use Rattle.luflow.specs.Solution.{IsSolution}
use Rattle.luflow.specs.Tables.{OutputColumn}
use Rattle.luflow.specs.Variables.{inputs_of, outputs_of}
use Rattle.lusource.specs.Source.{SourceStreams, IsSourceSolution}
use Rattle.lusource.specs.Faults.{IsSourceFault}
use Rattle.lusource.specs.Agreement.{Agrees, HasOneMeaning}
use Rattle.lusyn.specs.Texts.{SpellsText}
use Rattle.lucore.specs.Result.{IsFlatOf}
use Rattle.lueval.specs.Whole.{IsFirstFault, HasNoFault}
use Rattle.lutab.specs.Table.{IsTextOf, is_too_long}
use Rattle.lutab.specs.Outputs.{column_text}
use Rattle.lutab.specs.Aligned.{aligned_text}
use Rattle.luchart.specs.Chronogram.{chart_text}
use Rattle.luchart.specs.Dump.{dump_text}
use Rattle.luflow.specs.Faults.{IsFault}
use Rattle.lusdist_shell.specs.declared.request.EvalRequest.{EvalRequest}
use Rattle.lusdist_call.specs.Files.{dump_for, wave_path}
use Rattle.lusdist_call.specs.Mistakes.{mistake_in}
use Rattle.clap.specs.Walk.{texts}
use Rattle.luinside.specs.declared.variables.DeepVariable.{DeepVariable}
use Rattle.luinside.specs.Variables.{InstanceVariable}
use Rattle.luchart.specs.Signals.{signals_of}
use Rattle.lusdist_call.specs.Shown.{AreShown, IsListOf, kinds_of, listed_kinds, listed_names, names_of}
use Rattle.lusdist_call.specs.Violations.{unobserved, violations}
use Rattle.lusdist_call.specs.declared.call_error.CallError.{CallError}
use Rattle.lusdist_call.specs.declared.call_error.CallError.TheVariants.{Fault, OutOfMemory}
use Rattle.lusdist_shell.specs.Files.{FileFacts}

-- The program that a text spells, with its flat program and the table that another text says, which fits it
-- and isn't too long.
-- At that table the program has one meaning.
pub record IsPosed (text main table : List ℕ) (tree : ProgramTree) (flat : FlatView)
    (inputs : InputsView) : Type 0 where
  pub spelled : SpellsText text tree
  pub flat_is : IsFlatOf tree main flat
  pub table_is : IsTextOf flat.types (inputs_of flat.variables) inputs table
  pub short : is_too_long table ≡ false
  pub utf8 : IsUtf8 table
  pub agrees : Agrees tree main inputs flat
  pub one_meaning : HasOneMeaning tree main inputs

-- what the first n instants of these variables are, in this order: each by its name, with what every solution
-- of the program gives it
pub record AreVariablesAt (tree : ProgramTree) (main : List ℕ) (inputs : InputsView)
    (shown : List InstanceVariable) (n : ℕ) (columns : List OutputColumn) : Type 0 where
  pub named : map (λ (c : OutputColumn). c.name) columns ≡ names_of tree main shown
  pub streams : (σ : SourceStreams) → IsSourceSolution tree main inputs σ
      → (k : ℕ) (x : InstanceVariable) (c : OutputColumn)
      → slice_get shown k ≡ Some x → slice_get columns k ≡ Some c
      → map Known c.statuses ≡ marks (σ x.path x.variable.name) n

-- the same of all instants of the table; and no operator is a fault, neither of the flat program nor of the
-- source
pub record AreVariablesOf (tree : ProgramTree) (main : List ℕ) (flat : FlatView) (inputs : InputsView)
    (shown : List InstanceVariable) (columns : List OutputColumn) : Type 0 where
  pub at_all : AreVariablesAt tree main inputs shown inputs.instants columns
  pub no_fault : HasNoFault flat inputs
  pub no_source_fault : (σ : SourceStreams) → IsSourceSolution tree main inputs σ → (name : List ℕ) (t : ℕ)
      (kind : FaultKind) → t < inputs.instants → ¬ IsSourceFault tree main inputs σ name t kind

-- The outputs of the main node by name, in order of declaration, each with what every solution of the program
-- gives that variable at all instants of the table; and no operator is a fault, neither of the flat program nor
-- of the source.
pub record AreOutputsOf (tree : ProgramTree) (main : List ℕ) (flat : FlatView) (inputs : InputsView)
    (outputs : List OutputColumn) : Type 0 where
  pub named : map (λ (c : OutputColumn). c.name) outputs
      ≡ map (λ (x : Variable). x.name) (outputs_of flat.variables)
  pub streams : (σ : SourceStreams) → IsSourceSolution tree main inputs σ → (k : ℕ) (c : OutputColumn)
      → slice_get outputs k ≡ Some c → map Known c.statuses ≡ marks (σ [] c.name) inputs.instants
  pub no_fault : HasNoFault flat inputs
  pub no_source_fault : (σ : SourceStreams) → IsSourceSolution tree main inputs σ → (name : List ℕ) (t : ℕ)
      (kind : FaultKind) → t < inputs.instants → ¬ IsSourceFault tree main inputs σ name t kind

-- columns of these variables, in this order: each by its name, with what its flow has at the first n instants
-- in every solution of the flat program
pub record AreEvaluated (flat : FlatView) (inputs : InputsView) (list : List DeepVariable) (n : ℕ)
    (columns : List OutputColumn) : Type 0 where
  pub named : map (λ (c : OutputColumn). c.name) columns ≡ listed_names list
  pub each : (σ : Streams) → IsSolution flat inputs σ → (k : ℕ) (d : DeepVariable) (c : OutputColumn)
      → slice_get list k ≡ Some d → slice_get columns k ≡ Some c
      → map Known c.statuses ≡ marks (σ d.flow) n

-- a table with a line for each instant, fields joined by commas or with its columns aligned
abbrev pub tabled_text : Bool → List Enum → List Kind → List OutputColumn → List ℕ
tabled_text aligned types kinds columns =
    if aligned then aligned_text types kinds columns else column_text types kinds columns

-- Columns of these types, in the form that a request asks for: as a table, or as a chart of the instants from
-- one to another.
abbrev pub shown_text : EvalRequest → List Enum → List Kind → List OutputColumn → List ℕ
shown_text request types kinds columns =
    if request.chronogram then chart_text types kinds columns request.from request.to
    else tabled_text request.aligned types kinds columns

-- the dump of columns of these types
abbrev pub wave_text : EvalRequest → List Enum → List Kind → List OutputColumn → List ℕ
wave_text request types kinds columns = dump_text request.main.now types kinds columns

-- what is told of outputs that are observed, among columns of these types
abbrev pub eval_notes : EvalRequest → List Enum → List Kind → List OutputColumn → List ℕ
eval_notes request types kinds columns =
    violations (texts request.always.now) (signals_of types kinds columns)

-- what a request asks for of variables of a flat program at a table, as a text, the dump of it where one is
-- asked for, and what is told of outputs that are observed
pub record IsShown (request : EvalRequest) (flat : FlatView) (inputs : InputsView) (list : List DeepVariable)
    (text notes : List ℕ) (dump : Option (List ℕ)) : Type 0 where
  pub columns : List OutputColumn
  pub are_columns : AreEvaluated flat inputs list inputs.instants columns
  pub no_fault : HasNoFault flat inputs
  pub text_is : text ≡ shown_text request flat.types (listed_kinds list) columns
  pub dump_is : dump ≡ dump_for (wave_path request) (wave_text request flat.types (listed_kinds list) columns)
  pub notes_are : notes ≡ eval_notes request flat.types (listed_kinds list) columns

-- where a dump is asked for, that of what these variables have at the first n instants
abbrev pub IsShownBefore : EvalRequest → FlatView → InputsView → List DeepVariable → ℕ → Option (List ℕ)
    → Option (List ℕ) → Type 0
IsShownBefore request flat inputs list n None dump = dump ≡ None
IsShownBefore request flat inputs list n (Some path) dump = (columns : List OutputColumn)
    × AreEvaluated flat inputs list n columns
    × (dump ≡ Some (wave_text request flat.types (listed_kinds list) columns))

-- no operator is a fault before an instant
abbrev pub HasNoFaultBefore : FlatView → InputsView → ℕ → Type 0
HasNoFaultBefore flat inputs n = (σ : Streams) → IsSolution flat inputs σ → (t q i : ℕ) (kind : FaultKind)
    → slice_get flat.order q ≡ Some i → t < n → ¬ IsFault flat inputs σ i t kind

-- the program and the table that the files of a request gave
pub record IsPosedBy (gives : FileFacts) (request : EvalRequest) (flat : FlatView)
    (inputs : InputsView) : Type 0 where
  pub program : List ℕ
  pub table : List ℕ
  pub program_given : gives request.program.now (Some program)
  pub table_given : gives request.table.now (Some table)
  pub tree : ProgramTree
  pub posed : IsPosed program request.main.now table tree flat inputs

-- with the list of the variables that it shows
pub record IsPosedWith (gives : FileFacts) (request : EvalRequest) (flat : FlatView) (inputs : InputsView)
    (list : List DeepVariable) : Type 0 where
  pub posed : IsPosedBy gives request flat inputs
  pub list_of : IsListOf request posed.tree flat list

-- The text of an evaluation: the outputs of the program that the files of a request gave, or all variables
-- of its main node, or those of all instances, at the table that they gave; as a table or as a chart. The
-- dump, where one is asked for, is that of the same variables. The notes are what is told of outputs that are
-- observed.
pub record IsEvaluated (gives : FileFacts) (request : EvalRequest) (text notes : List ℕ)
    (dump : Option (List ℕ)) : Type 0 where
  pub meant : mistake_in request ≡ None
  pub flat : FlatView
  pub inputs : InputsView
  pub asked : IsPosedBy gives request flat inputs
  pub shown : List InstanceVariable
  pub are_shown : AreShown request asked.tree flat shown
  pub columns : List OutputColumn
  pub are_columns : AreVariablesOf asked.tree request.main.now flat inputs shown columns
  pub text_is : text ≡ shown_text request flat.types (kinds_of shown) columns
  pub dump_is : dump ≡ dump_for (wave_path request) (wave_text request flat.types (kinds_of shown) columns)
  pub observed : unobserved flat.variables (texts request.always.now) ≡ None
  pub notes_are : notes ≡ eval_notes request flat.types (kinds_of shown) columns

-- the fault of the least instant, and there of the least rank, by the name of the main variable in whose
-- equation it stands
pub record IsFaultReported (flat : FlatView) (inputs : InputsView) (name : List ℕ) (instant : ℕ)
    (kind : FaultKind) : Type 0 where
  pub variable : ℕ
  pub is : Variable
  pub there : slice_get flat.variables variable ≡ Some is
  pub named : name ≡ is.name
  pub first : (σ : Streams) → IsSolution flat inputs σ → IsFirstFault flat inputs σ variable instant kind

-- a stop reports this fault, of the variable of this number, or that memory ran out
abbrev pub IsStopFor : FlatView → ℕ → ℕ → FaultKind → CallError → Type 0
IsStopFor flat variable instant kind (Fault name t k) = (x : Variable)
    × (slice_get flat.variables variable ≡ Some x) × (name ≡ x.name) × (t ≡ instant) × (k ≡ kind)
IsStopFor flat variable instant kind OutOfMemory = Unit {0}
IsStopFor flat variable instant kind _ = ⊥

-- an evaluation of a flat program stops at its first fault, or where memory ran out
abbrev pub IsStopped : FlatView → InputsView → CallError → Type 0
IsStopped flat inputs (Fault name instant kind) = IsFaultReported flat inputs name instant kind
IsStopped flat inputs OutOfMemory = Unit {0}
IsStopped flat inputs _ = ⊥

-- where it stops at a fault, the dump has all instants before it; else there is none
abbrev pub IsShownTo : EvalRequest → FlatView → InputsView → List DeepVariable → CallError
    → Option (List ℕ) → Type 0
IsShownTo request flat inputs list (Fault name instant kind) dump =
    IsShownBefore request flat inputs list instant (wave_path request) dump
IsShownTo request flat inputs list _ dump = dump ≡ None

-- a stop that reports no fault of an evaluation
abbrev pub IsNoFault : CallError → Type 0
IsNoFault stop = (name : List ℕ) (instant : ℕ) (kind : FaultKind) → stop ≡ Fault name instant kind → ⊥

-- The dump of an evaluation that stops at a fault: the variables that the request asks for, of the program
-- and at the table that its files gave and that have this fault, at all instants before it.
pub record IsDumpedBefore (gives : FileFacts) (request : EvalRequest) (name : List ℕ) (instant : ℕ)
    (kind : FaultKind) (dump : Option (List ℕ)) : Type 0 where
  pub flat : FlatView
  pub inputs : InputsView
  pub asked : IsPosedBy gives request flat inputs
  pub reported : IsFaultReported flat inputs name instant kind
  pub shown : List InstanceVariable
  pub are_shown : AreShown request asked.tree flat shown
  pub columns : List OutputColumn
  pub are_columns : AreVariablesAt asked.tree request.main.now inputs shown instant columns
  pub dump_is : dump ≡ Some (wave_text request flat.types (kinds_of shown) columns)

abbrev pub IsPartDump : FileFacts → EvalRequest → List ℕ → ℕ → FaultKind → Option (List ℕ)
    → Option (List ℕ) → Type 0
IsPartDump gives request name instant kind None dump = dump ≡ None
IsPartDump gives request name instant kind (Some path) dump =
    IsDumpedBefore gives request name instant kind dump

-- the dump of an evaluation that stops: that of the instants before a fault, where one is asked for; else
-- none
abbrev pub IsDumpedTo : FileFacts → EvalRequest → CallError → Option (List ℕ) → Type 0
IsDumpedTo gives request (Fault name instant kind) dump =
    IsPartDump gives request name instant kind (wave_path request) dump
IsDumpedTo gives request _ dump = dump ≡ None

-- The first fault of the program and the table that the files of a request gave. It is a fault of the source:
-- in each solution of the program an operator in the equation of that variable, or in an instance of a call
-- there, has no result at that instant.
pub record IsFaultOf (gives : FileFacts) (request : EvalRequest) (name : List ℕ) (instant : ℕ)
    (kind : FaultKind) : Type 0 where
  pub flat : FlatView
  pub inputs : InputsView
  pub asked : IsPosedBy gives request flat inputs
  pub reported : IsFaultReported flat inputs name instant kind
  pub source : (σ : SourceStreams) → IsSourceSolution asked.tree request.main.now inputs σ
      → IsSourceFault asked.tree request.main.now inputs σ name instant kind
  pub observed : unobserved flat.variables (texts request.always.now) ≡ None
