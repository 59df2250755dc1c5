-- What an evaluation gives, in the words of the source.
use Rattle.std.proofs.Common.{◌≡◌, ◌⊎◌, ◌<◌, ◌≤◌, ◌+◌, ℕ, zero, suc, Bool, true, false, cond, List, [], ◌∷◌, length, map, refl, sym, ap, ap₂, ◌∙◌, subst, inl, inr, arith}
use Rattle.std.specs.Prelude.{Result, Ok, Err, Option, Some, None, IfOk, IfErr, option_map, slice_get, string_bytes, IsUtf8}
use Rattle.lutree.specs.Tree.{ProgramTree}
use Rattle.luflow.specs.declared.data.Status.{Status}
use Rattle.luflow.specs.Program.{FlatView, InputsView}
use Rattle.luflow.specs.declared.form.FaultKind.{FaultKind}
use Rattle.luflow.specs.Streams.{Mark, Stream, Streams}
use Rattle.luflow.specs.Messages.{marks}
use Rattle.luflow.specs.Flats.{IsFlat}
use Rattle.luflow.specs.Solution.{IsSolution, solution}
use Rattle.luflow.proofs.Solutions.{IsSolution-solution}
use Rattle.lusource.specs.Source.{SourceStreams, IsSourceSolution}
use Rattle.lusource.specs.Faults.{IsSourceFault}
use Rattle.luchart.specs.Cut.{cut}
use Rattle.luchart.proofs.CutLaws.{same_before, fault_there}
use Rattle.std.specs.List.{range_with_len}
use Rattle.std.proofs.lemmas.Option.{slice_get-map}
use Rattle.luflow.specs.Tables.{OutputColumn, FitsProgram}
use Rattle.luflow.specs.declared.variable.Variable.{Variable}
use Rattle.luflow.specs.Variables.{inputs_of, outputs_of, is_output}
use Rattle.lusyn.specs.Texts.{SpellsText}
use Rattle.lucore.specs.Result.{IsFlatOf}
use Rattle.lueval.specs.Whole.{AreStreams, AreWholeColumns, AreWholeOutputs, HasNoFault, IsFirstFault}
use Rattle.lueval_lines.specs.declared.error.EvalError.{EvalError}
use Rattle.lueval_lines.specs.Outputs.{outputs_in, columns_in}
use Rattle.lutab.specs.Table.{IsTextOf, is_too_long}
use Rattle.lusdist_shell.specs.declared.request.EvalRequest.{EvalRequest}
use Rattle.lusdist_call.specs.declared.call_error.CallError.{CallError}
use Rattle.lusdist_call.specs.declared.call_error.CallError.TheVariants.{CannotRead, CannotWrite, NotAscii, Syntax, Rules, Flat, Place, Table as BadTable, Schedule, Fault, LinkLost, NoThread, OutOfMemory, Mistaken}
use Rattle.luinside.specs.declared.variables.DeepVariable.{DeepVariable}
use Rattle.luinside.specs.Columns.{AreFlowColumns}
use Rattle.luinside.specs.Variables.{deep_variable}
use Rattle.lusdist_call.specs.Asked.{IsFlatAt, IsTableAt}
use Rattle.lusdist_call.specs.Shown.{IsListFor, IsListOf, IsShownAt, kinds_of, listed_from, listed_kinds, listed_names}
use Rattle.lusdist_answers.proofs.Lists.{kinds_same, listed_inside, names_same, output_at, output_names, variable_at, variable_names}
use Rattle.lusdist_call.specs.Evaluated.{eval_notes, shown_text, wave_text}
use Rattle.lusdist_call.specs.Evaluated.{AreEvaluated, AreVariablesAt, AreVariablesOf, HasNoFaultBefore, IsDumpedTo, IsEvaluated, IsNoFault, IsPartDump, IsPosed, IsPosedBy, IsPosedWith, IsShown, IsShownBefore, IsShownTo, IsStopped, IsFaultReported}
use Rattle.lutree.specs.Places.{ProgramPlaces}
use Rattle.luflow.specs.declared.variable.Enum.{Enum}
use Rattle.clap.specs.Walk.{texts}
use Rattle.lusdist_call.specs.Violations.{has_lines, unobserved}
use Rattle.lusdist_call.specs.Refused.{IsReportedOf, IsProgramRefused, IsTableRefused}
use Rattle.lusdist_call.specs.Refused.IsReportedOf.{rule, flat as reported_flat}
use Rattle.lusdist_call.specs.Files.{IsUnread, dump_for, wave_path}
use Rattle.lusdist_call.specs.Mistakes.{mistake_in}
use Rattle.lusdist_call.specs.Answers.{IsReplyTo}
use Rattle.lusdist_call.specs.declared.reply.Reply.{Reply}
use Rattle.lusdist_call.specs.declared.refusal.Refusal.{Refusal}
use Rattle.lusdist_shell.specs.declared.request.Request.TheVariants.{Eval}
use Rattle.lusdist_call.specs.Stopped.{IsEvalStopped, IsRefusalOf, IsUnobserved}
use Rattle.lusdist_call.specs.declared.mistake.Mistake.TheVariants.{Unobserved}
use Rattle.lusdist_call.specs.Stopped.IsEvalStopped.{eval_fault, eval_memory}
use Rattle.lusdist_call.specs.Stopped.IsEvalRefused.{eval_stopped}
use Rattle.lusdist_shell.specs.Files.{FileFacts}

-- the outputs among the streams of the main variables
pub are_evaluated : (flat : FlatView) (inputs : InputsView) (streams : List (List Status)) (outputs : List OutputColumn) → AreStreams flat inputs streams → outputs ≡ outputs_in flat.variables streams → AreEvaluated flat inputs (listed_from false 0 flat.variables) inputs.instants outputs
are_evaluated flat inputs streams outputs are is =
    record {
      named = ap (map (λ (c : OutputColumn). c.name)) is ∙ output_names 0 flat.variables streams (sym are.count);
      each = λ σ solves k d c at there.
          let w = output_at 0 flat.variables streams k d c at (ap (λ xs. slice_get xs k) (sym is) ∙ there) in
          let flow : w.0 ≡ d.flow = sym (w.1 ∙ omega arith) in
          are.each σ solves w.0 c.statuses w.2 ∙ ap (λ v. marks (σ v) inputs.instants) flow;
    }

-- all streams of the main variables
pub all_evaluated : (flat : FlatView) (inputs : InputsView) (streams : List (List Status)) (columns : List OutputColumn) → AreStreams flat inputs streams → columns ≡ columns_in flat.variables streams → AreEvaluated flat inputs (listed_from true 0 flat.variables) inputs.instants columns
all_evaluated flat inputs streams columns are is =
    record {
      named = ap (map (λ (c : OutputColumn). c.name)) is ∙ variable_names 0 flat.variables streams (sym are.count);
      each = λ σ solves k d c at there.
          let w = variable_at 0 flat.variables streams k d c at (ap (λ xs. slice_get xs k) (sym is) ∙ there) in
          let flow : w.0 ≡ d.flow = sym (w.1 ∙ omega arith) in
          are.each σ solves w.0 c.statuses w.2 ∙ ap (λ v. marks (σ v) inputs.instants) flow;
    }

-- so are those that an evaluation answers
pub outputs_from : (r : Result (List OutputColumn) EvalError) (flat : FlatView) (inputs : InputsView) → IfOk r (AreWholeOutputs flat inputs) → IfOk r (AreEvaluated flat inputs (listed_from false 0 flat.variables) inputs.instants)
outputs_from (Ok outputs) flat inputs are = are_evaluated flat inputs are.streams outputs are.solution are.are
outputs_from (Err e) flat inputs are = tt

pub columns_from : (r : Result (List OutputColumn) EvalError) (flat : FlatView) (inputs : InputsView) → IfOk r (AreWholeColumns flat inputs) → IfOk r (AreEvaluated flat inputs (listed_from true 0 flat.variables) inputs.instants)
columns_from (Ok columns) flat inputs are = all_evaluated flat inputs are.streams columns are.solution are.are
columns_from (Err e) flat inputs are = tt

pub listed_from_flows : (r : Result (List OutputColumn) EvalError) (flat : FlatView) (inputs : InputsView) (list : List DeepVariable) → IfOk r (AreFlowColumns flat inputs list) → IfOk r (AreEvaluated flat inputs list inputs.instants)
listed_from_flows (Ok columns) flat inputs list are = record { named = are.names; each = are.streams }
listed_from_flows (Err e) flat inputs list are = tt

more_one : (b : Bool) (x : Variable) (os xs : List Variable) → length os ≤ length xs → length (cond b (x ∷ os) os) ≤ length (x ∷ xs)
more_one true x os xs le = omega (arith, le)
more_one false x os xs le = omega (arith, le)

few : (xs : List Variable) → length (outputs_of xs) ≤ length xs
few [] = omega arith
few (x ∷ xs) = more_one (is_output x.role) x (outputs_of xs) xs (few xs)

-- a program with an output has a main variable
pub some_variable : (xs : List Variable) → 0 < length (outputs_of xs) → 0 < length xs
some_variable xs some = let le = few xs in omega (arith, some, le)

marks_same : (s r : Stream) (a n : ℕ) → ((t : ℕ) → t < a + n → s t ≡ r t) → map s (range_with_len a n) ≡ map r (range_with_len a n)
marks_same s r a zero same = refl
marks_same s r a (suc n) same = ap₂ (λ (m : Mark) (ms : List Mark). m ∷ ms) (same a (omega arith)) (marks_same s r (a + 1) n (λ t lt. same t (omega (arith, lt))))

-- what the columns of listed variables have is what the source gives those that are shown
pub at_source : (text table : List ℕ) (tree : ProgramTree) (request : EvalRequest) (flat : FlatView) (inputs : InputsView) (list : List DeepVariable) (n : ℕ) (columns : List OutputColumn) → IsPosed text request.main.now table tree flat inputs → (l : IsListOf request tree flat list) → AreEvaluated flat inputs list n columns
    → AreVariablesAt tree request.main.now inputs l.shown n columns
at_source text table tree request flat inputs list n columns posed l are =
    let main = request.main.now in
    record {
      named = are.named ∙ ap listed_names l.listed ∙ names_same tree main l.shown;
      streams = λ σ solves k x c at there.
          let f = l.meant inputs posed.agrees σ solves in
          let listed : slice_get list k ≡ Some (deep_variable tree main x) = ap (λ xs. slice_get xs k) l.listed ∙ slice_get-map (deep_variable tree main) l.shown k ∙ ap (option_map (deep_variable tree main)) at in
          are.each f.0 f.1 k (deep_variable tree main x) c listed there
          ∙ marks_same (f.0 x.flow) (σ x.path x.variable.name) 0 n (λ t lt. f.2 k t x at);
    }

-- so it is at all instants of a table at which no operator is a fault
pub of_source : (text table : List ℕ) (tree : ProgramTree) (request : EvalRequest) (flat : FlatView) (inputs : InputsView) (list : List DeepVariable) (columns : List OutputColumn) → IsPosed text request.main.now table tree flat inputs → (l : IsListOf request tree flat list) → AreEvaluated flat inputs list inputs.instants columns → HasNoFault flat inputs
    → AreVariablesOf tree request.main.now flat inputs l.shown columns
of_source text table tree request flat inputs list columns posed l are fine =
    record {
      at_all = at_source text table tree request flat inputs list inputs.instants columns posed l are;
      no_fault = fine;
      no_source_fault = λ σ solves name t kind early fault.
          let solution_is = IsSolution-solution flat inputs posed.flat_is.is_flat.ordered in
          let found = posed.flat_is.all_faults inputs σ (solution flat inputs) solves solution_is name t kind fault in
          fine (solution flat inputs) solution_is found.0 t kind early found.1;
    }

-- columns at a table that is cut are those of the instants that are left
pub are_before : (deep all : Bool) (flat : FlatView) (inputs : InputsView) (list : List DeepVariable) (n : ℕ) (columns : List OutputColumn) → IsFlat flat → IsListFor deep all flat list → n ≤ inputs.instants → AreEvaluated flat (cut n inputs) list n columns → AreEvaluated flat inputs list n columns
are_before deep all flat inputs list n columns is_flat is_list le are =
    record {
      named = are.named;
      each = λ σ solves k d c at there.
          let part = IsSolution-solution flat (cut n inputs) is_flat.ordered in
          let inside = listed_inside deep all flat list is_flat is_list k d at in
          are.each (solution flat (cut n inputs)) part k d c at there
          ∙ marks_same (solution flat (cut n inputs) d.flow) (σ d.flow) 0 n (λ t lt. same_before n inputs le flat is_flat.ordered σ (solution flat (cut n inputs)) solves part d.flow t inside (omega (arith, lt)));
    }

-- before the first fault there is none
pub none_before : (flat : FlatView) (inputs : InputsView) (variable instant : ℕ) (kind : FaultKind) → ((σ : Streams) → IsSolution flat inputs σ → IsFirstFault flat inputs σ variable instant kind) → HasNoFaultBefore flat inputs instant
none_before flat inputs variable instant kind reported σ solves t q i other at early fault =
    let first = reported σ solves in
    first.first t q i other at (inl early) fault

-- where there is none before an instant, there is none at the table that is cut there
pub cut_fine : (flat : FlatView) (inputs : InputsView) (n variable instant : ℕ) (kind : FaultKind) → IsFlat flat → n ≤ inputs.instants → HasNoFaultBefore flat inputs n → ((σ : Streams) → IsSolution flat (cut n inputs) σ → IsFirstFault flat (cut n inputs) σ variable instant kind) → ⊥
cut_fine flat inputs n variable instant kind is_flat le none reported =
    let ordered = is_flat.ordered in
    let whole = IsSolution-solution flat inputs ordered in
    let part = IsSolution-solution flat (cut n inputs) ordered in
    let first = reported (solution flat (cut n inputs)) part in
    none (solution flat inputs) whole instant first.rank first.place kind first.ranked first.early
    (fault_there n inputs le flat ordered (solution flat inputs) (solution flat (cut n inputs)) whole part first.place instant kind first.early first.fault)

-- a program and a table that are posed
pub posed : (text main table : List ℕ) (tree : ProgramTree) (flat : FlatView) (inputs : InputsView) → SpellsText text tree → IsFlatOf tree main flat → IsTextOf flat.types (inputs_of flat.variables) inputs table → is_too_long table ≡ false → IsUtf8 table → FitsProgram flat inputs → IsPosed text main table tree flat inputs
posed text main table tree flat inputs spelled flat_is table_is short utf8 fits =
    let columns = flat_is.columns inputs fits in
    record { spelled = spelled; flat_is = flat_is; table_is = table_is; short = short; utf8 = utf8; agrees = flat_is.agrees inputs columns; one_meaning = flat_is.one_meaning inputs columns }

-- the flat program of an evaluation that shows some of it
abbrev pub flat_shown : (gives : FileFacts) (request : EvalRequest) (flat : FlatView) (list : List DeepVariable) → IsShownAt gives request flat list → IsFlatAt gives request.program.now request.main.now flat
flat_shown gives request flat list at = record { program = at.program; given = at.given; flat_is = at.has.has }

-- so they are of the files of a request
abbrev pub posed_at : (gives : FileFacts) (request : EvalRequest) (flat : FlatView) (inputs : InputsView) → (at : IsFlatAt gives request.program.now request.main.now flat) → (here : IsTableAt gives request.table.now flat inputs) → IsPosedBy gives request flat inputs
posed_at gives request flat inputs at here = record {
  program = at.program;
  table = here.table;
  program_given = at.given;
  table_given = here.given;
  tree = at.flat_is.tree;
  posed = posed at.program request.main.now here.table at.flat_is.tree flat inputs at.flat_is.spelled at.flat_is.flat_is here.text here.short here.utf8 here.fits;
}

-- the fault that is reported is one of the source
source_fault : (gives : FileFacts) (request : EvalRequest) (flat : FlatView) (inputs : InputsView) (asked : IsPosedBy gives request flat inputs) (name : List ℕ) (instant : ℕ) (kind : FaultKind) → IsFaultReported flat inputs name instant kind
    → (σ : SourceStreams) → IsSourceSolution asked.tree request.main.now inputs σ → IsSourceFault asked.tree request.main.now inputs σ name instant kind
source_fault gives request flat inputs asked name instant kind reported σ solves =
    let is = asked.posed.flat_is in
    let solution_is = IsSolution-solution flat inputs is.is_flat.ordered in
    let first = reported.first (solution flat inputs) solution_is in
    subst (λ n. IsSourceFault asked.tree request.main.now inputs σ n instant kind) (sym reported.named)
    (is.faults inputs σ (solution flat inputs) solves solution_is first.place reported.variable instant kind reported.is first.fault first.owner reported.there)

-- where an evaluation of them stops, what was asked for stops so
pub eval_stop : (gives : FileFacts) (request : EvalRequest) (flat : FlatView) (inputs : InputsView) → IsPosedBy gives request flat inputs → unobserved flat.variables (texts request.always.now) ≡ None → (stop : CallError) → IsStopped flat inputs stop → IsEvalStopped gives request stop
eval_stop gives request flat inputs asked observed (CannotRead path) reported = absurd reported
eval_stop gives request flat inputs asked observed (CannotWrite path) reported = absurd reported
eval_stop gives request flat inputs asked observed NotAscii reported = absurd reported
eval_stop gives request flat inputs asked observed (Syntax e) reported = absurd reported
eval_stop gives request flat inputs asked observed (Rules e) reported = absurd reported
eval_stop gives request flat inputs asked observed (Flat e) reported = absurd reported
eval_stop gives request flat inputs asked observed (Place e) reported = absurd reported
eval_stop gives request flat inputs asked observed (BadTable e) reported = absurd reported
eval_stop gives request flat inputs asked observed (Schedule e) reported = absurd reported
eval_stop gives request flat inputs asked observed (Fault name instant kind) reported = eval_fault name instant kind refl (record { flat = flat; inputs = inputs; asked = asked; reported = reported; source = source_fault gives request flat inputs asked name instant kind reported; observed = observed })
eval_stop gives request flat inputs asked observed LinkLost reported = absurd reported
eval_stop gives request flat inputs asked observed NoThread reported = absurd reported
eval_stop gives request flat inputs asked observed (Mistaken mistake) reported = absurd reported
eval_stop gives request flat inputs asked observed OutOfMemory reported = eval_memory refl

-- STOPS THAT TELL NO FAULT

pub unread_none : (gives : FileFacts) (path : List ℕ) (stop : CallError) → IsUnread gives path stop → IsNoFault stop
unread_none gives path stop h = λ name instant kind e. subst (IsUnread gives path) e h

pub program_none : (bytes : List ℕ) (stop : CallError) → IsProgramRefused bytes stop → IsNoFault stop
program_none bytes stop h = λ name instant kind e. subst (IsProgramRefused bytes) e h

pub table_none : (types : List Enum) (inputs : List Variable) (bytes : List ℕ) (stop : CallError) → IsTableRefused types inputs bytes stop → IsNoFault stop
table_none types inputs bytes stop h = λ name instant kind e. subst (IsTableRefused types inputs bytes) e h

pub reported_none : (tree : ProgramTree) (places : ProgramPlaces) (main : List ℕ) (stop : CallError) → IsReportedOf tree places main stop → IsNoFault stop
reported_none tree places main stop (rule refusal read is tells same there first) =
    λ name instant kind e. let clash : Rules refusal ≡ Fault name instant kind = sym is ∙ e in cc
reported_none tree places main stop (reported_flat refusal is accepted refuses) =
    λ name instant kind e. let clash : Flat refusal ≡ Fault name instant kind = sym is ∙ e in cc

-- a stop that reports no fault leaves no dump
pub none_dumped : (gives : FileFacts) (request : EvalRequest) (stop : CallError) → IsNoFault stop → IsDumpedTo gives request stop None
none_dumped gives request (CannotRead path) none = refl
none_dumped gives request (CannotWrite path) none = refl
none_dumped gives request NotAscii none = refl
none_dumped gives request (Syntax e) none = refl
none_dumped gives request (Rules e) none = refl
none_dumped gives request (Flat e) none = refl
none_dumped gives request (Place e) none = refl
none_dumped gives request (BadTable e) none = refl
none_dumped gives request (Schedule e) none = refl
none_dumped gives request (Fault name instant kind) none = absurd (none name instant kind refl)
none_dumped gives request LinkLost none = refl
none_dumped gives request NoThread none = refl
none_dumped gives request (Mistaken mistake) none = refl
none_dumped gives request OutOfMemory none = refl

-- the types of what is listed are those of what is shown
listed_types : (gives : FileFacts) (request : EvalRequest) (flat : FlatView) (inputs : InputsView) (list : List DeepVariable) (asked : IsPosedWith gives request flat inputs list) → listed_kinds list ≡ kinds_of asked.list_of.shown
listed_types gives request flat inputs list asked = ap listed_kinds asked.list_of.listed ∙ kinds_same asked.posed.tree request.main.now asked.list_of.shown

-- what was shown before a fault is a dump of the program's variables
part_dumped : (gives : FileFacts) (request : EvalRequest) (flat : FlatView) (inputs : InputsView) (list : List DeepVariable) → IsPosedWith gives request flat inputs list → (name : List ℕ) (instant : ℕ) (kind : FaultKind) → IsFaultReported flat inputs name instant kind → (path dump : Option (List ℕ))
    → IsShownBefore request flat inputs list instant path dump → IsPartDump gives request name instant kind path dump
part_dumped gives request flat inputs list asked name instant kind reported None dump h = h
part_dumped gives request flat inputs list asked name instant kind reported (Some path) dump (columns, are, is) = record {
  flat = flat;
  inputs = inputs;
  asked = asked.posed;
  reported = reported;
  shown = asked.list_of.shown;
  are_shown = asked.list_of.are_shown;
  columns = columns;
  are_columns = at_source asked.posed.program asked.posed.table asked.posed.tree request flat inputs list instant columns asked.posed.posed asked.list_of are;
  dump_is = is ∙ ap (λ kinds. Some (wave_text request flat.types kinds columns)) (listed_types gives request flat inputs list asked);
}

pub dumped_to : (gives : FileFacts) (request : EvalRequest) (flat : FlatView) (inputs : InputsView) (list : List DeepVariable) → IsPosedWith gives request flat inputs list → (stop : CallError) (dump : Option (List ℕ)) → IsStopped flat inputs stop → IsShownTo request flat inputs list stop dump → IsDumpedTo gives request stop dump
dumped_to gives request flat inputs list asked (CannotRead path) dump is h = h
dumped_to gives request flat inputs list asked (CannotWrite path) dump is h = h
dumped_to gives request flat inputs list asked NotAscii dump is h = h
dumped_to gives request flat inputs list asked (Syntax e) dump is h = h
dumped_to gives request flat inputs list asked (Rules e) dump is h = h
dumped_to gives request flat inputs list asked (Flat e) dump is h = h
dumped_to gives request flat inputs list asked (Place e) dump is h = h
dumped_to gives request flat inputs list asked (BadTable e) dump is h = h
dumped_to gives request flat inputs list asked (Schedule e) dump is h = h
dumped_to gives request flat inputs list asked (Fault name instant kind) dump is h = part_dumped gives request flat inputs list asked name instant kind is (wave_path request) dump h
dumped_to gives request flat inputs list asked LinkLost dump is h = h
dumped_to gives request flat inputs list asked NoThread dump is h = h
dumped_to gives request flat inputs list asked (Mistaken mistake) dump is h = h
dumped_to gives request flat inputs list asked OutOfMemory dump is h = h

-- what an evaluation shows is what was asked for
pub evaluated_reply : (gives : FileFacts) (request : EvalRequest) (flat : FlatView) (inputs : InputsView) (list : List DeepVariable) → mistake_in request ≡ None → IsPosedWith gives request flat inputs list → unobserved flat.variables (texts request.always.now) ≡ None → (r : Result Reply Refusal)
    → IfOk r (λ reply. IsShown request flat inputs list (string_bytes reply.text) (string_bytes reply.notes) (option_map string_bytes reply.dump)) → IfOk r (λ reply. reply.violated ≡ has_lines (string_bytes reply.notes)) → IfOk r (IsReplyTo gives (Eval request))
evaluated_reply gives request flat inputs list meant asked observed (Ok reply) h lines =
    let types = listed_types gives request flat inputs list asked in
    let is : IsEvaluated gives request (string_bytes reply.text) (string_bytes reply.notes) (option_map string_bytes reply.dump) = record {
      meant = meant;
      flat = flat;
      inputs = inputs;
      asked = asked.posed;
      shown = asked.list_of.shown;
      are_shown = asked.list_of.are_shown;
      columns = h.columns;
      are_columns = of_source asked.posed.program asked.posed.table asked.posed.tree request flat inputs list h.columns asked.posed.posed asked.list_of h.are_columns h.no_fault;
      text_is = h.text_is ∙ ap (λ kinds. shown_text request flat.types kinds h.columns) types;
      dump_is = h.dump_is ∙ ap (λ kinds. dump_for (wave_path request) (wave_text request flat.types kinds h.columns)) types;
      observed = observed;
      notes_are = h.notes_are ∙ ap (λ kinds. eval_notes request flat.types kinds h.columns) types;
    } in
    (is, lines)
evaluated_reply gives request flat inputs list meant asked observed (Err refusal) h lines = tt

pub evaluated_before : (gives : FileFacts) (request : EvalRequest) (flat : FlatView) (inputs : InputsView) (list : List DeepVariable) → IsPosedWith gives request flat inputs list → (r : Result Reply Refusal)
    → IfErr r (λ x. IsStopped flat inputs x.error) → IfErr r (λ x. IsShownTo request flat inputs list x.error (option_map string_bytes x.dump)) → IfErr r (λ x. IsDumpedTo gives request x.error (option_map string_bytes x.dump))
evaluated_before gives request flat inputs list asked (Ok reply) is h = tt
evaluated_before gives request flat inputs list asked (Err x) is h = dumped_to gives request flat inputs list asked x.error (option_map string_bytes x.dump) is h

-- an evaluation that stops is refused
pub eval_refusal : (gives : FileFacts) (request : EvalRequest) → mistake_in request ≡ None → (r : Result Reply Refusal)
    → IfErr r (λ x. IsEvalStopped gives request x.error) → IfErr r (λ x. IsDumpedTo gives request x.error (option_map string_bytes x.dump)) → IfErr r (IsRefusalOf gives (Eval request))
eval_refusal gives request meant (Ok reply) stops leaves = tt
eval_refusal gives request meant (Err x) stops leaves = record { stops = eval_stopped meant stops; leaves = leaves }

-- that memory ran out is no fault
pub memory_none : (stop : CallError) → stop ≡ OutOfMemory → IsNoFault stop
memory_none stop memory = λ name instant kind e. let clash : OutOfMemory ≡ Fault name instant kind = sym memory ∙ e in cc

-- a name that is no bool output is no fault, nor is it that memory ran out
pub observe_none : (flat : FlatView) (names : List (List ℕ)) (stop : CallError) → (stop ≡ OutOfMemory) ⊎ IsUnobserved flat names stop → IsNoFault stop
observe_none flat names stop (inl memory) = λ name instant kind e. let clash : OutOfMemory ≡ Fault name instant kind = sym memory ∙ e in cc
observe_none flat names stop (inr un) = λ name instant kind e. let clash : Mistaken (Unobserved un.name) ≡ Fault name instant kind = sym un.is ∙ e in cc
