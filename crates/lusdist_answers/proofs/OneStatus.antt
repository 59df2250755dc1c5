-- Two refusals of one request have one status.
use Rattle.std.proofs.Common.{◌≡◌, ℕ, List, Option, Some, None, refl, sym, ap, ◌∙◌, subst}
use Rattle.luflow.specs.Program.{FlatView, InputsView}
use Rattle.luflow.specs.Variables.{inputs_of}
use Rattle.luflow.specs.declared.form.FaultKind.{FaultKind}
use Rattle.luworld.specs.Needs.{PlanView, sites_of}
use Rattle.luworld.specs.Jobs.{JobView}
use Rattle.lusyn.specs.declared.error.SynError.TheVariants as syn
use Rattle.lustat_rules.specs.declared.error.StatError.TheVariants as rules
use Rattle.lucore.specs.declared.error.CoreError.TheVariants as core
use Rattle.luplace_file.specs.declared.error.PlaceError.TheVariants as place
use Rattle.lutab.specs.declared.error.TabError.TheVariants as tab
use Rattle.lusdist_shell.specs.declared.schedule.ScheduleError.TheVariants as schedule
use Rattle.lusdist_shell.specs.declared.request.EvalRequest.{EvalRequest}
use Rattle.lusdist_shell.specs.declared.request.ReplayRequest.{ReplayRequest}
use Rattle.lusdist_shell.specs.declared.request.Request.{Request}
use Rattle.lusdist_shell.specs.declared.request.RunRequest.{RunRequest}
use Rattle.lusdist_shell.specs.declared.request.TurnsSource.{TurnsSource}
use Rattle.lusdist_shell.specs.declared.request.TurnsSource.TheVariants.{File, Random, Unclear}
use Rattle.lusdist_shell.specs.declared.request.Request.TheVariants.{Check, Eval, New, Plan, Replay, Run as AsksRun, Explain}
use Rattle.lusdist_call.specs.declared.call_error.CallError.{CallError}
use Rattle.lusdist_call.specs.declared.call_error.CallError.TheVariants.{CannotRead, CannotWrite, NotAscii, Syntax, Rules, Flat, Place, Table, Schedule, Fault, LinkLost, NoThread, OutOfMemory, Mistaken}
use Rattle.lusdist_call.specs.Statuses.{status_of}
use Rattle.lusdist_call.specs.Asked.{HasFlat, IsPlanFor, IsJobFor, IsAskedFor}
use Rattle.lusdist_call.specs.Evaluated.{IsFaultOf, IsPosedBy}
use Rattle.clap.specs.Walk.{texts}
use Rattle.lusdist_call.specs.Refused.{IsReportedOf, IsProgramRefused, IsPlaceRefused, IsTableRefused}
use Rattle.lusdist_call.specs.Refused.IsReportedOf.{rule, flat}
use Rattle.lusdist_call.specs.Files.{IsUnread}
use Rattle.lusdist_call.specs.Stopped.{IsScheduleRefused, HasNoFlat, StopsAtProgram, StopsAtPlan, StopsAtJob, IsEvalRefused, IsEvalStopped, IsReplayStopped, IsReplayRefused, StopsAtTurns, IsRunFault, IsRunRefused, IsRunStopped, IsRequestStopped, IsUnobserved}
use Rattle.lusdist_call.specs.Stopped.HasNoFlat.{unspelled, unruled}
use Rattle.lusdist_call.specs.Stopped.StopsAtProgram.{program_unread, program_refused}
use Rattle.lusdist_call.specs.Stopped.StopsAtPlan.{no_program, place_unread, place_refused}
use Rattle.lusdist_call.specs.Stopped.IsCheckStopped.{check_program, check_memory}
use Rattle.lusdist_call.specs.Mistakes.{mistake_in, replay_mistake, run_mistake}
use Rattle.lusdist_call.specs.Stopped.IsEvalRefused.{eval_mistaken, eval_stopped}
use Rattle.lusdist_call.specs.Stopped.IsEvalStopped.{eval_program, eval_unread, eval_table, eval_fault, eval_unobserved, eval_memory}
use Rattle.lusdist_call.specs.Stopped.IsNewStopped.{new_program, new_memory}
use Rattle.lusdist_call.specs.Stopped.IsPlanStopped.{plan_files, plan_memory}
use Rattle.lusdist_call.specs.Stopped.StopsAtJob.{no_plan, table_unread, table_refused}
use Rattle.lusdist_call.specs.Stopped.IsReplayStopped.{replay_job, replay_turns, replay_unobserved, replay_memory}
use Rattle.lusdist_call.specs.Stopped.IsReplayRefused.{replay_mistaken, replay_stopped}
use Rattle.lusdist_call.specs.Stopped.IsRunRefused.{run_mistaken, run_stopped}
use Rattle.lusdist_call.specs.Stopped.StopsAtSchedule.{no_schedule, bad_schedule}
use Rattle.lusdist_call.specs.Stopped.IsRunStopped.{run_job, run_fault, run_lost, run_thread, run_unobserved, run_memory}
use Rattle.lusdist_call.specs.Exact.{HasOneText, SaysNothing}
use Rattle.lusdist_call.specs.Explained.{code_in, IsExplainStopped}
use Rattle.lusdist_call.specs.Explained.IsExplainStopped.{explain_unknown, explain_memory}
use Rattle.lusdist_answers.proofs.Exclusive.{memory_is, none_some, unread_memory, program_memory, plan_memory_of, job_memory_of, refused_memory, posed_flat, jobs_one, turns_memory, never_unobserved, posed_one}
use Rattle.lusdist_shell.specs.Files.{FileFacts}

-- ---- the status of a stop by what it is of

-- a stop of a text, and not out of memory
abbrev pub IsOfText : CallError → Type 0
IsOfText (CannotRead path) = ⊥
IsOfText (CannotWrite written) = ⊥
IsOfText (Mistaken mistake) = ⊥
IsOfText (Fault variable instant kind) = ⊥
IsOfText _ = Unit {0}

one_of_text : (stop : CallError) → IsOfText stop → (¬ SaysNothing stop) → status_of stop ≡ 1
one_of_text (CannotRead path) is not = absurd is
one_of_text (CannotWrite written) is not = absurd is
one_of_text NotAscii is not = refl
one_of_text (Syntax (syn.Syntax byte)) is not = refl
one_of_text (Syntax (syn.NumberTooLarge byte)) is not = refl
one_of_text (Syntax syn.NotAscii) is not = refl
one_of_text (Syntax syn.TooLong) is not = refl
one_of_text (Syntax (syn.LongRun byte)) is not = refl
one_of_text (Syntax syn.OutOfMemory) is not = absurd (not tt)
one_of_text (Rules (rules.DuplicateName byte)) is not = refl
one_of_text (Rules (rules.UnknownName byte)) is not = refl
one_of_text (Rules (rules.UnknownNode byte)) is not = refl
one_of_text (Rules (rules.TypeMismatch byte)) is not = refl
one_of_text (Rules (rules.WrongArity byte)) is not = refl
one_of_text (Rules (rules.Undefined byte)) is not = refl
one_of_text (Rules (rules.DefinedTwice byte)) is not = refl
one_of_text (Rules (rules.RecursiveNode byte)) is not = refl
one_of_text (Rules rules.NoMain) is not = refl
one_of_text (Rules (rules.BadMerge byte)) is not = refl
one_of_text (Rules (rules.ClockMismatch byte)) is not = refl
one_of_text (Rules (rules.NotAClock byte)) is not = refl
one_of_text (Rules (rules.ClockedParameter byte)) is not = refl
one_of_text (Rules (rules.HiddenClock byte)) is not = refl
one_of_text (Rules (rules.MaybeNil byte)) is not = refl
one_of_text (Rules (rules.CurrentMayBeNil byte)) is not = refl
one_of_text (Rules rules.OutOfMemory) is not = absurd (not tt)
one_of_text (Flat core.TooLarge) is not = refl
one_of_text (Flat (core.Cycle variable)) is not = refl
one_of_text (Flat core.OutOfMemory) is not = absurd (not tt)
one_of_text (Place place.NotToml) is not = refl
one_of_text (Place place.BadKey) is not = refl
one_of_text (Place place.UnknownSite) is not = refl
one_of_text (Place place.UnknownVariable) is not = refl
one_of_text (Place place.Unplaced) is not = refl
one_of_text (Place place.DuplicateSite) is not = refl
one_of_text (Place place.OutOfRange) is not = refl
one_of_text (Place place.SplitCall) is not = refl
one_of_text (Place place.OutOfMemory) is not = absurd (not tt)
one_of_text (Table tab.BadHeader) is not = refl
one_of_text (Table (tab.BadRow line)) is not = refl
one_of_text (Table (tab.BadValue line)) is not = refl
one_of_text (Table tab.TooLong) is not = refl
one_of_text (Table tab.OutOfMemory) is not = absurd (not tt)
one_of_text (Schedule (schedule.BadSchedule byte)) is not = refl
one_of_text (Schedule schedule.LongSchedule) is not = refl
one_of_text (Schedule schedule.OutOfMemory) is not = absurd (not tt)
one_of_text (Fault variable instant kind) is not = absurd is
one_of_text LinkLost is not = absurd (not tt)
one_of_text NoThread is not = absurd (not tt)
one_of_text (Mistaken mistake) is not = absurd is
one_of_text OutOfMemory is not = absurd (not tt)

of_text_is : (stop other : CallError) → stop ≡ other → IsOfText other → IsOfText stop
of_text_is stop other e h = subst IsOfText (sym e) h

reported_text : (tree : _) (places : _) (main : List ℕ) (stop : CallError) → IsReportedOf tree places main stop → IsOfText stop
reported_text tree places main stop (rule reported read e tells same there first) = of_text_is stop (Rules reported) e tt
reported_text tree places main stop (flat reported e keeps refuses) = of_text_is stop (Flat reported) e tt

program_text : (bytes : List ℕ) (stop : CallError) → IsProgramRefused bytes stop → IsOfText stop
program_text bytes (CannotRead path) h = absurd h
program_text bytes (CannotWrite written) h = absurd h
program_text bytes (Fault variable instant kind) h = absurd h
program_text bytes NotAscii h = tt
program_text bytes (Syntax e) h = tt
program_text bytes (Rules e) h = tt
program_text bytes (Flat e) h = tt
program_text bytes (Place e) h = tt
program_text bytes (Table e) h = tt
program_text bytes (Schedule e) h = tt
program_text bytes OutOfMemory h = tt
program_text bytes LinkLost h = tt
program_text bytes NoThread h = tt
program_text bytes (Mistaken mistake) h = absurd h

no_flat_text : (bytes main : List ℕ) (stop : CallError) → HasNoFlat bytes main stop → IsOfText stop
no_flat_text bytes main stop (unspelled h) = program_text bytes stop h
no_flat_text bytes main stop (unruled tree places spelled there reported) = reported_text tree places main stop reported

place_text : (list : FlatView) (bytes : List ℕ) (stop : CallError) → IsPlaceRefused list bytes stop → IsOfText stop
place_text list bytes (CannotRead path) h = absurd h
place_text list bytes (CannotWrite written) h = absurd h
place_text list bytes (Fault variable instant kind) h = absurd h
place_text list bytes NotAscii h = tt
place_text list bytes (Syntax e) h = tt
place_text list bytes (Rules e) h = tt
place_text list bytes (Flat e) h = tt
place_text list bytes (Place e) h = tt
place_text list bytes (Table e) h = tt
place_text list bytes (Schedule e) h = tt
place_text list bytes OutOfMemory h = tt
place_text list bytes LinkLost h = tt
place_text list bytes NoThread h = tt
place_text list bytes (Mistaken mistake) h = absurd h

table_text : (types inputs : _) (bytes : List ℕ) (stop : CallError) → IsTableRefused types inputs bytes stop → IsOfText stop
table_text types inputs bytes (CannotRead path) h = absurd h
table_text types inputs bytes (CannotWrite written) h = absurd h
table_text types inputs bytes (Fault variable instant kind) h = absurd h
table_text types inputs bytes NotAscii h = tt
table_text types inputs bytes (Syntax e) h = tt
table_text types inputs bytes (Rules e) h = tt
table_text types inputs bytes (Flat e) h = tt
table_text types inputs bytes (Place e) h = tt
table_text types inputs bytes (Table e) h = tt
table_text types inputs bytes (Schedule e) h = tt
table_text types inputs bytes OutOfMemory h = tt
table_text types inputs bytes LinkLost h = tt
table_text types inputs bytes NoThread h = tt
table_text types inputs bytes (Mistaken mistake) h = absurd h

schedule_text : (bytes : List ℕ) (stop : CallError) → IsScheduleRefused bytes stop → IsOfText stop
schedule_text bytes (CannotRead path) h = absurd h
schedule_text bytes (CannotWrite written) h = absurd h
schedule_text bytes (Fault variable instant kind) h = absurd h
schedule_text bytes NotAscii h = tt
schedule_text bytes (Syntax e) h = tt
schedule_text bytes (Rules e) h = tt
schedule_text bytes (Flat e) h = tt
schedule_text bytes (Place e) h = tt
schedule_text bytes (Table e) h = tt
schedule_text bytes (Schedule e) h = tt
schedule_text bytes OutOfMemory h = tt
schedule_text bytes LinkLost h = tt
schedule_text bytes NoThread h = tt
schedule_text bytes (Mistaken mistake) h = absurd h

unread_two : (gives : FileFacts) (path : List ℕ) (stop : CallError) → IsUnread gives path stop → (¬ SaysNothing stop) → (status_of stop ≡ 2) × gives path None
unread_two gives path (CannotRead name) h not = (refl, h.1)
unread_two gives path (CannotWrite written) h not = absurd h
unread_two gives path (Fault variable instant kind) h not = absurd h
unread_two gives path NotAscii h not = absurd h
unread_two gives path (Syntax e) h not = absurd h
unread_two gives path (Rules e) h not = absurd h
unread_two gives path (Flat e) h not = absurd h
unread_two gives path (Place e) h not = absurd h
unread_two gives path (Table e) h not = absurd h
unread_two gives path (Schedule e) h not = absurd h
unread_two gives path LinkLost h not = absurd h
unread_two gives path NoThread h not = absurd h
unread_two gives path (Mistaken mistake) h not = absurd h
unread_two gives path OutOfMemory h not = absurd (not tt)

-- ---- two stops of one request

module _ (gives : FileFacts) (settled : HasOneText gives) where
  both_unread : (path other_path : List ℕ) (a b : CallError) → IsUnread gives path a → IsUnread gives other_path b → (¬ SaysNothing a) → (¬ SaysNothing b) → status_of a ≡ status_of b
  both_unread path other_path a b x y na nb = (unread_two gives path a x na).0 ∙ sym (unread_two gives other_path b y nb).0

  both_text : (a b : CallError) → IsOfText a → IsOfText b → (¬ SaysNothing a) → (¬ SaysNothing b) → status_of a ≡ status_of b
  both_text a b x y na nb = one_of_text a x na ∙ sym (one_of_text b y nb)

  -- a file that has a text is read
  pub never : {X : Type 0} (path text : List ℕ) (stop : CallError) → gives path (Some text) → IsUnread gives path stop → (¬ SaysNothing stop) → X
  never path text stop given x not = absurd (not (unread_memory gives settled path text stop given x))

  program_status : (path main : List ℕ) (a b : CallError) → StopsAtProgram gives path main a → StopsAtProgram gives path main b → (¬ SaysNothing a) → (¬ SaysNothing b) → status_of a ≡ status_of b
  program_status path main a b (program_unread x) (program_unread y) na nb = both_unread path path a b x y na nb
  program_status path main a b (program_unread x) (program_refused text given y) na nb = never path text a given x na
  program_status path main a b (program_refused text given x) (program_unread y) na nb = never path text b given y nb
  program_status path main a b (program_refused text given x) (program_refused other other_given y) na nb = both_text a b (no_flat_text text main a x) (no_flat_text other main b y) na nb

  -- a program that has a list program isn't refused
  pub past_program : {X : Type 0} (path main program : List ℕ) (own : FlatView) (stop : CallError) → gives path (Some program) → HasFlat program main own → StopsAtProgram gives path main stop → (¬ SaysNothing stop) → X
  past_program path main program own stop given has x not = absurd (not (program_memory gives settled path main program own stop given has x))

  plan_status : (path place_path main : List ℕ) (a b : CallError) → StopsAtPlan gives path place_path main a → StopsAtPlan gives path place_path main b → (¬ SaysNothing a) → (¬ SaysNothing b) → status_of a ≡ status_of b
  plan_status path place_path main a b (no_program x) (no_program y) na nb = program_status path main a b x y na nb
  plan_status path place_path main a b (no_program x) (place_unread program own given has y) na nb = past_program path main program own a given has x na
  plan_status path place_path main a b (no_program x) (place_refused program place own given has place_given y) na nb = past_program path main program own a given has x na
  plan_status path place_path main a b (place_unread program own given has x) (no_program y) na nb = past_program path main program own b given has y nb
  plan_status path place_path main a b (place_unread program own given has x) (place_unread other list also other_has y) na nb = both_unread place_path place_path a b x y na nb
  plan_status path place_path main a b (place_unread program own given has x) (place_refused other place list also other_has place_given y) na nb = never place_path place a place_given x na
  plan_status path place_path main a b (place_refused program place own given has place_given x) (no_program y) na nb = past_program path main program own b given has y nb
  plan_status path place_path main a b (place_refused program place own given has place_given x) (place_unread other list also other_has y) na nb = never place_path place b place_given y nb
  plan_status path place_path main a b (place_refused program place own given has place_given x) (place_refused other text list also other_has text_given y) na nb =
      both_text a b (place_text own place a x) (place_text list text b y) na nb

  -- a name that is no bool output has the status of words that are wrong
  two_of : (own : FlatView) (names : List (List ℕ)) (stop : CallError) → IsUnobserved own names stop → status_of stop ≡ 2
  two_of own names stop un = ap status_of un.is

  both_two : (own list : FlatView) (names : List (List ℕ)) (a b : CallError) → IsUnobserved own names a → IsUnobserved list names b → status_of a ≡ status_of b
  both_two own list names a b x y = two_of own names a x ∙ sym (two_of list names b y)

  module _ (request : EvalRequest) where
    -- a program and a table that are posed aren't refused
    pub posed_past : {X : Type 0} (own : FlatView) (inputs : InputsView) → IsPosedBy gives request own inputs → (stop : CallError) → StopsAtProgram gives request.program.now request.main.now stop → (¬ SaysNothing stop) → X
    posed_past own inputs asked stop x not = past_program request.program.now request.main.now asked.program own stop asked.program_given (posed_flat gives settled request own inputs asked) x not

    pub past_posed : {X : Type 0} (program table : List ℕ) (own list : FlatView) (inputs : InputsView) → IsPosedBy gives request list inputs → (stop : CallError) → gives request.program.now (Some program) → gives request.table.now (Some table) → HasFlat program request.main.now own
        → IsTableRefused own.types (inputs_of own.variables) table stop → (¬ SaysNothing stop) → X
    past_posed program table own list inputs asked stop given table_given has x not =
        absurd (not (refused_memory gives settled request.program.now request.table.now request.main.now asked.program asked.table program table list own inputs stop asked.program_given given (posed_flat gives settled request list inputs asked) has
        asked.table_given table_given asked.posed.table_is asked.posed.short asked.posed.utf8 x))

    -- a table that a fault is of isn't refused
    pub past_table : {X : Type 0} (program table name : List ℕ) (own : FlatView) (instant : ℕ) (kind : FaultKind) (stop : CallError) → gives request.program.now (Some program) → gives request.table.now (Some table) → HasFlat program request.main.now own
        → IsFaultOf gives request name instant kind → IsTableRefused own.types (inputs_of own.variables) table stop → (¬ SaysNothing stop) → X
    past_table program table name own instant kind stop given table_given has fault x not =
        past_posed program table own fault.flat fault.inputs fault.asked stop given table_given has x not

    pub fault_past : {X : Type 0} (name : List ℕ) (instant : ℕ) (kind : FaultKind) (stop : CallError) → IsFaultOf gives request name instant kind → StopsAtProgram gives request.program.now request.main.now stop → (¬ SaysNothing stop) → X
    fault_past name instant kind stop fault x not = posed_past fault.flat fault.inputs fault.asked stop x not

    three_of_fault : (name : List ℕ) (instant : ℕ) (kind : FaultKind) (stop : CallError) → stop ≡ Fault name instant kind → status_of stop ≡ 3
    three_of_fault name instant kind stop e = ap status_of e

    eval_status : (a b : CallError) → IsEvalStopped gives request a → IsEvalStopped gives request b → (¬ SaysNothing a) → (¬ SaysNothing b) → status_of a ≡ status_of b
    eval_status a b (eval_memory e) y na nb = absurd (na (memory_is a OutOfMemory e tt))
    eval_status a b (eval_program x) (eval_memory e) na nb = absurd (nb (memory_is b OutOfMemory e tt))
    eval_status a b (eval_program x) (eval_program y) na nb = program_status request.program.now request.main.now a b x y na nb
    eval_status a b (eval_program x) (eval_unread program own given has y) na nb = past_program request.program.now request.main.now program own a given has x na
    eval_status a b (eval_program x) (eval_table program table own given table_given has y) na nb = past_program request.program.now request.main.now program own a given has x na
    eval_status a b (eval_program x) (eval_fault name instant kind e fault) na nb = fault_past name instant kind a fault x na
    eval_status a b (eval_unread program own given has x) (eval_memory e) na nb = absurd (nb (memory_is b OutOfMemory e tt))
    eval_status a b (eval_unread program own given has x) (eval_program y) na nb = past_program request.program.now request.main.now program own b given has y nb
    eval_status a b (eval_unread program own given has x) (eval_unread other list also other_has y) na nb = both_unread request.table.now request.table.now a b x y na nb
    eval_status a b (eval_unread program own given has x) (eval_table other table list also table_given other_has y) na nb = never request.table.now table a table_given x na
    eval_status a b (eval_unread program own given has x) (eval_fault name instant kind e fault) na nb = never request.table.now fault.asked.table a fault.asked.table_given x na
    eval_status a b (eval_table program table own given table_given has x) (eval_memory e) na nb = absurd (nb (memory_is b OutOfMemory e tt))
    eval_status a b (eval_table program table own given table_given has x) (eval_program y) na nb = past_program request.program.now request.main.now program own b given has y nb
    eval_status a b (eval_table program table own given table_given has x) (eval_unread other list also other_has y) na nb = never request.table.now table b table_given y nb
    eval_status a b (eval_table program table own given table_given has x) (eval_table other text list also text_given other_has y) na nb =
        both_text a b (table_text own.types (inputs_of own.variables) table a x) (table_text list.types (inputs_of list.variables) text b y) na nb
    eval_status a b (eval_table program table own given table_given has x) (eval_fault name instant kind e fault) na nb = past_table program table name own instant kind a given table_given has fault x na
    eval_status a b (eval_fault name instant kind e fault) (eval_memory m) na nb = absurd (nb (memory_is b OutOfMemory m tt))
    eval_status a b (eval_fault name instant kind e fault) (eval_program y) na nb = fault_past name instant kind b fault y nb
    eval_status a b (eval_fault name instant kind e fault) (eval_unread other list also other_has y) na nb = never request.table.now fault.asked.table b fault.asked.table_given y nb
    eval_status a b (eval_fault name instant kind e fault) (eval_table other text list also text_given other_has y) na nb = past_table other text name list instant kind b also text_given other_has fault y nb
    eval_status a b (eval_fault name instant kind e fault) (eval_fault other t k d also) na nb = three_of_fault name instant kind a e ∙ sym (three_of_fault other t k b d)
    eval_status a b (eval_program x) (eval_unobserved own inputs asked un) na nb = posed_past own inputs asked a x na
    eval_status a b (eval_unread program own given has x) (eval_unobserved other inputs asked un) na nb = never request.table.now asked.table a asked.table_given x na
    eval_status a b (eval_table program table own given table_given has x) (eval_unobserved other inputs asked un) na nb = past_posed program table own other inputs asked a given table_given has x na
    eval_status a b (eval_fault name instant kind e fault) (eval_unobserved other inputs asked un) na nb =
        never_unobserved gives settled (texts request.always.now) fault.flat other b (posed_one gives settled request fault.flat other fault.inputs inputs fault.asked asked) fault.observed un
    eval_status a b (eval_unobserved own inputs asked un) (eval_memory m) na nb = absurd (nb (memory_is b OutOfMemory m tt))
    eval_status a b (eval_unobserved own inputs asked un) (eval_program y) na nb = posed_past own inputs asked b y nb
    eval_status a b (eval_unobserved own inputs asked un) (eval_unread other list also other_has y) na nb = never request.table.now asked.table b asked.table_given y nb
    eval_status a b (eval_unobserved own inputs asked un) (eval_table other text list also text_given other_has y) na nb = past_posed other text list own inputs asked b also text_given other_has y nb
    eval_status a b (eval_unobserved own inputs asked un) (eval_fault name instant kind e fault) na nb =
        never_unobserved gives settled (texts request.always.now) fault.flat own a (posed_one gives settled request fault.flat own fault.inputs inputs fault.asked asked) fault.observed un
    eval_status a b (eval_unobserved own inputs asked un) (eval_unobserved other more also un_too) na nb = both_two own other (texts request.always.now) a b un un_too

  module _ (path place_path table_path main : List ℕ) where
    -- a plan or a job that the files give isn't refused
    pub past_plan : {X : Type 0} (plan : PlanView) (stop : CallError) → IsPlanFor gives path place_path main plan → StopsAtPlan gives path place_path main stop → (¬ SaysNothing stop) → X
    past_plan plan stop is x not =
        absurd (not (plan_memory_of gives settled path place_path main is.program is.place plan stop is.program_given is.place_given is.flat is.plan_of x))

    pub past_job : {X : Type 0} (job : JobView) (stop : CallError) → IsJobFor gives path place_path table_path main job → StopsAtJob gives path place_path table_path main stop → (¬ SaysNothing stop) → X
    past_job job stop is x not = absurd (not (job_memory_of gives settled path place_path table_path main job stop is x))

    job_status : (a b : CallError) → StopsAtJob gives path place_path table_path main a → StopsAtJob gives path place_path table_path main b → (¬ SaysNothing a) → (¬ SaysNothing b) → status_of a ≡ status_of b
    job_status a b (no_plan x) (no_plan y) na nb = plan_status path place_path main a b x y na nb
    job_status a b (no_plan x) (table_unread plan is y) na nb = past_plan plan a is x na
    job_status a b (no_plan x) (table_refused plan table is given y) na nb = past_plan plan a is x na
    job_status a b (table_unread plan is x) (no_plan y) na nb = past_plan plan b is y nb
    job_status a b (table_unread plan is x) (table_unread other also y) na nb = both_unread table_path table_path a b x y na nb
    job_status a b (table_unread plan is x) (table_refused other table also given y) na nb = never table_path table a given x na
    job_status a b (table_refused plan table is given x) (no_plan y) na nb = past_plan plan b is y nb
    job_status a b (table_refused plan table is given x) (table_unread other also y) na nb = never table_path table b given y nb
    job_status a b (table_refused plan table is given x) (table_refused other text also text_given y) na nb =
        both_text a b (table_text plan.flat.types (inputs_of plan.flat.variables) table a x) (table_text other.flat.types (inputs_of other.flat.variables) text b y) na nb

  -- two refusals of the turns from one source
  turns_status : (source : TurnsSource) (a b : CallError) → StopsAtTurns gives source a → StopsAtTurns gives source b → (¬ SaysNothing a) → (¬ SaysNothing b) → status_of a ≡ status_of b
  turns_status (File path) a b (no_schedule x) (no_schedule y) na nb = both_unread path.now path.now a b x y na nb
  turns_status (File path) a b (no_schedule x) (bad_schedule bytes given y) na nb = never path.now bytes a given x na
  turns_status (File path) a b (bad_schedule bytes given x) (no_schedule y) na nb = never path.now bytes b given y nb
  turns_status (File path) a b (bad_schedule bytes given x) (bad_schedule others also y) na nb =
      both_text a b (schedule_text bytes a x) (schedule_text others b y) na nb
  turns_status (Random seed count) a b x y na nb = absurd x
  turns_status Unclear a b x y na nb = absurd x

  module _ (request : ReplayRequest) where
    pub replay_past : {X : Type 0} (job : JobView) (stop : CallError) → IsJobFor gives request.program.now request.place.now request.table.now request.main.now job → StopsAtJob gives request.program.now request.place.now request.table.now request.main.now stop → (¬ SaysNothing stop) → X
    replay_past job stop is x not = past_job request.program.now request.place.now request.table.now request.main.now job stop is x not

    -- nor are turns that come from their source
    pub turns_past : {X : Type 0} (job : JobView) (turns : List ℕ) (stop : CallError) → IsAskedFor gives request job turns → StopsAtTurns gives request.source stop → (¬ SaysNothing stop) → X
    turns_past job turns stop asked at not = absurd (not (turns_memory gives settled request.source (sites_of job.plan) turns stop asked.turns_are at))

    replay_status : (a b : CallError) → IsReplayStopped gives request a → IsReplayStopped gives request b → (¬ SaysNothing a) → (¬ SaysNothing b) → status_of a ≡ status_of b
    replay_status a b (replay_memory e) y na nb = absurd (na (memory_is a OutOfMemory e tt))
    replay_status a b (replay_job x) (replay_memory e) na nb = absurd (nb (memory_is b OutOfMemory e tt))
    replay_status a b (replay_job x) (replay_job y) na nb = job_status request.program.now request.place.now request.table.now request.main.now a b x y na nb
    replay_status a b (replay_job x) (replay_turns job is y) na nb = replay_past job a is x na
    replay_status a b (replay_job x) (replay_unobserved job turns asked un) na nb = replay_past job a asked.job_for x na
    replay_status a b (replay_turns job is x) (replay_memory e) na nb = absurd (nb (memory_is b OutOfMemory e tt))
    replay_status a b (replay_turns job is x) (replay_job y) na nb = replay_past job b is y nb
    replay_status a b (replay_turns job is x) (replay_turns other also y) na nb = turns_status request.source a b x y na nb
    replay_status a b (replay_turns job is x) (replay_unobserved other turns asked un) na nb = turns_past other turns a asked x na
    replay_status a b (replay_unobserved job turns asked un) (replay_memory e) na nb = absurd (nb (memory_is b OutOfMemory e tt))
    replay_status a b (replay_unobserved job turns asked un) (replay_job y) na nb = replay_past job b asked.job_for y nb
    replay_status a b (replay_unobserved job turns asked un) (replay_turns other is y) na nb = turns_past job turns b asked y nb
    replay_status a b (replay_unobserved job turns asked un) (replay_unobserved other more also un_too) na nb = both_two job.plan.flat other.plan.flat (texts request.always.now) a b un un_too

    mistaken_status : (a b : CallError) → IsReplayRefused gives request a → IsReplayRefused gives request b → (¬ SaysNothing a) → (¬ SaysNothing b) → status_of a ≡ status_of b
    mistaken_status a b (replay_mistaken mistake found e) (replay_mistaken other also d) na nb = ap status_of e ∙ sym (ap status_of d)
    mistaken_status a b (replay_mistaken mistake found e) (replay_stopped clear y) na nb = absurd (none_some (replay_mistake request) mistake clear found)
    mistaken_status a b (replay_stopped clear x) (replay_mistaken mistake found e) na nb = absurd (none_some (replay_mistake request) mistake clear found)
    mistaken_status a b (replay_stopped clear x) (replay_stopped same y) na nb = replay_status a b x y na nb

  module _ (request : RunRequest) where
    pub run_past : {X : Type 0} (job : JobView) (stop : CallError) → IsJobFor gives request.program.now request.place.now request.table.now request.main.now job → StopsAtJob gives request.program.now request.place.now request.table.now request.main.now stop → (¬ SaysNothing stop) → X
    run_past job stop is x not = past_job request.program.now request.place.now request.table.now request.main.now job stop is x not

    three_is : (name : List ℕ) (instant : ℕ) (kind : FaultKind) (stop : CallError) → stop ≡ Fault name instant kind → status_of stop ≡ 3
    three_is name instant kind stop e = ap status_of e

    -- a run that faults observes bool outputs alone
    pub fault_observed : {X : Type 0} (name : List ℕ) (instant : ℕ) (kind : FaultKind) → IsRunFault gives request name instant kind → (job : JobView) (stop : CallError) → IsJobFor gives request.program.now request.place.now request.table.now request.main.now job → IsUnobserved job.plan.flat (texts request.always.now) stop → X
    fault_observed name instant kind fault job stop asked un =
        never_unobserved gives settled (texts request.always.now) fault.job.plan.flat job.plan.flat stop (jobs_one gives settled request.program.now request.place.now request.table.now request.main.now fault.job job fault.asked_for asked).0 fault.observed un

    run_status : (a b : CallError) → IsRunStopped gives request a → IsRunStopped gives request b → (¬ SaysNothing a) → (¬ SaysNothing b) → status_of a ≡ status_of b
    run_status a b (run_memory e) y na nb = absurd (na (memory_is a OutOfMemory e tt))
    run_status a b (run_lost job is e) y na nb = absurd (na (memory_is a LinkLost e tt))
    run_status a b (run_thread job is e) y na nb = absurd (na (memory_is a NoThread e tt))
    run_status a b (run_job x) (run_memory e) na nb = absurd (nb (memory_is b OutOfMemory e tt))
    run_status a b (run_job x) (run_lost job is e) na nb = absurd (nb (memory_is b LinkLost e tt))
    run_status a b (run_job x) (run_thread job is e) na nb = absurd (nb (memory_is b NoThread e tt))
    run_status a b (run_job x) (run_job y) na nb = job_status request.program.now request.place.now request.table.now request.main.now a b x y na nb
    run_status a b (run_job x) (run_fault name t k e fault) na nb = run_past fault.job a fault.asked_for x na
    run_status a b (run_fault name t k e fault) (run_memory m) na nb = absurd (nb (memory_is b OutOfMemory m tt))
    run_status a b (run_fault name t k e fault) (run_lost job is m) na nb = absurd (nb (memory_is b LinkLost m tt))
    run_status a b (run_fault name t k e fault) (run_thread job is m) na nb = absurd (nb (memory_is b NoThread m tt))
    run_status a b (run_fault name t k e fault) (run_job y) na nb = run_past fault.job b fault.asked_for y nb
    run_status a b (run_fault name t k e fault) (run_fault other u l d also) na nb = three_is name t k a e ∙ sym (three_is other u l b d)
    run_status a b (run_job x) (run_unobserved job asked un) na nb = run_past job a asked x na
    run_status a b (run_fault name t k e fault) (run_unobserved job asked un) na nb = fault_observed name t k fault job b asked un
    run_status a b (run_unobserved job asked un) (run_memory m) na nb = absurd (nb (memory_is b OutOfMemory m tt))
    run_status a b (run_unobserved job asked un) (run_lost other is m) na nb = absurd (nb (memory_is b LinkLost m tt))
    run_status a b (run_unobserved job asked un) (run_thread other is m) na nb = absurd (nb (memory_is b NoThread m tt))
    run_status a b (run_unobserved job asked un) (run_job y) na nb = run_past job b asked y nb
    run_status a b (run_unobserved job asked un) (run_fault name t k e fault) na nb = fault_observed name t k fault job a asked un
    run_status a b (run_unobserved job asked un) (run_unobserved other also un_too) na nb = both_two job.plan.flat other.plan.flat (texts request.always.now) a b un un_too

    asked_status : (a b : CallError) → IsRunRefused gives request a → IsRunRefused gives request b → (¬ SaysNothing a) → (¬ SaysNothing b) → status_of a ≡ status_of b
    asked_status a b (run_mistaken mistake found e) (run_mistaken other also d) na nb = ap status_of e ∙ sym (ap status_of d)
    asked_status a b (run_mistaken mistake found e) (run_stopped clear y) na nb = absurd (none_some (run_mistake request) mistake clear found)
    asked_status a b (run_stopped clear x) (run_mistaken mistake found e) na nb = absurd (none_some (run_mistake request) mistake clear found)
    asked_status a b (run_stopped clear x) (run_stopped same y) na nb = run_status a b x y na nb

  explain_status : (code : Option (List ℕ)) (a b : CallError) → IsExplainStopped code a → IsExplainStopped code b → (¬ SaysNothing a) → (¬ SaysNothing b) → status_of a ≡ status_of b
  explain_status code a b (explain_memory e) y na nb = absurd (na (memory_is a OutOfMemory e tt))
  explain_status code a b (explain_unknown name is none e) (explain_memory m) na nb = absurd (nb (memory_is b OutOfMemory m tt))
  explain_status code a b (explain_unknown name is none e) (explain_unknown other also nothing m) na nb = ap status_of e ∙ sym (ap status_of m)

  refused_status : (request : EvalRequest) (a b : CallError) → IsEvalRefused gives request a → IsEvalRefused gives request b → (¬ SaysNothing a) → (¬ SaysNothing b) → status_of a ≡ status_of b
  refused_status request a b (eval_mistaken mistake found e) (eval_mistaken other also d) na nb = ap status_of e ∙ sym (ap status_of d)
  refused_status request a b (eval_mistaken mistake found e) (eval_stopped meant y) na nb = absurd (none_some (mistake_in request) mistake meant found)
  refused_status request a b (eval_stopped meant x) (eval_mistaken mistake found e) na nb = absurd (none_some (mistake_in request) mistake meant found)
  refused_status request a b (eval_stopped meant x) (eval_stopped same y) na nb = eval_status request a b x y na nb

  pub one_status_of : (request : Request) (a b : CallError) → IsRequestStopped gives request a → IsRequestStopped gives request b → (¬ SaysNothing a) → (¬ SaysNothing b) → status_of a ≡ status_of b
  one_status_of (Check request) a b (check_program x) (check_program y) na nb = program_status request.program.now request.main.now a b x y na nb
  one_status_of (Check request) a b (check_memory e) y na nb = absurd (na (memory_is a OutOfMemory e tt))
  one_status_of (Check request) a b (check_program x) (check_memory e) na nb = absurd (nb (memory_is b OutOfMemory e tt))
  one_status_of (Eval request) a b x y na nb = refused_status request a b x y na nb
  one_status_of (New request) a b (new_program x) (new_program y) na nb = program_status request.program.now request.main.now a b x y na nb
  one_status_of (New request) a b (new_memory e) y na nb = absurd (na (memory_is a OutOfMemory e tt))
  one_status_of (New request) a b (new_program x) (new_memory e) na nb = absurd (nb (memory_is b OutOfMemory e tt))
  one_status_of (Plan request) a b (plan_files x) (plan_files y) na nb = plan_status request.program.now request.place.now request.main.now a b x y na nb
  one_status_of (Plan request) a b (plan_memory e) y na nb = absurd (na (memory_is a OutOfMemory e tt))
  one_status_of (Plan request) a b (plan_files x) (plan_memory e) na nb = absurd (nb (memory_is b OutOfMemory e tt))
  one_status_of (Replay request) a b x y na nb = mistaken_status request a b x y na nb
  one_status_of (AsksRun request) a b x y na nb = asked_status request a b x y na nb
  one_status_of (Explain request) a b x y na nb = explain_status (code_in request) a b x y na nb
