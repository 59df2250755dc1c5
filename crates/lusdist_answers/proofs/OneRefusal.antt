-- Two refusals of one request are the same.
use Rattle.std.proofs.Common.{◌≡◌, ◌<◌, ◌⊎◌, inl, inr, ℕ, zero, suc, List, length, map, Option, Some, None, Result, Ok, Err, refl, sym, ap, ◌∙◌, subst, arith}
use Rattle.std.specs.Prelude.{slice_get, slice_index, IsUtf8}
use Rattle.std.proofs.lemmas.Option.{same_Some}
use Rattle.lutree.specs.Tree.{ProgramTree}
use Rattle.lutree.specs.Places.{ProgramPlaces}
use Rattle.luflow.specs.declared.data.Datum.{Datum}
use Rattle.luflow.specs.declared.data.Status.TheVariants.{Present}
use Rattle.luflow.specs.declared.form.Flow.{Flow}
use Rattle.luflow.specs.declared.form.Form.{Form}
use Rattle.luflow.specs.declared.form.FaultKind.{FaultKind}
use Rattle.luflow.specs.declared.variable.Enum.{Enum}
use Rattle.luflow.specs.declared.variable.Variable.{Variable}
use Rattle.luflow.specs.Faults.{IsFault, IsFaultOn}
use Rattle.luflow.specs.Faults.IsFaultOn.{OnBinary, OnUnary}
use Rattle.luflow.specs.declared.form.Outcome.{Outcome}
use Rattle.luflow.specs.declared.form.Outcome.TheVariants.{Faults}
use Rattle.luflow.specs.Operators.{double_of, single_of}
use Rattle.luflow.specs.Program.{FlatView, InputsView, IsOrdered, reads}
use Rattle.luflow.specs.Rank.{reads_of}
use Rattle.luflow.specs.Solution.{solution}
use Rattle.luflow.specs.Streams.{Mark, Known, Streams}
use Rattle.luflow.specs.Variables.{inputs_of}
use Rattle.luflow.proofs.Faults.{fault_value, fault_value_one}
use Rattle.luflow.proofs.Solutions.{IsSolution-solution}
use Rattle.lueval.specs.Whole.{IsEarlier}
use Rattle.lucore_laws.specs.Rank.{IsLeastOnCycle}
use Rattle.lucore_laws.proofs.Same.{one_list}
use Rattle.lucore.specs.declared.error.CoreError.{CoreError}
use Rattle.lucore.specs.declared.error.CoreError.TheVariants as core
use Rattle.lucore.specs.Result.{Refuses, ReadsItself}
use Rattle.lustat_rules.specs.Accepted.{IsAccepted}
use Rattle.lustat_rules.specs.Accepted as accepted
use Rattle.lustat_rules.specs.declared.error.StatError.{StatError}
use Rattle.lustat_rules.specs.declared.error.StatError.TheVariants as rules
use Rattle.lustat_rules.specs.Reported.{ReportsRule}
use Rattle.lustat.proofs.Same.{reported_along, one_reported}
use Rattle.lusyn.specs.declared.error.SynError.{SynError}
use Rattle.lusyn.specs.declared.error.SynError.TheVariants as syn
use Rattle.lusyn.specs.Texts.{SpellsText}
use Rattle.lusyn.specs.Refusals.{IsRefused as IsRefusedProgram}
use Rattle.lusyn.proofs.Exclusive.{one_program}
use Rattle.lusyn.proofs.OneRefusal.{one_refusal}
use Rattle.lusyn.proofs.Places.{one_places}
use Rattle.luplace_file.specs.Content.{PlaceView}
use Rattle.luplace_file.specs.Placement.{placement_of}
use Rattle.luplace_file.specs.declared.error.PlaceError.{PlaceError}
use Rattle.luplace_file.specs.declared.error.PlaceError.TheVariants as placing
use Rattle.luplace.specs.Placing.{refusal}
use Rattle.lutab.specs.declared.error.TabError.{TabError}
use Rattle.lutab.specs.declared.error.TabError.TheVariants as tab
use Rattle.lutab.specs.Table.{IsTextOf, IsRefused as IsRefusedTable}
use Rattle.lutab.proofs.Reported.{memory_or, one_refusal as one_table_refusal}
use Rattle.lutab.proofs.Texts.{one_table}
use Rattle.lusdist_shell.specs.ScheduleText.{schedule_of}
use Rattle.lusdist_shell.specs.declared.schedule.ScheduleError.{ScheduleError}
use Rattle.lusdist_shell.specs.declared.schedule.ScheduleError.TheVariants as schedule
use Rattle.lusdist_shell.specs.declared.request.EvalRequest.{EvalRequest}
use Rattle.lusdist_shell.specs.declared.request.ReplayRequest.{ReplayRequest}
use Rattle.lusdist_shell.specs.declared.request.Request.{Request}
use Rattle.lusdist_shell.specs.declared.request.RunRequest.{RunRequest}
use Rattle.lusdist_shell.specs.declared.request.TurnsSource.{TurnsSource}
use Rattle.lusdist_shell.specs.declared.request.TurnsSource.TheVariants.{File, Random, Unclear}
use Rattle.lusdist_shell.specs.declared.request.Request.TheVariants.{Check, Eval, New, Plan, Replay, Run as AsksRun, Explain}
use Rattle.lusdist_call.specs.declared.call_error.CallError.{CallError}
use Rattle.lusdist_call.specs.declared.call_error.CallError.TheVariants.{CannotRead, CannotWrite, NotAscii, Syntax, Rules, Flat, Place as BadPlace, Table as BadTable, Schedule, Fault, LinkLost, NoThread, OutOfMemory, Mistaken}
use Rattle.lusdist_call.specs.Evaluated.{IsFaultOf, IsFaultReported}
use Rattle.lusdist_call.specs.Refused.{IsReportedOf, IsProgramRefused, IsPlaceRefused, IsTableRefused}
use Rattle.lusdist_call.specs.Refused.IsReportedOf.{rule, flat}
use Rattle.lusdist_call.specs.Files.{IsUnread}
use Rattle.lusdist_call.specs.Stopped.{IsScheduleRefused, HasNoFlat, StopsAtProgram, StopsAtPlan, StopsAtJob, IsEvalRefused, IsEvalStopped, IsReplayStopped, IsReplayRefused, StopsAtTurns, IsRunRefused, IsRunStopped, IsRequestStopped, IsUnobserved}
use Rattle.lusdist_call.specs.Stopped.HasNoFlat.{unspelled, unruled}
use Rattle.lusdist_call.specs.Stopped.StopsAtProgram.{program_unread, program_refused}
use Rattle.lusdist_call.specs.Stopped.StopsAtPlan.{no_program, place_unread, place_refused}
use Rattle.lusdist_call.specs.Stopped.IsCheckStopped.{check_program, check_memory}
use Rattle.lusdist_call.specs.declared.mistake.Mistake.{Mistake}
use Rattle.lusdist_call.specs.Mistakes.{mistake_in, replay_mistake, run_mistake}
use Rattle.lusdist_call.specs.Stopped.IsEvalRefused.{eval_mistaken, eval_stopped}
use Rattle.lusdist_call.specs.Stopped.IsEvalStopped.{eval_program, eval_unread, eval_table, eval_fault, eval_unobserved, eval_memory}
use Rattle.lusdist_call.specs.Stopped.IsNewStopped.{new_program, new_memory}
use Rattle.lusdist_call.specs.Stopped.IsPlanStopped.{plan_files, plan_memory}
use Rattle.lusdist_call.specs.Stopped.StopsAtJob.{no_plan, table_unread, table_refused}
use Rattle.lusdist_call.specs.Stopped.IsReplayStopped.{replay_job, replay_turns, replay_unobserved, replay_memory}
use Rattle.lusdist_call.specs.Stopped.IsReplayRefused.{replay_mistaken, replay_stopped}
use Rattle.lusdist_call.specs.Stopped.IsRunRefused.{run_mistaken, run_stopped}
use Rattle.lusdist_call.specs.Stopped.StopsAtSchedule.{no_schedule, bad_schedule}
use Rattle.lusdist_call.specs.Stopped.IsRunStopped.{run_job, run_fault, run_lost, run_thread, run_unobserved, run_memory}
use Rattle.lusdist_call.specs.Exact.{HasOneText, SaysNothing, IsFaultOfRun}
use Rattle.lusdist_call.specs.Explained.{code_in, IsExplainStopped}
use Rattle.lusdist_call.specs.Explained.IsExplainStopped.{explain_unknown, explain_memory}
use Rattle.lusdist_call.specs.declared.mistake.Mistake.TheVariants.{UnknownCode, Unobserved}
use Rattle.lusdist_call.specs.Violations.{unobserved}
use Rattle.clap.specs.Walk.{texts}
use Rattle.lusdist_answers.proofs.Exclusive.{memory_is, none_some, text_memory, rules_memory, one_of, flats_one, flats_same, jobs_one, never_unobserved, posed_one}
use Rattle.lusdist_answers.proofs.OneStatus.{never, past_program, past_table, past_posed, fault_past, posed_past, past_plan, replay_past, turns_past, run_past, fault_observed}
use Rattle.lusdist_shell.specs.Files.{FileFacts}

-- ---- stops of one file, by what they say

-- a stop says nothing, or it reports this kind of refusal of which P is true
data Reports_of {E : Type 0} (kind : E → CallError) (P : E → Type 0) (stop : CallError) : Type 0 where
  silent : SaysNothing stop → Reports_of kind P stop
  speaks : (e : E) → P e → stop ≡ kind e → Reports_of kind P stop

one_of_kind : {E : Type 0} (kind : E → CallError) (P : E → Type 0) (a b : CallError) → ((e f : E) → P e → P f → e ≡ f) → Reports_of kind P a → Reports_of kind P b → (¬ SaysNothing a) → (¬ SaysNothing b) → a ≡ b
one_of_kind kind P a b one (silent h) y na nb = absurd (na h)
one_of_kind kind P a b one (speaks e h is) (silent k) na nb = absurd (nb k)
one_of_kind kind P a b one (speaks e h is) (speaks f k also) na nb = is ∙ ap kind (one e f h k) ∙ sym also

-- bytes that are no text are reported so, others by what is true of them
abbrev Of : {E : Type 0} → List ℕ → E → (E → Type 0) → E → Type 0
Of bytes bad P e = ((e ≡ bad) × (¬ IsUtf8 bytes)) ⊎ (IsUtf8 bytes × P e)

one_of_bytes : {E : Type 0} (bytes : List ℕ) (bad : E) (P : E → Type 0) (e f : E) → ((a b : E) → P a → P b → a ≡ b) → Of bytes bad P e → Of bytes bad P f → e ≡ f
one_of_bytes bytes bad P e f one (inl h) (inl k) = h.0 ∙ sym k.0
one_of_bytes bytes bad P e f one (inl h) (inr k) = absurd (h.1 k.0)
one_of_bytes bytes bad P e f one (inr h) (inl k) = absurd (k.1 h.0)
one_of_bytes bytes bad P e f one (inr h) (inr k) = one e f h.1 k.1

-- THE PROGRAM'S TEXT

-- why bytes spell no program: they are no text, or this refusal
abbrev text_stop : Option SynError → CallError
text_stop None = NotAscii
text_stop (Some e) = Syntax e

abbrev IsTextRefused : List ℕ → Option SynError → Type 0
IsTextRefused bytes None = ¬ IsUtf8 bytes
IsTextRefused bytes (Some e) = IsUtf8 bytes × IsRefusedProgram bytes e

text_one : (bytes : List ℕ) (e f : Option SynError) → IsTextRefused bytes e → IsTextRefused bytes f → e ≡ f
text_one bytes None None h k = refl
text_one bytes None (Some f) h k = absurd (h k.0)
text_one bytes (Some e) None h k = absurd (k h.0)
text_one bytes (Some e) (Some f) h k = ap (λ (x : SynError). Some x) (one_refusal bytes e f h.1 k.1)

text_reported : (bytes : List ℕ) (stop : CallError) → IsProgramRefused bytes stop → Reports_of text_stop (IsTextRefused bytes) stop
text_reported bytes NotAscii h = speaks None h refl
text_reported bytes (Syntax e) (inl memory) = silent (memory_is (Syntax e) (Syntax syn.OutOfMemory) (ap (λ (x : SynError). Syntax x) memory) tt)
text_reported bytes (Syntax e) (inr h) = speaks (Some e) h refl
text_reported bytes (CannotRead path) h = absurd h
text_reported bytes (CannotWrite written) h = absurd h
text_reported bytes (Fault variable instant kind) h = absurd h
text_reported bytes (Rules e) h = absurd h
text_reported bytes (Flat e) h = absurd h
text_reported bytes (BadPlace e) h = absurd h
text_reported bytes (BadTable e) h = absurd h
text_reported bytes (Schedule e) h = absurd h
text_reported bytes OutOfMemory h = absurd h
text_reported bytes LinkLost h = absurd h
text_reported bytes NoThread h = absurd h
text_reported bytes (Mistaken mistake) h = absurd h

-- THE PLACEMENT

abbrev place_by : FlatView → Result PlaceView PlaceError → Option PlaceError
place_by own (Err e) = Some e
place_by own (Ok place) = refusal own place

abbrev IsPlaceReported : FlatView → List ℕ → PlaceError → Type 0
IsPlaceReported own bytes = Of bytes placing.NotToml (λ e. place_by own (placement_of bytes) ≡ Some e)

place_one : (own : FlatView) (bytes : List ℕ) (e f : PlaceError) → IsPlaceReported own bytes e → IsPlaceReported own bytes f → e ≡ f
place_one own bytes e f h k =
    one_of_bytes bytes placing.NotToml (λ x. place_by own (placement_of bytes) ≡ Some x) e f (λ a b x y. same_Some a b (sym x ∙ y)) h k

place_reported : (own : FlatView) (bytes : List ℕ) (stop : CallError) → IsPlaceRefused own bytes stop → Reports_of (λ e. BadPlace e) (IsPlaceReported own bytes) stop
place_reported own bytes (BadPlace e) (inl h) = speaks e (inl h) refl
place_reported own bytes (BadPlace e) (inr (utf8, inl memory)) = silent (memory_is (BadPlace e) (BadPlace placing.OutOfMemory) (ap (λ (x : PlaceError). BadPlace x) memory) tt)
place_reported own bytes (BadPlace e) (inr (utf8, inr (inl h))) = speaks e (inr (utf8, ap (place_by own) h)) refl
place_reported own bytes (BadPlace e) (inr (utf8, inr (inr (place, h, k)))) = speaks e (inr (utf8, ap (place_by own) h ∙ k)) refl
place_reported own bytes (CannotRead path) h = absurd h
place_reported own bytes (CannotWrite written) h = absurd h
place_reported own bytes (Fault variable instant kind) h = absurd h
place_reported own bytes NotAscii h = absurd h
place_reported own bytes (Syntax e) h = absurd h
place_reported own bytes (Rules e) h = absurd h
place_reported own bytes (Flat e) h = absurd h
place_reported own bytes (BadTable e) h = absurd h
place_reported own bytes (Schedule e) h = absurd h
place_reported own bytes OutOfMemory h = absurd h
place_reported own bytes LinkLost h = absurd h
place_reported own bytes NoThread h = absurd h
place_reported own bytes (Mistaken mistake) h = absurd h

-- THE TABLE

abbrev IsTableReported : List Enum → List Variable → List ℕ → TabError → Type 0
IsTableReported types inputs bytes = Of bytes tab.BadHeader (IsRefusedTable types inputs bytes)

table_one : (types : List Enum) (inputs : List Variable) (bytes : List ℕ) (e f : TabError) → IsTableReported types inputs bytes e → IsTableReported types inputs bytes f → e ≡ f
table_one types inputs bytes e f h k = one_of_bytes bytes tab.BadHeader (IsRefusedTable types inputs bytes) e f (one_table_refusal types inputs bytes) h k

table_reported : (types : List Enum) (inputs : List Variable) (bytes : List ℕ) (stop : CallError) → IsTableRefused types inputs bytes stop → Reports_of (λ e. BadTable e) (IsTableReported types inputs bytes) stop
table_reported types inputs bytes (BadTable e) (inl h) = speaks e (inl h) refl
table_reported types inputs bytes (BadTable e) (inr (utf8, h)) = elim (memory_or e) [
  | inl memory ↦ silent (memory_is (BadTable e) (BadTable tab.OutOfMemory) (ap (λ (x : TabError). BadTable x) memory) tt)
  | inr other ↦ speaks e (inr (utf8, h other)) refl
]
table_reported types inputs bytes (CannotRead path) h = absurd h
table_reported types inputs bytes (CannotWrite written) h = absurd h
table_reported types inputs bytes (Fault variable instant kind) h = absurd h
table_reported types inputs bytes NotAscii h = absurd h
table_reported types inputs bytes (Syntax e) h = absurd h
table_reported types inputs bytes (Rules e) h = absurd h
table_reported types inputs bytes (Flat e) h = absurd h
table_reported types inputs bytes (BadPlace e) h = absurd h
table_reported types inputs bytes (Schedule e) h = absurd h
table_reported types inputs bytes OutOfMemory h = absurd h
table_reported types inputs bytes LinkLost h = absurd h
table_reported types inputs bytes NoThread h = absurd h
table_reported types inputs bytes (Mistaken mistake) h = absurd h

-- THE SCHEDULE

err_same : {A E : Type 0} (r : Result A E) (e f : E) → r ≡ Err e → r ≡ Err f → e ≡ f
err_same r e f h k = cc

schedule_reported : (bytes : List ℕ) (stop : CallError) → IsScheduleRefused bytes stop → Reports_of (λ e. Schedule e) (λ e. schedule_of bytes ≡ Err e) stop
schedule_reported bytes (Schedule e) (inl memory) = silent (memory_is (Schedule e) (Schedule schedule.OutOfMemory) (ap (λ (x : ScheduleError). Schedule x) memory) tt)
schedule_reported bytes (Schedule e) (inr h) = speaks e h refl
schedule_reported bytes (CannotRead path) h = absurd h
schedule_reported bytes (CannotWrite written) h = absurd h
schedule_reported bytes (Fault variable instant kind) h = absurd h
schedule_reported bytes NotAscii h = absurd h
schedule_reported bytes (Syntax e) h = absurd h
schedule_reported bytes (Rules e) h = absurd h
schedule_reported bytes (Flat e) h = absurd h
schedule_reported bytes (BadPlace e) h = absurd h
schedule_reported bytes (BadTable e) h = absurd h
schedule_reported bytes OutOfMemory h = absurd h
schedule_reported bytes LinkLost h = absurd h
schedule_reported bytes NoThread h = absurd h
schedule_reported bytes (Mistaken mistake) h = absurd h

-- A FILE THAT CAN'T BE READ

unread_reported : (gives : FileFacts) (path : List ℕ) (stop : CallError) → IsUnread gives path stop → Reports_of (λ name. CannotRead name) (λ name. name ≡ path) stop
unread_reported gives path (CannotRead name) h = speaks name h.0 refl
unread_reported gives path (CannotWrite written) h = absurd h
unread_reported gives path OutOfMemory h = silent tt
unread_reported gives path (Fault variable instant kind) h = absurd h
unread_reported gives path NotAscii h = absurd h
unread_reported gives path (Syntax e) h = absurd h
unread_reported gives path (Rules e) h = absurd h
unread_reported gives path (Flat e) h = absurd h
unread_reported gives path (BadPlace e) h = absurd h
unread_reported gives path (BadTable e) h = absurd h
unread_reported gives path (Schedule e) h = absurd h
unread_reported gives path LinkLost h = absurd h
unread_reported gives path NoThread h = absurd h
unread_reported gives path (Mistaken mistake) h = absurd h

-- ---- what is reported of a program that is spelled

order : (a b : ℕ) → (a < b) ⊎ ((a ≡ b) ⊎ (b < a))
order zero zero = inr (inl refl)
order zero (suc b) = inl (omega arith)
order (suc a) zero = inr (inr (omega arith))
order (suc a) (suc b) = elim (order a b) [
  | inl less ↦ inl (omega (arith, less))
  | inr other ↦ elim other [ inl same ↦ inr (inl (ap (λ (n : ℕ). suc n) same)) | inr more ↦ inr (inr (omega (arith, more))) ]
]

least_one : (rows other : List (List ℕ)) (x y : ℕ) → rows ≡ other → IsLeastOnCycle rows x → IsLeastOnCycle other y → x ≡ y
least_one rows other x y same h k =
    let along : IsLeastOnCycle other x = subst (λ r. IsLeastOnCycle r x) same h in
    elim (order x y) [
      | inl less ↦ absurd (k.least x less along.cycle)
      | inr rest ↦ elim rest [ inl is ↦ is | inr more ↦ absurd (along.least y more k.cycle) ]
    ]

cycle_one : (tree : ProgramTree) (main : List ℕ) (m n : List ℕ) → IsAccepted tree main → ReadsItself tree main m → ReadsItself tree main n → m ≡ n
cycle_one tree main m n keeps h k =
    let same = one_list tree main h.flat k.flat (keeps accepted.recursive_node) h.laid_out k.laid_out in
    let rows : reads_of h.flat ≡ reads_of k.flat = ap (map reads) same.flows in
    let place : h.place ≡ k.place = least_one (reads_of h.flat) (reads_of k.flat) h.place k.place rows h.least k.least in
    let owner : slice_index h.flat.owners h.place ≡ slice_index k.flat.owners k.place = ap (λ (os : List ℕ). slice_index os h.place) same.owners ∙ ap (slice_index k.flat.owners) place in
    let variable : slice_get h.flat.variables (slice_index h.flat.owners h.place) ≡ slice_get k.flat.variables (slice_index k.flat.owners k.place) =
    ap (λ (vs : List Variable). slice_get vs (slice_index h.flat.owners h.place)) same.variables ∙ ap (slice_get k.flat.variables) owner in
    let is : h.owner ≡ k.owner = same_Some h.owner k.owner (sym h.is_owner ∙ variable ∙ k.is_owner) in
    h.named ∙ ap (λ (v : Variable). v.name) is ∙ sym k.named

-- why a program that keeps all rules has no flat program
flat_one : (tree : ProgramTree) (main : List ℕ) (e f : CoreError) → IsAccepted tree main → Refuses tree main e → Refuses tree main f → (e ≡ core.OutOfMemory → ⊥) → (f ≡ core.OutOfMemory → ⊥) → e ≡ f
flat_one tree main core.OutOfMemory f keeps h k ne nf = absurd (ne refl)
flat_one tree main e core.OutOfMemory keeps h k ne nf = absurd (nf refl)
flat_one tree main core.TooLarge core.TooLarge keeps h k ne nf = refl
flat_one tree main core.TooLarge (core.Cycle n) keeps h k ne nf =
    let same = one_list tree main h.flat k.flat (keeps accepted.recursive_node) h.laid_out k.laid_out in
    let count = ap (λ (xs : List Flow). length xs) same.flows in
    absurd (omega (arith, count, k.few, h.large))
flat_one tree main (core.Cycle m) core.TooLarge keeps h k ne nf =
    let same = one_list tree main h.flat k.flat (keeps accepted.recursive_node) h.laid_out k.laid_out in
    let count = ap (λ (xs : List Flow). length xs) same.flows in
    absurd (omega (arith, count, h.few, k.large))
flat_one tree main (core.Cycle m) (core.Cycle n) keeps h k ne nf = ap core.Cycle (cycle_one tree main m n keeps h k)

reported_one : (tree : ProgramTree) (places : ProgramPlaces) (main : List ℕ) (a b : CallError) → IsReportedOf tree places main a → IsReportedOf tree places main b → (¬ SaysNothing a) → (¬ SaysNothing b) → a ≡ b
reported_one tree places main a b (rule e read is tells seen there first) (rule f other also tells_too seen_too there_too first_too) na nb =
    let one = reported_along read other main e (sym seen ∙ seen_too) (sym there ∙ there_too) first in
    let T : StatError → ProgramTree → Type 0 = λ x t. ReportsRule 3 t main x in
    is
    ∙ ap (λ (x : StatError). Rules x)
    (one_reported other main e f (subst (T e) seen_too tells) (subst (T f) seen_too tells_too) one first_too
    (λ memory. na (memory_is a (Rules rules.OutOfMemory) (is ∙ ap (λ (x : StatError). Rules x) memory) tt))
    (λ memory. nb (memory_is b (Rules rules.OutOfMemory) (also ∙ ap (λ (x : StatError). Rules x) memory) tt)))
    ∙ sym also
reported_one tree places main a b (rule e read is tells seen there first) (flat f also keeps refuses) na nb = absurd (na (memory_is a (Rules e) is (rules_memory tree main e keeps tells)))
reported_one tree places main a b (flat e is keeps refuses) (rule f read also tells seen there first) na nb = absurd (nb (memory_is b (Rules f) also (rules_memory tree main f keeps tells)))
reported_one tree places main a b (flat e is keeps refuses) (flat f also keeps_too refuses_too) na nb =
    is
    ∙ ap (λ (x : CoreError). Flat x)
    (flat_one tree main e f keeps refuses refuses_too
    (λ memory. na (memory_is a (Flat core.OutOfMemory) (is ∙ ap (λ (x : CoreError). Flat x) memory) tt))
    (λ memory. nb (memory_is b (Flat core.OutOfMemory) (also ∙ ap (λ (x : CoreError). Flat x) memory) tt)))
    ∙ sym also

no_flat_one : (bytes main : List ℕ) (a b : CallError) → HasNoFlat bytes main a → HasNoFlat bytes main b → (¬ SaysNothing a) → (¬ SaysNothing b) → a ≡ b
no_flat_one bytes main a b (unspelled x) (unspelled y) na nb = one_of_kind text_stop (IsTextRefused bytes) a b (text_one bytes) (text_reported bytes a x) (text_reported bytes b y) na nb
no_flat_one bytes main a b (unspelled x) (unruled tree places spelled there y) na nb = absurd (na (text_memory bytes tree a spelled x))
no_flat_one bytes main a b (unruled tree places spelled there x) (unspelled y) na nb = absurd (nb (text_memory bytes tree b spelled y))
no_flat_one bytes main a b (unruled tree places spelled there x) (unruled other others spelled_too there_too y) na nb =
    let I : ProgramTree → ProgramPlaces → Type 0 = λ t ps. IsReportedOf t ps main b in
    reported_one tree places main a b x (subst (I tree) (one_places bytes others places there_too there) (subst (λ t. I t others) (one_program bytes other tree spelled_too spelled) y)) na nb

-- ---- the first fault of an evaluation

known_same : (x y : Datum) → ◌≡◌ {A = Mark} (Known (Present x)) (Known (Present y)) → x ≡ y
known_same x y e = cc

faults_same : (o : Outcome) (k l : FaultKind) → o ≡ Faults k → o ≡ Faults l → k ≡ l
faults_same o k l h g = cc

kind_one : (σ : Streams) (t : ℕ) (form : Form) (k l : FaultKind) → IsFaultOn σ t form k → IsFaultOn σ t form l → k ≡ l
kind_one σ t _ _ _ (OnBinary op a b x y k left right f) (OnBinary _ _ _ u v l left_too right_too g) =
    let p : x ≡ u = known_same x u (sym left ∙ left_too) in
    let q : y ≡ v = known_same y v (sym right ∙ right_too) in
    faults_same (double_of op u v) k l (ap (λ (z : Datum). double_of op z v) (sym p) ∙ ap (double_of op x) (sym q) ∙ fault_value op x y k f) (fault_value op u v l g)
kind_one σ t _ _ _ (OnUnary op a x k left f) (OnUnary _ _ u l left_too g) =
    let p : x ≡ u = known_same x u (sym left ∙ left_too) in
    faults_same (single_of op u) k l (ap (single_of op) (sym p) ∙ fault_value_one op x k f) (fault_value_one op u l g)

fault_kind_one : (own : FlatView) (inputs : InputsView) (σ : Streams) (i t : ℕ) (k l : FaultKind) → IsFault own inputs σ i t k → IsFault own inputs σ i t l → k ≡ l
fault_kind_one own inputs σ i t k l h g =
    let same : h.flow ≡ g.flow = same_Some h.flow g.flow (sym h.there ∙ g.there) in
    kind_one σ t g.flow.form k l (subst (λ (x : Flow). IsFaultOn σ t x.form k) same h.fault) g.fault

-- two first faults have one instant and one rank
record SameFirst (t u p q : ℕ) : Type 0 where
  pub instants : t ≡ u
  pub ranks : p ≡ q

first_by : (t u p q : ℕ) → (IsEarlier t p u q → ⊥) → (IsEarlier u q t p → ⊥) → SameFirst t u p q
first_by t u p q one other = elim (order t u) [
  | inl less ↦ absurd (one (inl less))
  | inr rest ↦ elim rest [
    | inr more ↦ absurd (other (inl more))
    | inl same ↦ elim (order p q) [
      | inl less ↦ absurd (one (inr (same, less)))
      | inr ranks ↦ elim ranks [ inl is ↦ record { instants = same; ranks = is } | inr more ↦ absurd (other (inr (sym same, more))) ]
    ]
  ]
]

fault_is : (m n : List ℕ) (t u : ℕ) (k l : FaultKind) → m ≡ n → t ≡ u → k ≡ l → ◌≡◌ {A = CallError} (Fault m t k) (Fault n u l)
fault_is m n t u k l p q r = ap (λ (x : List ℕ). Fault x t k) p ∙ ap (λ (x : ℕ). Fault n x k) q ∙ ap (λ (x : FaultKind). Fault n u x) r

fault_one : (own : FlatView) (inputs : InputsView) (m n : List ℕ) (t u : ℕ) (k l : FaultKind) → IsOrdered own → IsFaultReported own inputs m t k → IsFaultReported own inputs n u l → ◌≡◌ {A = CallError} (Fault m t k) (Fault n u l)
fault_one own inputs m n t u k l ordered h g =
    let σ = solution own inputs in
    let solves = IsSolution-solution own inputs ordered in
    let x = h.first σ solves in
    let y = g.first σ solves in
    let s = first_by t u x.rank y.rank (λ early. y.first t x.rank x.place k x.ranked early x.fault) (λ early. x.first u y.rank y.place l y.ranked early y.fault) in
    let place : x.place ≡ y.place = same_Some x.place y.place (sym x.ranked ∙ ap (slice_get own.order) s.ranks ∙ y.ranked) in
    let variable : h.variable ≡ g.variable = same_Some h.variable g.variable (sym x.owner ∙ ap (slice_get own.owners) place ∙ y.owner) in
    let is : h.is ≡ g.is = same_Some h.is g.is (sym h.there ∙ ap (slice_get own.variables) variable ∙ g.there) in
    let at : IsFault own inputs σ y.place u k = subst (λ (i : ℕ). IsFault own inputs σ i u k) place (subst (λ (v : ℕ). IsFault own inputs σ x.place v k) s.instants x.fault) in
    fault_is m n t u k l (h.named ∙ ap (λ (v : Variable). v.name) is ∙ sym g.named) s.instants (fault_kind_one own inputs σ y.place u k l at y.fault)

-- ---- two stops of one request

module _ (gives : FileFacts) (settled : HasOneText gives) where
  both_unread : (path : List ℕ) (a b : CallError) → IsUnread gives path a → IsUnread gives path b → (¬ SaysNothing a) → (¬ SaysNothing b) → a ≡ b
  both_unread path a b x y na nb =
      one_of_kind (λ name. CannotRead name) (λ name. name ≡ path) a b (λ m n h k. h ∙ sym k) (unread_reported gives path a x) (unread_reported gives path b y) na nb

  program_stop : (path main : List ℕ) (a b : CallError) → StopsAtProgram gives path main a → StopsAtProgram gives path main b → (¬ SaysNothing a) → (¬ SaysNothing b) → a ≡ b
  program_stop path main a b (program_unread x) (program_unread y) na nb = both_unread path a b x y na nb
  program_stop path main a b (program_unread x) (program_refused text given y) na nb = never gives settled path text a given x na
  program_stop path main a b (program_refused text given x) (program_unread y) na nb = never gives settled path text b given y nb
  program_stop path main a b (program_refused text given x) (program_refused other other_given y) na nb =
      no_flat_one text main a b x (subst (λ t. HasNoFlat t main b) (one_of gives settled path other text other_given given) y) na nb

  plan_stop : (path place_path main : List ℕ) (a b : CallError) → StopsAtPlan gives path place_path main a → StopsAtPlan gives path place_path main b → (¬ SaysNothing a) → (¬ SaysNothing b) → a ≡ b
  plan_stop path place_path main a b (no_program x) (no_program y) na nb = program_stop path main a b x y na nb
  plan_stop path place_path main a b (no_program x) (place_unread program own given has y) na nb = past_program gives settled path main program own a given has x na
  plan_stop path place_path main a b (no_program x) (place_refused program place own given has place_given y) na nb = past_program gives settled path main program own a given has x na
  plan_stop path place_path main a b (place_unread program own given has x) (no_program y) na nb = past_program gives settled path main program own b given has y nb
  plan_stop path place_path main a b (place_unread program own given has x) (place_unread other list also other_has y) na nb = both_unread place_path a b x y na nb
  plan_stop path place_path main a b (place_unread program own given has x) (place_refused other place list also other_has place_given y) na nb = never gives settled place_path place a place_given x na
  plan_stop path place_path main a b (place_refused program place own given has place_given x) (no_program y) na nb = past_program gives settled path main program own b given has y nb
  plan_stop path place_path main a b (place_refused program place own given has place_given x) (place_unread other list also other_has y) na nb = never gives settled place_path place b place_given y nb
  plan_stop path place_path main a b (place_refused program place own given has place_given x) (place_refused other text list also other_has text_given y) na nb =
      let same = one_of gives settled place_path text place text_given place_given in
      let flat_eq = flats_one gives settled path main program other own list given also has other_has in
      let there = subst (λ (l : FlatView). IsPlaceRefused l place b) flat_eq (subst (λ t. IsPlaceRefused list t b) same y) in
      one_of_kind (λ e. BadPlace e) (IsPlaceReported own place) a b (place_one own place) (place_reported own place a x) (place_reported own place b there) na nb

  table_stop : (own other : FlatView) (path table text : List ℕ) (a b : CallError) → other ≡ own → gives path (Some table) → gives path (Some text) → IsTableRefused own.types (inputs_of own.variables) table a → IsTableRefused other.types (inputs_of other.variables) text b
      → (¬ SaysNothing a) → (¬ SaysNothing b) → a ≡ b
  table_stop own other path table text a b same given text_given x y na nb =
      let types = own.types in
      let inputs = inputs_of own.variables in
      let there = subst (λ (f : FlatView). IsTableRefused f.types (inputs_of f.variables) table b) same (subst (λ t. IsTableRefused other.types (inputs_of other.variables) t b) (one_of gives settled path text table text_given given) y) in
      one_of_kind (λ e. BadTable e) (IsTableReported types inputs table) a b (table_one types inputs table) (table_reported types inputs table a x) (table_reported types inputs table b there) na nb

  -- two names that are no bool outputs, of one flat program
  one_unobserved : (names : List (List ℕ)) (own other : FlatView) (a b : CallError) → other ≡ own → IsUnobserved own names a → IsUnobserved other names b → a ≡ b
  one_unobserved names own other a b same x y =
      let also = subst (λ (f : FlatView). unobserved f.variables names ≡ Some y.name) same y.first in
      x.is ∙ ap (λ (n : List ℕ). Mistaken (Unobserved n)) (same_Some x.name y.name (sym x.first ∙ also)) ∙ sym y.is

  module _ (request : EvalRequest) where
    both_faults : (m n : List ℕ) (t u : ℕ) (k l : FaultKind) → IsFaultOf gives request m t k → IsFaultOf gives request n u l → ◌≡◌ {A = CallError} (Fault m t k) (Fault n u l)
    both_faults m n t u k l x y =
        let asked = x.asked in
        let other = y.asked in
        let program_same = one_of gives settled request.program.now other.program asked.program other.program_given asked.program_given in
        let table_same = one_of gives settled request.table.now other.table asked.table other.table_given asked.table_given in
        let spelled = subst (λ b. SpellsText b other.tree) program_same other.posed.spelled in
        let flat_eq = flats_same asked.program request.main.now asked.tree other.tree x.flat y.flat asked.posed.spelled spelled asked.posed.flat_is other.posed.flat_is in
        let columns = subst (λ b. IsTextOf y.flat.types (inputs_of y.flat.variables) y.inputs b) table_same other.posed.table_is in
        let inputs_eq = one_table x.flat.types (inputs_of x.flat.variables) asked.table y.inputs x.inputs (subst (λ (f : FlatView). IsTextOf f.types (inputs_of f.variables) y.inputs asked.table) flat_eq columns) asked.posed.table_is in
        let reported = subst (λ (i : InputsView). IsFaultReported x.flat i n u l) inputs_eq (subst (λ (f : FlatView). IsFaultReported f y.inputs n u l) flat_eq y.reported) in
        fault_one x.flat x.inputs m n t u k l asked.posed.flat_is.is_flat.ordered x.reported reported

    eval_stop : (a b : CallError) → IsEvalStopped gives request a → IsEvalStopped gives request b → (¬ SaysNothing a) → (¬ SaysNothing b) → a ≡ b
    eval_stop a b (eval_memory e) y na nb = absurd (na (memory_is a OutOfMemory e tt))
    eval_stop a b (eval_program x) (eval_memory e) na nb = absurd (nb (memory_is b OutOfMemory e tt))
    eval_stop a b (eval_program x) (eval_program y) na nb = program_stop request.program.now request.main.now a b x y na nb
    eval_stop a b (eval_program x) (eval_unread program own given has y) na nb = past_program gives settled request.program.now request.main.now program own a given has x na
    eval_stop a b (eval_program x) (eval_table program table own given table_given has y) na nb = past_program gives settled request.program.now request.main.now program own a given has x na
    eval_stop a b (eval_program x) (eval_fault name instant kind e fault) na nb = fault_past gives settled request name instant kind a fault x na
    eval_stop a b (eval_unread program own given has x) (eval_memory e) na nb = absurd (nb (memory_is b OutOfMemory e tt))
    eval_stop a b (eval_unread program own given has x) (eval_program y) na nb = past_program gives settled request.program.now request.main.now program own b given has y nb
    eval_stop a b (eval_unread program own given has x) (eval_unread other list also other_has y) na nb = both_unread request.table.now a b x y na nb
    eval_stop a b (eval_unread program own given has x) (eval_table other table list also table_given other_has y) na nb = never gives settled request.table.now table a table_given x na
    eval_stop a b (eval_unread program own given has x) (eval_fault name instant kind e fault) na nb = never gives settled request.table.now fault.asked.table a fault.asked.table_given x na
    eval_stop a b (eval_table program table own given table_given has x) (eval_memory e) na nb = absurd (nb (memory_is b OutOfMemory e tt))
    eval_stop a b (eval_table program table own given table_given has x) (eval_program y) na nb = past_program gives settled request.program.now request.main.now program own b given has y nb
    eval_stop a b (eval_table program table own given table_given has x) (eval_unread other list also other_has y) na nb = never gives settled request.table.now table b table_given y nb
    eval_stop a b (eval_table program table own given table_given has x) (eval_table other text list also text_given other_has y) na nb =
        let flat_eq = flats_one gives settled request.program.now request.main.now program other own list given also has other_has in
        table_stop own list request.table.now table text a b flat_eq table_given text_given x y na nb
    eval_stop a b (eval_table program table own given table_given has x) (eval_fault name instant kind e fault) na nb = past_table gives settled request program table name own instant kind a given table_given has fault x na
    eval_stop a b (eval_fault name instant kind e fault) (eval_memory m) na nb = absurd (nb (memory_is b OutOfMemory m tt))
    eval_stop a b (eval_fault name instant kind e fault) (eval_program y) na nb = fault_past gives settled request name instant kind b fault y nb
    eval_stop a b (eval_fault name instant kind e fault) (eval_unread other list also other_has y) na nb = never gives settled request.table.now fault.asked.table b fault.asked.table_given y nb
    eval_stop a b (eval_fault name instant kind e fault) (eval_table other text list also text_given other_has y) na nb = past_table gives settled request other text name list instant kind b also text_given other_has fault y nb
    eval_stop a b (eval_fault name instant kind e fault) (eval_fault other t k d also) na nb = e ∙ both_faults name other instant t kind k fault also ∙ sym d
    eval_stop a b (eval_program x) (eval_unobserved own inputs asked un) na nb = posed_past gives settled request own inputs asked a x na
    eval_stop a b (eval_unread program own given has x) (eval_unobserved other inputs asked un) na nb = never gives settled request.table.now asked.table a asked.table_given x na
    eval_stop a b (eval_table program table own given table_given has x) (eval_unobserved other inputs asked un) na nb = past_posed gives settled request program table own other inputs asked a given table_given has x na
    eval_stop a b (eval_fault name instant kind e fault) (eval_unobserved other inputs asked un) na nb =
        never_unobserved gives settled (texts request.always.now) fault.flat other b (posed_one gives settled request fault.flat other fault.inputs inputs fault.asked asked) fault.observed un
    eval_stop a b (eval_unobserved own inputs asked un) (eval_memory m) na nb = absurd (nb (memory_is b OutOfMemory m tt))
    eval_stop a b (eval_unobserved own inputs asked un) (eval_program y) na nb = posed_past gives settled request own inputs asked b y nb
    eval_stop a b (eval_unobserved own inputs asked un) (eval_unread other list also other_has y) na nb = never gives settled request.table.now asked.table b asked.table_given y nb
    eval_stop a b (eval_unobserved own inputs asked un) (eval_table other text list also text_given other_has y) na nb = past_posed gives settled request other text list own inputs asked b also text_given other_has y nb
    eval_stop a b (eval_unobserved own inputs asked un) (eval_fault name instant kind e fault) na nb =
        never_unobserved gives settled (texts request.always.now) fault.flat own a (posed_one gives settled request fault.flat own fault.inputs inputs fault.asked asked) fault.observed un
    eval_stop a b (eval_unobserved own inputs asked un) (eval_unobserved other more also un_too) na nb = one_unobserved (texts request.always.now) own other a b (posed_one gives settled request own other inputs more asked also) un un_too

  module _ (path place_path table_path main : List ℕ) where
    job_stop : (a b : CallError) → StopsAtJob gives path place_path table_path main a → StopsAtJob gives path place_path table_path main b → (¬ SaysNothing a) → (¬ SaysNothing b) → a ≡ b
    job_stop a b (no_plan x) (no_plan y) na nb = plan_stop path place_path main a b x y na nb
    job_stop a b (no_plan x) (table_unread plan is y) na nb = past_plan gives settled path place_path table_path main plan a is x na
    job_stop a b (no_plan x) (table_refused plan table is given y) na nb = past_plan gives settled path place_path table_path main plan a is x na
    job_stop a b (table_unread plan is x) (no_plan y) na nb = past_plan gives settled path place_path table_path main plan b is y nb
    job_stop a b (table_unread plan is x) (table_unread other also y) na nb = both_unread table_path a b x y na nb
    job_stop a b (table_unread plan is x) (table_refused other table also given y) na nb = never gives settled table_path table a given x na
    job_stop a b (table_refused plan table is given x) (no_plan y) na nb = past_plan gives settled path place_path table_path main plan b is y nb
    job_stop a b (table_refused plan table is given x) (table_unread other also y) na nb = never gives settled table_path table b given y nb
    job_stop a b (table_refused plan table is given x) (table_refused other text also text_given y) na nb =
        let flat_eq = flats_one gives settled path main is.program also.program plan.flat other.flat is.program_given also.program_given is.flat also.flat in
        table_stop plan.flat other.flat table_path table text a b flat_eq given text_given x y na nb

  turns_stop : (source : TurnsSource) (a b : CallError) → StopsAtTurns gives source a → StopsAtTurns gives source b → (¬ SaysNothing a) → (¬ SaysNothing b) → a ≡ b
  turns_stop (File path) a b (no_schedule x) (no_schedule y) na nb = both_unread path.now a b x y na nb
  turns_stop (File path) a b (no_schedule x) (bad_schedule bytes given y) na nb = never gives settled path.now bytes a given x na
  turns_stop (File path) a b (bad_schedule bytes given x) (no_schedule y) na nb = never gives settled path.now bytes b given y nb
  turns_stop (File path) a b (bad_schedule bytes given x) (bad_schedule others also y) na nb =
      let there = subst (λ t. IsScheduleRefused t b) (one_of gives settled path.now others bytes also given) y in
      one_of_kind (λ e. Schedule e) (λ e. schedule_of bytes ≡ Err e) a b (λ e f h k. err_same (schedule_of bytes) e f h k) (schedule_reported bytes a x) (schedule_reported bytes b there) na nb
  turns_stop (Random seed count) a b x y na nb = absurd x
  turns_stop Unclear a b x y na nb = absurd x

  module _ (request : ReplayRequest) where
    replay_stop : (a b : CallError) → IsReplayStopped gives request a → IsReplayStopped gives request b → (¬ SaysNothing a) → (¬ SaysNothing b) → a ≡ b
    replay_stop a b (replay_memory e) y na nb = absurd (na (memory_is a OutOfMemory e tt))
    replay_stop a b (replay_job x) (replay_memory e) na nb = absurd (nb (memory_is b OutOfMemory e tt))
    replay_stop a b (replay_job x) (replay_job y) na nb = job_stop request.program.now request.place.now request.table.now request.main.now a b x y na nb
    replay_stop a b (replay_job x) (replay_turns job is y) na nb = replay_past gives settled request job a is x na
    replay_stop a b (replay_job x) (replay_unobserved job turns asked un) na nb = replay_past gives settled request job a asked.job_for x na
    replay_stop a b (replay_turns job is x) (replay_memory e) na nb = absurd (nb (memory_is b OutOfMemory e tt))
    replay_stop a b (replay_turns job is x) (replay_job y) na nb = replay_past gives settled request job b is y nb
    replay_stop a b (replay_turns job is x) (replay_turns other also y) na nb = turns_stop request.source a b x y na nb
    replay_stop a b (replay_turns job is x) (replay_unobserved other turns asked un) na nb = turns_past gives settled request other turns a asked x na
    replay_stop a b (replay_unobserved job turns asked un) (replay_memory e) na nb = absurd (nb (memory_is b OutOfMemory e tt))
    replay_stop a b (replay_unobserved job turns asked un) (replay_job y) na nb = replay_past gives settled request job b asked.job_for y nb
    replay_stop a b (replay_unobserved job turns asked un) (replay_turns other is y) na nb = turns_past gives settled request job turns b asked y nb
    replay_stop a b (replay_unobserved job turns asked un) (replay_unobserved other more also un_too) na nb =
        one_unobserved (texts request.always.now) job.plan.flat other.plan.flat a b (jobs_one gives settled request.program.now request.place.now request.table.now request.main.now job other asked.job_for also.job_for).0 un un_too

    mistaken_stop : (a b : CallError) → IsReplayRefused gives request a → IsReplayRefused gives request b → (¬ SaysNothing a) → (¬ SaysNothing b) → a ≡ b
    mistaken_stop a b (replay_mistaken mistake found e) (replay_mistaken other also d) na nb =
        e ∙ ap (λ (m : Mistake). Mistaken m) (same_Some mistake other (sym found ∙ also)) ∙ sym d
    mistaken_stop a b (replay_mistaken mistake found e) (replay_stopped clear y) na nb = absurd (none_some (replay_mistake request) mistake clear found)
    mistaken_stop a b (replay_stopped clear x) (replay_mistaken mistake found e) na nb = absurd (none_some (replay_mistake request) mistake clear found)
    mistaken_stop a b (replay_stopped clear x) (replay_stopped same y) na nb = replay_stop a b x y na nb

  -- a fault of a run is reported on threads
  run_reported : (request : RunRequest) (stop : CallError) (name : List ℕ) (instant : ℕ) (kind : FaultKind) → stop ≡ Fault name instant kind → IsFaultOfRun (AsksRun request) stop
  run_reported request stop name instant kind e = subst (IsFaultOfRun (AsksRun request)) (sym e) tt

  module _ (request : RunRequest) where
    run_stop : (a b : CallError) → IsRunStopped gives request a → IsRunStopped gives request b → (¬ SaysNothing a) → (¬ SaysNothing b) → (¬ IsFaultOfRun (AsksRun request) a) → a ≡ b
    run_stop a b (run_memory e) y na nb nf = absurd (na (memory_is a OutOfMemory e tt))
    run_stop a b (run_lost job is e) y na nb nf = absurd (na (memory_is a LinkLost e tt))
    run_stop a b (run_thread job is e) y na nb nf = absurd (na (memory_is a NoThread e tt))
    run_stop a b (run_fault name t k e fault) y na nb nf = absurd (nf (run_reported request a name t k e))
    run_stop a b (run_job x) (run_memory e) na nb nf = absurd (nb (memory_is b OutOfMemory e tt))
    run_stop a b (run_job x) (run_lost job is e) na nb nf = absurd (nb (memory_is b LinkLost e tt))
    run_stop a b (run_job x) (run_thread job is e) na nb nf = absurd (nb (memory_is b NoThread e tt))
    run_stop a b (run_job x) (run_job y) na nb nf = job_stop request.program.now request.place.now request.table.now request.main.now a b x y na nb
    run_stop a b (run_job x) (run_fault name t k e fault) na nb nf = run_past gives settled request fault.job a fault.asked_for x na
    run_stop a b (run_job x) (run_unobserved job asked un) na nb nf = run_past gives settled request job a asked x na
    run_stop a b (run_unobserved job asked un) (run_memory m) na nb nf = absurd (nb (memory_is b OutOfMemory m tt))
    run_stop a b (run_unobserved job asked un) (run_lost other is m) na nb nf = absurd (nb (memory_is b LinkLost m tt))
    run_stop a b (run_unobserved job asked un) (run_thread other is m) na nb nf = absurd (nb (memory_is b NoThread m tt))
    run_stop a b (run_unobserved job asked un) (run_job y) na nb nf = run_past gives settled request job b asked y nb
    run_stop a b (run_unobserved job asked un) (run_fault name t k e fault) na nb nf = fault_observed gives settled request name t k fault job a asked un
    run_stop a b (run_unobserved job asked un) (run_unobserved other also un_too) na nb nf =
        one_unobserved (texts request.always.now) job.plan.flat other.plan.flat a b (jobs_one gives settled request.program.now request.place.now request.table.now request.main.now job other asked also).0 un un_too

    asked_stop : (a b : CallError) → IsRunRefused gives request a → IsRunRefused gives request b → (¬ SaysNothing a) → (¬ SaysNothing b) → (¬ IsFaultOfRun (AsksRun request) a) → a ≡ b
    asked_stop a b (run_mistaken mistake found e) (run_mistaken other also d) na nb nf =
        e ∙ ap (λ (m : Mistake). Mistaken m) (same_Some mistake other (sym found ∙ also)) ∙ sym d
    asked_stop a b (run_mistaken mistake found e) (run_stopped clear y) na nb nf = absurd (none_some (run_mistake request) mistake clear found)
    asked_stop a b (run_stopped clear x) (run_mistaken mistake found e) na nb nf = absurd (none_some (run_mistake request) mistake clear found)
    asked_stop a b (run_stopped clear x) (run_stopped same y) na nb nf = run_stop a b x y na nb nf

  explain_stop : (code : Option (List ℕ)) (a b : CallError) → IsExplainStopped code a → IsExplainStopped code b → (¬ SaysNothing a) → (¬ SaysNothing b) → a ≡ b
  explain_stop code a b (explain_memory e) y na nb = absurd (na (memory_is a OutOfMemory e tt))
  explain_stop code a b (explain_unknown name is none e) (explain_memory m) na nb = absurd (nb (memory_is b OutOfMemory m tt))
  explain_stop code a b (explain_unknown name is none e) (explain_unknown other also nothing m) na nb =
      e ∙ ap (λ (x : List ℕ). Mistaken (UnknownCode x)) (same_Some name other (sym is ∙ also)) ∙ sym m

  refused_stop : (request : EvalRequest) (a b : CallError) → IsEvalRefused gives request a → IsEvalRefused gives request b → (¬ SaysNothing a) → (¬ SaysNothing b) → a ≡ b
  refused_stop request a b (eval_mistaken mistake found e) (eval_mistaken other also d) na nb =
      e ∙ ap (λ (m : Mistake). Mistaken m) (same_Some mistake other (sym found ∙ also)) ∙ sym d
  refused_stop request a b (eval_mistaken mistake found e) (eval_stopped meant y) na nb = absurd (none_some (mistake_in request) mistake meant found)
  refused_stop request a b (eval_stopped meant x) (eval_mistaken mistake found e) na nb = absurd (none_some (mistake_in request) mistake meant found)
  refused_stop request a b (eval_stopped meant x) (eval_stopped same y) na nb = eval_stop request a b x y na nb

  pub one_refusal_of : (request : Request) (a b : CallError) → IsRequestStopped gives request a → IsRequestStopped gives request b → (¬ SaysNothing a) → (¬ SaysNothing b) → (¬ IsFaultOfRun request a) → a ≡ b
  one_refusal_of (Check request) a b (check_program x) (check_program y) na nb nf = program_stop request.program.now request.main.now a b x y na nb
  one_refusal_of (Check request) a b (check_memory e) y na nb nf = absurd (na (memory_is a OutOfMemory e tt))
  one_refusal_of (Check request) a b (check_program x) (check_memory e) na nb nf = absurd (nb (memory_is b OutOfMemory e tt))
  one_refusal_of (Eval request) a b x y na nb nf = refused_stop request a b x y na nb
  one_refusal_of (New request) a b (new_program x) (new_program y) na nb nf = program_stop request.program.now request.main.now a b x y na nb
  one_refusal_of (New request) a b (new_memory e) y na nb nf = absurd (na (memory_is a OutOfMemory e tt))
  one_refusal_of (New request) a b (new_program x) (new_memory e) na nb nf = absurd (nb (memory_is b OutOfMemory e tt))
  one_refusal_of (Plan request) a b (plan_files x) (plan_files y) na nb nf = plan_stop request.program.now request.place.now request.main.now a b x y na nb
  one_refusal_of (Plan request) a b (plan_memory e) y na nb nf = absurd (na (memory_is a OutOfMemory e tt))
  one_refusal_of (Plan request) a b (plan_files x) (plan_memory e) na nb nf = absurd (nb (memory_is b OutOfMemory e tt))
  one_refusal_of (Replay request) a b x y na nb nf = mistaken_stop request a b x y na nb
  one_refusal_of (AsksRun request) a b x y na nb nf = asked_stop request a b x y na nb nf
  one_refusal_of (Explain request) a b x y na nb nf = explain_stop (code_in request) a b x y na nb
