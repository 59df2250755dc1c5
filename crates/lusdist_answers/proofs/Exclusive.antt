-- What has an answer isn't refused.
use Rattle.std.proofs.Common.{refl, ◌≡◌, Bool, ℕ, ◌<◌, List, length, map, Option, Some, None, Result, Ok, Err, false, sym, ap, ◌∙◌, subst, arith, inl, inr}
use Rattle.std.specs.Prelude.{IsUtf8}
use Rattle.std.proofs.lemmas.Str.{IsUtf8-from_ascii}
use Rattle.lutree.specs.Places.{ProgramPlaces}
use Rattle.lutree.specs.Tree.{ProgramTree}
use Rattle.luflow.specs.declared.form.Flow.{Flow}
use Rattle.luflow.specs.declared.form.FaultKind.{FaultKind}
use Rattle.luflow.specs.declared.variable.Enum.{Enum}
use Rattle.luflow.specs.declared.variable.Variable.{Variable}
use Rattle.luflow.specs.Program.{FlatView, InputsView, reads}
use Rattle.luflow.specs.Rank.{reads_of, IsRankOrder}
use Rattle.luflow.specs.Solution.{solution}
use Rattle.luflow.specs.Variables.{inputs_of}
use Rattle.luflow.proofs.Solutions.{IsSolution-solution}
use Rattle.luflow.specs.Faults.{IsFault}
use Rattle.luworld.specs.Needs.{PlanView, sites_of}
use Rattle.luworld.specs.Jobs.{JobView}
use Rattle.lustat_rules.specs.Accepted.{Rule, Keeps, Breaks, program, enumeration, node, declaration, equation}
use Rattle.lustat_rules.specs.Accepted as accepted
use Rattle.lustat_rules.specs.declared.error.StatError.{StatError}
use Rattle.lustat_rules.specs.declared.error.StatError.TheVariants as rules
use Rattle.lustat_rules.specs.Reported.{ReportsRule}
use Rattle.lucore_laws.proofs.Orders.{one_order}
use Rattle.lucore_laws.proofs.Same.{one_list}
use Rattle.lucore.specs.declared.error.CoreError.{CoreError}
use Rattle.lucore.specs.declared.error.CoreError.TheVariants as core
use Rattle.lucore.specs.Result.{IsFlatOf, Refuses}
use Rattle.lusyn.specs.declared.error.SynError.{SynError}
use Rattle.lusyn.specs.declared.error.SynError.TheVariants as syntax
use Rattle.lusyn.specs.Texts.{SpellsText}
use Rattle.lusyn.proofs.Exclusive.{one_program, not_refused}
use Rattle.luplace_file.specs.declared.error.PlaceError.{PlaceError}
use Rattle.luplace_file.specs.declared.error.PlaceError.TheVariants as placing
use Rattle.luplace_file.specs.Placement.{placement_of}
use Rattle.luplace.specs.Placing.{refusal}
use Rattle.lutab.specs.declared.error.TabError.{TabError}
use Rattle.lutab.specs.declared.error.TabError.TheVariants as tab
use Rattle.lutab.specs.Table.{IsTextOf, is_too_long}
use Rattle.lutab.proofs.Reported.{memory_or, not_refused as table_fine}
use Rattle.lutab.proofs.Texts.{one_table}
use Rattle.lusdist_shell.specs.ScheduleText.{schedule_of}
use Rattle.lusdist_shell.specs.declared.schedule.ScheduleError.{ScheduleError}
use Rattle.lusdist_shell.specs.declared.schedule.ScheduleError.TheVariants as schedule
use Rattle.lusdist_shell.specs.declared.request.CheckRequest.{CheckRequest}
use Rattle.lusdist_shell.specs.declared.request.EvalRequest.{EvalRequest}
use Rattle.lusdist_shell.specs.declared.request.NewRequest.{NewRequest}
use Rattle.lusdist_shell.specs.declared.request.PlanRequest.{PlanRequest}
use Rattle.lusdist_shell.specs.declared.request.ReplayRequest.{ReplayRequest}
use Rattle.lusdist_shell.specs.declared.request.Request.{Request}
use Rattle.lusdist_shell.specs.declared.request.RunRequest.{RunRequest}
use Rattle.lusdist_shell.specs.declared.request.TurnsSource.{TurnsSource}
use Rattle.lusdist_shell.specs.declared.request.TurnsSource.TheVariants.{File, Random, Unclear}
use Rattle.lusdist_shell.specs.declared.request.Request.TheVariants.{Check, Eval, New, Plan, Replay, Run as AsksRun, Explain}
use Rattle.lusdist_call.specs.declared.call_error.CallError.{CallError}
use Rattle.lusdist_call.specs.declared.call_error.CallError.TheVariants.{CannotRead, CannotWrite, NotAscii, Syntax, Rules, Flat, Place as BadPlace, Table as BadTable, Schedule, Fault, LinkLost, NoThread, OutOfMemory, Mistaken}
use Rattle.lusdist_call.specs.Begun.{IsBegun}
use Rattle.lusdist_call.specs.Answers.{IsChecked, IsPlanned, IsReplayed, IsRan, IsAnswer}
use Rattle.lusdist_call.specs.Asked.{HasFlat, IsPlanOfText, IsJobFor, AreTurnsFrom}
use Rattle.lusdist_call.specs.Evaluated.{IsPosedBy, IsEvaluated, IsFaultOf, IsFaultReported}
use Rattle.lusdist_call.specs.Refused.{IsReportedOf, IsProgramRefused, IsTableRefused, IsPlaceRefused}
use Rattle.lusdist_call.specs.Refused.IsReportedOf.{rule, flat}
use Rattle.lusdist_call.specs.Explained.{code_in, explanation, IsExplainStopped}
use Rattle.lusdist_call.specs.Explained.IsExplainStopped.{explain_unknown, explain_memory}
use Rattle.lusdist_call.specs.Files.{IsUnread}
use Rattle.lusdist_call.specs.Stopped.{IsScheduleRefused, HasNoFlat, StopsAtProgram, StopsAtPlan, StopsAtJob, IsCheckStopped, IsEvalRefused, IsEvalStopped, IsNewStopped, IsPlanStopped, IsReplayStopped, IsReplayRefused, StopsAtTurns, IsRunFault, IsRunRefused, IsRunStopped, IsRequestStopped, IsUnobserved}
use Rattle.lusdist_call.specs.Violations.{unobserved}
use Rattle.clap.specs.Walk.{texts}
use Rattle.lusdist_call.specs.Stopped.HasNoFlat.{unspelled, unruled}
use Rattle.lusdist_call.specs.Stopped.StopsAtProgram.{program_unread, program_refused}
use Rattle.lusdist_call.specs.Stopped.StopsAtPlan.{no_program, place_unread, place_refused}
use Rattle.lusdist_call.specs.Stopped.IsCheckStopped.{check_program, check_memory}
use Rattle.lusdist_call.specs.Mistakes.{mistake_in, replay_mistake, run_mistake}
use Rattle.lusdist_call.specs.Stopped.IsEvalRefused.{eval_mistaken, eval_stopped}
use Rattle.lusdist_call.specs.Stopped.IsEvalStopped.{eval_program, eval_unread, eval_table, eval_fault, eval_unobserved, eval_memory}
use Rattle.lusdist_call.specs.Stopped.IsNewStopped.{new_program, new_memory}
use Rattle.lusdist_call.specs.Stopped.IsPlanStopped.{plan_files, plan_memory}
use Rattle.lusdist_call.specs.Stopped.StopsAtJob.{no_plan, table_unread, table_refused}
use Rattle.lusdist_call.specs.Stopped.IsReplayStopped.{replay_job, replay_turns, replay_unobserved, replay_memory}
use Rattle.lusdist_call.specs.Stopped.IsReplayRefused.{replay_mistaken, replay_stopped}
use Rattle.lusdist_call.specs.Stopped.IsRunRefused.{run_mistaken, run_stopped}
use Rattle.lusdist_call.specs.Stopped.StopsAtSchedule.{no_schedule, bad_schedule}
use Rattle.lusdist_call.specs.Stopped.IsRunStopped.{run_job, run_fault, run_lost, run_thread, run_unobserved, run_memory}
use Rattle.lusdist_call.specs.Exact.{HasOneText, SaysNothing}
use Rattle.std.proofs.lemmas.Option.{same_Some}
use Rattle.lusdist_shell.specs.Files.{FileFacts}

pub memory_is : (stop other : CallError) → stop ≡ other → SaysNothing other → SaysNothing stop
memory_is stop other e h = subst SaysNothing (sym e) h

-- ---- one flat program

flat_is : (a b : FlatView) → a.types ≡ b.types → a.flows ≡ b.flows → a.order ≡ b.order → a.owners ≡ b.owners → a.variables ≡ b.variables → a ≡ b
flat_is a b types flows order owners variables =
    ap (λ (x : List Enum). record { types = x; flows = a.flows; order = a.order; owners = a.owners; variables = a.variables }) types
    ∙ ap (λ (x : List Flow). record { types = b.types; flows = x; order = a.order; owners = a.owners; variables = a.variables }) flows
    ∙ ap (λ (x : List ℕ). record { types = b.types; flows = b.flows; order = x; owners = a.owners; variables = a.variables }) order
    ∙ ap (λ (x : List ℕ). record { types = b.types; flows = b.flows; order = b.order; owners = x; variables = a.variables }) owners
    ∙ ap (λ (x : List Variable). record { types = b.types; flows = b.flows; order = b.order; owners = b.owners; variables = x }) variables

flat_same : (tree : ProgramTree) (main : List ℕ) (a b : FlatView) → IsFlatOf tree main a → IsFlatOf tree main b → a ≡ b
flat_same tree main a b x y =
    let same = one_list tree main a b (x.accepted accepted.recursive_node) x.laid_out y.laid_out in
    let rows : reads_of b ≡ reads_of a = ap (map reads) (sym same.flows) in
    let order = one_order (reads_of a) a.order b.order x.is_flat.ranked (subst (λ xs. IsRankOrder xs b.order) rows y.is_flat.ranked) in
    flat_is a b same.types same.flows order same.owners same.variables

-- ---- a program that has a flat program isn't refused

kept : (tree : ProgramTree) (main : List ℕ) (r : Rule) → Breaks tree main r → Keeps tree main r → ⊥
kept tree main r (program never) keeps = never keeps.program
kept tree main r (enumeration i t at never) keeps = never (keeps.types i t at)
kept tree main r (accepted.name i j t x at there never) keeps = never (keeps.names i j t x at there)
kept tree main r (node i n at never) keeps = never (keeps.nodes i n at)
kept tree main r (declaration i j n d at there never) keeps = never (keeps.declarations i j n d at there)
kept tree main r (equation i j n q at there never) keeps = never (keeps.equations i j n q at there)

pub rules_memory : (tree : ProgramTree) (main : List ℕ) (reported : StatError) → ((r : Rule) → Keeps tree main r) → ReportsRule 3 tree main reported → SaysNothing (Rules reported)
rules_memory tree main (rules.DuplicateName byte) keeps h = absurd (kept tree main accepted.duplicate_name h.1.broken (keeps accepted.duplicate_name))
rules_memory tree main (rules.UnknownName byte) keeps h = absurd (kept tree main accepted.unknown_name h.1.broken (keeps accepted.unknown_name))
rules_memory tree main (rules.UnknownNode byte) keeps h = absurd (kept tree main accepted.unknown_node h.1.broken (keeps accepted.unknown_node))
rules_memory tree main (rules.TypeMismatch byte) keeps h = absurd (kept tree main accepted.type_mismatch h.1.broken (keeps accepted.type_mismatch))
rules_memory tree main (rules.WrongArity byte) keeps h = absurd (kept tree main accepted.wrong_arity h.1.broken (keeps accepted.wrong_arity))
rules_memory tree main (rules.Undefined byte) keeps h = absurd (kept tree main accepted.undefined h.1.broken (keeps accepted.undefined))
rules_memory tree main (rules.DefinedTwice byte) keeps h = absurd (kept tree main accepted.defined_twice h.1.broken (keeps accepted.defined_twice))
rules_memory tree main (rules.RecursiveNode byte) keeps h = absurd (kept tree main accepted.recursive_node h.1.broken (keeps accepted.recursive_node))
rules_memory tree main rules.NoMain keeps h = absurd (kept tree main accepted.no_main h.1.broken (keeps accepted.no_main))
rules_memory tree main (rules.BadMerge byte) keeps h = absurd (kept tree main accepted.bad_merge h.1.broken (keeps accepted.bad_merge))
rules_memory tree main (rules.ClockMismatch byte) keeps h = absurd (kept tree main accepted.clock_mismatch h.1.broken (keeps accepted.clock_mismatch))
rules_memory tree main (rules.NotAClock byte) keeps h = absurd (kept tree main accepted.not_a_clock h.1.broken (keeps accepted.not_a_clock))
rules_memory tree main (rules.ClockedParameter byte) keeps h = absurd (kept tree main accepted.clocked_parameter h.1.broken (keeps accepted.clocked_parameter))
rules_memory tree main (rules.HiddenClock byte) keeps h = absurd (kept tree main accepted.hidden_clock h.1.broken (keeps accepted.hidden_clock))
rules_memory tree main (rules.MaybeNil byte) keeps h = absurd (kept tree main accepted.maybe_nil h.1.broken (keeps accepted.maybe_nil))
rules_memory tree main (rules.CurrentMayBeNil byte) keeps h = absurd (kept tree main accepted.current_may_be_nil h.1.broken (keeps accepted.current_may_be_nil))
rules_memory tree main rules.OutOfMemory keeps h = tt

flat_memory : (tree : ProgramTree) (main : List ℕ) (own : FlatView) (reported : CoreError) → IsFlatOf tree main own → Refuses tree main reported → SaysNothing (Flat reported)
flat_memory tree main own core.TooLarge is h =
    let same = one_list tree main own h.flat (is.accepted accepted.recursive_node) is.laid_out h.laid_out in
    let count = ap (λ (xs : List Flow). length xs) same.flows in
    absurd (omega (arith, count, is.is_flat.few, h.large))
flat_memory tree main own (core.Cycle name) is h = absurd (is.causal (h.occurrence, h.leads))
flat_memory tree main own core.OutOfMemory is h = tt

reported_memory : (tree : ProgramTree) (places : ProgramPlaces) (main : List ℕ) (own : FlatView) (stop : CallError) → IsFlatOf tree main own → IsReportedOf tree places main stop → SaysNothing stop
reported_memory tree places main own stop is (rule reported read e tells same there first) = memory_is stop (Rules reported) e (rules_memory tree main reported is.accepted tells)
reported_memory tree places main own stop is (flat reported e keeps refuses) = memory_is stop (Flat reported) e (flat_memory tree main own reported is refuses)

-- ---- a text that spells a program isn't refused

pub text_memory : (text : List ℕ) (tree : ProgramTree) (stop : CallError) → SpellsText text tree → IsProgramRefused text stop → SaysNothing stop
text_memory text tree NotAscii spelled h = absurd (h (IsUtf8-from_ascii text spelled.1.1.0.1))
text_memory text tree (Syntax reported) spelled (inl memory) = memory_is (Syntax reported) (Syntax syntax.OutOfMemory) (ap (λ (x : SynError). Syntax x) memory) tt
text_memory text tree (Syntax reported) spelled (inr (utf8, refused)) = absurd (not_refused text tree reported spelled refused)
text_memory text tree (CannotRead path) spelled h = absurd h
text_memory text tree (CannotWrite written) spelled h = absurd h
text_memory text tree (Rules reported) spelled h = absurd h
text_memory text tree (Flat reported) spelled h = absurd h
text_memory text tree (BadPlace reported) spelled h = absurd h
text_memory text tree (BadTable reported) spelled h = absurd h
text_memory text tree (Schedule reported) spelled h = absurd h
text_memory text tree (Fault name instant kind) spelled h = absurd h
text_memory text tree OutOfMemory spelled h = absurd h
text_memory text tree LinkLost spelled h = absurd h
text_memory text tree NoThread spelled h = absurd h
text_memory text tree (Mistaken mistake) spelled h = absurd h

no_flat_memory : (text main : List ℕ) (tree : ProgramTree) (own : FlatView) (stop : CallError) → SpellsText text tree → IsFlatOf tree main own → HasNoFlat text main stop → SaysNothing stop
no_flat_memory text main tree own stop spelled is (unspelled refused) = text_memory text tree stop spelled refused
no_flat_memory text main tree own stop spelled is (unruled other places spells there reported) =
    reported_memory tree places main own stop is (subst (λ t. IsReportedOf t places main stop) (one_program text other tree spells spelled) reported)

pub flats_same : (text main : List ℕ) (tree other : ProgramTree) (a b : FlatView) → SpellsText text tree → SpellsText text other → IsFlatOf tree main a → IsFlatOf other main b → b ≡ a
flats_same text main tree other a b x y is also =
    flat_same tree main b a (subst (λ t. IsFlatOf t main b) (one_program text other tree y x) also) is

-- ---- the other files

table_memory : (types : List Enum) (inputs : List Variable) (text : List ℕ) (table : InputsView) (stop : CallError) → IsTextOf types inputs table text → is_too_long text ≡ false → IsUtf8 text → IsTableRefused types inputs text stop → SaysNothing stop
table_memory types inputs text table (BadTable reported) is short utf8 (inl bytes) = absurd (bytes.1 utf8)
table_memory types inputs text table (BadTable reported) is short utf8 (inr (same, refused)) =
    elim (memory_or reported) [
      | inl memory ↦ memory_is (BadTable reported) (BadTable tab.OutOfMemory) (ap (λ (x : TabError). BadTable x) memory) tt
      | inr other ↦ absurd (table_fine types inputs text table reported is short (refused other))
    ]
table_memory types inputs text table (CannotRead path) is short utf8 h = absurd h
table_memory types inputs text table (CannotWrite written) is short utf8 h = absurd h
table_memory types inputs text table NotAscii is short utf8 h = absurd h
table_memory types inputs text table (Syntax reported) is short utf8 h = absurd h
table_memory types inputs text table (Rules reported) is short utf8 h = absurd h
table_memory types inputs text table (Flat reported) is short utf8 h = absurd h
table_memory types inputs text table (BadPlace reported) is short utf8 h = absurd h
table_memory types inputs text table (Schedule reported) is short utf8 h = absurd h
table_memory types inputs text table (Fault name instant kind) is short utf8 h = absurd h
table_memory types inputs text table OutOfMemory is short utf8 h = absurd h
table_memory types inputs text table LinkLost is short utf8 h = absurd h
table_memory types inputs text table NoThread is short utf8 h = absurd h
table_memory types inputs text table (Mistaken mistake) is short utf8 h = absurd h

pub none_some : {A : Type 0} (o : Option A) (x : A) → o ≡ None → o ≡ Some x → ⊥
none_some o x h k = absurd cc

ok_err : {A E : Type 0} (r : Result A E) (x : A) (e : E) → r ≡ Ok x → r ≡ Err e → ⊥
ok_err r x e h k = absurd cc

ok_same : {A E : Type 0} (r : Result A E) (x y : A) → r ≡ Ok x → r ≡ Ok y → x ≡ y
ok_same r x y h k = cc

place_memory : (text : List ℕ) (plan : PlanView) (stop : CallError) → IsPlanOfText text plan → IsPlaceRefused plan.flat text stop → SaysNothing stop
place_memory text plan (BadPlace reported) is (inl bytes) = absurd (bytes.1 is.utf8)
place_memory text plan (BadPlace reported) is (inr (utf8, inl memory)) = memory_is (BadPlace reported) (BadPlace placing.OutOfMemory) (ap (λ (x : PlaceError). BadPlace x) memory) tt
place_memory text plan (BadPlace reported) is (inr (utf8, inr (inl says))) = absurd (ok_err (placement_of text) is.place reported is.says says)
place_memory text plan (BadPlace reported) is (inr (utf8, inr (inr (other, says, refused)))) =
    let same = ok_same (placement_of text) other is.place says is.says in
    absurd (none_some (refusal plan.flat is.place) reported is.plan_is.accepted (ap (refusal plan.flat) (sym same) ∙ refused))
place_memory text plan (CannotRead path) is h = absurd h
place_memory text plan (CannotWrite written) is h = absurd h
place_memory text plan NotAscii is h = absurd h
place_memory text plan (Syntax reported) is h = absurd h
place_memory text plan (Rules reported) is h = absurd h
place_memory text plan (Flat reported) is h = absurd h
place_memory text plan (BadTable reported) is h = absurd h
place_memory text plan (Schedule reported) is h = absurd h
place_memory text plan (Fault name instant kind) is h = absurd h
place_memory text plan OutOfMemory is h = absurd h
place_memory text plan LinkLost is h = absurd h
place_memory text plan NoThread is h = absurd h
place_memory text plan (Mistaken mistake) is h = absurd h

pub schedule_memory : (text turns : List ℕ) (stop : CallError) → schedule_of text ≡ Ok turns → IsScheduleRefused text stop → SaysNothing stop
schedule_memory text turns (Schedule reported) is (inl memory) = memory_is (Schedule reported) (Schedule schedule.OutOfMemory) (ap (λ (x : ScheduleError). Schedule x) memory) tt
schedule_memory text turns (Schedule reported) is (inr refused) = absurd (ok_err (schedule_of text) turns reported is refused)
schedule_memory text turns (CannotRead path) is h = absurd h
schedule_memory text turns (CannotWrite written) is h = absurd h
schedule_memory text turns NotAscii is h = absurd h
schedule_memory text turns (Syntax reported) is h = absurd h
schedule_memory text turns (Rules reported) is h = absurd h
schedule_memory text turns (Flat reported) is h = absurd h
schedule_memory text turns (BadPlace reported) is h = absurd h
schedule_memory text turns (BadTable reported) is h = absurd h
schedule_memory text turns (Fault name instant kind) is h = absurd h
schedule_memory text turns OutOfMemory is h = absurd h
schedule_memory text turns LinkLost is h = absurd h
schedule_memory text turns NoThread is h = absurd h
schedule_memory text turns (Mistaken mistake) is h = absurd h

-- ---- each command

module _ (gives : FileFacts) (settled : HasOneText gives) where
  pub one_of : (path one other : List ℕ) → gives path (Some one) → gives path (Some other) → one ≡ other
  one_of path one other a b = same_Some one other (settled path (Some one) (Some other) a b)

  pub never_both : (path one : List ℕ) → gives path (Some one) → gives path None → ⊥
  never_both path one a b = none_some None one refl (settled path None (Some one) b a)

  pub unread_memory : (path one : List ℕ) (stop : CallError) → gives path (Some one) → IsUnread gives path stop → SaysNothing stop
  unread_memory path one (CannotRead name) given h = absurd (never_both path one given h.1)
  unread_memory path one (CannotWrite written) given h = absurd h
  unread_memory path one OutOfMemory given h = tt
  unread_memory path one NotAscii given h = absurd h
  unread_memory path one (Syntax reported) given h = absurd h
  unread_memory path one (Rules reported) given h = absurd h
  unread_memory path one (Flat reported) given h = absurd h
  unread_memory path one (BadPlace reported) given h = absurd h
  unread_memory path one (BadTable reported) given h = absurd h
  unread_memory path one (Schedule reported) given h = absurd h
  unread_memory path one (Fault name instant kind) given h = absurd h
  unread_memory path one LinkLost given h = absurd h
  unread_memory path one NoThread given h = absurd h
  unread_memory path one (Mistaken mistake) given h = absurd h

  pub flats_one : (path main one other : List ℕ) (a b : FlatView) → gives path (Some one) → gives path (Some other) → HasFlat one main a → HasFlat other main b → b ≡ a
  flats_one path main one other a b x y has also =
      let same = one_of path other one y x in
      flats_same one main has.tree also.tree a b has.spelled (subst (λ t. SpellsText t also.tree) same also.spelled) has.flat_is also.flat_is

  pub program_memory : (path main source : List ℕ) (own : FlatView) (stop : CallError) → gives path (Some source) → HasFlat source main own → StopsAtProgram gives path main stop → SaysNothing stop
  program_memory path main source own stop given has (program_unread unread) = unread_memory path source stop given unread
  program_memory path main source own stop given has (program_refused bytes other never) =
      let same = one_of path bytes source other given in
      no_flat_memory source main has.tree own stop has.spelled has.flat_is (subst (λ b. HasNoFlat b main stop) same never)

  pub plan_memory_of : (path place_path main source place : List ℕ) (plan : PlanView) (stop : CallError) → gives path (Some source) → gives place_path (Some place) → HasFlat source main plan.flat → IsPlanOfText place plan
      → StopsAtPlan gives path place_path main stop → SaysNothing stop
  plan_memory_of path place_path main source place plan stop given place_given has is (no_program never) = program_memory path main source plan.flat stop given has never
  plan_memory_of path place_path main source place plan stop given place_given has is (place_unread bytes own other own_is unread) = unread_memory place_path place stop place_given unread
  plan_memory_of path place_path main source place plan stop given place_given has is (place_refused bytes text own other own_is text_given refused) =
      let place_same = one_of place_path text place text_given place_given in
      place_memory place plan stop is
      (subst (λ (f : FlatView). IsPlaceRefused f place stop) (flats_one path main source bytes plan.flat own given other has own_is) (subst (λ b. IsPlaceRefused own b stop) place_same refused))

  pub refused_memory : (path table_path main source table other text : List ℕ) (own list : FlatView) (inputs : InputsView) (stop : CallError) → gives path (Some source) → gives path (Some other) → HasFlat source main own → HasFlat other main list
      → gives table_path (Some table) → gives table_path (Some text) → IsTextOf own.types (inputs_of own.variables) inputs table → is_too_long table ≡ false → IsUtf8 table
      → IsTableRefused list.types (inputs_of list.variables) text stop → SaysNothing stop
  refused_memory path table_path main source table other text own list inputs stop given other_given has also table_given text_given is short utf8 refused =
      let table_same = one_of table_path text table text_given table_given in
      let flat_eq = flats_one path main source other own list given other_given has also in
      table_memory own.types (inputs_of own.variables) table inputs stop is short utf8
      (subst (λ (f : FlatView). IsTableRefused f.types (inputs_of f.variables) table stop) flat_eq (subst (λ b. IsTableRefused list.types (inputs_of list.variables) b stop) table_same refused))

  check_outcome : (request : CheckRequest) (text notes : List ℕ) (stop : CallError) → IsChecked gives request text notes → IsCheckStopped gives request stop → SaysNothing stop
  check_outcome request text notes stop is (check_program at) =
      program_memory request.program.now request.main.now is.program is.flat stop is.program_given (record { tree = is.tree; spelled = is.spelled; flat_is = is.flat_is }) at
  check_outcome request text notes stop is (check_memory e) = memory_is stop OutOfMemory e tt

  fault_never : (request : EvalRequest) (text notes : List ℕ) (dump : Option (List ℕ)) → IsEvaluated gives request text notes dump → (name : List ℕ) (instant : ℕ) (kind : FaultKind) → IsFaultOf gives request name instant kind → ⊥
  fault_never request text notes dump is name instant kind fault =
      let asked = is.asked in
      let other = fault.asked in
      let program_same = one_of request.program.now other.program asked.program other.program_given asked.program_given in
      let table_same = one_of request.table.now other.table asked.table other.table_given asked.table_given in
      let spelled = subst (λ b. SpellsText b other.tree) program_same other.posed.spelled in
      let flat_eq = flats_same asked.program request.main.now asked.tree other.tree is.flat fault.flat asked.posed.spelled spelled asked.posed.flat_is other.posed.flat_is in
      let columns = subst (λ b. IsTextOf fault.flat.types (inputs_of fault.flat.variables) fault.inputs b) table_same other.posed.table_is in
      let inputs_eq = one_table is.flat.types (inputs_of is.flat.variables) asked.table fault.inputs is.inputs (subst (λ (f : FlatView). IsTextOf f.types (inputs_of f.variables) fault.inputs asked.table) flat_eq columns) asked.posed.table_is in
      let ordered = asked.posed.flat_is.is_flat.ordered in
      let reported = subst (λ (i : InputsView). IsFaultReported is.flat i name instant kind) inputs_eq (subst (λ (f : FlatView). IsFaultReported f fault.inputs name instant kind) flat_eq fault.reported) in
      let solves = IsSolution-solution is.flat is.inputs ordered in
      let first = reported.first (solution is.flat is.inputs) solves in
      is.are_columns.no_fault (solution is.flat is.inputs) solves first.place instant kind first.early first.fault

  pub posed_flat : (request : EvalRequest) (own : FlatView) (inputs : InputsView) (asked : IsPosedBy gives request own inputs) → HasFlat asked.program request.main.now own
  posed_flat request own inputs asked = record { tree = asked.tree; spelled = asked.posed.spelled; flat_is = asked.posed.flat_is }

  -- a name that is observed where all are bool outputs
  pub never_unobserved : {X : Type 0} (names : List (List ℕ)) (a b : FlatView) (stop : CallError) → b ≡ a → unobserved a.variables names ≡ None → IsUnobserved b names stop → X
  never_unobserved names a b stop same none un =
      absurd (none_some (unobserved a.variables names) un.name none (subst (λ (f : FlatView). unobserved f.variables names ≡ Some un.name) same un.first))

  -- two evaluations of the same files have one flat program
  pub posed_one : (request : EvalRequest) (a b : FlatView) (x y : InputsView) → IsPosedBy gives request a x → IsPosedBy gives request b y → b ≡ a
  posed_one request a b x y asked other =
      flats_one request.program.now request.main.now asked.program other.program a b asked.program_given other.program_given (posed_flat request a x asked) (posed_flat request b y other)

  eval_outcome : (request : EvalRequest) (text notes : List ℕ) (dump : Option (List ℕ)) (stop : CallError) → IsEvaluated gives request text notes dump → IsEvalStopped gives request stop → SaysNothing stop
  eval_outcome request text notes dump stop is (eval_program at) =
      program_memory request.program.now request.main.now is.asked.program is.flat stop is.asked.program_given (posed_flat request is.flat is.inputs is.asked) at
  eval_outcome request text notes dump stop is (eval_unread bytes own given has unread) = unread_memory request.table.now is.asked.table stop is.asked.table_given unread
  eval_outcome request text notes dump stop is (eval_table bytes table own given table_given has refused) =
      let asked = is.asked in
      refused_memory request.program.now request.table.now request.main.now asked.program asked.table bytes table is.flat own is.inputs stop asked.program_given given (posed_flat request is.flat is.inputs asked) has
      asked.table_given table_given asked.posed.table_is asked.posed.short asked.posed.utf8 refused
  eval_outcome request text notes dump stop is (eval_fault name instant kind e fault) = absurd (fault_never request text notes dump is name instant kind fault)
  eval_outcome request text notes dump stop is (eval_unobserved own inputs asked un) =
      never_unobserved (texts request.always.now) is.flat own stop (posed_one request is.flat own is.inputs inputs is.asked asked) is.observed un
  eval_outcome request text notes dump stop is (eval_memory e) = memory_is stop OutOfMemory e tt

  refused_outcome : (request : EvalRequest) (text notes : List ℕ) (dump : Option (List ℕ)) (stop : CallError) → IsEvaluated gives request text notes dump → IsEvalRefused gives request stop → SaysNothing stop
  refused_outcome request text notes dump stop is (eval_mistaken mistake found e) = absurd (none_some (mistake_in request) mistake is.meant found)
  refused_outcome request text notes dump stop is (eval_stopped meant at) = eval_outcome request text notes dump stop is at

  new_outcome : (request : NewRequest) (text : List ℕ) (stop : CallError) → IsBegun gives request text → IsNewStopped gives request stop → SaysNothing stop
  new_outcome request text stop is (new_program at) =
      program_memory request.program.now request.main.now is.flat_at.program is.flat stop is.flat_at.given is.flat_at.flat_is at
  new_outcome request text stop is (new_memory e) = memory_is stop OutOfMemory e tt

  plan_outcome : (request : PlanRequest) (text notes : List ℕ) (stop : CallError) → IsPlanned gives request text notes → IsPlanStopped gives request stop → SaysNothing stop
  plan_outcome request text notes stop is (plan_files at) =
      let asked = is.asked_for in
      plan_memory_of request.program.now request.place.now request.main.now asked.program asked.place is.plan stop asked.program_given asked.place_given asked.flat asked.plan_of at
  plan_outcome request text notes stop is (plan_memory e) = memory_is stop OutOfMemory e tt

  -- a job that the files give doesn't stop a call
  pub job_memory_of : (path place_path table_path main : List ℕ) (job : JobView) (stop : CallError) → IsJobFor gives path place_path table_path main job → StopsAtJob gives path place_path table_path main stop → SaysNothing stop
  job_memory_of path place_path table_path main job stop is (no_plan at) =
      plan_memory_of path place_path main is.program is.place job.plan stop is.program_given is.place_given is.job_is.flat is.job_is.plan at
  job_memory_of path place_path table_path main job stop is (table_unread plan planned unread) = unread_memory table_path is.table stop is.table_given unread
  job_memory_of path place_path table_path main job stop is (table_refused plan table planned table_given refused) =
      refused_memory path table_path main is.program is.table planned.program table job.plan.flat plan.flat job.inputs stop is.program_given planned.program_given is.job_is.flat planned.flat
      is.table_given table_given is.job_is.inputs is.job_is.short is.job_is.utf8 refused

  -- two jobs of the same files have one flat program and one table
  pub jobs_one : (path place_path table_path main : List ℕ) (a b : JobView) → IsJobFor gives path place_path table_path main a → IsJobFor gives path place_path table_path main b → (b.plan.flat ≡ a.plan.flat) × (b.inputs ≡ a.inputs)
  jobs_one path place_path table_path main a b x y =
      let flat_eq = flats_one path main x.program y.program a.plan.flat b.plan.flat x.program_given y.program_given x.job_is.flat y.job_is.flat in
      let table_same = one_of table_path y.table x.table y.table_given x.table_given in
      let columns = subst (λ t. IsTextOf b.plan.flat.types (inputs_of b.plan.flat.variables) b.inputs t) table_same y.job_is.inputs in
      (flat_eq, one_table a.plan.flat.types (inputs_of a.plan.flat.variables) x.table b.inputs a.inputs (subst (λ (f : FlatView). IsTextOf f.types (inputs_of f.variables) b.inputs x.table) flat_eq columns) x.job_is.inputs)

  -- nor do turns that come from a source
  pub turns_memory : (source : TurnsSource) (sites : ℕ) (turns : List ℕ) (stop : CallError) → AreTurnsFrom gives source sites turns → StopsAtTurns gives source stop → SaysNothing stop
  turns_memory (File path) sites turns stop are (no_schedule unread) = unread_memory path.now are.schedule stop are.given unread
  turns_memory (File path) sites turns stop are (bad_schedule bytes given refused) =
      let same = one_of path.now bytes are.schedule given are.given in
      schedule_memory are.schedule turns stop are.turns_are (subst (λ b. IsScheduleRefused b stop) same refused)
  turns_memory (Random seed count) sites turns stop are at = absurd at
  turns_memory Unclear sites turns stop are at = absurd at

  module _ (request : ReplayRequest) (text notes : List ℕ) (violated : Bool) (dump : Option (List ℕ)) (stop : CallError) (is : IsReplayed gives request text notes violated dump) where
    replay_outcome : IsReplayStopped gives request stop → SaysNothing stop
    replay_outcome (replay_job at) = job_memory_of request.program.now request.place.now request.table.now request.main.now is.job stop is.asked_for.job_for at
    replay_outcome (replay_turns job job_is at) = turns_memory request.source (sites_of is.job.plan) is.turns stop is.asked_for.turns_are at
    replay_outcome (replay_unobserved job turns asked un) =
        never_unobserved (texts request.always.now) is.job.plan.flat job.plan.flat stop (jobs_one request.program.now request.place.now request.table.now request.main.now is.job job is.asked_for.job_for asked.job_for).0 is.observed un
    replay_outcome (replay_memory e) = memory_is stop OutOfMemory e tt

    mistaken_outcome : IsReplayRefused gives request stop → SaysNothing stop
    mistaken_outcome (replay_mistaken mistake found e) = absurd (none_some (replay_mistake request) mistake is.meant found)
    mistaken_outcome (replay_stopped clear at) = replay_outcome at

  module _ (request : RunRequest) (text notes : List ℕ) (dump : Option (List ℕ)) (stop : CallError) (is : IsRan gives request text notes dump) where
    -- a run that has outputs has no fault
    run_never : (name : List ℕ) (instant : ℕ) (kind : FaultKind) → IsRunFault gives request name instant kind → ⊥
    run_never name instant kind fault =
        let same = jobs_one request.program.now request.place.now request.table.now request.main.now is.job fault.job is.asked_for fault.asked_for in
        let at = fault.stopped in
        let other = subst (λ (i : InputsView). IsFault is.job.plan.flat i (solution is.job.plan.flat i) at.place instant kind) same.1
        (subst (λ (f : FlatView). IsFault f fault.job.inputs (solution f fault.job.inputs) at.place instant kind) same.0 at.is) in
        let early = subst (λ (i : InputsView). instant < i.instants) same.1 at.in_time in
        is.are_outputs.no_fault (solution is.job.plan.flat is.job.inputs) (IsSolution-solution is.job.plan.flat is.job.inputs is.asked_for.job_is.flat.flat_is.is_flat.ordered) at.place instant kind early other

    run_outcome : IsRunStopped gives request stop → SaysNothing stop
    run_outcome (run_job at) = job_memory_of request.program.now request.place.now request.table.now request.main.now is.job stop is.asked_for at
    run_outcome (run_fault name instant kind e fault) = absurd (run_never name instant kind fault)
    run_outcome (run_lost job job_is e) = memory_is stop LinkLost e tt
    run_outcome (run_thread job job_is e) = memory_is stop NoThread e tt
    run_outcome (run_unobserved job asked un) =
        never_unobserved (texts request.always.now) is.job.plan.flat job.plan.flat stop (jobs_one request.program.now request.place.now request.table.now request.main.now is.job job is.asked_for asked).0 is.observed un
    run_outcome (run_memory e) = memory_is stop OutOfMemory e tt

    asked_outcome : IsRunRefused gives request stop → SaysNothing stop
    asked_outcome (run_mistaken mistake found e) = absurd (none_some (run_mistake request) mistake is.meant found)
    asked_outcome (run_stopped clear at) = run_outcome at

  explain_outcome : (code : Option (List ℕ)) (text : List ℕ) (stop : CallError) → explanation code ≡ Some text → IsExplainStopped code stop → SaysNothing stop
  explain_outcome code text stop answer (explain_memory e) = memory_is stop OutOfMemory e tt
  explain_outcome code text stop answer (explain_unknown name is none e) = absurd (none_some (explanation code) text none answer)

  pub one_outcome_of : (request : Request) (text notes : List ℕ) (violated : Bool) (dump : Option (List ℕ)) (stop : CallError) → IsAnswer gives request text notes violated dump → IsRequestStopped gives request stop → SaysNothing stop
  one_outcome_of (Check request) text notes violated dump stop answer stopped = check_outcome request text notes stop answer.0 stopped
  one_outcome_of (Eval request) text notes violated dump stop answer stopped = refused_outcome request text notes dump stop answer.0 stopped
  one_outcome_of (New request) text notes violated dump stop answer stopped = new_outcome request text stop answer.0 stopped
  one_outcome_of (Plan request) text notes violated dump stop answer stopped = plan_outcome request text notes stop answer.0 stopped
  one_outcome_of (Replay request) text notes violated dump stop answer stopped = mistaken_outcome request text notes violated dump stop answer stopped
  one_outcome_of (AsksRun request) text notes violated dump stop answer stopped = asked_outcome request text notes dump stop answer.0 stopped
  one_outcome_of (Explain request) text notes violated dump stop answer stopped = explain_outcome (code_in request) text stop answer.0 stopped

pub one_outcome : (gives : FileFacts) → HasOneText gives → (request : Request) (text notes : List ℕ) (violated : Bool) (dump : Option (List ℕ)) (stop : CallError) → IsAnswer gives request text notes violated dump → IsRequestStopped gives request stop → SaysNothing stop
one_outcome gives settled request text notes violated dump stop answer stopped = one_outcome_of gives settled request text notes violated dump stop answer stopped
