-- What the end of a call says.
use Rattle.std.proofs.Common.{◌≡◌, ◌≢◌, ◌⊎◌, ℕ, Bool, true, false, cond, List, [], ◌∷◌, ◌++◌, subst, refl, sym, ap, ap₂, ◌∙◌, inl, inr, arith}
use Rattle.std.specs.Io.KnownBytes.{Appends}
use Rattle.clap.specs.declared.error.kind.ErrorKind.{ErrorKind}
use Rattle.clap.specs.declared.error.kind.ErrorKind.TheVariants as clap
use Rattle.lusyn.specs.declared.error.SynError.TheVariants as syn
use Rattle.lustat_rules.specs.declared.error.StatError.TheVariants as rules
use Rattle.lucore.specs.declared.error.CoreError.TheVariants as core
use Rattle.luplace_file.specs.declared.error.PlaceError.TheVariants as place
use Rattle.lutab.specs.declared.error.TabError.TheVariants as tab
use Rattle.lusdist_shell.specs.declared.schedule.ScheduleError.TheVariants as schedule
use Rattle.lusdist_shell.specs.declared.request.Request.{Request}
use Rattle.lusdist_shell.specs.declared.request.Request.TheVariants.{Check, Eval, New, Plan, Replay, Run, Explain}
use Rattle.lusdist_shell.specs.declared.request.ReplayRequest.{ReplayRequest}
use Rattle.lusdist_shell.specs.declared.request.TurnsForm.{TurnsForm}
use Rattle.lusdist_shell.specs.declared.request.TurnsForm.TheVariants.{Nothing}
use Rattle.lusdist_shell.specs.Request.{IsAskedBy}
use Rattle.lusdist_call.specs.declared.call_error.CallError.{CallError}
use Rattle.lusdist_call.specs.declared.call_error.CallError.TheVariants.{CannotRead, CannotWrite, NotAscii, Syntax, Rules, Flat, Place, Table, Schedule, Fault, LinkLost, NoThread, OutOfMemory, Mistaken}
use Rattle.std.specs.Prelude.{Option}
use Rattle.lusdist_shell.specs.Dumps.{Written, DumpFacts}
use Rattle.lusdist_call.specs.Answers.{IsAnswer, IsDone, AskForNoNotes, IsQuiet, AreCheckNotes}
use Rattle.lusdist_call.specs.Answers.AreCheckNotes.{unasked, warned}
use Rattle.luplace_report.specs.Idle.{idle_text}
use Rattle.luworld.specs.Jobs.{JobView}
use Rattle.luworld.specs.Needs.{sites_of}
use Rattle.luworld.specs.WorldViews.{WorldView}
use Rattle.lusdist_shell.specs.declared.request.CheckRequest.{CheckRequest}
use Rattle.lusdist_call.specs.Noted.{AreNotesOf, AreStandsOf, AreReplayNotes, stray_of}
use Rattle.lusdist_call.specs.Files.{IsUnfiled}
use Rattle.lusdist_call.specs.Statuses.{status_of, status_beside}
use Rattle.lusdist_call.specs.Counted.{AreStats}
use Rattle.lusdist_call.specs.Violations.{has_lines}
use Rattle.lusdist_call.specs.Stopped.{IsRefusal}
use Rattle.lusdist_call.specs.Left.{Streams, HasError, IsEnded, IsHelp, IsCallEnded}
use Rattle.lusdist_call.specs.Left.IsEnded.{answered, refused, undumped, unwritten}
use Rattle.lusdist_call.specs.Left.IsCallEnded.{overwriting, shut, no_memory}
use Rattle.lusdist_call.specs.Lines.{line_of}
use Rattle.lusdist_call.specs.Targets.{IsDumpRefused, AskOver}
use Rattle.lusdist_call.specs.declared.mistake.Mistake.TheVariants.{UnknownCode, NoChart, Backwards, Overwritten, TwoForms, Unobserved, UnclearTurns, NoTurns, UnclearWorkers}
use Rattle.clap.specs.Words.{fault_of}
use Rattle.lusdist_shell.specs.CommandLine.{lusdist}
use Rattle.lusdist_shell.specs.Files.{FileFacts}

-- which kind of error the parser of the command line reports
pub data Which (kind : ErrorKind) : Type 0 where
  memory : kind ≡ clap.OutOfMemory → Which kind
  help : IsHelp kind → Which kind
  mistake : kind ≢ clap.OutOfMemory → kind ≢ clap.DisplayHelp → kind ≢ clap.DisplayVersion → Which kind

pub which : (kind : ErrorKind) → Which kind
which clap.InvalidValue = mistake (λ h. cc) (λ h. cc) (λ h. cc)
which clap.UnknownArgument = mistake (λ h. cc) (λ h. cc) (λ h. cc)
which clap.InvalidSubcommand = mistake (λ h. cc) (λ h. cc) (λ h. cc)
which clap.NoEquals = mistake (λ h. cc) (λ h. cc) (λ h. cc)
which clap.ValueValidation = mistake (λ h. cc) (λ h. cc) (λ h. cc)
which clap.TooManyValues = mistake (λ h. cc) (λ h. cc) (λ h. cc)
which clap.TooFewValues = mistake (λ h. cc) (λ h. cc) (λ h. cc)
which clap.WrongNumberOfValues = mistake (λ h. cc) (λ h. cc) (λ h. cc)
which clap.ArgumentConflict = mistake (λ h. cc) (λ h. cc) (λ h. cc)
which clap.MissingRequiredArgument = mistake (λ h. cc) (λ h. cc) (λ h. cc)
which clap.MissingSubcommand = mistake (λ h. cc) (λ h. cc) (λ h. cc)
which clap.DisplayHelp = help (inl refl)
which clap.DisplayHelpOnMissingArgumentOrSubcommand = mistake (λ h. cc) (λ h. cc) (λ h. cc)
which clap.DisplayVersion = help (inr refl)
which clap.Io = mistake (λ h. cc) (λ h. cc) (λ h. cc)
which clap.Format = mistake (λ h. cc) (λ h. cc) (λ h. cc)
which clap.OutOfMemory = memory refl

-- no notes are asked for of a check
no_check_notes : (request : CheckRequest) (bytes notes : List ℕ) → request.warn ≡ false → AreCheckNotes request bytes notes → notes ≡ []
no_check_notes request bytes notes quiet (unasked e none) = none
no_check_notes request bytes notes quiet (warned program warnings asked spelled placed all lines) = absurd (let clash : true ≡ false = sym asked ∙ quiet in cc)

-- neither turns nor sites are to be reported of a replay
no_replay_notes : (request : ReplayRequest) (job : JobView) (turns : List ℕ) (w : WorldView) (notes : List ℕ) → request.turns ≡ Nothing → request.explain ≡ false
    → AreReplayNotes request job turns w notes → notes ≡ []
no_replay_notes request job turns w notes quiet wordless are =
    let none = subst (λ (form : TurnsForm). AreNotesOf job turns request form w.dones are.of_turns) quiet are.turns_are in
    let no_sites = subst (λ (b : Bool). AreStandsOf b w are.of_sites) wordless are.sites_are in
    let no_warnings = ap (λ (b : Bool). cond b (stray_of request.source (sites_of job.plan) turns) []) wordless in
    are.notes_are ∙ ap₂ (λ (xs ys : List ℕ). xs ++ ys) none (ap₂ (λ (xs ys : List ℕ). xs ++ ys) no_warnings no_sites)

-- where nothing is violated, nothing is told
none_told : (told : List ℕ) → false ≡ has_lines told → told ≡ []
none_told [] h = refl
none_told (b ∷ bs) h = absurd cc

-- where nothing is to be counted, nothing is told of that
no_stats : (asked : Bool) (job : JobView) (told : List ℕ) → asked ≡ false → AreStats asked job told → told ≡ []
no_stats true job told e h = absurd cc
no_stats false job told e h = h

-- where neither warnings nor turns nor words are to be reported and nothing is violated there are no notes
no_notes : (gives : FileFacts) (request : Request) (text notes : List ℕ) (dump : Option (List ℕ)) → IsQuiet request → IsAnswer gives request text notes false dump → notes ≡ []
no_notes gives (Check request) text notes dump quiet is = no_check_notes request is.0.program notes quiet is.0.notes_are
no_notes gives (Eval request) text notes dump quiet is = none_told notes is.1
no_notes gives (New request) text notes dump quiet is = is.1
no_notes gives (Plan request) text notes dump quiet is = is.0.notes_are ∙ ap (λ (b : Bool). cond b (idle_text request.place.now is.0.plan) []) quiet
no_notes gives (Run request) text notes dump quiet is =
    is.0.notes_are ∙ ap₂ (λ (xs ys : List ℕ). xs ++ ys) (no_stats request.stats is.0.job is.0.stats quiet is.0.are_stats) (none_told is.0.told is.1)
no_notes gives (Explain request) text notes dump quiet is = is.1
no_notes gives (Replay request) text notes dump quiet is =
    let did = no_replay_notes request is.job is.turns is.printed.world is.printed.did quiet.0 quiet.1 is.printed.did_are in
    is.printed.notes_is ∙ ap₂ (λ (a b : List ℕ). a ++ b) did (none_told is.printed.told is.printed.violated_is)

-- the status of an answer
calm : (violated : Bool) → status_beside violated ≡ 0 → violated ≡ false
calm true e = absurd (omega (arith, e))
calm false e = refl

beside_some : (violated : Bool) → (status_beside violated ≡ 0) ⊎ (status_beside violated ≡ 3)
beside_some true = inr refl
beside_some false = inl refl

never_small : (violated : Bool) (n : ℕ) → (n ≡ 1) ⊎ (n ≡ 2) → status_beside violated ≡ n → ⊥
never_small violated n small e = elim (beside_some violated) [
  | inl zero ↦ elim small [ inl one ↦ absurd (omega (arith, e, zero, one)) | inr two ↦ absurd (omega (arith, e, zero, two)) ]
  | inr three ↦ elim small [ inl one ↦ absurd (omega (arith, e, three, one)) | inr two ↦ absurd (omega (arith, e, three, two)) ]
]

-- a refusal has one of three statuses
pub status_some : (stop : CallError) → (status_of stop ≡ 1) ⊎ ((status_of stop ≡ 2) ⊎ (status_of stop ≡ 3))
status_some (CannotRead path) = inr (inl refl)
status_some (CannotWrite path) = inr (inr refl)
status_some NotAscii = inl refl
status_some (Syntax (syn.Syntax byte)) = inl refl
status_some (Syntax (syn.NumberTooLarge byte)) = inl refl
status_some (Syntax syn.NotAscii) = inl refl
status_some (Syntax syn.TooLong) = inl refl
status_some (Syntax (syn.LongRun byte)) = inl refl
status_some (Syntax syn.OutOfMemory) = inr (inr refl)
status_some (Rules (rules.DuplicateName byte)) = inl refl
status_some (Rules (rules.UnknownName byte)) = inl refl
status_some (Rules (rules.UnknownNode byte)) = inl refl
status_some (Rules (rules.TypeMismatch byte)) = inl refl
status_some (Rules (rules.WrongArity byte)) = inl refl
status_some (Rules (rules.Undefined byte)) = inl refl
status_some (Rules (rules.DefinedTwice byte)) = inl refl
status_some (Rules (rules.RecursiveNode byte)) = inl refl
status_some (Rules rules.NoMain) = inl refl
status_some (Rules (rules.BadMerge byte)) = inl refl
status_some (Rules (rules.ClockMismatch byte)) = inl refl
status_some (Rules (rules.NotAClock byte)) = inl refl
status_some (Rules (rules.ClockedParameter byte)) = inl refl
status_some (Rules (rules.HiddenClock byte)) = inl refl
status_some (Rules (rules.MaybeNil byte)) = inl refl
status_some (Rules (rules.CurrentMayBeNil byte)) = inl refl
status_some (Rules rules.OutOfMemory) = inr (inr refl)
status_some (Flat core.TooLarge) = inl refl
status_some (Flat (core.Cycle variable)) = inl refl
status_some (Flat core.OutOfMemory) = inr (inr refl)
status_some (Place place.NotToml) = inl refl
status_some (Place place.BadKey) = inl refl
status_some (Place place.UnknownSite) = inl refl
status_some (Place place.UnknownVariable) = inl refl
status_some (Place place.Unplaced) = inl refl
status_some (Place place.DuplicateSite) = inl refl
status_some (Place place.OutOfRange) = inl refl
status_some (Place place.SplitCall) = inl refl
status_some (Place place.OutOfMemory) = inr (inr refl)
status_some (Table tab.BadHeader) = inl refl
status_some (Table (tab.BadRow line)) = inl refl
status_some (Table (tab.BadValue line)) = inl refl
status_some (Table tab.TooLong) = inl refl
status_some (Table tab.OutOfMemory) = inr (inr refl)
status_some (Schedule (schedule.BadSchedule byte)) = inl refl
status_some (Schedule schedule.LongSchedule) = inl refl
status_some (Schedule schedule.OutOfMemory) = inr (inr refl)
status_some (Fault variable instant kind) = inr (inr refl)
status_some LinkLost = inr (inr refl)
status_some NoThread = inr (inr refl)
status_some (Mistaken reported) = inr (inl refl)
status_some OutOfMemory = inr (inr refl)

pub never_done : (stop : CallError) → status_of stop ≡ 0 → ⊥
never_done stop e = elim (status_some stop) [
  | inl one ↦ absurd (omega (arith, e, one))
  | inr more ↦ elim more [ inl two ↦ absurd (omega (arith, e, two)) | inr three ↦ absurd (omega (arith, e, three)) ]
]

module _ {W V : Type 0} (gives : FileFacts) (words : List (List ℕ)) (request : Request) (asked : IsAskedBy words request) (status : ℕ) (wrote : List Written) (streams : Streams W V) where
  -- where what is asked for is done, the answer is on the output
  pub done : IsEnded gives request status wrote streams → status ≡ 0 → (text : List ℕ) × IsDone gives words text × Appends (streams.held_out streams.out.writer) (streams.held_out streams.out_after.writer) text
  done (answered text notes violated dump e answer are out) zero =
      let calmly = subst (λ (v : Bool). IsAnswer gives request text notes v dump) (calm violated (sym e ∙ zero)) answer in
      (text, record { request = request; asked = asked; notes = notes; dump = dump; answer = calmly }, out.output)
  done (refused stop dump e stops leaves are err) zero = absurd (never_done stop (sym e ∙ zero))
  done (undumped stop dump e is unfiled err) zero = absurd (omega (arith, e, zero))
  done (unwritten text notes violated dump e answer are none begun) zero = absurd (omega (arith, e, zero))

  -- where it is done and no turns are to be reported, nothing goes to the error stream
  pub quiet : AskForNoNotes words → IsEnded gives request status wrote streams → status ≡ 0 → streams.err_after ≡ streams.err
  quiet none (answered text notes violated dump e answer are out) zero =
      let calmly = subst (λ (v : Bool). IsAnswer gives request text notes v dump) (calm violated (sym e ∙ zero)) answer in
      out.silent (no_notes gives request text notes dump (none request asked) calmly)
  quiet none (refused stop dump e stops leaves are err) zero = absurd (never_done stop (sym e ∙ zero))
  quiet none (undumped stop dump e is unfiled err) zero = absurd (omega (arith, e, zero))
  quiet none (unwritten text notes violated dump e answer are out begun) zero = absurd (omega (arith, e, zero))

  -- where it ends with status 1 or 2, it is refused
  pub reported : (n : ℕ) → (n ≡ 1) ⊎ (n ≡ 2) → IsEnded gives request status wrote streams → status ≡ n → IsRefusal gives words n
  reported n small (answered text notes violated dump e answer are out) is = absurd (never_small violated n small (sym e ∙ is))
  reported n small (refused stop dump e stops leaves are err) is = record { request = request; asked = asked; stop = stop; stops = stops; status_is = sym is ∙ e }
  reported n small (undumped stop dump e made unfiled err) is = elim small [ inl one ↦ absurd (omega (arith, e, is, one)) | inr two ↦ absurd (omega (arith, e, is, two)) ]
  reported n small (unwritten text notes violated dump e answer are none begun) is = elim small [ inl one ↦ absurd (omega (arith, e, is, one)) | inr two ↦ absurd (omega (arith, e, is, two)) ]

  -- where it ends with status 1 or 2, nothing goes to the output
  pub kept : (status ≡ 1) ⊎ (status ≡ 2) → IsEnded gives request status wrote streams → streams.out_after ≡ streams.out
  kept small (answered text notes violated dump e answer are out) = absurd (never_small violated status small (sym e))
  kept small (refused stop dump e stops leaves are err) = err.kept
  kept small (undumped stop dump e is unfiled err) = err.kept
  kept small (unwritten text notes violated dump e answer are none begun) = elim small [ inl one ↦ absurd (omega (arith, e, one)) | inr two ↦ absurd (omega (arith, e, two)) ]

-- a dump that isn't written ends a call with status 3
pub unfiled_status : (path dump : Option (List ℕ)) (stop : CallError) (wrote : List Written) → IsUnfiled path dump stop wrote → status_of stop ≡ 3
unfiled_status path dump (CannotRead name) wrote h = absurd h
unfiled_status path dump (CannotWrite name) wrote h = refl
unfiled_status path dump NotAscii wrote h = absurd h
unfiled_status path dump (Syntax e) wrote h = absurd h
unfiled_status path dump (Rules e) wrote h = absurd h
unfiled_status path dump (Flat e) wrote h = absurd h
unfiled_status path dump (Place e) wrote h = absurd h
unfiled_status path dump (Table e) wrote h = absurd h
unfiled_status path dump (Schedule e) wrote h = absurd h
unfiled_status path dump (Fault name instant kind) wrote h = absurd h
unfiled_status path dump LinkLost wrote h = absurd h
unfiled_status path dump NoThread wrote h = absurd h
unfiled_status path dump (Mistaken reported) wrote h = absurd h
unfiled_status path dump OutOfMemory wrote h = refl

-- What a request that is refused for its dump says of the call.
module _ (gives : FileFacts) (dumps : DumpFacts) (words : List (List ℕ)) (request : Request) (asked : IsAskedBy words request) where
  -- it ends so
  pub dump_ended : {W V : Type 0} (streams : Streams W V) (status : ℕ) → fault_of lusdist words ≡ [] → (stop : CallError) → IsDumpRefused dumps request stop → status ≡ status_of stop → HasError streams (line_of stop) → IsCallEnded gives dumps words status [] streams
  dump_ended streams status none (CannotRead path) h e err = absurd h
  dump_ended streams status none (CannotWrite path) h e err = shut request path none asked h e refl err
  dump_ended streams status none NotAscii h e err = absurd h
  dump_ended streams status none (Syntax reported) h e err = absurd h
  dump_ended streams status none (Rules reported) h e err = absurd h
  dump_ended streams status none (Flat reported) h e err = absurd h
  dump_ended streams status none (Place reported) h e err = absurd h
  dump_ended streams status none (Table reported) h e err = absurd h
  dump_ended streams status none (Schedule reported) h e err = absurd h
  dump_ended streams status none (Fault name instant kind) h e err = absurd h
  dump_ended streams status none LinkLost h e err = absurd h
  dump_ended streams status none NoThread h e err = absurd h
  dump_ended streams status none OutOfMemory h e err = no_memory e refl err
  dump_ended streams status none (Mistaken (UnknownCode code)) h e err = absurd h
  dump_ended streams status none (Mistaken NoChart) h e err = absurd h
  dump_ended streams status none (Mistaken (Backwards from to)) h e err = absurd h
  dump_ended streams status none (Mistaken (Unobserved name)) h e err = absurd h
  dump_ended streams status none (Mistaken (Overwritten path role)) h e err = overwriting request path role none asked h e refl err
  dump_ended streams status none (Mistaken TwoForms) h e err = absurd h
  dump_ended streams status none (Mistaken UnclearTurns) h e err = absurd h
  dump_ended streams status none (Mistaken NoTurns) h e err = absurd h
  dump_ended streams status none (Mistaken UnclearWorkers) h e err = absurd h

  -- with status 2 where the dump would take the place of a file, and else with 3
  pub dump_status : (stop : CallError) → IsDumpRefused dumps request stop → ((status_of stop ≡ 2) × AskOver dumps words) ⊎ (status_of stop ≡ 3)
  dump_status (CannotRead path) h = absurd h
  dump_status (CannotWrite path) h = inr refl
  dump_status NotAscii h = absurd h
  dump_status (Syntax reported) h = absurd h
  dump_status (Rules reported) h = absurd h
  dump_status (Flat reported) h = absurd h
  dump_status (Place reported) h = absurd h
  dump_status (Table reported) h = absurd h
  dump_status (Schedule reported) h = absurd h
  dump_status (Fault name instant kind) h = absurd h
  dump_status LinkLost h = absurd h
  dump_status NoThread h = absurd h
  dump_status OutOfMemory h = inr refl
  dump_status (Mistaken (UnknownCode code)) h = absurd h
  dump_status (Mistaken NoChart) h = absurd h
  dump_status (Mistaken (Backwards from to)) h = absurd h
  dump_status (Mistaken (Unobserved name)) h = absurd h
  dump_status (Mistaken (Overwritten path role)) h = inl (refl, record { request = request; asked = asked; path = path; role = role; over = h })
  dump_status (Mistaken TwoForms) h = absurd h
  dump_status (Mistaken UnclearTurns) h = absurd h
  dump_status (Mistaken NoTurns) h = absurd h
  dump_status (Mistaken UnclearWorkers) h = absurd h
