-- What a call printed when it was done is true of the program that its texts say.
use Rattle.std.proofs.Common.{◌≡◌, ℕ, Bool, false, List, Option, Some, codes, get_or, sym, ap, ◌∙◌, subst, arith}
use Rattle.std.proofs.lemmas.Option.{same_Some}
use Rattle.clap.specs.Walk.{Text, Row}
use Rattle.clap.specs.Simple.{subcommand_of}
use Rattle.luworld.specs.Jobs.{JobView, IsJobView, NoFault}
use Rattle.luworld.proofs.Fitting.{job_of_run}
use Rattle.luweave.proofs.Endings.{no_fault}
use Rattle.lusource.specs.Source.{SourceStreams, IsSourceSolution}
use Rattle.lusource.specs.RunReports.{HasEndedSites}
use Rattle.lusdist_shell.specs.Files.{FileFacts}
use Rattle.lusdist_shell.specs.CommandLine.{lusdist}
use Rattle.lusdist_shell.specs.Request.{text_in, IsFoundIn, IsReplayIn, IsRunIn}
use Rattle.lusdist_shell.specs.declared.request.ReplayRequest.{ReplayRequest}
use Rattle.lusdist_shell.specs.declared.request.RunRequest.{RunRequest}
use Rattle.lusdist_shell.specs.declared.request.Request.{Request}
use Rattle.lusdist_shell.specs.declared.request.Request.TheVariants.{Check, Eval, New, Plan, Replay, Run, Explain}
use Rattle.lusdist_call.specs.Answers.{IsAnswer, IsReplayed, IsRan}
use Rattle.lusdist_call.specs.Asked.{IsJobFor}
use Rattle.lusdist_call.specs.Exact.{HasOneText}
use Rattle.lusdist_call.specs.Headline.{IsDesign, HasNoFaultIn, IsTrueReplay, IsTrueRun, Headline}
use Rattle.lusdist_answers.proofs.Ran.{no_fault_of, no_source_fault_of}
use Rattle.lusdist_answers.proofs.TrueReports.{all_ended}

-- a command has one name and one list of matches
module _ (command : Option (Text × List Row)) (a b : Text) (m n : List Row) (one : command ≡ Some (a, m)) (other : command ≡ Some (b, n)) where
  same_name : a ≡ b
  same_name =
      let x : Text × List Row = (a, m) in
      let y : Text × List Row = (b, n) in
      ap (λ (p : Text × List Row). p.0) (same_Some x y (sym one ∙ other))

  same_matches : m ≡ n
  same_matches =
      let x : Text × List Row = (a, m) in
      let y : Text × List Row = (b, n) in
      ap (λ (p : Text × List Row). p.1) (same_Some x y (sym one ∙ other))

-- names whose first letters differ, or whose second do
other_first : (a b : Text) → a ≡ b → get_or a 0 0 ≡ get_or b 0 0
other_first a b e = ap (λ (x : Text). get_or x 0 0) e

other_second : (a b : Text) → a ≡ b → get_or a 1 0 ≡ get_or b 1 0
other_second a b e = ap (λ (x : Text). get_or x 1 0) e

-- the texts that the files of a job gave are the ones that are there
module _ (gives : FileFacts) (settled : HasOneText gives) (path place_path table_path main : List ℕ) (job : JobView) (files : IsJobFor gives path place_path table_path main job) where
  program_is : (program : List ℕ) → gives path (Some program) → files.program ≡ program
  program_is program given = same_Some files.program program (settled path (Some files.program) (Some program) files.program_given given)

  table_is : (table : List ℕ) → gives table_path (Some table) → files.table ≡ table
  table_is table given = same_Some files.table table (settled table_path (Some files.table) (Some table) files.table_given given)

  design : IsDesign files.program files.table main files.job_is.flat.tree job.plan.flat job.inputs
  design = record {
    spelled = files.job_is.flat.spelled;
    accepted = files.job_is.flat.flat_is.accepted;
    no_cycle = files.job_is.flat.flat_is.causal;
    flat_is = files.job_is.flat.flat_is;
    says = files.job_is.inputs;
    one_solution = files.job_is.one_meaning;
  }

-- a replay, by the request that was answered
module _ (gives : FileFacts) (r : ReplayRequest) (text notes : List ℕ) (violated : Bool) (dump : Option (List ℕ)) (answer : IsReplayed gives r text notes violated dump) where
  abbrev for_job : IsJobFor gives r.program.now r.place.now r.table.now r.main.now answer.job
  for_job = answer.asked_for.job_for

  no_break : HasEndedSites answer.reported → NoFault answer.job
  no_break all =
      let w = answer.printed.world in
      let same = answer.printed.world_is.job_is in
      let ok = job_of_run w.job (subst IsJobView (sym same) for_job.job_is.is_run) in
      subst NoFault same (no_fault w.job ok w.dones (all_ended w answer.reported answer.reported_by all))

  no_fault_in : HasEndedSites answer.reported → (σ : SourceStreams) → IsSourceSolution for_job.job_is.flat.tree r.main.now answer.job.inputs σ → HasNoFaultIn for_job.job_is.flat.tree r.main.now answer.job.inputs σ
  no_fault_in all =
      let source = for_job.job_is.flat.flat_is in
      no_source_fault_of for_job.job_is.flat.tree r.main.now answer.job source (no_fault_of answer.job source.is_flat for_job.job_is.is_run.fit (no_break all))

  replay_true : HasOneText gives → IsTrueReplay for_job.program for_job.table r.main.now text
  replay_true settled = record {
    tree = for_job.job_is.flat.tree;
    flat = answer.job.plan.flat;
    inputs = answer.job.inputs;
    design = design gives settled r.program.now r.place.now r.table.now r.main.now answer.job for_job;
    report = answer.reported;
    text_is = answer.spelled;
    is_true = λ σ solves. record {
      links = answer.is_true.links σ solves;
      outputs = answer.is_true.outputs σ solves;
      links_whole = answer.is_true.links_whole σ solves;
      outputs_whole = answer.is_true.outputs_whole σ solves;
      no_fault = λ all. no_fault_in all σ solves;
    };
  }

-- a run, by the request that was answered
run_true : (gives : FileFacts) (settled : HasOneText gives) (r : RunRequest) (text notes : List ℕ) (dump : Option (List ℕ)) (answer : IsRan gives r text notes dump) → IsTrueRun answer.asked_for.program answer.asked_for.table r.main.now text
run_true gives settled r text notes dump answer = record {
  tree = answer.asked_for.job_is.flat.tree;
  flat = answer.job.plan.flat;
  inputs = answer.job.inputs;
  design = design gives settled r.program.now r.place.now r.table.now r.main.now answer.job answer.asked_for;
  outputs = answer.outputs;
  text_is = answer.text_is;
  are_outputs = answer.are_outputs;
}

module _ (gives : FileFacts) (settled : HasOneText gives) (command : Option (Text × List Row)) (program table text notes : List ℕ) (dump : Option (List ℕ)) where
  -- what is answered to words that ask for a replay is a replay of the same files
  module _ (request : ReplayRequest) (asked : IsReplayIn command request) (program_given : gives request.program.now (Some program)) (table_given : gives request.table.now (Some table)) where
    replay_of : (other : Request) → IsFoundIn command other → IsAnswer gives other text notes false dump → IsTrueReplay program table request.main.now text
    replay_of (Check r) found answer = absurd (let e : 114 ≡ 99 = other_first (codes "replay") (codes "check") (same_name command (codes "replay") (codes "check") asked.matches found.matches asked.named found.named) in omega (arith, e))
    replay_of (Eval r) found answer = absurd (let e : 114 ≡ 101 = other_first (codes "replay") (codes "eval") (same_name command (codes "replay") (codes "eval") asked.matches found.matches asked.named found.named) in omega (arith, e))
    replay_of (New r) found answer = absurd (let e : 114 ≡ 110 = other_first (codes "replay") (codes "new") (same_name command (codes "replay") (codes "new") asked.matches found.matches asked.named found.named) in omega (arith, e))
    replay_of (Plan r) found answer = absurd (let e : 114 ≡ 112 = other_first (codes "replay") (codes "plan") (same_name command (codes "replay") (codes "plan") asked.matches found.matches asked.named found.named) in omega (arith, e))
    replay_of (Run r) found answer = absurd (let e : 101 ≡ 117 = other_second (codes "replay") (codes "run") (same_name command (codes "replay") (codes "run") asked.matches found.matches asked.named found.named) in omega (arith, e))
    replay_of (Explain r) found answer = absurd (let e : 114 ≡ 101 = other_first (codes "replay") (codes "explain") (same_name command (codes "replay") (codes "explain") asked.matches found.matches asked.named found.named) in omega (arith, e))
    replay_of (Replay r) found answer =
        let m = same_matches command (codes "replay") (codes "replay") found.matches asked.matches found.named asked.named in
        let text_at = λ (key : List ℕ). ap (λ (x : List Row). text_in x key) m in
        let p : r.program.now ≡ request.program.now = found.program ∙ text_at (codes "PROGRAM") ∙ sym asked.program in
        let t : r.table.now ≡ request.table.now = found.table ∙ text_at (codes "TABLE") ∙ sym asked.table in
        let n : r.main.now ≡ request.main.now = found.main ∙ text_at (codes "main") ∙ sym asked.main in
        let files = answer.asked_for.job_for in
        let program_same = program_is gives settled r.program.now r.place.now r.table.now r.main.now answer.job files program (subst (λ (x : List ℕ). gives x (Some program)) (sym p) program_given) in
        let table_same = table_is gives settled r.program.now r.place.now r.table.now r.main.now answer.job files table (subst (λ (x : List ℕ). gives x (Some table)) (sym t) table_given) in
        subst (λ (x : List ℕ). IsTrueReplay program table x text) n
        (subst (λ (x : List ℕ). IsTrueReplay program x r.main.now text) table_same
        (subst (λ (x : List ℕ). IsTrueReplay x files.table r.main.now text) program_same (replay_true gives r text notes false dump answer settled)))

  -- and what is answered to words that ask for a run is a run of them
  module _ (request : RunRequest) (asked : IsRunIn command request) (program_given : gives request.program.now (Some program)) (table_given : gives request.table.now (Some table)) where
    run_of : (other : Request) → IsFoundIn command other → IsAnswer gives other text notes false dump → IsTrueRun program table request.main.now text
    run_of (Check r) found answer = absurd (let e : 114 ≡ 99 = other_first (codes "run") (codes "check") (same_name command (codes "run") (codes "check") asked.matches found.matches asked.named found.named) in omega (arith, e))
    run_of (Eval r) found answer = absurd (let e : 114 ≡ 101 = other_first (codes "run") (codes "eval") (same_name command (codes "run") (codes "eval") asked.matches found.matches asked.named found.named) in omega (arith, e))
    run_of (New r) found answer = absurd (let e : 114 ≡ 110 = other_first (codes "run") (codes "new") (same_name command (codes "run") (codes "new") asked.matches found.matches asked.named found.named) in omega (arith, e))
    run_of (Plan r) found answer = absurd (let e : 114 ≡ 112 = other_first (codes "run") (codes "plan") (same_name command (codes "run") (codes "plan") asked.matches found.matches asked.named found.named) in omega (arith, e))
    run_of (Replay r) found answer = absurd (let e : 117 ≡ 101 = other_second (codes "run") (codes "replay") (same_name command (codes "run") (codes "replay") asked.matches found.matches asked.named found.named) in omega (arith, e))
    run_of (Explain r) found answer = absurd (let e : 114 ≡ 101 = other_first (codes "run") (codes "explain") (same_name command (codes "run") (codes "explain") asked.matches found.matches asked.named found.named) in omega (arith, e))
    run_of (Run r) found answer =
        let m = same_matches command (codes "run") (codes "run") found.matches asked.matches found.named asked.named in
        let text_at = λ (key : List ℕ). ap (λ (x : List Row). text_in x key) m in
        let p : r.program.now ≡ request.program.now = found.program ∙ text_at (codes "PROGRAM") ∙ sym asked.program in
        let t : r.table.now ≡ request.table.now = found.table ∙ text_at (codes "TABLE") ∙ sym asked.table in
        let n : r.main.now ≡ request.main.now = found.main ∙ text_at (codes "main") ∙ sym asked.main in
        let ran = answer.0 in
        let files = ran.asked_for in
        let program_same = program_is gives settled r.program.now r.place.now r.table.now r.main.now ran.job files program (subst (λ (x : List ℕ). gives x (Some program)) (sym p) program_given) in
        let table_same = table_is gives settled r.program.now r.place.now r.table.now r.main.now ran.job files table (subst (λ (x : List ℕ). gives x (Some table)) (sym t) table_given) in
        subst (λ (x : List ℕ). IsTrueRun program table x text) n
        (subst (λ (x : List ℕ). IsTrueRun program x r.main.now text) table_same
        (subst (λ (x : List ℕ). IsTrueRun x files.table r.main.now text) program_same (run_true gives settled r text notes dump ran)))

pub headline : (gives : FileFacts) → Headline gives
headline gives = record {
  replay = λ settled words request program table text asked done program_given table_given.
      replay_of gives settled (subcommand_of lusdist words) program table text done.notes done.dump request asked program_given table_given done.request done.asked done.answer;
  run = λ settled words request program table text asked done program_given table_given.
      run_of gives settled (subcommand_of lusdist words) program table text done.notes done.dump request asked program_given table_given done.request done.asked done.answer;
}
