-- What a replay prints is true of the program that was asked for.
use Rattle.std.proofs.Common.{◌≡◌, ℕ, Bool, List, refl, ap, sym, subst}
use Rattle.std.specs.Prelude.{Option, Some, None}
use Rattle.clap.specs.Walk.{texts}
use Rattle.lusdist_call.specs.declared.mistake.Mistake.{Mistake}
use Rattle.lusdist_call.specs.Mistakes.{first_mistake, replay_mistake}
use Rattle.lusdist_call.specs.Violations.{unobserved}
use Rattle.luworld.specs.Needs.{IsPlan}
use Rattle.luworld.specs.Jobs.{JobView}
use Rattle.lusource.specs.Source.{SourceStreams, IsSourceSolution}
use Rattle.lucore.specs.Result.{IsFlatOf}
use Rattle.lusource.specs.RunSources.{IsMeant}
use Rattle.lusource.specs.RunReports.{IsTrueOf}
use Rattle.lusdist_shell.specs.declared.request.ReplayRequest.{ReplayRequest}
use Rattle.lusource.specs.RunReports.{OutputLine}
use Rattle.luchart.specs.Signals.{Signal}
use Rattle.luweave_text.specs.Waves.{AreOutputSignals}
use Rattle.lusdist_call.specs.Answers.{IsPrinted, IsReplayed}
use Rattle.lusdist_call.specs.Asked.{IsAskedFor}
use Rattle.lusdist_call.specs.Waved.{AreSignalsTrue}
use Rattle.lusdist_answers.proofs.TrueReports.{output_true, reported_in, reported_true}
use Rattle.lusdist_shell.specs.Files.{FileFacts}

pub first_none : (a b : Option Mistake) → first_mistake a b ≡ None → a ≡ None
first_none None b e = refl
first_none (Some mistake) b e = absurd cc

module _ (gives : FileFacts) (request : ReplayRequest) (clear : replay_mistake request ≡ None) (job : JobView) (turns text notes : List ℕ) (violated : Bool) (dump : Option (List ℕ)) (asked : IsAskedFor gives request job turns) (observed : unobserved job.plan.flat.variables (texts request.always.now) ≡ None) (printed : IsPrinted request job turns text notes violated dump) where
  -- what is known of an output of a world is a prefix of what the source gives it
  signals_true : (signals : List Signal) → AreOutputSignals printed.world signals → AreSignalsTrue asked.job_for.job_is.flat.tree request.main.now job.inputs signals
  signals_true signals are =
      let w = printed.world in
      let tree = asked.job_for.job_is.flat.tree in
      let meant = subst (λ (j : JobView). (σ : SourceStreams) → IsSourceSolution tree request.main.now j.inputs σ → IsMeant j σ) (sym printed.world_is.job_is) asked.job_for.job_is.is_meant in
      let found : AreSignalsTrue tree request.main.now w.job.inputs signals = λ σ solves k signal at.
      let is = are.each k signal at in
      let output : OutputLine = record { name = signal.name; names = signal.names; statuses = signal.statuses } in
      output_true w σ (meant σ solves) printed.faithful k output
      (record {
        variable = is.variable;
        there = is.there;
        named = ap (λ (s : Signal). s.name) is.signal_is;
        spelled = ap (λ (s : Signal). s.names) is.signal_is;
        collected = is.collected;
      }) in
      subst (λ (j : JobView). AreSignalsTrue tree request.main.now j.inputs signals) printed.world_is.job_is found

  pub is_replayed : IsReplayed gives request text notes violated dump
  is_replayed =
      let w = printed.world in
      let tree = asked.job_for.job_is.flat.tree in
      let found = reported_in w text printed.text_is in
      let same = printed.world_is.job_is in
      let source = asked.job_for.job_is.flat.flat_is in
      let flat_is = subst (λ (j : JobView). IsFlatOf tree request.main.now j.plan.flat) (sym same) source in
      let is_plan = subst (λ (j : JobView). IsPlan j.plan) (sym same) asked.job_for.job_is.is_run.plan_is in
      let meant = subst (λ (j : JobView). (σ : SourceStreams) → IsSourceSolution tree request.main.now j.inputs σ → IsMeant j σ) (sym same) asked.job_for.job_is.is_meant in
      record {
        meant = clear;
        job = job;
        turns = turns;
        asked_for = asked;
        observed = observed;
        printed = printed;
        reported = found.reported;
        reported_by = found.by;
        spelled = found.spelled;
        is_true = subst (λ (j : JobView). IsTrueOf tree request.main.now j.inputs found.reported) same (reported_true w tree request.main.now found.reported found.by flat_is is_plan printed.faithful meant);
        dump_true = signals_true;
      }
