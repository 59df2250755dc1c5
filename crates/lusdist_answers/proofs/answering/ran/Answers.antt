use Rattle.std.proofs.Common.{inl, inr}
use Rattle.std.proofs.lemmas.Result.{IfOk-weaker, IfErr-weaker, err_from_is_err_and}
use Rattle.lusdist_call.specs.Stopped.IsRunStopped.{run_job, run_memory, run_unobserved}
use Rattle.lusdist_answers.proofs.Ran.{is_ran, run_stop}
use Rattle.lusdist_answers.proofs.answering.ran.Goals as goal

pub returns-clause-reply : goal.returns-clause-reply
returns-clause-reply g c =
    IfOk-weaker c.run_table.result _ _ (λ reply h. is_ran (g.F.Files.gives c.args.files.now) c.args.request c.in_ok-job.job c.in_ok-job.ensures.job c.in_ok-observe_job.ensures.observed c.requires.meant reply h) c.run_table.ensures.reply

pub returns-clause-stopped : goal.returns-clause-stopped
returns-clause-stopped g c =
    IfErr-weaker c.run_table.result _ _ (λ stop h. run_stop (g.F.Files.gives c.args.files.now) c.args.request c.in_ok-job.job c.in_ok-job.ensures.job c.in_ok-observe_job.ensures.observed stop h) c.run_table.ensures.stopped

pub returns-in_err-job-clause-stopped : goal.returns-in_err-job-clause-stopped
returns-in_err-job-clause-stopped g c =
    let p = err_from_is_err_and c.from_residual.result c.from_residual.ensures.1 in
    rw (p.1, p.2) (run_job c.in_err-job.ensures.stopped)

pub returns-in_err-observe_job-clause-stopped : goal.returns-in_err-observe_job-clause-stopped
returns-in_err-observe_job-clause-stopped g c =
    let p = err_from_is_err_and c.from_residual-in_err-observe_job.result c.from_residual-in_err-observe_job.ensures.1 in
    rw (p.1, p.2) (elim c.in_err-observe_job.ensures.stopped [
      | inl memory ↦ run_memory memory
      | inr un ↦ run_unobserved c.in_ok-job.job c.in_ok-job.ensures.job un
    ])
