use Rattle.std.proofs.Common.{inl, inr, subst}
use Rattle.std.proofs.lemmas.Result.{err_from_is_err_and}
use Rattle.luworld.specs.Needs.{PlanView, sites_of}
use Rattle.lusdist_call.specs.Asked.{AreTurnsFrom}
use Rattle.lusdist_call.specs.Stopped.IsReplayStopped.{replay_job, replay_turns, replay_memory, replay_unobserved}
use Rattle.lusdist_answers.proofs.replaying.job_and_turns.Goals as goal

pub returns-clause-asked : goal.returns-clause-asked
returns-clause-asked g c =
    let At : PlanView → Type 0 = λ plan. AreTurnsFrom (g.F.Files.gives c.args.files.now) c.args.request.source (sites_of plan) c.in_ok-turns.turns.items in
    record { job_for = c.in_ok-job.ensures.job; turns_are = subst At c.plan.ensures.plan c.in_ok-turns.ensures.turns }

pub returns-in_err-job-clause-stopped : goal.returns-in_err-job-clause-stopped
returns-in_err-job-clause-stopped g c =
    let p = err_from_is_err_and c.from_residual.result c.from_residual.ensures.1 in
    rw (p.1, p.2) (replay_job c.in_err-job.ensures.stopped)

pub returns-in_err-turns-clause-stopped : goal.returns-in_err-turns-clause-stopped
returns-in_err-turns-clause-stopped g c =
    let p = err_from_is_err_and c.from_residual-in_err-turns.result c.from_residual-in_err-turns.ensures.1 in
    rw (p.1, p.2) (elim c.in_err-turns.ensures.stopped [
      | inl memory ↦ replay_memory memory
      | inr at ↦ replay_turns c.in_ok-job.job c.in_ok-job.ensures.job at
    ])

pub returns-in_err-observe_job-clause-stopped : goal.returns-in_err-observe_job-clause-stopped
returns-in_err-observe_job-clause-stopped g c =
    let At : PlanView → Type 0 = λ plan. AreTurnsFrom (g.F.Files.gives c.args.files.now) c.args.request.source (sites_of plan) c.in_ok-turns.turns.items in
    let p = err_from_is_err_and c.from_residual-in_err-observe_job.result c.from_residual-in_err-observe_job.ensures.1 in
    rw (p.1, p.2) (elim c.in_err-observe_job.ensures.stopped [
      | inl memory ↦ replay_memory memory
      | inr un ↦ replay_unobserved c.in_ok-job.job c.in_ok-turns.turns.items (record { job_for = c.in_ok-job.ensures.job; turns_are = subst At c.plan.ensures.plan c.in_ok-turns.ensures.turns }) un
    ])
