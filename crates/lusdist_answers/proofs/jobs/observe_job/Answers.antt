use Rattle.std.proofs.Common.{◌≡◌, ◌⊎◌, None, ap, ◌∙◌, subst}
use Rattle.std.specs.Prelude.{IfErr, OnOk}
use Rattle.clap.specs.Walk.{texts}
use Rattle.luflow.specs.Program.{FlatView}
use Rattle.luworld.specs.Needs.{PlanView}
use Rattle.lusdist_call.specs.Stopped.{IsUnobserved}
use Rattle.lusdist_call.specs.Violations.{unobserved}
use Rattle.lusdist_call.specs.declared.call_error.CallError.TheVariants.{OutOfMemory}
use Rattle.lusdist_answers.proofs.jobs.observe_job.Goals as goal

pub returns-clause-observed : goal.returns-clause-observed
returns-clause-observed c =
    let same : c.flat.result.now ≡ c.args.job.now.plan.flat = c.flat.ensures.flat ∙ ap (λ (p : PlanView). p.flat) c.plan.ensures.plan in
    subst (λ (f : FlatView). OnOk c.observe.result (unobserved f.variables (texts c.args.names.now) ≡ None)) same c.observe.ensures.observed

pub returns-clause-stopped : goal.returns-clause-stopped
returns-clause-stopped c =
    let same : c.flat.result.now ≡ c.args.job.now.plan.flat = c.flat.ensures.flat ∙ ap (λ (p : PlanView). p.flat) c.plan.ensures.plan in
    subst (λ (f : FlatView). IfErr c.observe.result (λ stop. (stop ≡ OutOfMemory) ⊎ IsUnobserved f (texts c.args.names.now) stop)) same c.observe.ensures.stopped
