use Rattle.std.proofs.Common.{Some, List, ℕ, ◌<◌, length, sym, subst}
use Rattle.std.proofs.lemmas.Result.{IfOk-weaker, IfErr-weaker, err_from_is_err_and}
use Rattle.luflow.specs.Variables.{outputs_of}
use Rattle.luworld.specs.Needs.{PlanView}
use Rattle.lusdist_call.specs.Stopped.StopsAtJob.{no_plan, table_unread, table_refused}
use Rattle.lusdist_answers.proofs.Ran.{job_found}
use Rattle.lusdist_answers.proofs.HasOutputs.{some_output}
use Rattle.lusdist_answers.proofs.jobs.job_for.Goals as goal

pub returns-in_err-plan-clause-stopped : goal.returns-in_err-plan-clause-stopped
returns-in_err-plan-clause-stopped g c =
    let p = err_from_is_err_and c.from_residual.result c.from_residual.ensures.1 in
    rw (p.1, p.2) (no_plan c.in_err-plan.ensures.stopped)

pub returns-in_err-bytes-clause-stopped : goal.returns-in_err-bytes-clause-stopped
returns-in_err-bytes-clause-stopped g c =
    let p = err_from_is_err_and c.from_residual-in_err-bytes.result c.from_residual-in_err-bytes.ensures.1 in
    rw (p.1, p.2) (table_unread c.in_ok-plan.plan c.in_ok-plan.ensures.plan c.in_err-bytes.ensures.unread)

pub returns-clause-job : goal.returns-clause-job
returns-clause-job g c =
    let gives = g.F.Files.gives c.args.files.now in
    let given = subst (λ (b : List ℕ). gives c.args.table.now (Some b)) (sym c.deref.ensures.value) c.in_ok-bytes.ensures.given in
    job_found gives c.args.program.now c.args.place.now c.args.table.now c.args.main.now c.in_ok-plan.plan c.deref.result.now c.in_ok-plan.ensures.plan given c.job_of.result
    c.job_of.ensures.plan c.job_of.ensures.text c.job_of.ensures.short c.job_of.ensures.utf8 c.job_of.ensures.fits c.job_of.ensures.run

pub returns-clause-some : goal.returns-clause-some
returns-clause-some g c =
    let found = c.in_ok-plan.ensures.plan in
    let some = some_output found.program c.args.main.now found.flat.tree c.in_ok-plan.plan.flat found.flat.spelled found.flat.flat_is in
    IfOk-weaker c.job_of.result _ _ (λ job same. subst (λ (p : PlanView). 0 < length (outputs_of p.flat.variables)) (sym same) some) c.job_of.ensures.plan

pub returns-clause-stopped : goal.returns-clause-stopped
returns-clause-stopped g c =
    let gives = g.F.Files.gives c.args.files.now in
    let given = subst (λ (b : List ℕ). gives c.args.table.now (Some b)) (sym c.deref.ensures.value) c.in_ok-bytes.ensures.given in
    IfErr-weaker c.job_of.result _ _ (λ stop refused. table_refused c.in_ok-plan.plan c.deref.result.now c.in_ok-plan.ensures.plan given refused) c.job_of.ensures.refused
