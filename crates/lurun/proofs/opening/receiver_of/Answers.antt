use Rattle.std.proofs.Common.{ℕ, ◌<◌, ap, sym, ◌∙◌, subst}
use Rattle.std.specs.Prelude.{slice_get}
use Rattle.luworld.specs.Needs.{PlanView, sites_of}
use Rattle.luworld.proofs.Fitting.{fits}
use Rattle.lurun.proofs.OpenedEnds.{to_inside}
use Rattle.lurun.proofs.opening.receiver_of.Goals as goal

pub returns-clause-inside : goal.returns-clause-inside
returns-clause-inside c =
    let run = c.plan-plan.ensures.run in
    let at = ap (λ (q : PlanView). slice_get q.links c.args.l) (sym c.plan-plan.ensures.plan) ∙ c.link_at-link.ensures in
    subst (λ (n : ℕ). n < sites_of c.args.job.now.plan) (sym c.from.ensures) (to_inside c.args.job.now.plan (fits c.args.job.now.plan run.plan_is) c.args.l c.link_at-link.result.now at)
