use Rattle.std.proofs.Common.{◌≡◌, ◌≢◌, ◌∙◌, ap, sym}
use Rattle.luworld.specs.Needs.{PlanView, home}
use Rattle.luworld.specs.Jobs.{carriers}
use Rattle.test_reference.proofs.Scripted.{puts_are, takes_are}
use Rattle.test_reference.proofs.cells.message_items.Goals as goal

pub returns-then-home-site : goal.returns-then-home-site
returns-then-home-site c =
    let links : c.as_slice.result.now ≡ carriers c.args.job.now.plan c.args.flow = c.as_slice.ensures.value ∙ c.in_ok-links.ensures ∙ ap (λ (p : PlanView). carriers p c.args.flow) c.plan-plan.ensures.plan in
    let at : home c.args.job.now.plan c.args.flow ≡ c.args.site = sym (c.home.ensures ∙ ap (λ (p : PlanView). home p c.args.flow) c.plan-plan.ensures.plan) ∙ c.if-home-site.true in
    puts_are c.args.job.now c.args.site c.args.flow c.as_slice.result.now c.puts.result links at c.puts.ensures

pub returns : goal.returns
returns c =
    let links : c.as_slice-else-home-site.result.now ≡ carriers c.args.job.now.plan c.args.flow = c.as_slice-else-home-site.ensures.value ∙ c.in_ok-links.ensures ∙ ap (λ (p : PlanView). carriers p c.args.flow) c.plan-plan.ensures.plan in
    let at : home c.args.job.now.plan c.args.flow ≢ c.args.site = λ e. c.if-home-site.false (c.home.ensures ∙ ap (λ (p : PlanView). home p c.args.flow) c.plan-plan.ensures.plan ∙ e) in
    takes_are c.args.job.now c.args.site c.args.flow c.plan-plan.result.now c.as_slice-else-home-site.result.now c.takes.result c.plan-plan.ensures.plan links at c.takes.ensures
