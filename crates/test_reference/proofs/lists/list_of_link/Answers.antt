use Rattle.std.proofs.Common.{◌≡◌, ◌∙◌, List, Some, None, ap, sym, subst}
use Rattle.std.specs.Prelude.{IfOk, slice_get}
use Rattle.luflow.specs.declared.message.Msg.{Msg}
use Rattle.luworld.specs.declared.link.Link.{Link}
use Rattle.luworld.specs.Needs.{PlanView}
use Rattle.test_reference.proofs.FilledCells.{flow_inside, list_there, list_none}
use Rattle.test_reference.proofs.lists.list_of_link.Goals as goal

pub list_of_flow-requires : goal.list_of_flow-requires
list_of_flow-requires c =
    let links = c.links.ensures ∙ ap (λ (p : PlanView). p.links) c.plan.ensures.plan in
    let there : slice_get c.args.job.now.plan.links c.args.link ≡ Some c.in-Some.found = sym (c.in-Some.ensures ∙ ap (λ (xs : List Link). slice_get xs c.args.link) links) in
    flow_inside c.args.job.now c.args.link c.in-Some.found c.plan.ensures.run there

pub returns-in-Some : goal.returns-in-Some
returns-in-Some c =
    let links = c.links.ensures ∙ ap (λ (p : PlanView). p.links) c.plan.ensures.plan in
    let there : slice_get c.args.job.now.plan.links c.args.link ≡ Some c.in-Some.found = sym (c.in-Some.ensures ∙ ap (λ (xs : List Link). slice_get xs c.args.link) links) in
    subst (λ (xs : List Msg). IfOk c.list_of_flow.result (λ list. list.items ≡ xs)) (sym (list_there c.args.job.now c.args.link c.in-Some.found there)) c.list_of_flow.ensures

pub returns-in-None : goal.returns-in-None
returns-in-None c =
    let links = c.links.ensures ∙ ap (λ (p : PlanView). p.links) c.plan.ensures.plan in
    let none : slice_get c.args.job.now.plan.links c.args.link ≡ None = sym (c.in-None.ensures ∙ ap (λ (xs : List Link). slice_get xs c.args.link) links) in
    c.new.ensures.items ∙ sym (list_none c.args.job.now c.args.link none)
