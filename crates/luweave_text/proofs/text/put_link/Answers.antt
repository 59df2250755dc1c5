use Rattle.std.proofs.Common.{◌∙◌, ℕ, List, ap, subst}
use Rattle.luflow.specs.Program.{FlatView}
use Rattle.luflow.specs.Types.{variable_names}
use Rattle.luflow.specs.Variables.{variable_name}
use Rattle.luweave_text.specs.WorldText.{Adds, site_name, carried_line}
use Rattle.luweave_text.proofs.text.put_link.Goals as goal

pub returns : goal.returns
returns c =
    let plan = c.args.plan.now in
    let link = c.args.link.now in
    let taken = c.args.taken.now in
    let queued = c.args.queued in
    let flow = c.variable_name-flow.ensures ∙ ap (λ (f : FlatView). variable_name f link.flow) c.flat.ensures.flat in
    let names = c.variable_names-names.ensures ∙ ap (λ (f : FlatView). variable_names f link.flow) c.flat-2.ensures.flat in
    let from = c.site_name-from.ensures ∙ ap (λ (ns : List (List ℕ)). site_name ns link.from) c.sites.ensures in
    let to = c.site_name-to.ensures ∙ ap (λ (ns : List (List ℕ)). site_name ns link.to) c.sites-2.ensures in
    let same =
    ap (λ x. carried_line x c.variable_names-names.result.now c.site_name-from.result.now c.site_name-to.result.now taken queued) flow
    ∙ ap (λ x. carried_line (variable_name plan.flat link.flow) x c.site_name-from.result.now c.site_name-to.result.now taken queued) names
    ∙ ap (λ x. carried_line (variable_name plan.flat link.flow) (variable_names plan.flat link.flow) x c.site_name-to.result.now taken queued) from
    ∙ ap (λ x. carried_line (variable_name plan.flat link.flow) (variable_names plan.flat link.flow) (site_name plan.names link.from) x taken queued) to in
    subst (Adds c.put_carried.result c.args.text.now c.put_carried.new.text) same c.put_carried.ensures
