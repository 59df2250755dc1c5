use Rattle.std.proofs.Common.{◌≡◌, ℕ, List, true, refl, ap₂, sym, subst, ◌∙◌}
use Rattle.luflow.specs.Values.{value_of}
use Rattle.luworld.specs.Needs.{stands}
use Rattle.lueval_lines.specs.declared.cell.Cell.{Cell}
use Rattle.lueval_lines.specs.Cells.{held, statuses, view_of}
use Rattle.lueval_lines.specs.Operations.{form_of}
use Rattle.lusite.proofs.SiteStates.{flow_same}
use Rattle.lusite.proofs.SiteFlows.{computes_is}
use Rattle.lusite.proofs.state.SiteState.compute.Goals as goal

pub returns : goal.returns
returns c =
    let a = c.args.self.now in
    let r = c.requires in
    let site_flow = c.here.result.0.now in
    let branches = c.here.result.1.now in
    let d = held c.given.result in
    computes_is a r.set site_flow branches c.here.result.2.now c.here.ensures r.within d _
    (subst (λ (i : ℕ). stands a.inputs.job.plan i a.inputs.site ≡ true) (sym (flow_same a r.set)) r.own)
    (c.value_with.ensures (λ n. d) (λ n e. refl)
    ∙ ap₂ (λ (ys zs : List Cell). value_of (form_of branches site_flow.line.operation) (view_of (λ n. d) (statuses ys) zs site_flow.line.place)) c.deref.ensures.value c.deref-2.ensures.value)
    (c.given.ensures branches)
