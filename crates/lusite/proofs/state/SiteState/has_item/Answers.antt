use Rattle.std.proofs.Common.{ℕ, ◌<◌, true, sym, ap, ◌∙◌, arith}
use Rattle.std.specs.Prelude.{slice_index, nat_lt, is_some}
use Rattle.lusite.specs.Machine.{in_cell, cell_size}
use Rattle.lusite.proofs.SiteFlows.{size_is, begun_size}
use Rattle.lusite.proofs.state.SiteState.has_item.Goals as goal

pub returns-then-self-eq0 : goal.returns-then-self-eq0
returns-then-self-eq0 c =
    let a = c.args.self.now in
    let site_flow = c.site_flow-site_flow.result.now in
    let early = nat_lt a.instant c.instants.result in
    let size = size_is a c.requires.set site_flow c.site_flow-site_flow.ensures.0 c.site_flow-site_flow.ensures.1 c.site_flow-site_flow.ensures.2 c.requires.within early (ap (nat_lt a.instant) c.instants.ensures) in
    c.has_first.ensures ∙ ap (nat_lt 0) (sym size) ∙ ap (λ (j : ℕ). nat_lt j (cell_size a (slice_index a.program.plan.flat.order a.place.value))) (sym c.if-self-eq0.true)

pub returns : goal.returns
returns c =
    let a = c.args.self.now in
    let site_flow = c.site_flow-site_flow.result.now in
    let early = nat_lt a.instant c.instants.result in
    let size = size_is a c.requires.set site_flow c.site_flow-site_flow.ensures.0 c.site_flow-site_flow.ensures.1 c.site_flow-site_flow.ensures.2 c.requires.within early (ap (nat_lt a.instant) c.instants.ensures) in
    let some : 0 < a.step = let ne = c.if-self-eq0.false in omega (arith, ne) in
    c.is_left.ensures
    ∙ ap (nat_lt a.step) (ap (in_cell true site_flow.own early site_flow.outs) c.is_some.ensures ∙ begun_size _ site_flow.own early site_flow.outs (is_some site_flow.from) (let b = c.requires.begun some in omega (arith, some, b, size)) ∙ sym size)
