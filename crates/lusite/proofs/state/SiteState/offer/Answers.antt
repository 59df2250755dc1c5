use Rattle.std.proofs.Common.{◌≡◌, ◌<◌, false, ap, length, arith, refl, sym, ◌∙◌}
use Rattle.std.specs.Prelude.{slice_index, unwrap_or}
use Rattle.lusite.specs.declared.next.Next.TheVariants.{Take}
use Rattle.lusite.specs.Machine.{is_faulted}
use Rattle.lusite_program.specs.Programs.{places_of}
use Rattle.lusite.proofs.Moves.{offered_own_here, offered_take_here}
use Rattle.lusite.proofs.SiteFlows.{own_is, from_is}
use Rattle.lusite.proofs.state.SiteState.offer.Goals as goal

pub returns-then-site_flow : goal.returns-then-site_flow
returns-then-site_flow c =
    let a = c.args.self.now in
    let site_flow = c.here.result.0.now in
    let branches = c.here.result.1.now in
    let links = c.here.result.2.now in
    let is = c.here.ensures in
    let l : a.row < length (places_of a.program.plan a.program.site) = omega (arith, ap length c.places.ensures) in
    let i = slice_index a.program.plan.flat.order a.place.value in
    let goes : is_faulted a ≡ false = sym c.is_some.ensures ∙ c.if-is_some.false in
    c.offer_own.ensures ∙ offered_own_here a c.requires l goes i refl (sym (own_is a c.requires site_flow branches links is l) ∙ c.if-site_flow.true)

pub returns-else-site_flow : goal.returns-else-site_flow
returns-else-site_flow c =
    let a = c.args.self.now in
    let site_flow = c.here.result.0.now in
    let branches = c.here.result.1.now in
    let links = c.here.result.2.now in
    let is = c.here.ensures in
    let l : a.row < length (places_of a.program.plan a.program.site) = omega (arith, ap length c.places.ensures) in
    let i = slice_index a.program.plan.flat.order a.place.value in
    let goes : is_faulted a ≡ false = sym c.is_some.ensures ∙ c.if-is_some.false in
    ap Take (c.unwrap_or.ensures ∙ ap (λ o. unwrap_or o 0) (from_is a c.requires site_flow branches links is l))
    ∙ offered_take_here a c.requires l goes i refl (sym (own_is a c.requires site_flow branches links is l) ∙ c.if-site_flow.false)
