use Rattle.std.proofs.Common.{◌<◌, length, refl, ap, sym, ◌∙◌, arith}
use Rattle.std.specs.Prelude.{slice_index, ◌==◌}
use Rattle.std.proofs.lemmas.Bool.{lt-ltb}
use Rattle.lusite_program.specs.Programs.{part_at, places_of}
use Rattle.lusite.proofs.Moves.{offered_local, offered_own_here}
use Rattle.lusite.proofs.SiteFlows.{own_is}
use Rattle.lusite.proofs.state.SiteState.is_local.Goals as goal

pub returns-then-self-eq0-clause-local : goal.returns-then-self-eq0-clause-local
returns-then-self-eq0-clause-local c own =
    let a = c.args.self.now in
    let set = c.requires.in_order.set in
    let l : a.row < length (places_of a.program.plan a.program.site) = let no = c.if-self-places.false in omega (arith, no, ap length c.places.ensures) in
    let i = slice_index a.program.plan.flat.order a.place.value in
    let is = c.site_flow.ensures in
    let early : a.instant < a.inputs.job.inputs.instants = let lt = c.if-self-instants.true in omega (arith, lt, c.instants.ensures) in
    let own' = sym (own_is a set c.site_flow.result.now is.0 is.1 is.2 l) ∙ own in
    sym (offered_local a i (part_at a.program i).to (lt-ltb a.instant a.inputs.job.inputs.instants early) (ap (λ j. j == 0) c.if-self-eq0.true) ∙ offered_own_here a set l c.requires.going i refl own')
