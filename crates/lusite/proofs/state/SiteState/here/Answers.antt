use Rattle.std.proofs.Common.{arith}
use Rattle.std.proofs.lemmas.List.{length-map}
use Rattle.std.proofs.lemmas.Option.{slice_get-get_or}
use Rattle.std.specs.Prelude.{slice_index}
use Rattle.lusite_program.specs.Programs.{ranks_of}
use Rattle.lusite.proofs.Moves.{rank_here}
use Rattle.lusite.proofs.state.SiteState.here.Goals as goal

pub returns : goal.returns
returns c =
    let a = c.args.self.now in
    let site_flows = c.code.result.0.now in
    let n = length-map (ranks_of a.program.plan a.program.site) (slice_index a.program.plan.flat.order) in
    let e = c.code.ensures.len in
    let l = c.requires.within in
    c.code.ensures.each a.row a.place.value _ (rank_here a c.requires.set l) (slice_get-get_or site_flows a.row _ (omega (arith, n, e, l)))
