use Rattle.std.proofs.Common.{sym, ◌∙◌}
use Rattle.lusite.proofs.Shut.{shut_here, shut_before}
use Rattle.lusite.proofs.state.SiteState.pass_all.Goals as goal

pub pass_same-requires-clause-shut : goal.pass_same-requires-clause-shut
pass_same-requires-clause-shut c =
    let a = c.args.self.now in
    let r = c.requires in
    let w = c.is_shut-shut.ensures c.if-shut.true in
    let p = c.pass.ensures in
    shut_before a c.pass.new.self r.going r.row p.goes_on.same.program_is p.goes_on.same.inputs_is p.instant p.row (shut_here a r.going r.row w.1 (sym r.all ∙ w.0))
