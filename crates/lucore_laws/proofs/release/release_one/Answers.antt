use Rattle.lucore_laws.proofs.Counts.{released_last_at, released_one_at}
use Rattle.lucore_laws.proofs.release.release_one.Goals as goal

pub returns-in_ok-push : goal.returns-in_ok-push
returns-in_ok-push c =
    let nil = c.if-left-eq0.true in
    released_last_at c.args.missing.now.items c.args.ready.now c.push.new.self c.args.place c.index.result.now c.requires c.index.ensures nil c.in_ok-push.ensures

pub returns-else-left-eq0 : goal.returns-else-left-eq0
returns-else-left-eq0 c =
    released_one_at c.args.missing.now.items c.args.ready.now c.args.place c.index.result.now c.requires c.index.ensures c.if-left-eq0.false
