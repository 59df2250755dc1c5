use Rattle.std.proofs.Common.{arith}
use Rattle.lucore_build.proofs.Growing.{names_more}
use Rattle.lucore_build.proofs.open.push_names.Goals as goal

pub loop-name-preserved : goal.loop-name-preserved
loop-name-preserved c =
    names_more (λ n. n.now) c.args.names.now.items c.loop-name.names.items c.push.new.self.items c.args.left.now c.loop-name.name-index c.as_str.result c.name-item.result
    (omega (arith, c.loop-name-test.true)) c.name-item.is c.as_str.ensures c.in_ok-push.ensures.items c.loop-name.invariant
