use Rattle.std.proofs.Common.{◌<◌, length, arith}
use Rattle.lutree.specs.Tree.{node_view}
use Rattle.lucore_laws.specs.Layout.{clock_place}
use Rattle.lustat_rules.specs.ClockRefs.{placed_view}
use Rattle.lucore_build.specs.Walks.{root_view}
use Rattle.lucore_build.proofs.Gather.{next_named}
use Rattle.lucore_build.proofs.node.push_defined.Goals as goal

pub loop-number-preserved : goal.loop-number-preserved
loop-number-preserved c =
    let n = node_view c.args.scope.now in
    let left = c.args.left.now in
    let i = c.loop-number.number in
    let lt : i < length left = omega arith in
    next_named n (clock_place n (placed_view c.args.clock)) (root_view c.args.root.now) left i c.index-left-number.result c.as_str.result.now c.in_ok-defined_flow.field-0 c.args.defined.now.items c.loop-number.defined.items c.push.new.self.items
    lt c.index-left-number.is c.as_str.ensures c.in_ok-defined_flow.ensures c.loop-number.invariant c.in_ok-push.ensures.items
