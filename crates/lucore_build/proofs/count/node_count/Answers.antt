use Rattle.std.specs.Prelude.{◌<◌, length}
use Rattle.std.proofs.Common.{arith}
use Rattle.lutree.specs.Tree.{node_view, program_view}
use Rattle.lusource.specs.Names.{variables_of}
use Rattle.lucore_build.proofs.Formed.{equation_counted}
use Rattle.lucore_build.proofs.count.node_count.Goals as goal

pub loop-equation-preserved : goal.loop-equation-preserved
loop-equation-preserved c =
    let items = c.as_slice-equation-items.result.now in
    let lt : c.loop-equation.equation-index < length items = omega arith in
    equation_counted (program_view c.args.catalog.now) c.args.counts.now (length (variables_of (node_view c.args.node.now))) items c.loop-equation.equation-index c.equation-item.result
    c.loop-equation.count c.inner.result c.capped_sum-count-in-loop-equation.result lt c.equation-item.is c.loop-equation.invariant c.inner.ensures c.capped_sum-count-in-loop-equation.ensures
