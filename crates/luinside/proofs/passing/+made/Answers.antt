use Rattle.std.specs.Prelude.{◌<◌, length}
use Rattle.std.proofs.Common.{arith}
use Rattle.lutree.specs.Tree.{program_view}
use Rattle.luinside.proofs.Passed.{size_more}
use Rattle.luinside.proofs.passing.+made.Goals as goal

pub all_made-loop-a-preserved : goal.all_made-loop-a-preserved
all_made-loop-a-preserved t c =
    let lt : c.loop-a.a-index < length c.args.all.now = omega (arith, c.loop-a-test.true) in
    let more = size_more (program_view c.args.search.now.catalog.now) c.args.search.now.counts.now c.args.all.now c.loop-a.a-index c.a-item.result lt c.a-item.is in
    let add = c.in_ok-count.ensures in
    let one = c.in_ok-made.ensures in
    let before = c.loop-a.invariant in
    omega (arith, more, add, one, before)
