use Rattle.std.specs.Prelude.{◌<◌, length}
use Rattle.std.proofs.Common.{arith, ap}
use denote.Param.Weighed.{at_most}
use Rattle.lutree.proofs.expr.Expr.TheLaws.{the_size}
use Rattle.lutree.specs.Tree.{program_view}
use Rattle.luinside.proofs.Pushing.{next_fits, pushed_more}
use Rattle.luinside.proofs.starts.+starts.Goals as goal

pub push_all-push_starts-requires : goal.push_all-push_starts-requires
push_all-push_starts-requires t c =
    let lt : c.loop-a.a-index < length c.args.arguments.now = omega arith in
    let fits = next_fits (program_view c.args.catalog.now) c.args.counts.now c.args.arguments.now c.loop-a.a-index c.a-item.result c.args.at c.args.found.now.items c.loop-a.found.items c.loop-a.behind 4097
    lt c.a-item.is c.loop-a.invariant c.requires in
    let most = at_most the_size c.args.arguments.now c.loop-a.a-index c.a-item.result lt in
    let same = ap the_size c.a-item.is in
    (omega (arith, most, same, c.decreases), fits)

pub push_all-loop-a-preserved : goal.push_all-loop-a-preserved
push_all-loop-a-preserved t c =
    let lt : c.loop-a.a-index < length c.args.arguments.now = omega arith in
    pushed_more (program_view c.args.catalog.now) c.args.counts.now c.args.arguments.now c.loop-a.a-index c.a-item.result c.args.at c.args.found.now.items c.loop-a.found.items c.push_starts.new.found.items
    c.loop-a.behind c.in_ok-behind.behind lt c.a-item.is c.loop-a.invariant c.in_ok-behind.ensures.behind c.in_ok-behind.ensures.found
