use Rattle.lublock_site.proofs.Passing.{brought_on}
use Rattle.lublock_site.proofs.sources.take_all.Goals as goal

pub returns-in-Blocked : goal.returns-in-Blocked
returns-in-Blocked c =
    brought_on c.args.flat.now c.args.board.now c.args.source.now c.loop-n.board c.loop-n.source c.take_some.new.board c.take_some.new.source c.loop-n.invariant.brought c.in-Blocked.ensures

pub loop-n-preserved : goal.loop-n-preserved
loop-n-preserved c = record {
  brought = brought_on c.args.flat.now c.args.board.now c.args.source.now c.loop-n.board c.loop-n.source c.take_some.new.board c.take_some.new.source c.loop-n.invariant.brought c.in-Moved.ensures;
}
