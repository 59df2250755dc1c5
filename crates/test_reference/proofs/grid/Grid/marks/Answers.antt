use Rattle.test_reference.specs.AsMark.{as_mark}
use Rattle.test_reference.specs.Grids.{held}
use Rattle.test_reference.proofs.Ranges.{map_pushed}
use Rattle.test_reference.proofs.grid.Grid.marks.Goals as goal

pub loop-instant-preserved : goal.loop-instant-preserved
loop-instant-preserved c = map_pushed as_mark (held c.args.self.now c.args.flow) c.loop-instant.row.items c.push.new.self.items c.at.result c.loop-instant.instant c.in_ok-push.ensures.items c.loop-instant.invariant c.at.ensures
