use Rattle.std.proofs.Common.{◌≡◌, map}
use Rattle.luflow.specs.Messages.{marks}
use Rattle.test_reference.specs.AsMark.{as_mark}
use Rattle.test_reference.specs.Grids.{held}
use Rattle.test_reference.proofs.grid.Grid.marks.Given as goal

abbrev pub invariant-loop-instant : goal.invariant-loop-instant
invariant-loop-instant l = map as_mark l.row.items ≡ marks (held l.self l.flow) l.instant
