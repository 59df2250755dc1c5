use Rattle.std.proofs.Common.{◌≡◌, map}
use Rattle.std.specs.List.{range_with_len}
use Rattle.luflow.specs.Tables.{outputs_view}
use Rattle.lutab.specs.Aligned.{width_of}
use Rattle.lutab.proofs.aligned.widths_of.Given as goal

abbrev pub invariant-loop-i : goal.invariant-loop-i
invariant-loop-i l = l.widths.items ≡ map (width_of l.types l.kinds (outputs_view l.columns)) (range_with_len 0 l.i)
