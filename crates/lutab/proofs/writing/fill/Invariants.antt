use Rattle.std.proofs.Common.{◌≡◌, ◌-◌, length, map, take}
use Rattle.luflow.specs.Tables.{outputs_view}
use Rattle.lutab.specs.Buffers.{cells_view, stretch_of}
use Rattle.lutab.proofs.writing.fill.Given as goal

-- the parts of the first outputs are filled
abbrev pub invariant-loop-i : goal.invariant-loop-i
invariant-loop-i l = (length l.cells ≡ length l.outputs) × (cells_view (take l.i l.cells) ≡ map (stretch_of l.from (l.to - l.from)) (outputs_view (take l.i l.outputs)))
