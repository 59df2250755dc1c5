use Rattle.std.proofs.Common.{◌≡◌, ◌++◌, take}
use Rattle.std.specs.String.{string_bytes}
use Rattle.std.specs.List.{join_with_byte}
use Rattle.lutab.specs.Buffers.{cells_view}
use Rattle.lutab.specs.Outputs.{statuses_at}
use Rattle.lutab.proofs.writing.put_row.Given as goal

abbrev pub invariant-loop-i : goal.invariant-loop-i
invariant-loop-i l = string_bytes l.out ≡ string_bytes l.fn.out ++ join_with_byte 44 (statuses_at l.types l.kinds (cells_view (take l.i l.cells)) l.k)
