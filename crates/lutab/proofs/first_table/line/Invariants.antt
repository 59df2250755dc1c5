use Rattle.std.proofs.Common.{◌≡◌, take, map, string_bytes}
use Rattle.std.specs.List.{join_with_byte}
use Rattle.lutab.specs.FirstTable.{first_field}
use Rattle.lutab.proofs.first_table.line.Given as goal

abbrev pub invariant-loop-i : goal.invariant-loop-i
invariant-loop-i l = string_bytes l.line ≡ join_with_byte 44 (map (first_field l.types) (take l.i l.inputs))
