use Rattle.std.proofs.Common.{◌≡◌, ◌++◌, take, map}
use Rattle.std.specs.String.{string_bytes}
use Rattle.std.specs.List.{join_with_byte}
use Rattle.luflow.specs.Tables.{outputs_view}
use Rattle.lutab.proofs.writing.put_header.Given as goal

abbrev pub invariant-loop-i : goal.invariant-loop-i
invariant-loop-i l = string_bytes l.out ≡ string_bytes l.fn.out ++ join_with_byte 44 (map (λ c. c.name) (outputs_view (take l.i l.outputs)))
