use Rattle.std.proofs.Common.{◌≡◌, take, map, string_bytes}
use Rattle.std.specs.List.{join_with_byte}
use Rattle.lutab.proofs.first_table.header.Given as goal

abbrev pub invariant-loop-i : goal.invariant-loop-i
invariant-loop-i l = string_bytes l.text ≡ join_with_byte 44 (map (λ x. x.name) (take l.i l.inputs))
