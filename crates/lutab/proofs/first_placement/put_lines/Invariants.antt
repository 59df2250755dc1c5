use Rattle.std.proofs.Common.{◌≡◌, ◌++◌, take, flat_map, string_bytes}
use Rattle.lutab.specs.FirstPlacement.{placed_line}
use Rattle.lutab.proofs.first_placement.put_lines.Given as goal

abbrev pub invariant-loop-x : goal.invariant-loop-x
invariant-loop-x l = string_bytes l.text ≡ string_bytes l.fn.text ++ flat_map placed_line (take l.x-index l.variables)
