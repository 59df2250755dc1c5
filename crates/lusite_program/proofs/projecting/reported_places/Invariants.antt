use Rattle.std.proofs.Common.{◌≡◌, filter}
use Rattle.std.specs.List.{range_with_len}
use Rattle.lusite_program.specs.Programs.{role_at}
use Rattle.lusite_program.proofs.projecting.reported_places.Given as goal

abbrev pub invariant-loop-i : goal.invariant-loop-i
invariant-loop-i l = l.found.items ≡ filter (role_at l.variables) (range_with_len 0 l.i)
