use Rattle.std.proofs.Common.{◌≡◌, ◌≤◌, length}
use Rattle.lutab.specs.Reading.{digits_from}
use Rattle.lutab.proofs.field.digits_after.Given as goal

abbrev pub invariant-loop-rest : goal.invariant-loop-rest
invariant-loop-rest l = record { same : digits_from l.number l.rest ≡ digits_from l.first l.bytes; low : l.number ≤ 9223372036854775809 }

abbrev pub decreases-loop-rest : goal.decreases-loop-rest
decreases-loop-rest l = length l.rest
