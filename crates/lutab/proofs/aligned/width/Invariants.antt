use Rattle.std.proofs.Common.{◌≡◌, length, take}
use Rattle.std.specs.Prelude.{fold}
use Rattle.lutab.specs.Aligned.{wider}
use Rattle.lutab.proofs.aligned.width.Given as goal

abbrev pub invariant-loop-status : goal.invariant-loop-status
invariant-loop-status l = l.most ≡ fold (wider l.names) (length l.name) (take l.status-index l.statuses)
