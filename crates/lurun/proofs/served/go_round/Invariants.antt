use Rattle.std.proofs.Common.{◌-◌, length}
use Rattle.lurun.specs.Crew.{HasRoom, GoesOn}
use Rattle.lurun.proofs.served.go_round.Given as goal

abbrev pub invariant-loop-at : goal.invariant-loop-at
invariant-loop-at g l = record {
  room : HasRoom l.share;
  on : GoesOn l.initial.share l.share;
}

abbrev pub decreases-loop-at : goal.decreases-loop-at
decreases-loop-at g l = length l.share.served.items - l.at
