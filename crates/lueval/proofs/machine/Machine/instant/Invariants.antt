use Rattle.std.proofs.Common.{◌≡◌}
use Rattle.lueval.specs.Steps.{StandsAt}
use Rattle.lueval.proofs.machine.Machine.instant.Given as goal

abbrev pub invariant-loop-p : goal.invariant-loop-p
invariant-loop-p l = record {
  stands : StandsAt l.flat l.inputs l.self l.t l.p;
  lasts : l.self.lasts ≡ l.initial.self.lasts;
}
