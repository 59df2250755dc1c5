use Rattle.std.proofs.Common.{ℕ, ◌<◌, []}
use Rattle.luweave.specs.Worlds.{ReportsAt}
use Rattle.luweave.proofs.world.outputs_in.Given as goal

abbrev pub invariant-loop-s : goal.invariant-loop-s
invariant-loop-s l = record {
  none : (r : ℕ) → r < l.s → ReportsAt l.sites.items l.k [] r;
}
