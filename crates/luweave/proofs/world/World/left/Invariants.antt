use Rattle.std.proofs.Common.{◌≡◌, ◌≤◌, ◌*◌}
use Rattle.luworld.specs.Systems.{total_below}
use Rattle.luworld.specs.Outline.{left_at}
use Rattle.luworld.specs.Jobs.{outline, streams_of}
use Rattle.lusite.specs.Widths.{most_left}
use Rattle.luweave.proofs.world.World.left.Given as goal

abbrev pub invariant-loop-s : goal.invariant-loop-s
invariant-loop-s l = record {
  sum : l.total ≡ total_below (left_at (outline l.self.job (streams_of l.self.job)) l.self.dones) l.s;
  few : l.total ≤ most_left * l.s;
  sites : l.s ≤ 16;
}
