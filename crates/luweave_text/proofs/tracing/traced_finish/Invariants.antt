use Rattle.std.proofs.Common.{◌≡◌, ◌+◌, ◌*◌, ◌^◌, ◌≤◌, length, string_bytes}
use Rattle.lusite.specs.Widths.{most_left}
use Rattle.luweave.specs.Worlds.{left_of}
use Rattle.luweave_text.proofs.Lines.{HasReported}
use Rattle.luweave_text.proofs.tracing.traced_finish.Given as goal

abbrev pub invariant-loop-site : goal.invariant-loop-site
invariant-loop-site l = record {
  job : l.world.job ≡ l.initial.world.job;
  has_reported : HasReported l.how l.initial.world l.fn.before (string_bytes l.initial.text) l.counts l.world.dones (string_bytes l.text);
  few : l.counts.shown ≤ length (string_bytes l.text);
  left : l.counts.moved + left_of l.world.job l.world.dones ≤ 2 ^ 63 + 16 * most_left;
}

abbrev pub decreases-loop-site : goal.decreases-loop-site
decreases-loop-site l = left_of l.world.job l.world.dones
