use Rattle.std.proofs.Common.{◌≡◌}
use Rattle.lublock_kernels.specs.Machine.{ticks_of}
use Rattle.lublock_site.specs.Stations.{HasSent, MaySend}
use Rattle.lublock_site.proofs.outlets.put_all.Given as goal

abbrev pub invariant-loop-n : goal.invariant-loop-n
invariant-loop-n l = record {
  may : MaySend l.flat l.rows l.spans l.outlet;
  sent : HasSent l.flat l.fn.outlet l.outlet;
  ticks : l.to ≡ ticks_of l.spans l.outlet.flow;
}
