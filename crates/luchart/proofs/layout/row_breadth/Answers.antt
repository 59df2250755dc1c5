use Rattle.std.proofs.Common.{ap₂, max, sym, ◌∙◌, arith}
use Rattle.luchart.specs.Signals.{signal_view}
use Rattle.luchart.specs.Chronogram.{breadth_at}
use Rattle.luchart.proofs.Ranges.{largest_range}
use Rattle.luchart.proofs.layout.row_breadth.Goals as goal

pub loop-k-preserved : goal.loop-k-preserved
loop-k-preserved c =
    let inv = c.loop-k.invariant in
    let now = c.larger-widest.ensures in
    let cell = c.in_ok-breadth_at.ensures in
    record {
      so_far = now ∙ ap₂ max inv.so_far cell.breadth ∙ sym (largest_range (breadth_at (signal_view c.args.signal.now)) c.args.first c.loop-k.k);
      narrow = omega (arith, now, inv.narrow, cell.narrow);
    }
