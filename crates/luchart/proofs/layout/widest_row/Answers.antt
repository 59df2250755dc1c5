use Rattle.std.proofs.Common.{ap₂, max, sym, ◌∙◌, arith}
use Rattle.luchart.specs.Signals.{signal_view}
use Rattle.luchart.specs.Chronogram.{row_breadth}
use Rattle.luchart.proofs.Ranges.{largest_seen}
use Rattle.luchart.proofs.layout.widest_row.Goals as goal

pub loop-signal-preserved : goal.loop-signal-preserved
loop-signal-preserved c =
    let inv = c.loop-signal.invariant in
    let now = c.larger-widest.ensures in
    let row = c.in_ok-row_breadth.ensures in
    record {
      so_far = now ∙ ap₂ max inv.so_far row.breadth ∙ sym (largest_seen (row_breadth c.args.first c.args.count) signal_view c.args.signals.now c.loop-signal.signal-index c.signal-item.result c.loop-signal-test.true c.signal-item.is);
      narrow = omega (arith, now, inv.narrow, row.narrow);
    }
