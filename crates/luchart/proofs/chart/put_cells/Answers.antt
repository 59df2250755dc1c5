use Rattle.std.proofs.Common.{string_bytes}
use Rattle.luchart.specs.Signals.{signal_view}
use Rattle.luchart.specs.Chronogram.{cell}
use Rattle.luchart.proofs.Ranges.{text_more}
use Rattle.luchart.proofs.chart.put_cells.Goals as goal

pub loop-k-preserved : goal.loop-k-preserved
loop-k-preserved c =
    text_more (cell c.args.width (signal_view c.args.signal.now)) c.args.start c.loop-k.k (string_bytes c.args.text.now) (string_bytes c.loop-k.text) (string_bytes c.put_cell.new.text) c.loop-k.invariant c.in_ok-put_cell.ensures
