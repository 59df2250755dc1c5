use Rattle.std.proofs.Common.{string_bytes}
use Rattle.luchart.specs.Signals.{signals_view}
use Rattle.luchart.specs.Chronogram.{strip}
use Rattle.luchart.proofs.Ranges.{text_more_zero}
use Rattle.luchart.proofs.chart.put_strips.Goals as goal

pub loop-k-preserved : goal.loop-k-preserved
loop-k-preserved c =
    text_more_zero (strip c.args.layout (signals_view c.args.signals.now)) c.loop-k.k (string_bytes c.args.text.now) (string_bytes c.loop-k.text) (string_bytes c.put_strip.new.text) c.loop-k.invariant c.in_ok-put_strip.ensures
