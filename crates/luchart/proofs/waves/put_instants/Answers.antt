use Rattle.std.proofs.Common.{string_bytes}
use Rattle.luchart.specs.Signals.{signals_view}
use Rattle.luchart.specs.Dump.{moment}
use Rattle.luchart.proofs.Ranges.{text_more_zero}
use Rattle.luchart.proofs.waves.put_instants.Goals as goal

pub loop-instant-preserved : goal.loop-instant-preserved
loop-instant-preserved c =
    text_more_zero (moment (signals_view c.args.signals.now)) c.loop-instant.instant (string_bytes c.args.text.now) (string_bytes c.loop-instant.text) (string_bytes c.put_instant.new.text) c.loop-instant.invariant c.in_ok-put_instant.ensures
