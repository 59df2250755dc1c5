use Rattle.luflow.specs.Tables.{outputs_view}
use Rattle.luchart.specs.Signals.{signal_at, signal_view}
use Rattle.luchart.proofs.Ranges.{pushed_more}
use Rattle.luchart.proofs.signal.signals_of.Goals as goal

pub loop-i-preserved : goal.loop-i-preserved
loop-i-preserved c =
    pushed_more signal_view (signal_at c.args.types.now c.args.kinds.now (outputs_view c.args.columns.now)) c.loop-i.i c.loop-i.signals.items c.push.new.self.items c.signal_at.result c.loop-i.invariant c.in_ok-push.ensures.items c.signal_at.ensures
