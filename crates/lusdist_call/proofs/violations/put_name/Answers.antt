use Rattle.std.proofs.Common.{string_bytes}
use Rattle.luchart.specs.Signals.{signal_view}
use Rattle.luchart.proofs.Ranges.{text_seen}
use Rattle.lusdist_call.specs.Violations.{violation_if}
use Rattle.lusdist_call.proofs.violations.put_name.Goals as goal

pub loop-flow-preserved : goal.loop-flow-preserved
loop-flow-preserved c =
    text_seen (violation_if c.args.name.now) signal_view c.args.flows.now c.loop-flow.flow-index c.flow-item.result (string_bytes c.args.text.now) (string_bytes c.loop-flow.text) (string_bytes c.put_if.new.text) c.loop-flow-test.true c.flow-item.is c.loop-flow.invariant c.in_ok-put_if.ensures
