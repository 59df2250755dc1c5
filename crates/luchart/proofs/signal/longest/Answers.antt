use Rattle.std.proofs.Common.{ap₂, max, refl, sym, length, ◌∙◌}
use Rattle.luchart.specs.Signals.{Signal, signal_view}
use Rattle.luchart.proofs.Ranges.{largest_seen}
use Rattle.luchart.proofs.signal.longest.Goals as goal

pub loop-signal-preserved : goal.loop-signal-preserved
loop-signal-preserved c =
    c.larger-most.ensures ∙ ap₂ max c.loop-signal.invariant refl
    ∙ sym (largest_seen (λ (s : Signal). length s.statuses) signal_view c.args.signals.now c.loop-signal.signal-index c.signal-item.result c.loop-signal-test.true c.signal-item.is)
