use Rattle.std.proofs.Common.{ap₂, max, sym, ◌∙◌, arith}
use Rattle.luchart.specs.Signals.{Signal, signal_view}
use Rattle.luchart.specs.Chronogram.{room_for}
use Rattle.luchart.proofs.Ranges.{largest_seen}
use Rattle.luchart.proofs.layout.widest_name.Goals as goal

pub loop-signal-preserved : goal.loop-signal-preserved
loop-signal-preserved c =
    let inv = c.loop-signal.invariant in
    let now = c.larger-widest.ensures in
    let room = c.room_for.ensures in
    record {
      so_far = now ∙ ap₂ max inv.so_far room.room ∙ sym (largest_seen (λ (s : Signal). room_for s.name) signal_view c.args.signals.now c.loop-signal.signal-index c.signal-item.result c.loop-signal-test.true c.signal-item.is);
      narrow = omega (arith, now, inv.narrow, room.narrow);
    }
