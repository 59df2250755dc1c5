use Rattle.std.proofs.Common.{◌≡◌, ℕ, Some, length, slice_get}
use Rattle.luchart.specs.Signals.{Signal, signals_view}
use Rattle.luweave_text.specs.Waves.{IsOutputSignal}
use Rattle.luweave_text.proofs.waves.signals_at.Given as goal

abbrev pub invariant-loop-k : goal.invariant-loop-k
invariant-loop-k l = record {
  count : length (signals_view l.signals.items) ≡ l.k;
  each : (k : ℕ) (signal : Signal) → slice_get (signals_view l.signals.items) k ≡ Some signal → IsOutputSignal l.world k signal;
}
