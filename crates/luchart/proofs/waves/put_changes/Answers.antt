use Rattle.std.proofs.Common.{◌++◌, ap, sym, ◌∙◌, string_bytes}
use Rattle.std.specs.Prelude.{Option, slice_get}
use Rattle.luchart.specs.Signals.{Signal, signal_view, signals_view}
use Rattle.luchart.specs.Dump.{change, made_of}
use Rattle.luchart.proofs.Ranges.{text_more_zero, seen_at}
use Rattle.luchart.proofs.waves.put_changes.Goals as goal

pub loop-k-preserved : goal.loop-k-preserved
loop-k-preserved c =
    let signals = signals_view c.args.signals.now in
    let k = c.loop-k.k in
    text_more_zero (λ k. made_of ((change c.args.instant) k) (slice_get signals k)) k (string_bytes c.args.text.now) (string_bytes c.loop-k.text) (string_bytes c.put_change.new.text) c.loop-k.invariant
    (c.in_ok-put_change.ensures ∙ ap (λ (o : Option Signal). string_bytes c.loop-k.text ++ made_of ((change c.args.instant) k) o) (sym (seen_at signal_view c.args.signals.now k c.index-signals-k.result c.loop-k-test.true c.index-signals-k.is)))
