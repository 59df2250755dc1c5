use Rattle.std.proofs.Common.{ℕ, List, ◌++◌, ap, sym, ◌∙◌, string_bytes, if◌then◌else◌, []}
use Rattle.std.specs.Prelude.{Option, slice_get, slice_index}
use Rattle.luworld.specs.Needs.{stands}
use Rattle.luchart.specs.Signals.{Signal, signal_view, signals_view}
use Rattle.luchart.specs.Dump.{declaration, made_of}
use Rattle.luchart.proofs.Ranges.{text_more_zero, seen_at}
use Rattle.luweave_text.specs.Waves.{declared_at}
use Rattle.luweave_text.proofs.waves.put_site_flows.Goals as goal

pub loop-k-preserved : goal.loop-k-preserved
loop-k-preserved c =
    let signals = signals_view c.args.signals.now in
    let plan = c.args.plan.now in
    let site = c.args.site in
    let k = c.loop-k.k in
    let old = string_bytes c.loop-k.text in
    let signal = signal_view c.index-signals-k.result in
    let number = c.number_at.ensures ∙ ap (λ (ns : List ℕ). slice_index ns k) c.requires in
    text_more_zero (λ k. made_of (declared_at plan site k) (slice_get signals k)) k (string_bytes c.args.text.now) old (string_bytes c.put_declared.new.text) c.loop-k.invariant
    (c.in_ok-put_declared.ensures ∙ ap (λ (n : ℕ). old ++ (if stands plan n site then declaration k signal else [])) number
    ∙ ap (λ (o : Option Signal). old ++ made_of (declared_at plan site k) o) (sym (seen_at signal_view c.args.signals.now k c.index-signals-k.result c.loop-k-test.true c.index-signals-k.is)))
