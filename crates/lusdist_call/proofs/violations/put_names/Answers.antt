use Rattle.std.proofs.Common.{ℕ, List, Bor, sym, string_bytes}
use Rattle.std.proofs.lemmas.Option.{get_or_from_slice_get}
use Rattle.luchart.specs.Signals.{signals_view}
use Rattle.luchart.proofs.Ranges.{text_seen}
use Rattle.lusdist_call.specs.Violations.{violation_of}
use Rattle.lusdist_call.proofs.violations.put_names.Goals as goal

pub loop-k-preserved : goal.loop-k-preserved
loop-k-preserved c =
    let names = c.args.names.now in
    let name = c.name_at.result in
    text_seen (violation_of (signals_view c.args.flows.now)) (λ (s : Bor (List ℕ)). s.now) names c.loop-k.k name (string_bytes c.args.text.now) (string_bytes c.loop-k.text) (string_bytes c.put_name.new.text) c.loop-k-test.true
    (sym (get_or_from_slice_get names c.loop-k.k name name c.name_at.ensures)) c.loop-k.invariant c.in_ok-put_name.ensures
