use Rattle.std.proofs.Common.{◌≡◌, ◌++◌, ◌+◌, ◌∷◌, drop, sym, ap, ◌∙◌, string_bytes, append_assoc, arith, rules}
use Rattle.std.proofs.lemmas.List.{drop_more, length-map}
use Rattle.std.proofs.lemmas.Option.{get_or_from_slice_get}
use Rattle.luchart.specs.Scopes.{moved, scopes}
use Rattle.luchart.specs.Signals.{signal_view, signals_view}
use Rattle.luchart.specs.Dump.{declaration, scoped}
use Rattle.luchart.proofs.Ranges.{seen_at}
use Rattle.luchart.proofs.waves.put_declarations.Goals as goal

pub loop-k-preserved : goal.loop-k-preserved
loop-k-preserved c =
    let k = c.loop-k.k in
    let signals = c.args.signals.now in
    let seen = signals_view signals in
    let x = c.index-signals-k.result in
    let y = signal_view x in
    let before = scopes c.loop-k.before.now in
    let old = string_bytes c.loop-k.text in
    let moves = moved before (scopes y.name) in
    let declared = declaration k y in
    let rest = scoped (scopes y.name) (k + 1) (drop (k + 1) seen) in
    let at = seen_at signal_view signals k x c.loop-k-test.true c.index-signals-k.is in
    let same = length-map signals signal_view in
    let lt = c.loop-k-test.true in
    let next : drop k seen ≡ y ∷ drop (k + 1) seen = drop_more seen k y (omega (arith, same, lt)) ∙ ap (λ z. z ∷ drop (k + 1) seen) (get_or_from_slice_get seen k y y at) in
    let new : string_bytes c.put_declaration.new.text ≡ (old ++ moves) ++ declared = search rules in
    let named = c.name_of-name.ensures in (
      search rules,
      ap (λ n. string_bytes c.put_declaration.new.text ++ scoped (scopes n) (k + 1) (drop (k + 1) seen)) named
          ∙ ap (λ t. t ++ rest) new ∙ append_assoc (old ++ moves) declared rest ∙ append_assoc old moves (declared ++ rest)
          ∙ ap (λ xs. old ++ scoped before k xs) (sym next) ∙ c.loop-k.invariant.1,
    )
