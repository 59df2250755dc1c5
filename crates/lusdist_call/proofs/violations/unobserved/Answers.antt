use Rattle.std.proofs.Common.{ℕ, List, [], ◌∷◌, Bor, Option, take, ap, sym, ◌∙◌}
use Rattle.std.specs.Prelude.{find}
use Rattle.std.specs.Option.{option_or}
use Rattle.std.proofs.lemmas.List.Folds.{find-append}
use Rattle.std.proofs.lemmas.Option.{get_or_from_slice_get}
use Rattle.clap.specs.Walk.{texts}
use Rattle.luchart.proofs.Ranges.{seen_more}
use Rattle.lusdist_call.specs.Violations.{is_unknown}
use Rattle.lusdist_call.proofs.violations.unobserved.Goals as goal

pub loop-k-preserved : goal.loop-k-preserved
loop-k-preserved c =
    let p = is_unknown c.args.variables.now in
    let names = c.args.names.now in
    let name = c.name_at.result in
    let more = seen_more (λ (s : Bor (List ℕ)). s.now) names c.loop-k.k name c.loop-k-test.true (sym (get_or_from_slice_get names c.loop-k.k name name c.name_at.ensures)) in
    c.first_of-found.ensures
    ∙ ap (λ (o : Option (List ℕ)). option_or o (find p (name.now ∷ []))) c.loop-k.invariant
    ∙ sym (find-append p (texts (take c.loop-k.k names)) (name.now ∷ []))
    ∙ ap (find p) (sym more)
