use Rattle.std.proofs.Common.{rules, ◌≡◌, ◌∙◌, ℤ, pos, sym, ap, to_z, of_z, w64}
use Rattle.std.proofs.lemmas.Int.{to_z-of_z}
use Rattle.luflow.specs.declared.data.Datum.TheVariants.{Int}
use Rattle.luflow.specs.declared.form.Outcome.TheVariants.{Gives}
use Rattle.luflow.specs.Operators.{quotient_of}
use Rattle.lublock_kernels.proofs.Parting.{quotient_known}
use Rattle.lublock_kernels.proofs.parts.small_quotient.Goals as goal

pub returns : goal.returns
returns c = λ none.
    let x = to_z w64 (of_z w64 c.args.x) in
    let same : x ≡ c.args.x = search (rules, to_z-of_z) in
    let kept : to_z w64 (of_z w64 c.signed_word.result) ≡ c.signed_word.result = search (rules, to_z-of_z) in
    ap (λ (z : ℤ). quotient_of z (pos c.args.m)) (sym same)
    ∙ quotient_known x c.args.m c.nearly-q.result.0 c.unsigned_abs-a.result c.nearly-q.result.1 (Gives (Int c.signed_word.result)) c.unsigned_abs-a.ensures.value c.requires.some (c.nearly-q.ensures.whole none) (c.nearly-q.ensures.less none) c.signed_word.ensures.up c.signed_word.ensures.down
    ∙ ap (λ (z : ℤ). Gives (Int z)) (sym kept)
