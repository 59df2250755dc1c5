use Rattle.std.proofs.Common.{rules, arith, ◌≡◌, ◌<◌, ◌≤◌, ◌+◌, ◌*◌, ◌∙◌, ℕ, ℤ, pos, sym, ap, to_z, of_z, w64}
use Rattle.std.proofs.lemmas.Int.{to_z-of_z}
use Rattle.luflow.specs.declared.data.Datum.TheVariants.{Int}
use Rattle.luflow.specs.declared.form.Outcome.TheVariants.{Gives}
use Rattle.luflow.specs.Operators.{rest_of}
use Rattle.lublock_kernels.proofs.Parting.{rest_known}
use Rattle.lublock_kernels.proofs.parts.small_rest.Goals as goal

pub returns : goal.returns
returns c = λ none.
    let x = to_z w64 (of_z w64 c.args.x) in
    let same : x ≡ c.args.x = search (rules, to_z-of_z) in
    let kept : to_z w64 (of_z w64 c.signed_word.result) ≡ c.signed_word.result = search (rules, to_z-of_z) in
    let whole = c.nearly-q.ensures.whole none in
    let less = c.nearly-q.ensures.less none in
    let m = c.ranges.m.fits in
    let few : c.nearly-q.result.1 ≤ 4294967295 = omega (arith, less, m) in
    let low = c.low_half.ensures.same few in
    let same_whole : c.unsigned_abs-a.result ≡ c.nearly-q.result.0 * c.args.m + c.low_half.result = whole ∙ ap (λ (n : ℕ). c.nearly-q.result.0 * c.args.m + n) (sym low) in
    let still_less : c.low_half.result < c.args.m = omega (arith, low, less) in
    ap (λ (z : ℤ). rest_of z (pos c.args.m)) (sym same)
    ∙ rest_known x c.args.m c.nearly-q.result.0 c.unsigned_abs-a.result c.low_half.result (Gives (Int c.signed_word.result)) c.unsigned_abs-a.ensures.value c.requires.some same_whole still_less c.signed_word.ensures.up c.signed_word.ensures.down
    ∙ ap (λ (z : ℤ). Gives (Int z)) (sym kept)
