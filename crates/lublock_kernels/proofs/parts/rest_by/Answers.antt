use Rattle.std.proofs.Common.{rules, ◌≡◌, ◌∙◌, ℤ, pos, ◌-ℤ◌, sym, ap, to_z, of_z, w64}
use Rattle.std.proofs.lemmas.Int.{to_z-of_z}
use Rattle.luflow.specs.Operators.{int_of, rest_of}
use Rattle.lublock_kernels.proofs.Parting.{rest_with}
use Rattle.lublock_kernels.proofs.parts.rest_by.Goals as goal

pub returns : goal.returns
returns c = λ e.
    let x = to_z w64 (of_z w64 c.args.x) in
    let s = c.with_sign.result in
    let same : x ≡ c.args.x = search (rules, to_z-of_z) in
    let kept : to_z w64 (of_z w64 s) ≡ s = search (rules, to_z-of_z) in
    ap (λ (z : ℤ). rest_of z (pos c.args.m)) (sym same)
    ∙ rest_with x s c.args.m c.parted-q.result.0 c.parted-q.result.1 c.unsigned_abs.result c.unsigned_abs.ensures.value c.with_sign.ensures.up c.with_sign.ensures.down
    c.requires.some c.parted-q.ensures.product c.parted-q.ensures.below c.parted-q.ensures.above
    ∙ ap (λ (z : ℤ). int_of (x -ℤ z)) (sym kept)
    ∙ c.difference.ensures e
