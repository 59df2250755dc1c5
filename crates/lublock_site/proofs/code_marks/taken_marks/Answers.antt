use Rattle.std.proofs.Common.{◌≡◌, List, Some, subst, sym, arith}
use Rattle.std.specs.Prelude.{slice_get}
use Rattle.std.proofs.lemmas.Option.{slice_get_within}
use Rattle.luworld.specs.declared.link.Link.{Link}
use Rattle.lublock_site.proofs.Coded.{taken_all}
use Rattle.lublock_site.proofs.code_marks.taken_marks.Goals as goal

pub returns : goal.returns
returns c =
    let links = c.links-links.result.now in
    taken_all c.args.plan.now c.args.site c.loop-l.taken.items (λ j x there to.
    let here : slice_get links j ≡ Some x = subst (λ (ks : List Link). slice_get ks j ≡ Some x) (sym c.links-links.ensures) there in
    let inside = slice_get_within links j x here in
    c.loop-l.invariant.here j x (omega (arith, inside)) here to)
