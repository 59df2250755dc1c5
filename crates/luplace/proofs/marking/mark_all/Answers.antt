use Rattle.std.proofs.Common.{take, sym, ap, ◌∙◌}
use Rattle.std.specs.Prelude.{slice_index_or, slice_set, true}
use Rattle.std.proofs.lemmas.List.{take_more}
use Rattle.luplace.specs.Marks.{marked_all}
use Rattle.luplace.proofs.Marked.{all_push}
use Rattle.luplace.proofs.marking.mark_all.Goals as goal

pub loop-place-preserved : goal.loop-place-preserved
loop-place-preserved c =
    let xs = c.args.places.now in
    let i = c.loop-place.place-index in
    let old = c.args.marks.now.items in
    c.mark.ensures ∙ ap (λ ms. slice_set ms (slice_index_or xs i 0) true) c.loop-place.invariant
    ∙ sym (all_push (take i xs) (slice_index_or xs i 0) old)
    ∙ ap (λ ys. marked_all ys old) (sym (take_more xs i 0 c.loop-place-test.true))
