use Rattle.std.proofs.Common.{◌≡◌, Bool, List, sym, subst, ◌∙◌}
use Rattle.luflow.specs.Program.{FlatView}
use Rattle.lublock.specs.Boards.{StandsStill}
use Rattle.lublock_kernels.specs.Parts.{IsPart}
use Rattle.lublock_site.specs.Marks.{marked_part}
use Rattle.lublock_site.specs.Sure.{AreSure}
use Rattle.lublock_site.proofs.Moving.{going_sure}
use Rattle.lublock_site.proofs.site.RowSite.sure_step.Goals as goal

pub returns-clause-going : goal.returns-clause-going
returns-clause-going c =
    let x = c.args.self.now in
    let job = x.job.value in
    let flat_is : c.deref-flat.result.now ≡ job.plan.flat = c.deref-flat.ensures ∙ c.requires.frame.code.flat in
    let own_is = c.as_slice-2.ensures.value in
    let own = c.as_slice-2.result.now in
    let flat = c.deref-flat.result.now in
    let taken = x.frame.code.marks.taken.items in
    let part : IsPart flat (marked_part own taken) = subst (λ (f : FlatView). IsPart f (marked_part own taken)) (sym flat_is) (subst (λ (xs : List Bool). IsPart job.plan.flat (marked_part xs taken)) (sym own_is) c.requires.frame.code.marks.part) in
    let was : AreSure flat own taken x.board.spans.items x.sure.items =
    subst (λ (f : FlatView). AreSure f own taken x.board.spans.items x.sure.items) (sym flat_is) (subst (λ (xs : List Bool). AreSure job.plan.flat xs taken x.board.spans.items x.sure.items) (sym own_is) c.requires.sheet.sure) in
    let now = c.admit.ensures.sure c.if-admit.false taken part was in
    going_sure x c.admit.new.board c.admit.new.sure c.requires
    (subst (λ (f : FlatView). StandsStill f job.inputs x.t x.len x.board c.admit.new.board) flat_is (c.admit.ensures.stands job.inputs x.t x.len))
    (subst (λ (xs : List Bool). AreSure job.plan.flat xs taken c.admit.new.board.spans.items c.admit.new.sure.items) own_is (subst (λ (f : FlatView). AreSure f own taken c.admit.new.board.spans.items c.admit.new.sure.items) flat_is now))
