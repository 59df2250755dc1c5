use Rattle.std.proofs.Common.{rules, ◌≡◌, Bool, List, false, Some, sym, subst, ap, ◌∙◌}
use Rattle.std.specs.Prelude.{slice_get}
use Rattle.luflow.specs.Program.{FlatView}
use Rattle.lublock_kernels.specs.declared.span.Span.{Span}
use Rattle.lublock_kernels.specs.Machine.{upto_of}
use Rattle.lublock_kernels.proofs.Steps.{got}
use Rattle.lublock.specs.Boards.{StandsStill}
use Rattle.lublock_site.specs.Going.{HasBroughtAt, IsGoing}
use Rattle.lublock_site.specs.Marks.{marked}
use Rattle.lublock_site.specs.Stations.{HasBrought}
use Rattle.lublock_site.proofs.Moving.{goes_map, going_brought, going_run, going_still}
use Rattle.lublock_site.proofs.site.RowSite.take_step.Goals as goal

pub returns-clause-going : goal.returns-clause-going
returns-clause-going c =
    let x = c.args.self.now in
    let job = x.job.value in
    let flat_is : c.deref-flat.result.now ≡ job.plan.flat = c.deref-flat.ensures ∙ c.requires.frame.code.flat in
    let board = c.count.new.self in
    let y = record x { board = board } in
    let going : IsGoing y = going_still x board c.requires (subst (λ (f : FlatView). StandsStill f job.inputs x.t x.len x.board board) flat_is (c.count.ensures.stands job.inputs x.t)) in
    goes_map c.take_at.result (HasBroughtAt c.deref-flat.result.now c.args.k board x.sources.items c.take_at.new.board c.take_at.new.sources.items) (IsGoing (record x { board = c.take_at.new.board; sources = c.take_at.new.sources; run = c.take_at.new.run }))
    (λ has.
    let here : slice_get x.sources.items c.args.k ≡ Some c.index-source.result.now = got x.sources.items c.args.k c.index-source.result.now (search rules) c.index-source.ensures in
    let s = c.index-source.result.now in
    let h = has s here in
    let flow : s.flow ≡ c.args.i = search rules in
    let unclosed : s.closed ≡ false = c.if-source.false in
    let even : upto_of board.spans.items s.flow ≡ s.got =
    subst (λ (xs : List Span). upto_of xs s.flow ≡ s.got) c.as_slice.ensures.value (ap (upto_of c.as_slice.result.now) flow ∙ sym c.upto_at-got.ensures ∙ (search rules)) in
    let free : marked x.frame.code.marks.own.items s.flow ≡ false =
    ap (marked x.frame.code.marks.own.items) flow ∙ subst (λ (xs : List Bool). marked xs c.args.i ≡ false) c.as_slice-2.ensures.value (sym c.is_marked.ensures ∙ c.if-is_marked.false) in
    going_run (record x { board = c.take_at.new.board; sources = c.take_at.new.sources }) c.take_at.new.run
    (going_brought y c.take_at.new.board c.take_at.new.sources c.args.k s h.0 going here unclosed even free h.1 (subst (λ (f : FlatView). HasBrought f s.flow board s c.take_at.new.board h.0) flat_is h.2)))
    c.take_at.ensures
