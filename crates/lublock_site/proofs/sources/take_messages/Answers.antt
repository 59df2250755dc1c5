use Rattle.std.proofs.Common.{rules, ◌<◌, length, List, ℤ, subst, sym, ap, refl}
use Rattle.lublock_kernels.specs.Rows.{Keeps}
use Rattle.lublock_kernels.specs.Machine.{row_there}
use Rattle.lublock_kernels.proofs.Steps.{got}
use Rattle.lublock_site.proofs.Taking.{all_taken}
use Rattle.lublock_site.proofs.sources.take_messages.Goals as goal

pub returns : goal.returns
returns c = λ e.
    let rows = c.args.board.now.rows.items in
    let spans = c.args.board.now.spans.items in
    let i = c.args.i in
    let v = c.write_messages.new.row in
    let span = c.index-span.result.now in
    let inside : i < length rows = search rules in
    let in_spans : i < length spans = search rules in
    let was = ap row_there (got rows i c.index_mut.result.now inside c.index_mut.ensures.value) in
    all_taken c.args.flat.now i c.args.msgs.now c.args.board.now _ v span c.in-Some.kind inside in_spans (got spans i span in_spans (search rules)) (search rules)
    (subst (λ (row : List ℤ). Keeps span.upto row v.items) (sym was) c.write_messages.ensures.kept) (c.write_messages.ensures.words c.if-not-write_messages.false) refl refl
