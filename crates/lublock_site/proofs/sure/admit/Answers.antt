use Rattle.std.proofs.Common.{List, ℕ, subst, Some, ◌≡◌, []}
use Rattle.std.specs.Prelude.{slice_get}
use Rattle.lublock_site.specs.Sure.{ReadsSure}
use Rattle.lublock.proofs.Standing.{not_false}
use Rattle.lublock_site.proofs.Closed.{closed_more, settled_more}
use Rattle.lublock_site.proofs.sure.admit.Goals as goal

pub returns-clause-sure : goal.returns-clause-sure
returns-clause-sure c = λ e taken is_part are.
    let flat = c.args.flat.now in
    let own = c.args.own.now in
    let old = c.args.sure.now.items in
    let new = c.mark_all.new.marks.items in
    let flows = c.args.flows.now in
    let reads : (k i : ℕ) → slice_get flows k ≡ Some i → ReadsSure flat own new i =
    subst (λ (xs : List _). (k i : ℕ) → slice_get flows k ≡ Some i → ReadsSure flat own xs i) c.as_slice.ensures.value (c.read_marked.ensures (not_false c.read_marked.result e)) in
    record {
      closed = closed_more own taken flat is_part old new flows c.mark_all.ensures reads are.closed;
      settled = settled_more old new flows c.args.board.now.spans.items c.settle_all.new.board.spans.items c.mark_all.ensures (c.settle_all.ensures.stands (record { instants = 0; columns = [] }) 0 0).kept (c.settle_all.ensures.settled c.if-settle_all.false) are.settled;
    }
