use Rattle.std.proofs.Common.{rules, ◌≡◌, ◌<◌, length, List, ℕ, ℤ, refl, subst, ap, ◌∙◌}
use Rattle.std.specs.Prelude.{Vec}
use Rattle.std.specs.declared.alloc.Global.{Global}
use Rattle.lublock_kernels.specs.Machine.{row_of}
use Rattle.lublock.specs.Shown.{Column, IsShown, first_of}
use Rattle.lublock_kernels.proofs.Steps.{got}
use Rattle.lublock.proofs.Showing.{shown_more}
use Rattle.lublock.proofs.show.show.Goals as goal

pub returns-clause-near : goal.returns-clause-near
returns-clause-near c = λ e. record {
  near = λ inputs σ fit sol within right near.
      let flat = c.args.flat.now in
      let columns = c.args.columns.now.items in
      let flow = c.in-Some.flow.now in
      let new = c.push_block.new.column.items in
      let first = first_of flat c.args.v c.args.t in
      let inside : c.args.v < length columns = search rules in
      let words : c.in-Some-row_at.row.now ≡ row_of c.args.board.now.rows.items c.args.v = c.in-Some-row_at.ensures ∙ ap (λ (xs : List (Vec ℤ Global)). row_of xs c.args.v) c.as_slice.ensures.value in
      let shown =
      subst (λ (xs : List Column). IsShown flat xs first flow.kind (row_of c.args.board.now.rows.items c.args.v) flow.clock c.args.t c.args.len c.index_mut.result.now.items new) c.as_slice-taken.ensures.value
      (subst (λ (row : List ℤ). IsShown flat c.as_slice-taken.result.now first flow.kind row flow.clock c.args.t c.args.len c.index_mut.result.now.items new) words
      (subst (λ (old : Column). IsShown flat c.as_slice-taken.result.now first flow.kind c.in-Some-row_at.row.now flow.clock c.args.t c.args.len old.items new) c.replace-column.ensures.value
      (subst (λ (k : ℕ). IsShown flat c.as_slice-taken.result.now k flow.kind c.in-Some-row_at.row.now flow.clock c.args.t c.args.len c.replace-column.result.items new) c.first_of-first.ensures.first (c.in_ok-push_block.ensures c.if-branch.false)))) in
      shown_more flat inputs σ c.args.t c.args.len c.args.board.now c.args.v c.recall_invariant.ensures fit sol within (right c.args.v refl)
      columns flow c.index_mut.result.now c.replace-column.new.dest c.push_block.new.column inside (got columns c.args.v c.index_mut.result.now inside c.index_mut.ensures.value) (search rules) c.in-Some.ensures near shown;
}
