use Rattle.std.proofs.Common.{rules, true, ◌<◌, length, List, ℤ, subst, sym, ap, refl}
use Rattle.lublock_kernels.specs.Rows.{Keeps}
use Rattle.lublock_kernels.specs.Machine.{row_there}
use Rattle.lublock_kernels.proofs.Steps.{got, marked_set, not_taken, supposed_more}
use Rattle.lublock.proofs.Settling.{settled_supposed}
use Rattle.lublock.proofs.board.Board.suppose.Goals as goal

pub returns-clause-stands : goal.returns-clause-stands
returns-clause-stands c = λ flat inputs t len. record {
  kept =
      let spans = c.args.self.now.spans.items in
      let span = c.index-span.result.now in
      settled_supposed spans c.args.i span (got spans c.args.i span (search rules) (search rules)) (record { ticks = span.ticks; upto = length c.args.words.now; was = span.was; known = span.known; supposed = true; taken = span.taken }) (search rules) (c.is_idle.ensures c.if-is_idle.false);
  still = λ part σ stands.
      let rows = c.args.self.now.rows.items in
      let spans = c.args.self.now.spans.items in
      let i = c.args.i in
      let v = c.put_words.new.row in
      let span = c.index-span.result.now in
      let inside : i < length rows = search rules in
      let was = ap row_there (got rows i c.index_mut.result.now inside c.index_mut.ensures.value) in
      let there = got spans i span (search rules) (search rules) in
      record {
        stands = supposed_more part flat inputs σ t len rows spans i v (length c.args.words.now) inside span (got spans i span (search rules) (search rules)) (search rules)
            (subst (λ (row : List ℤ). Keeps 0 row v.items) (sym was) c.put_words.ensures) (not_taken part spans i span there (search rules) stands.marked) stands.stands;
        marked = marked_set part spans i span (record { ticks = span.ticks; upto = length c.args.words.now; was = span.was; known = span.known; supposed = true; taken = span.taken }) there refl stands.marked;
      };
}
