use Rattle.std.proofs.Common.{rules, List, set, ℤ, subst, ap, ◌∙◌, refl}
use Rattle.std.specs.Prelude.{Vec}
use Rattle.std.specs.declared.alloc.Global.{Global}
use Rattle.lublock_kernels.specs.declared.span.Span.{Span}
use Rattle.lublock_kernels.specs.Rows.{word_in}
use Rattle.luflow.specs.Packed.{data_in}
use Rattle.lublock_kernels.proofs.Steps.{put_back, solved_more, got, marked_set, not_taken, row_got, upto_got}
use Rattle.lublock.proofs.Settling.{settled_further, given_writes}
use Rattle.lublock.proofs.board.Board.give.Goals as goal

pub returns-then-len-to-clause-stands : goal.returns-then-len-to-clause-stands
returns-then-len-to-clause-stands c = λ len table given. record {
  kept = λ i h. h;
  still = λ part σ stands.
      let rows = c.args.self.now.rows.items in
      let spans = c.args.self.now.spans.items in
      let i = c.args.i in
      record {
        stands = put_back part c.args.flat.now table σ c.args.t len rows spans i c.replace-row.new.dest c.replace-row.result (search rules) (search rules)
            (λ n l. ap (λ (v : Vec ℤ Global). word_in v.items n) c.replace-row.ensures.value ∙ row_got rows i c.index_mut.result.now (search rules) c.index_mut.ensures.value n)
            stands.stands;
        marked = stands.marked;
      };
}

pub returns-then-fault-clause-stands : goal.returns-then-fault-clause-stands
returns-then-fault-clause-stands c = λ len table given. record {
  kept = λ i h. h;
  still = λ part σ stands.
      let rows = c.args.self.now.rows.items in
      let spans = c.args.self.now.spans.items in
      let i = c.args.i in
      let there = got spans i c.index-span.result.now (search rules) (search rules) in
      record {
        stands = put_back part c.args.flat.now table σ c.args.t len rows spans i c.replace-row.new.dest c.give_into-fault.new.row (search rules) (search rules)
            (λ n l. c.give_into-fault.ensures.kept n (upto_got spans i n c.index-span.result.now there l) ∙ ap (λ (v : Vec ℤ Global). word_in v.items n) c.replace-row.ensures.value ∙ row_got rows i c.index_mut.result.now (search rules) c.index_mut.ensures.value n)
            stands.stands;
        marked = stands.marked;
      };
}

pub returns-clause-stands : goal.returns-clause-stands
returns-clause-stands c = λ len table given. record {
  kept =
      let spans = c.args.self.now.spans.items in
      settled_further spans c.args.i c.index-span.result.now (got spans c.args.i c.index-span.result.now (search rules) (search rules)) c.args.to (search rules);
  still = λ part σ stands.
      let rows = c.args.self.now.rows.items in
      let spans = c.args.self.now.spans.items in
      let i = c.args.i in
      let there = got spans i c.index-span.result.now (search rules) (search rules) in
      record {
        stands = solved_more part c.args.flat.now table σ c.args.t len rows spans i c.replace-row.new.dest c.give_into-fault.new.row (search rules) (search rules)
            (λ n l. c.give_into-fault.ensures.kept n (upto_got spans i n c.index-span.result.now there l) ∙ ap (λ (v : Vec ℤ Global). word_in v.items n) c.replace-row.ensures.value ∙ row_got rows i c.index_mut.result.now (search rules) c.index_mut.ensures.value n)
            c.index-span.result.now c.args.to c.in-Some.flow.now there (search rules) (search rules)
            (given_writes c.args.flat.now table (data_in c.args.values.now) c.args.t (set rows i c.replace-row.new.dest) spans i c.in-Some.flow.now c.index-span.result.now.upto c.args.to c.give_into-fault.new.row.items (search rules) given (c.is_input.ensures c.if-not-is_input.false) (c.give_into-fault.ensures.words (search rules)))
            (not_taken part spans i c.index-span.result.now there (search rules) stands.marked) stands.stands;
        marked = marked_set part spans i c.index-span.result.now (record { ticks = c.index-span.result.now.ticks; upto = c.args.to; was = c.index-span.result.now.was; known = c.index-span.result.now.known; supposed = c.index-span.result.now.supposed; taken = c.index-span.result.now.taken }) there refl stands.marked;
      };
}
