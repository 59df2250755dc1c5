use Rattle.std.proofs.Common.{rules, true, List, ℤ, subst, refl}
use Rattle.std.specs.Prelude.{Vec}
use Rattle.std.specs.declared.alloc.Global.{Global}
use Rattle.lublock_kernels.specs.declared.span.Span.{Span}
use Rattle.lublock_kernels.specs.Machine.{IsCount, IsLike}
use Rattle.lublock_kernels.proofs.Steps.{counted_more, like_count, got, marked_set}
use Rattle.lublock.proofs.Settling.{settled_counted}
use Rattle.lublock.proofs.board.Board.count.Goals as goal

pub returns-in-Some-ticks_like-clause-stands : goal.returns-in-Some-ticks_like-clause-stands
returns-in-Some-ticks_like-clause-stands c = λ inputs t. record {
  kept = settled_counted c.args.self.now.spans.items c.args.i c.index-span.result.now (got c.args.self.now.spans.items c.args.i c.index-span.result.now (search rules) (search rules)) (record { ticks = c.in-Some-ticks_like.ticks; upto = c.index-span.result.now.upto; was = c.index-span.result.now.was; known = true; supposed = c.index-span.result.now.supposed; taken = c.index-span.result.now.taken }) c.if-span.false;
  still = λ part σ stands.
      let flat = c.args.flat.now in
      let rows = c.args.self.now.rows.items in
      let spans = c.args.self.now.spans.items in
      let ticks = c.in-Some-ticks_like.ticks in
      let clock = c.in-Some.clock in
      let is = subst (λ (xs : List Span). IsLike flat xs clock c.args.like ticks) c.as_slice.ensures.value c.in-Some-ticks_like.ensures in
      record {
        stands = counted_more part flat inputs σ t c.args.len rows spans c.args.i c.index-span.result.now ticks clock (got spans c.args.i c.index-span.result.now (search rules) (search rules)) c.if-span.false (search rules)
            (like_count part flat inputs σ t c.args.len rows spans c.args.i clock c.args.like ticks stands.stands is)
            stands.stands;
        marked = marked_set part spans c.args.i c.index-span.result.now (record { ticks = ticks; upto = c.index-span.result.now.upto; was = c.index-span.result.now.was; known = true; supposed = c.index-span.result.now.supposed; taken = c.index-span.result.now.taken }) (got spans c.args.i c.index-span.result.now (search rules) (search rules)) refl stands.marked;
      };
}

pub returns-in-Some-ticks_on-clause-stands : goal.returns-in-Some-ticks_on-clause-stands
returns-in-Some-ticks_on-clause-stands c = λ inputs t. record {
  kept = settled_counted c.args.self.now.spans.items c.args.i c.index-span.result.now (got c.args.self.now.spans.items c.args.i c.index-span.result.now (search rules) (search rules)) (record { ticks = c.in-Some-ticks_on.ticks; upto = c.index-span.result.now.upto; was = c.index-span.result.now.was; known = true; supposed = c.index-span.result.now.supposed; taken = c.index-span.result.now.taken }) c.if-span.false;
  still = λ part σ stands.
      let flat = c.args.flat.now in
      let rows = c.args.self.now.rows.items in
      let spans = c.args.self.now.spans.items in
      let ticks = c.in-Some-ticks_on.ticks in
      let clock = c.in-Some.clock in
      record {
        stands = counted_more part flat inputs σ t c.args.len rows spans c.args.i c.index-span.result.now ticks clock (got spans c.args.i c.index-span.result.now (search rules) (search rules)) c.if-span.false (search rules)
            (subst (λ (xs : List (Vec ℤ Global)). IsCount flat c.args.len xs spans clock ticks) c.as_slice-2.ensures.value (subst (λ (ys : List Span). IsCount flat c.args.len c.as_slice-2.result.now ys clock ticks) c.as_slice-3.ensures.value c.in-Some-ticks_on.ensures))
            stands.stands;
        marked = marked_set part spans c.args.i c.index-span.result.now (record { ticks = ticks; upto = c.index-span.result.now.upto; was = c.index-span.result.now.was; known = true; supposed = c.index-span.result.now.supposed; taken = c.index-span.result.now.taken }) (got spans c.args.i c.index-span.result.now (search rules) (search rules)) refl stands.marked;
      };
}
