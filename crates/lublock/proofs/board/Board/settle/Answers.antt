use Rattle.std.proofs.Common.{rules, ℕ, ◌≡◌, ◌≤◌, true, false, Some, List, ℤ, subst, sym, refl, ap, ◌∙◌, arith}
use Rattle.std.specs.Prelude.{Vec}
use Rattle.std.specs.declared.alloc.Global.{Global}
use Rattle.luflow.specs.declared.form.Flow.{Flow}
use Rattle.luflow.specs.declared.form.Form.TheVariants.{Pre}
use Rattle.luflow.specs.Program.{flow_at}
use Rattle.lublock_kernels.specs.declared.span.Span.{Span}
use Rattle.lublock_kernels.specs.Machine.{IsClosed, upto_of, known_there}
use Rattle.lublock_kernels.specs.Wholes.{IsWholeAt}
use Rattle.lublock_kernels.proofs.Steps.{got, marked_set}
use Rattle.lublock.proofs.Settling.{settled_found, settled_here, found_stands}
use Rattle.lublock.proofs.board.Board.settle.Goals as goal

pub returns-clause-stands : goal.returns-clause-stands
returns-clause-stands c = λ inputs t len.
    let flat = c.args.flat.now in
    let rows = c.args.self.now.rows.items in
    let spans = c.args.self.now.spans.items in
    let i = c.args.i in
    let span = c.index-span.result.now in
    let there = got spans i span (search rules) (search rules) in
    let closed : (flow : Flow) → flow_at flat i ≡ Some flow → IsClosed rows i span.ticks flow.form =
    subst (λ (xs : List (Vec ℤ Global)). (flow : Flow) → flow_at flat i ≡ Some flow → IsClosed xs i span.ticks flow.form) c.as_slice-rows.ensures.value (c.is_found.ensures.closed c.if-not-is_found.false) in
    let past : (flow : Flow) → flow_at flat i ≡ Some flow → (a : ℕ) → flow.form ≡ Pre a → span.ticks ≤ upto_of spans a =
    subst (λ (xs : List Span). (flow : Flow) → flow_at flat i ≡ Some flow → (a : ℕ) → flow.form ≡ Pre a → span.ticks ≤ upto_of xs a) c.as_slice-else-span.ensures.value (c.is_found.ensures.past c.if-not-is_found.false) in
    record {
      kept = settled_found spans i span there;
      still = λ part σ stands. record {
        stands = found_stands part flat inputs σ t len rows spans i span there closed past (search rules) stands.stands;
        marked = marked_set part spans i span (record { ticks = span.ticks; upto = span.upto; was = span.was; known = span.known; supposed = false; taken = span.taken }) there refl stands.marked;
      };
    }

pub returns-clause-settled : goal.returns-clause-settled
returns-clause-settled c = λ e.
    let spans = c.args.self.now.spans.items in
    let i = c.args.i in
    let span = c.index-span.result.now in
    let there = got spans i span (search rules) (search rules) in
    let whole : IsWholeAt spans i = subst (λ (xs : List Span). IsWholeAt xs i) c.as_slice.ensures.value (c.is_whole_at.ensures c.if-not-is_whole_at.false) in
    settled_here spans i span there (record { ticks = span.ticks; upto = span.upto; was = span.was; known = span.known; supposed = false; taken = span.taken }) (sym (ap known_there there) ∙ whole.known) (let all : span.ticks ≡ span.upto = search rules in omega (arith, all)) refl
