use Rattle.std.proofs.Common.{◌≡◌, ℕ, ◌<◌, Bool, List, [], ◌∷◌, ◌++◌, cond, length, filter, sym, ap, ap₂, subst, ◌∙◌, arith}
use Rattle.std.specs.List.{range_with_len}
use Rattle.std.specs.Prelude.{slice_index}
use Rattle.luflow.specs.Program.{FlatView, flows_of}
use Rattle.luworld.specs.Jobs.{knows}
use Rattle.lusite_program.proofs.SiteFlows.{place_below}
use Rattle.lusite_program.proofs.Ranges.{filter_more}
use Rattle.lusite_program.proofs.projecting.known_ranks.Goals as goal

pub is_known-requires-clause-within : goal.is_known-requires-clause-within
is_known-requires-clause-within c =
    let plan = c.args.plan.now in
    let order : c.rank-order.result.now ≡ plan.flat.order = c.rank-order.ensures ∙ ap (λ (f : FlatView). f.order) c.flat.ensures.flat in
    subst (λ (xs : List ℕ). slice_index xs c.loop-p.p < flows_of plan.flat) (sym order)
    (place_below plan c.loop-p.p c.flat.ensures.plan.flat_is.ordered (omega (arith, c.loop-p-test.true, ap length order)))

pub loop-p-preserved : goal.loop-p-preserved
loop-p-preserved c =
    c.in_ok-push_if.ensures ∙ ap₂ (λ (xs : List ℕ) (b : Bool). xs ++ cond b (c.loop-p.p ∷ []) []) c.loop-p.invariant c.is_known.ensures
    ∙ sym (filter_more (λ p. knows c.args.plan.now c.args.site (slice_index c.rank-order.result.now p)) c.loop-p.p)

pub returns : goal.returns
returns c =
    let plan = c.args.plan.now in
    let order : c.rank-order.result.now ≡ plan.flat.order = c.rank-order.ensures ∙ ap (λ (f : FlatView). f.order) c.flat.ensures.flat in
    let n : c.loop-p.p ≡ length plan.flat.order = omega (arith, c.loop-p-test.false, c.loop-p.auto.p-end, ap length order) in
    c.loop-p.invariant
    ∙ ap₂ (λ (xs : List ℕ) (m : ℕ). filter (λ p. knows plan c.args.site (slice_index xs p)) (range_with_len 0 m)) order n
