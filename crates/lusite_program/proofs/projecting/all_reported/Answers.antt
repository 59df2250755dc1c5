use Rattle.std.proofs.Common.{◌≡◌, ℕ, ◌+◌, ◌<◌, List, [], ◌∷◌, ◌++◌, inl, inr, length, length-append, Option, Some, sym, ap, ◌∙◌, subst, arith}
use Rattle.std.specs.Prelude.{slice_get, slice_index}
use Rattle.std.proofs.lemmas.Bool.{cases_lt}
use Rattle.std.proofs.lemmas.Option.{same_Some, slice_get-get_or, slice_get_within}
use Rattle.luworld.proofs.Cursor.{slice_get-append_left, slice_get-append_right}
use Rattle.luworld.specs.Needs.{PlanView}
use Rattle.luworld.specs.Jobs.{outputs_of}
use Rattle.lusite_program.specs.Programs.{Reports}
use Rattle.lusite_program.proofs.SiteFlows.{output_within}
use Rattle.lusite_program.proofs.projecting.all_reported.Goals as goal

there : (plan : PlanView) (outputs : List ℕ) (k : ℕ) → outputs ≡ outputs_of plan → k < length outputs → slice_get (outputs_of plan) k ≡ Some (slice_index outputs k)
there plan outputs k e l = ap (λ (xs : List ℕ). slice_get xs k) (sym e) ∙ slice_get-get_or outputs k 0 l

pub reported_flow-requires-clause-output : goal.reported_flow-requires-clause-output
reported_flow-requires-clause-output c = (output_within c.args.plan.now c.loop-k.k _ c.requires.plan (there c.args.plan.now c.args.outputs.now c.loop-k.k c.requires.outputs c.loop-k-test.true)).1

pub reported_flow-requires-clause-within : goal.reported_flow-requires-clause-within
reported_flow-requires-clause-within c = (output_within c.args.plan.now c.loop-k.k _ c.requires.plan (there c.args.plan.now c.args.outputs.now c.loop-k.k c.requires.outputs c.loop-k-test.true)).0

pub loop-k-preserved : goal.loop-k-preserved
loop-k-preserved c =
    let plan = c.args.plan.now in
    let k = c.loop-k.k in
    let inv = c.loop-k.invariant in
    let push = c.push_reserved.ensures in
    let reported = c.loop-k.reported.items in
    record {
      len = (let a = inv.len in let b = push.len in omega (arith, a, b));
      each = λ j i o is at. (let l = slice_get_within c.push_reserved.new.self.items j o at in let n = ap length push.items in elim (cases_lt j k) [
        | inl lt ↦ inv.each j i o is (sym (slice_get-append_left reported (c.reported_flow.result ∷ []) j (let n = inv.len in omega (arith, lt, n))) ∙ ap (λ (xs : List (Option ℕ)). slice_get xs j) (sym push.items) ∙ at)
        | inr ge ↦
            let m = length-append reported (c.reported_flow.result ∷ []) in
            let here : j ≡ k = (let len = inv.len in omega (arith, l, n, m, len, ge)) in
            let end : j ≡ length reported + 0 = (let len = inv.len in omega (arith, here, len)) in
            let same : c.reported_flow.result ≡ o = same_Some c.reported_flow.result o (sym (ap (λ (xs : List (Option ℕ)). slice_get xs j) push.items ∙ ap (slice_get (reported ++ c.reported_flow.result ∷ [])) end ∙ slice_get-append_right reported (c.reported_flow.result ∷ []) 0) ∙ at) in
            let place : slice_index c.args.outputs.now k ≡ i = same_Some (slice_index c.args.outputs.now k) i (sym (there plan c.args.outputs.now k c.requires.outputs c.loop-k-test.true) ∙ ap (slice_get (outputs_of plan)) (sym here) ∙ is) in
            subst (λ (x : ℕ). Reports plan c.args.site x o) place (subst (Reports plan c.args.site (slice_index c.args.outputs.now k)) same c.reported_flow.ensures)
      ]);
      room = (let a = inv.room in let b = push.capacity in omega (arith, a, b));
    }
