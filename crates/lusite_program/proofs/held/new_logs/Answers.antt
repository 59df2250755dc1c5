use Rattle.std.proofs.Common.{◌≡◌, ℕ, ◌+◌, List, [], ◌∷◌, ◌++◌, inl, inr, length, sym, ap, ◌∙◌, subst, arith}
use Rattle.std.specs.Prelude.{slice_get, slice_index, Bool}
use Rattle.std.proofs.lemmas.Bool.{cases_lt}
use Rattle.std.proofs.lemmas.List.{length-map}
use Rattle.std.proofs.lemmas.Option.{same_Some, slice_get-get_or, slice_get_within}
use Rattle.luflow.proofs.Solutions.{some_at}
use Rattle.luworld.proofs.Cursor.{slice_get-append_left, slice_get-append_right}
use Rattle.lusite_program.specs.Logs.{Log, IsNewRow}
use Rattle.lusite_program.specs.Programs.{ranks_of, places_of, part_of}
use Rattle.lusite_program.proofs.SiteFlows.{row_rank}
use Rattle.lusite_program.proofs.held.new_logs.Goals as goal

pub loop-k-preserved : goal.loop-k-preserved
loop-k-preserved c =
    let p = c.args.program.now in
    let site_flows = c.code.result.0.now in
    let k = c.loop-k.k in
    let inv = c.loop-k.invariant in
    let push = c.push_reserved.ensures in
    let rank = some_at (ranks_of p.plan p.site) k (let n = c.code.ensures.len in omega (arith, n, c.loop-k-test.true)) in
    let site_flow = some_at site_flows k c.loop-k-test.true in
    record {
      len = (let a = inv.len in let b = push.len in omega (arith, a, b));
      each = λ j i y l there at. elim (cases_lt j k) [
        | inl lt ↦ inv.each j i y lt there (sym (slice_get-append_left c.loop-k.logs.items (c.in_ok-row.row ∷ []) j (let n = inv.len in omega (arith, lt, n))) ∙ ap (λ (xs : List Log). slice_get xs j) (sym push.items) ∙ at)
        | inr ge ↦
            let here : j ≡ k = omega (arith, l, ge) in
            let n : j ≡ length c.loop-k.logs.items + 0 = (let n = inv.len in omega (arith, here, n)) in
            let row : c.in_ok-row.row ≡ y = same_Some c.in_ok-row.row y (sym (ap (λ (xs : List Log). slice_get xs j) push.items ∙ ap (slice_get (c.loop-k.logs.items ++ c.in_ok-row.row ∷ [])) n ∙ slice_get-append_right c.loop-k.logs.items (c.in_ok-row.row ∷ []) 0) ∙ at) in
            let place : slice_index p.plan.flat.order rank.0 ≡ i = same_Some _ i (sym (row_rank p.plan p.site k rank.0 rank.1) ∙ ap (slice_get (places_of p.plan p.site)) (sym here) ∙ there) in
            let reported = (c.code.ensures.each k rank.0 _ rank.1 (slice_get-get_or site_flows k _ c.loop-k-test.true)).reported ∙ ap (λ (q : ℕ). (part_of p.plan p.site q).reported) place in
            subst (λ (b : Bool). IsNewRow b c.args.instants y) reported (subst (IsNewRow _ c.args.instants) row c.in_ok-row.ensures)
      ];
      room = (let a = inv.room in let b = push.capacity in omega (arith, a, b));
    }

pub returns-clause-each : goal.returns-clause-each
returns-clause-each c k i there y at =
    let p = c.args.program.now in
    let l = slice_get_within (places_of p.plan p.site) k i there in
    let n = length-map (ranks_of p.plan p.site) (slice_index p.plan.flat.order) in
    let m = c.code.ensures.len in
    c.loop-k.invariant.each k i y (omega (arith, l, n, m, c.loop-k-test.false)) there at
