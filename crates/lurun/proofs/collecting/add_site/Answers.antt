use Rattle.std.proofs.Common.{◌≡◌, ℕ, suc, ◌+◌, ◌-◌, List, [], length, sym, subst, rules, arith}
use Rattle.std.specs.Prelude.{slice_get}
use Rattle.std.specs.Vec.Iter.{into_iter_items}
use Rattle.std.proofs.lemmas.List.{length-map}
use Rattle.luflow.specs.Tables.{outputs_view, output_view}
use Rattle.lusite.specs.Logs.{IsOutput}
use Rattle.lusite_program.specs.Logs.{Log, row_items}
use Rattle.lurun.proofs.Lists.{empty_list}
use Rattle.lurun.proofs.Columns.{none_moved, one_moved, all_moved}
use Rattle.lurun.proofs.collecting.add_site.Goals as goal

pub loop-k-init : goal.loop-k-init
loop-k-init c =
    let r = c.args.report in
    record {
      moved = none_moved r (outputs_view c.args.columns.now.items);
      left = λ j.
          let z : j ≡ 0 + j = omega arith in
          subst (λ (k : ℕ). IsOutput r.job r.site r.done k (row_items (slice_get (into_iter_items c.into_iter-rows.result) j))) z
          (subst (λ (xs : List Log). IsOutput r.job r.site r.done j (row_items (slice_get xs j))) (sym c.into_iter-rows.ensures.rest) (c.in_ok-into_outputs.ensures.each j));
    }

pub returns-in_default : goal.returns-in_default
returns-in_default c =
    let r = c.args.report in
    let inv = c.loop-k.invariant in
    let k = c.loop-k.k in
    let zero : length (into_iter_items c.loop-k.rows) ≡ 0 = search rules in
    let none = empty_list (into_iter_items c.loop-k.rows) zero in
    all_moved r k (outputs_view c.args.columns.now.items) (outputs_view c.loop-k.columns.items) inv.moved (λ j l m.
    let z : k + (j - k) ≡ j = omega (arith, l) in
    subst (λ (n : ℕ). IsOutput r.job r.site r.done n []) z
    (subst (λ (xs : List Log). IsOutput r.job r.site r.done (k + (j - k)) (row_items (slice_get xs (j - k)))) none (inv.left (j - k))))

pub loop-k-preserved : goal.loop-k-preserved
loop-k-preserved c =
    let r = c.args.report in
    let inv = c.loop-k.invariant in
    let k = c.loop-k.k in
    let rest = into_iter_items c.next.new.self in
    let z : k + 0 ≡ k = omega arith in
    let first = subst (λ (n : ℕ). IsOutput r.job r.site r.done n c.in-Some.statuses.items) z
    (subst (λ (xs : List Log). IsOutput r.job r.site r.done (k + 0) (row_items (slice_get xs 0))) c.in-Some.ensures.items (inv.left 0)) in
    record {
      moved = one_moved r k (outputs_view c.args.columns.now.items) (outputs_view c.loop-k.columns.items) (outputs_view c.fill.new.columns.items) c.in-Some.statuses.items inv.moved first c.fill.ensures;
      left = λ j.
          let z : k + suc j ≡ k + 1 + j = omega arith in
          subst (λ (n : ℕ). IsOutput r.job r.site r.done n (row_items (slice_get rest j))) z
          (subst (λ (xs : List Log). IsOutput r.job r.site r.done (k + suc j) (row_items (slice_get xs (suc j)))) c.in-Some.ensures.items (inv.left (suc j)));
    }

pub returns : goal.returns
returns c =
    let n = length-map c.loop-k.columns.items output_view in
    all_moved c.args.report c.loop-k.k (outputs_view c.args.columns.now.items) (outputs_view c.loop-k.columns.items) c.loop-k.invariant.moved (λ j l m. let same = c.loop-k.invariant.moved.len in let o = length-map c.args.columns.now.items output_view in let e = c.len-k-end.ensures in let f = c.loop-k-test.false in absurd (omega (arith, l, m, same, o, n, e, f)))
