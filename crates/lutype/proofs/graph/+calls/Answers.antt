use Rattle.std.specs.Prelude.{◌≡◌, ◌<◌, ◌++◌, ◌∷◌, [], length, OnOk}
use Rattle.std.specs.List.{filter_map}
use Rattle.std.proofs.Common.{arith, sym, ap, subst, ◌∙◌}
use Rattle.std.proofs.lemmas.Result.{on_ok_weaker}
use Rattle.lutree.specs.Tree.{view, views, trees_of, program_view}
use Rattle.lustat_rules.specs.Naming.{calls_in, calls_in_all, node_place}
use Rattle.lutype.proofs.CallsPushed.{found_for, calls-Binary, calls-Merge, calls-If, call_of, calls-Call, pushed_both, argument_pushed}
use Rattle.lutype.proofs.graph.+calls.Goals as goal

pub push_all_calls-loop-a-preserved : goal.push_all_calls-loop-a-preserved
push_all_calls-loop-a-preserved t c =
    let lt : c.loop-a.a-index < length c.args.arguments.now = omega arith in
    argument_pushed (node_place (program_view c.args.catalog.now)) c.args.row.now.items c.loop-a.row.items c.push_calls.new.row.items c.args.arguments.now c.loop-a.a-index c.a-item.result lt c.a-item.is
    c.loop-a.invariant c.in_ok-push_calls.ensures

pub push_calls-returns-in_ok-push_calls-in-Binary : goal.push_calls-returns-in_ok-push_calls-in-Binary
push_calls-returns-in_ok-push_calls-in-Binary t c =
    let look = node_place (program_view c.args.catalog.now) in
    let row = c.args.row.now.items in
    let one = c.push_calls.new.row.items in
    let two = c.push_calls-in-Binary.new.row.items in
    let a = c.in-Binary.a in
    let b = c.in-Binary.b in
    let seen = ap (λ e. calls_in (view e)) c.in-Binary.is ∙ calls-Binary c.in-Binary.field-0 a b in
    subst (λ cs. OnOk c.push_calls-in-Binary.result (two ≡ row ++ found_for look cs)) (sym seen)
    (on_ok_weaker c.push_calls-in-Binary.result
    (λ h. pushed_both look row one two (calls_in (view a.value)) (calls_in (view b.value))
    (subst (λ e. one ≡ row ++ found_for look (calls_in (view e))) c.deref.ensures c.in_ok-push_calls-in-Binary.ensures)
    (subst (λ e. two ≡ one ++ found_for look (calls_in (view e))) c.deref-in-Binary.ensures h))
    c.push_calls-in-Binary.ensures)

pub push_calls-returns-in-Merge : goal.push_calls-returns-in-Merge
push_calls-returns-in-Merge t c =
    let look = node_place (program_view c.args.catalog.now) in
    let row = c.args.row.now.items in
    let two = c.push_all_calls.new.row.items in
    let es = c.in-Merge.branches in
    let seen = ap (λ e. calls_in (view e)) c.in-Merge.is ∙ calls-Merge c.in-Merge.field-0 c.in-Merge.field-1 es in
    subst (λ cs. OnOk c.push_all_calls.result (two ≡ row ++ found_for look cs)) (sym seen)
    (on_ok_weaker c.push_all_calls.result
    (λ h. subst (λ xs. two ≡ row ++ found_for look (calls_in_all (trees_of (views xs)))) c.deref-in-Merge.ensures.value h)
    c.push_all_calls.ensures)

pub push_calls-returns-in_ok-push_calls-in-If-2 : goal.push_calls-returns-in_ok-push_calls-in-If-2
push_calls-returns-in_ok-push_calls-in-If-2 t c =
    let look = node_place (program_view c.args.catalog.now) in
    let row = c.args.row.now.items in
    let one = c.push_calls-in-If.new.row.items in
    let two = c.push_calls-in-If-2.new.row.items in
    let three = c.push_calls-in-If-3.new.row.items in
    let first = calls_in (view c.in-If.c.value) in
    let second = calls_in (view c.in-If.a.value) in
    let third = calls_in (view c.in-If.b.value) in
    let seen = ap (λ e. calls_in (view e)) c.in-If.is ∙ calls-If c.in-If.c c.in-If.a c.in-If.b in
    subst (λ cs. OnOk c.push_calls-in-If-3.result (three ≡ row ++ found_for look cs)) (sym seen)
    (on_ok_weaker c.push_calls-in-If-3.result
    (λ h. pushed_both look row one three first (second ++ third)
    (subst (λ e. one ≡ row ++ found_for look (calls_in (view e))) c.deref-in-If.ensures c.in_ok-push_calls-in-If.ensures)
    (pushed_both look one two three second third
    (subst (λ e. two ≡ one ++ found_for look (calls_in (view e))) c.deref-in-If-2.ensures c.in_ok-push_calls-in-If-2.ensures)
    (subst (λ e. three ≡ two ++ found_for look (calls_in (view e))) c.deref-in-If-3.ensures h)))
    c.push_calls-in-If-3.ensures)

pub push_calls-returns-in_ok-push_all_calls-in-Call : goal.push_calls-returns-in_ok-push_all_calls-in-Call
push_calls-returns-in_ok-push_all_calls-in-Call t c =
    let look = node_place (program_view c.args.catalog.now) in
    let row = c.args.row.now.items in
    let one = c.push_all_calls-in-Call.new.row.items in
    let two = c.push_call.new.row.items in
    let f = c.in-Call.f in
    let es = c.in-Call.arguments in
    let seen = ap (λ e. calls_in (view e)) c.in-Call.is ∙ calls-Call f es in
    subst (λ cs. OnOk c.push_call.result (two ≡ row ++ found_for look cs)) (sym seen)
    (on_ok_weaker c.push_call.result
    (λ h. pushed_both look row one two (calls_in_all (trees_of (views es.items))) (call_of f es.items ∷ [])
    (subst (λ xs. one ≡ row ++ found_for look (calls_in_all (trees_of (views xs)))) c.deref-in-Call.ensures.value c.in_ok-push_all_calls-in-Call.ensures)
    (subst (λ x. two ≡ one ++ filter_map look (x ∷ [])) c.as_str.ensures h))
    c.push_call.ensures)
