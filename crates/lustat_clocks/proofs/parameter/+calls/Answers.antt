use Rattle.std.proofs.Common.{sym, subst, ◌↔◌, IsTrue}
use Rattle.lutree.specs.Tree.{Tree, view, Trees, views, trees_of}
use Rattle.lustat_clocks.specs.Named.{EachCall, EachCallOfAll, IsOther}
use Rattle.lutree.proofs.Views.{viewed-Binary, viewed-If, viewed-Unary, viewed-When, viewed-Merge, viewed-Call}
use Rattle.lutree.proofs.Tests.{of_five_forms, of_form, of_lent, both_held, both_failed, triple_held, triple_failed, of_list, list_more, list_failed, list_held}
use Rattle.lustat_clocks.proofs.parameter.+calls.Goals as goal
use Rattle.lustat_clocks.proofs.parameter.+calls.Goals.{calls_no-then-calls_no-2, calls_no-else-calls_no-2}

pub calls_no-returns-then-calls_no : goal.calls_no-returns-then-calls_no
calls_no-returns-then-calls_no t c =
    let Q : Tree → Type 0 = EachCall (IsOther c.args.name.now) in
    let first = of_lent Q c.calls_no-in-Binary.result c.deref-in-Binary.result.now c.in-Binary.a.value c.deref-in-Binary.ensures c.calls_no-in-Binary.ensures in
    let last = of_lent Q c.calls_no-then-calls_no.result c.deref-then-calls_no.result.now c.in-Binary.b.value c.deref-then-calls_no.ensures c.calls_no-then-calls_no.ensures in
    of_form Q c.calls_no-then-calls_no.result c.args.e.now _ _ c.in-Binary.is (viewed-Binary c.in-Binary.field-0 c.in-Binary.a c.in-Binary.b) (both_held (Q (view c.in-Binary.a.value)) (Q (view c.in-Binary.b.value)) c.calls_no-in-Binary.result c.calls_no-then-calls_no.result c.if-calls_no.true first last)

pub calls_no-returns-else-calls_no : goal.calls_no-returns-else-calls_no
calls_no-returns-else-calls_no t c =
    let Q : Tree → Type 0 = EachCall (IsOther c.args.name.now) in
    let first = of_lent Q c.calls_no-in-Binary.result c.deref-in-Binary.result.now c.in-Binary.a.value c.deref-in-Binary.ensures c.calls_no-in-Binary.ensures in
    of_form Q c.calls_no-in-Binary.result c.args.e.now _ _ c.in-Binary.is (viewed-Binary c.in-Binary.field-0 c.in-Binary.a c.in-Binary.b) (both_failed (Q (view c.in-Binary.a.value)) (Q (view c.in-Binary.b.value)) c.calls_no-in-Binary.result c.if-calls_no.false first)

pub calls_no-returns-then-calls_no-3 : goal.calls_no-returns-then-calls_no-3
calls_no-returns-then-calls_no-3 t c =
    let Q : Tree → Type 0 = EachCall (IsOther c.args.name.now) in
    let first = of_lent Q c.calls_no-in-If.result c.deref-in-If.result.now c.in-If.c.value c.deref-in-If.ensures c.calls_no-in-If.ensures in
    let two : IsTrue c.if-calls_no-2.value ↔ (Q (view c.in-If.c.value) × Q (view c.in-If.a.value)) = elim c.if-calls_no-2.branch [
      | calls_no-then-calls_no-2 w ↦
          let next = of_lent Q w.calls_no-then-calls_no-2.result w.deref-then-calls_no-2.result.now c.in-If.a.value w.deref-then-calls_no-2.ensures w.calls_no-then-calls_no-2.ensures in
          subst (λ v. IsTrue v ↔ (Q (view c.in-If.c.value) × Q (view c.in-If.a.value))) (sym w.value-is) (both_held (Q (view c.in-If.c.value)) (Q (view c.in-If.a.value)) c.calls_no-in-If.result w.calls_no-then-calls_no-2.result w.if-calls_no-2.true first next)
      | calls_no-else-calls_no-2 w ↦ subst (λ v. IsTrue v ↔ (Q (view c.in-If.c.value) × Q (view c.in-If.a.value))) (sym w.value-is) (both_failed (Q (view c.in-If.c.value)) (Q (view c.in-If.a.value)) c.calls_no-in-If.result w.if-calls_no-2.false first)
    ] in
    let last = of_lent Q c.calls_no-then-calls_no-3.result c.deref-then-calls_no-3.result.now c.in-If.b.value c.deref-then-calls_no-3.ensures c.calls_no-then-calls_no-3.ensures in
    of_form Q c.calls_no-then-calls_no-3.result c.args.e.now _ _ c.in-If.is (viewed-If c.in-If.c c.in-If.a c.in-If.b) (triple_held (Q (view c.in-If.c.value)) (Q (view c.in-If.a.value)) (Q (view c.in-If.b.value)) c.if-calls_no-2.value c.calls_no-then-calls_no-3.result c.if-calls_no-3.true two last)

pub calls_no-returns-else-calls_no-3 : goal.calls_no-returns-else-calls_no-3
calls_no-returns-else-calls_no-3 t c =
    let Q : Tree → Type 0 = EachCall (IsOther c.args.name.now) in
    let first = of_lent Q c.calls_no-in-If.result c.deref-in-If.result.now c.in-If.c.value c.deref-in-If.ensures c.calls_no-in-If.ensures in
    let two : IsTrue c.if-calls_no-2.value ↔ (Q (view c.in-If.c.value) × Q (view c.in-If.a.value)) = elim c.if-calls_no-2.branch [
      | calls_no-then-calls_no-2 w ↦
          let next = of_lent Q w.calls_no-then-calls_no-2.result w.deref-then-calls_no-2.result.now c.in-If.a.value w.deref-then-calls_no-2.ensures w.calls_no-then-calls_no-2.ensures in
          subst (λ v. IsTrue v ↔ (Q (view c.in-If.c.value) × Q (view c.in-If.a.value))) (sym w.value-is) (both_held (Q (view c.in-If.c.value)) (Q (view c.in-If.a.value)) c.calls_no-in-If.result w.calls_no-then-calls_no-2.result w.if-calls_no-2.true first next)
      | calls_no-else-calls_no-2 w ↦ subst (λ v. IsTrue v ↔ (Q (view c.in-If.c.value) × Q (view c.in-If.a.value))) (sym w.value-is) (both_failed (Q (view c.in-If.c.value)) (Q (view c.in-If.a.value)) c.calls_no-in-If.result w.if-calls_no-2.false first)
    ] in
    of_form Q c.if-calls_no-2.value c.args.e.now _ _ c.in-If.is (viewed-If c.in-If.c c.in-If.a c.in-If.b) (triple_failed (Q (view c.in-If.c.value)) (Q (view c.in-If.a.value)) (Q (view c.in-If.b.value)) c.if-calls_no-2.value c.if-calls_no-3.false two)

pub calls_no-returns-in-Unary : goal.calls_no-returns-in-Unary
calls_no-returns-in-Unary t c =
    let Q : Tree → Type 0 = EachCall (IsOther c.args.name.now) in
    of_form Q c.calls_no.result c.args.e.now _ _ c.in-Unary.is (viewed-Unary c.in-Unary.field-0 c.in-Unary.a) (of_lent Q c.calls_no.result c.deref.result.now c.in-Unary.a.value c.deref.ensures c.calls_no.ensures)

pub calls_no-returns-in-When : goal.calls_no-returns-in-When
calls_no-returns-in-When t c =
    let Q : Tree → Type 0 = EachCall (IsOther c.args.name.now) in
    of_form Q c.calls_no-in-When.result c.args.e.now _ _ c.in-When.is (viewed-When c.in-When.a c.in-When.field-1) (of_lent Q c.calls_no-in-When.result c.deref-in-When.result.now c.in-When.a.value c.deref-in-When.ensures c.calls_no-in-When.ensures)

pub calls_no-returns-in-Merge : goal.calls_no-returns-in-Merge
calls_no-returns-in-Merge t c =
    let Q : Tree → Type 0 = EachCall (IsOther c.args.name.now) in
    of_form Q c.all_call_no.result c.args.e.now _ _ c.in-Merge.is (viewed-Merge c.in-Merge.field-0 c.in-Merge.field-1 c.in-Merge.branches) (of_list (EachCallOfAll (IsOther c.args.name.now)) c.all_call_no.result c.deref-in-Merge.result.now c.in-Merge.branches.items c.deref-in-Merge.ensures.value c.all_call_no.ensures)

pub all_call_no-loop-a-preserved : goal.all_call_no-loop-a-preserved
all_call_no-loop-a-preserved t c =
    list_more (EachCall (IsOther c.args.name.now)) (EachCallOfAll (IsOther c.args.name.now)) (EachCallOfAll (IsOther c.args.name.now) (trees_of (views c.args.arguments.now))) (λ _ _. (λ h. h, λ h. h)) c.args.arguments.now c.loop-a.a-index c.a-item.result c.calls_no.result
    c.loop-a-test.true c.a-item.is c.if-calls_no.true c.calls_no.ensures c.loop-a.invariant

pub all_call_no-returns-in-loop-a : goal.all_call_no-returns-in-loop-a
all_call_no-returns-in-loop-a t c =
    list_failed (EachCall (IsOther c.args.name.now)) (EachCallOfAll (IsOther c.args.name.now)) (EachCallOfAll (IsOther c.args.name.now) (trees_of (views c.args.arguments.now))) (λ _ _. (λ h. h, λ h. h)) c.args.arguments.now c.loop-a.a-index c.a-item.result c.calls_no.result
    c.loop-a-test.true c.a-item.is c.if-calls_no.false c.calls_no.ensures c.loop-a.invariant

pub all_call_no-returns : goal.all_call_no-returns
all_call_no-returns t c =
    list_held (EachCallOfAll (IsOther c.args.name.now)) (EachCallOfAll (IsOther c.args.name.now) (trees_of (views c.args.arguments.now))) tt c.args.arguments.now c.loop-a.a-index c.loop-a-test.false c.loop-a.invariant

pub calls_no-returns-then-all_call_no : goal.calls_no-returns-then-all_call_no
calls_no-returns-then-all_call_no t c =
    let R : Trees → Type 0 = EachCallOfAll (IsOther c.args.name.now) in
    let first = of_list R c.all_call_no-in-Call.result c.deref-in-Call.result.now c.in-Call.arguments.items c.deref-in-Call.ensures.value c.all_call_no-in-Call.ensures in
    let A = R (trees_of (views c.in-Call.arguments.items)) in
    let B = IsOther c.args.name.now c.in-Call.f in
    of_form (EachCall (IsOther c.args.name.now)) c.is_other.result c.args.e.now _ _ c.in-Call.is (viewed-Call c.in-Call.f c.in-Call.arguments)
    (both_held A B c.all_call_no-in-Call.result c.is_other.result c.if-all_call_no.true first c.is_other.ensures)

pub calls_no-returns-else-all_call_no : goal.calls_no-returns-else-all_call_no
calls_no-returns-else-all_call_no t c =
    let R : Trees → Type 0 = EachCallOfAll (IsOther c.args.name.now) in
    let first = of_list R c.all_call_no-in-Call.result c.deref-in-Call.result.now c.in-Call.arguments.items c.deref-in-Call.ensures.value c.all_call_no-in-Call.ensures in
    let A = R (trees_of (views c.in-Call.arguments.items)) in
    let B = IsOther c.args.name.now c.in-Call.f in
    of_form (EachCall (IsOther c.args.name.now)) c.all_call_no-in-Call.result c.args.e.now _ _ c.in-Call.is (viewed-Call c.in-Call.f c.in-Call.arguments)
    (both_failed A B c.all_call_no-in-Call.result c.if-all_call_no.false first)

pub calls_no-returns-in-Number : goal.calls_no-returns-in-Number
calls_no-returns-in-Number t c = of_five_forms (EachCall (IsOther c.args.name.now)) c.args.e.now c.in-Number.is (λ _. tt) (λ _. tt) (λ _. tt) (λ _. tt) (λ _. tt)

pub calls_no-returns-in-Number-2 : goal.calls_no-returns-in-Number-2
calls_no-returns-in-Number-2 t c = of_five_forms (EachCall (IsOther c.args.name.now)) c.args.e.now c.in-Number.is (λ _. tt) (λ _. tt) (λ _. tt) (λ _. tt) (λ _. tt)

pub calls_no-returns-in-Number-3 : goal.calls_no-returns-in-Number-3
calls_no-returns-in-Number-3 t c = of_five_forms (EachCall (IsOther c.args.name.now)) c.args.e.now c.in-Number.is (λ _. tt) (λ _. tt) (λ _. tt) (λ _. tt) (λ _. tt)

pub calls_no-returns-in-Number-4 : goal.calls_no-returns-in-Number-4
calls_no-returns-in-Number-4 t c = of_five_forms (EachCall (IsOther c.args.name.now)) c.args.e.now c.in-Number.is (λ _. tt) (λ _. tt) (λ _. tt) (λ _. tt) (λ _. tt)

pub calls_no-returns-in-Number-5 : goal.calls_no-returns-in-Number-5
calls_no-returns-in-Number-5 t c = of_five_forms (EachCall (IsOther c.args.name.now)) c.args.e.now c.in-Number.is (λ _. tt) (λ _. tt) (λ _. tt) (λ _. tt) (λ _. tt)
