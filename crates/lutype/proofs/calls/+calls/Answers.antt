use Rattle.std.proofs.Common.{ℕ, List, length, refl, sym, subst, ◌↔◌, IsTrue}
use Rattle.lutree.specs.declared.expr.Expr.{Expr}
use Rattle.lutree.specs.Tree.{Tree, view, program_view, Trees, views, trees_of, list_of}
use Rattle.lustat_rules.specs.Naming.{Call}
use Rattle.lutype.specs.Forms.{EachCall, EachCallOf}
use Rattle.lutype.specs.CallRules.{CallKeeps}
use Rattle.lutype.proofs.Forms.{call_step}
use Rattle.lutree.proofs.Views.{viewed-Binary, viewed-If, viewed-Merge, viewed-Call}
use Rattle.lutree.proofs.Tests.{of_five_forms, of_form, of_lent, both_held, both_failed, three_held, three_failed, list_more, list_failed, list_held, of_list}
use Rattle.lutype.proofs.calls.+calls.Goals as goal
use Rattle.lutype.proofs.calls.+calls.Goals.{calls_keep-then-calls_keep-2, calls_keep-else-calls_keep-2}

pub whole_call_keeps-returns-then-all_calls_keep : goal.whole_call_keeps-returns-then-all_calls_keep
whole_call_keeps-returns-then-all_calls_keep t c =
    call_step (CallKeeps (program_view c.args.catalog.now) c.args.rule) c.args.name.now c.args.arguments.now (length c.args.arguments.now)
    c.all_calls_keep.result c.call_keeps.result
    refl
    c.if-all_calls_keep.true
    c.all_calls_keep.ensures
    c.call_keeps.ensures

pub calls_keep-returns-then-calls_keep : goal.calls_keep-returns-then-calls_keep
calls_keep-returns-then-calls_keep t c =
    let Q : Tree → Type 0 = EachCall (CallKeeps (program_view c.args.catalog.now) c.args.rule) in
    let first = of_lent Q c.calls_keep.result c.deref.result.now c.in-Binary.a.value c.deref.ensures c.calls_keep.ensures in
    let last = of_lent Q c.calls_keep-then-calls_keep.result c.deref-then-calls_keep.result.now c.in-Binary.b.value c.deref-then-calls_keep.ensures c.calls_keep-then-calls_keep.ensures in
    of_form Q c.calls_keep-then-calls_keep.result c.args.e.now _ _ c.in-Binary.is (viewed-Binary c.in-Binary.field-0 c.in-Binary.a c.in-Binary.b) (both_held (Q (view c.in-Binary.a.value)) (Q (view c.in-Binary.b.value)) c.calls_keep.result c.calls_keep-then-calls_keep.result c.if-calls_keep.true first last)

pub calls_keep-returns-else-calls_keep : goal.calls_keep-returns-else-calls_keep
calls_keep-returns-else-calls_keep t c =
    let Q : Tree → Type 0 = EachCall (CallKeeps (program_view c.args.catalog.now) c.args.rule) in
    let first = of_lent Q c.calls_keep.result c.deref.result.now c.in-Binary.a.value c.deref.ensures c.calls_keep.ensures in
    of_form Q c.calls_keep.result c.args.e.now _ _ c.in-Binary.is (viewed-Binary c.in-Binary.field-0 c.in-Binary.a c.in-Binary.b) (both_failed (Q (view c.in-Binary.a.value)) (Q (view c.in-Binary.b.value)) c.calls_keep.result c.if-calls_keep.false first)

pub calls_keep-returns-then-calls_keep-3 : goal.calls_keep-returns-then-calls_keep-3
calls_keep-returns-then-calls_keep-3 t c =
    let Q : Tree → Type 0 = EachCall (CallKeeps (program_view c.args.catalog.now) c.args.rule) in
    let first = of_lent Q c.calls_keep-in-If.result c.deref-in-If.result.now c.in-If.c.value c.deref-in-If.ensures c.calls_keep-in-If.ensures in
    let two : IsTrue c.if-calls_keep-2.value ↔ (Q (view c.in-If.c.value) × Q (view c.in-If.a.value)) = elim c.if-calls_keep-2.branch [
      | calls_keep-then-calls_keep-2 w ↦
          let next = of_lent Q w.calls_keep-then-calls_keep-2.result w.deref-then-calls_keep-2.result.now c.in-If.a.value w.deref-then-calls_keep-2.ensures w.calls_keep-then-calls_keep-2.ensures in
          subst (λ v. IsTrue v ↔ (Q (view c.in-If.c.value) × Q (view c.in-If.a.value))) (sym w.value-is) (both_held (Q (view c.in-If.c.value)) (Q (view c.in-If.a.value)) c.calls_keep-in-If.result w.calls_keep-then-calls_keep-2.result w.if-calls_keep-2.true first next)
      | calls_keep-else-calls_keep-2 w ↦ subst (λ v. IsTrue v ↔ (Q (view c.in-If.c.value) × Q (view c.in-If.a.value))) (sym w.value-is) (both_failed (Q (view c.in-If.c.value)) (Q (view c.in-If.a.value)) c.calls_keep-in-If.result w.if-calls_keep-2.false first)
    ] in
    let last = of_lent Q c.calls_keep-then-calls_keep-3.result c.deref-then-calls_keep-3.result.now c.in-If.b.value c.deref-then-calls_keep-3.ensures c.calls_keep-then-calls_keep-3.ensures in
    of_form Q c.calls_keep-then-calls_keep-3.result c.args.e.now _ _ c.in-If.is (viewed-If c.in-If.c c.in-If.a c.in-If.b) (three_held (Q (view c.in-If.c.value)) (Q (view c.in-If.a.value)) (Q (view c.in-If.b.value)) c.if-calls_keep-2.value c.calls_keep-then-calls_keep-3.result c.if-calls_keep-3.true two last)

pub calls_keep-returns-else-calls_keep-3 : goal.calls_keep-returns-else-calls_keep-3
calls_keep-returns-else-calls_keep-3 t c =
    let Q : Tree → Type 0 = EachCall (CallKeeps (program_view c.args.catalog.now) c.args.rule) in
    let first = of_lent Q c.calls_keep-in-If.result c.deref-in-If.result.now c.in-If.c.value c.deref-in-If.ensures c.calls_keep-in-If.ensures in
    let two : IsTrue c.if-calls_keep-2.value ↔ (Q (view c.in-If.c.value) × Q (view c.in-If.a.value)) = elim c.if-calls_keep-2.branch [
      | calls_keep-then-calls_keep-2 w ↦
          let next = of_lent Q w.calls_keep-then-calls_keep-2.result w.deref-then-calls_keep-2.result.now c.in-If.a.value w.deref-then-calls_keep-2.ensures w.calls_keep-then-calls_keep-2.ensures in
          subst (λ v. IsTrue v ↔ (Q (view c.in-If.c.value) × Q (view c.in-If.a.value))) (sym w.value-is) (both_held (Q (view c.in-If.c.value)) (Q (view c.in-If.a.value)) c.calls_keep-in-If.result w.calls_keep-then-calls_keep-2.result w.if-calls_keep-2.true first next)
      | calls_keep-else-calls_keep-2 w ↦ subst (λ v. IsTrue v ↔ (Q (view c.in-If.c.value) × Q (view c.in-If.a.value))) (sym w.value-is) (both_failed (Q (view c.in-If.c.value)) (Q (view c.in-If.a.value)) c.calls_keep-in-If.result w.if-calls_keep-2.false first)
    ] in
    of_form Q c.if-calls_keep-2.value c.args.e.now _ _ c.in-If.is (viewed-If c.in-If.c c.in-If.a c.in-If.b) (three_failed (Q (view c.in-If.c.value)) (Q (view c.in-If.a.value)) (Q (view c.in-If.b.value)) c.if-calls_keep-2.value c.if-calls_keep-3.false two)

pub calls_keep-returns-in-Number : goal.calls_keep-returns-in-Number
calls_keep-returns-in-Number t c = of_five_forms (EachCall (CallKeeps (program_view c.args.catalog.now) c.args.rule)) c.args.e.now c.in-Number.is (λ _. tt) (λ _. tt) (λ _. tt) (λ _. tt) (λ _. tt)

pub calls_keep-returns-in-Number-2 : goal.calls_keep-returns-in-Number-2
calls_keep-returns-in-Number-2 t c = of_five_forms (EachCall (CallKeeps (program_view c.args.catalog.now) c.args.rule)) c.args.e.now c.in-Number.is (λ _. tt) (λ _. tt) (λ _. tt) (λ _. tt) (λ _. tt)

pub calls_keep-returns-in-Number-3 : goal.calls_keep-returns-in-Number-3
calls_keep-returns-in-Number-3 t c = of_five_forms (EachCall (CallKeeps (program_view c.args.catalog.now) c.args.rule)) c.args.e.now c.in-Number.is (λ _. tt) (λ _. tt) (λ _. tt) (λ _. tt) (λ _. tt)

pub calls_keep-returns-in-Number-4 : goal.calls_keep-returns-in-Number-4
calls_keep-returns-in-Number-4 t c = of_five_forms (EachCall (CallKeeps (program_view c.args.catalog.now) c.args.rule)) c.args.e.now c.in-Number.is (λ _. tt) (λ _. tt) (λ _. tt) (λ _. tt) (λ _. tt)

pub calls_keep-returns-in-Number-5 : goal.calls_keep-returns-in-Number-5
calls_keep-returns-in-Number-5 t c = of_five_forms (EachCall (CallKeeps (program_view c.args.catalog.now) c.args.rule)) c.args.e.now c.in-Number.is (λ _. tt) (λ _. tt) (λ _. tt) (λ _. tt) (λ _. tt)

pub all_calls_keep-loop-a-preserved : goal.all_calls_keep-loop-a-preserved
all_calls_keep-loop-a-preserved t c =
    list_more (EachCall (CallKeeps (program_view c.args.catalog.now) c.args.rule)) (EachCallOf (CallKeeps (program_view c.args.catalog.now) c.args.rule)) (EachCallOf (CallKeeps (program_view c.args.catalog.now) c.args.rule) (trees_of (views c.args.arguments.now))) (λ _ _. (λ h. h, λ h. h)) c.args.arguments.now c.loop-a.a-index c.a-item.result c.calls_keep.result
    c.loop-a-test.true c.a-item.is c.if-calls_keep.true c.calls_keep.ensures c.loop-a.invariant

pub all_calls_keep-returns-in-loop-a : goal.all_calls_keep-returns-in-loop-a
all_calls_keep-returns-in-loop-a t c =
    list_failed (EachCall (CallKeeps (program_view c.args.catalog.now) c.args.rule)) (EachCallOf (CallKeeps (program_view c.args.catalog.now) c.args.rule)) (EachCallOf (CallKeeps (program_view c.args.catalog.now) c.args.rule) (trees_of (views c.args.arguments.now))) (λ _ _. (λ h. h, λ h. h)) c.args.arguments.now c.loop-a.a-index c.a-item.result c.calls_keep.result
    c.loop-a-test.true c.a-item.is c.if-calls_keep.false c.calls_keep.ensures c.loop-a.invariant

pub all_calls_keep-returns : goal.all_calls_keep-returns
all_calls_keep-returns t c =
    list_held (EachCallOf (CallKeeps (program_view c.args.catalog.now) c.args.rule)) (EachCallOf (CallKeeps (program_view c.args.catalog.now) c.args.rule) (trees_of (views c.args.arguments.now))) tt c.args.arguments.now c.loop-a.a-index c.loop-a-test.false c.loop-a.invariant

pub calls_keep-returns-in-Merge : goal.calls_keep-returns-in-Merge
calls_keep-returns-in-Merge t c =
    let Q : Tree → Type 0 = EachCall (CallKeeps (program_view c.args.catalog.now) c.args.rule) in
    let R : Trees → Type 0 = EachCallOf (CallKeeps (program_view c.args.catalog.now) c.args.rule) in
    of_form Q c.all_calls_keep.result c.args.e.now _ _ c.in-Merge.is (viewed-Merge c.in-Merge.field-0 c.in-Merge.field-1 c.in-Merge.branches)
    (of_list R c.all_calls_keep.result c.deref-in-Merge.result.now c.in-Merge.branches.items c.deref-in-Merge.ensures.value c.all_calls_keep.ensures)

pub calls_keep-returns-in-Call : goal.calls_keep-returns-in-Call
calls_keep-returns-in-Call t c =
    let P : Call → Type 0 = CallKeeps (program_view c.args.catalog.now) c.args.rule in
    let r = c.whole_call_keeps.result in
    let W : List ℕ → List Expr → Type 0 = λ f es. IsTrue r ↔ (EachCallOf P (trees_of (views es)) × P (record { node = f; arguments = length (list_of (trees_of (views es))) })) in
    of_form (EachCall P) r c.args.e.now _ _ c.in-Call.is (viewed-Call c.in-Call.f c.in-Call.arguments)
    (subst (W c.in-Call.f) c.deref-in-Call.ensures.value (subst (λ f. W f c.deref-in-Call.result.now) c.as_str.ensures c.whole_call_keeps.ensures))
