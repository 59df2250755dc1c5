use Rattle.std.proofs.Common.{sym, subst, ◌↔◌, IsTrue}
use Rattle.lutree.specs.Tree.{Tree, view, views, trees_of, node_view}
use Rattle.lustat_init.specs.Currents.{EachCurrent, EachCurrentOfAll, IsStarted}
use Rattle.lutree.proofs.Views.{viewed-Binary, viewed-If, viewed-Unary, viewed-When, viewed-Merge, viewed-Call}
use Rattle.lutree.proofs.Tests.{of_four_forms, of_form, of_lent, both_held, both_failed, triple_held, triple_failed, of_list, list_more, list_failed, list_held}
use Rattle.lustat_init.proofs.current.Firsts.+currents.Goals as goal
use Rattle.lustat_init.proofs.current.Firsts.+currents.Goals.{all_start-then-all_start-2, all_start-else-all_start-2}

pub all_start-returns-then-all_start : goal.all_start-returns-then-all_start
all_start-returns-then-all_start t c =
    let Q : Tree → Type 0 = EachCurrent (IsStarted (node_view c.args.self.now)) in
    let first = of_lent Q c.all_start-in-Binary.result c.deref-in-Binary.result.now c.in-Binary.a.value c.deref-in-Binary.ensures c.all_start-in-Binary.ensures in
    let last = of_lent Q c.all_start-then-all_start.result c.deref-then-all_start.result.now c.in-Binary.b.value c.deref-then-all_start.ensures c.all_start-then-all_start.ensures in
    of_form Q c.all_start-then-all_start.result c.args.e.now _ _ c.in-Binary.is (viewed-Binary c.in-Binary.field-0 c.in-Binary.a c.in-Binary.b) (both_held (Q (view c.in-Binary.a.value)) (Q (view c.in-Binary.b.value)) c.all_start-in-Binary.result c.all_start-then-all_start.result c.if-all_start.true first last)

pub all_start-returns-else-all_start : goal.all_start-returns-else-all_start
all_start-returns-else-all_start t c =
    let Q : Tree → Type 0 = EachCurrent (IsStarted (node_view c.args.self.now)) in
    let first = of_lent Q c.all_start-in-Binary.result c.deref-in-Binary.result.now c.in-Binary.a.value c.deref-in-Binary.ensures c.all_start-in-Binary.ensures in
    of_form Q c.all_start-in-Binary.result c.args.e.now _ _ c.in-Binary.is (viewed-Binary c.in-Binary.field-0 c.in-Binary.a c.in-Binary.b) (both_failed (Q (view c.in-Binary.a.value)) (Q (view c.in-Binary.b.value)) c.all_start-in-Binary.result c.if-all_start.false first)

pub all_start-returns-then-all_start-3 : goal.all_start-returns-then-all_start-3
all_start-returns-then-all_start-3 t c =
    let Q : Tree → Type 0 = EachCurrent (IsStarted (node_view c.args.self.now)) in
    let first = of_lent Q c.all_start-in-If.result c.deref-in-If.result.now c.in-If.c.value c.deref-in-If.ensures c.all_start-in-If.ensures in
    let two : IsTrue c.if-all_start-2.value ↔ (Q (view c.in-If.c.value) × Q (view c.in-If.a.value)) = elim c.if-all_start-2.branch [
      | all_start-then-all_start-2 w ↦
          let next = of_lent Q w.all_start-then-all_start-2.result w.deref-then-all_start-2.result.now c.in-If.a.value w.deref-then-all_start-2.ensures w.all_start-then-all_start-2.ensures in
          subst (λ v. IsTrue v ↔ (Q (view c.in-If.c.value) × Q (view c.in-If.a.value))) (sym w.value-is) (both_held (Q (view c.in-If.c.value)) (Q (view c.in-If.a.value)) c.all_start-in-If.result w.all_start-then-all_start-2.result w.if-all_start-2.true first next)
      | all_start-else-all_start-2 w ↦ subst (λ v. IsTrue v ↔ (Q (view c.in-If.c.value) × Q (view c.in-If.a.value))) (sym w.value-is) (both_failed (Q (view c.in-If.c.value)) (Q (view c.in-If.a.value)) c.all_start-in-If.result w.if-all_start-2.false first)
    ] in
    let last = of_lent Q c.all_start-then-all_start-3.result c.deref-then-all_start-3.result.now c.in-If.b.value c.deref-then-all_start-3.ensures c.all_start-then-all_start-3.ensures in
    of_form Q c.all_start-then-all_start-3.result c.args.e.now _ _ c.in-If.is (viewed-If c.in-If.c c.in-If.a c.in-If.b) (triple_held (Q (view c.in-If.c.value)) (Q (view c.in-If.a.value)) (Q (view c.in-If.b.value)) c.if-all_start-2.value c.all_start-then-all_start-3.result c.if-all_start-3.true two last)

pub all_start-returns-else-all_start-3 : goal.all_start-returns-else-all_start-3
all_start-returns-else-all_start-3 t c =
    let Q : Tree → Type 0 = EachCurrent (IsStarted (node_view c.args.self.now)) in
    let first = of_lent Q c.all_start-in-If.result c.deref-in-If.result.now c.in-If.c.value c.deref-in-If.ensures c.all_start-in-If.ensures in
    let two : IsTrue c.if-all_start-2.value ↔ (Q (view c.in-If.c.value) × Q (view c.in-If.a.value)) = elim c.if-all_start-2.branch [
      | all_start-then-all_start-2 w ↦
          let next = of_lent Q w.all_start-then-all_start-2.result w.deref-then-all_start-2.result.now c.in-If.a.value w.deref-then-all_start-2.ensures w.all_start-then-all_start-2.ensures in
          subst (λ v. IsTrue v ↔ (Q (view c.in-If.c.value) × Q (view c.in-If.a.value))) (sym w.value-is) (both_held (Q (view c.in-If.c.value)) (Q (view c.in-If.a.value)) c.all_start-in-If.result w.all_start-then-all_start-2.result w.if-all_start-2.true first next)
      | all_start-else-all_start-2 w ↦ subst (λ v. IsTrue v ↔ (Q (view c.in-If.c.value) × Q (view c.in-If.a.value))) (sym w.value-is) (both_failed (Q (view c.in-If.c.value)) (Q (view c.in-If.a.value)) c.all_start-in-If.result w.if-all_start-2.false first)
    ] in
    of_form Q c.if-all_start-2.value c.args.e.now _ _ c.in-If.is (viewed-If c.in-If.c c.in-If.a c.in-If.b) (triple_failed (Q (view c.in-If.c.value)) (Q (view c.in-If.a.value)) (Q (view c.in-If.b.value)) c.if-all_start-2.value c.if-all_start-3.false two)

pub all_start-returns-in-Unary : goal.all_start-returns-in-Unary
all_start-returns-in-Unary t c =
    let Q : Tree → Type 0 = EachCurrent (IsStarted (node_view c.args.self.now)) in
    of_form Q c.all_start.result c.args.e.now _ _ c.in-Unary.is (viewed-Unary c.in-Unary.field-0 c.in-Unary.a) (of_lent Q c.all_start.result c.deref.result.now c.in-Unary.a.value c.deref.ensures c.all_start.ensures)

pub all_start-returns-in-When : goal.all_start-returns-in-When
all_start-returns-in-When t c =
    let Q : Tree → Type 0 = EachCurrent (IsStarted (node_view c.args.self.now)) in
    of_form Q c.all_start-in-When.result c.args.e.now _ _ c.in-When.is (viewed-When c.in-When.a c.in-When.field-1) (of_lent Q c.all_start-in-When.result c.deref-in-When.result.now c.in-When.a.value c.deref-in-When.ensures c.all_start-in-When.ensures)

pub all_start-returns-in-Merge : goal.all_start-returns-in-Merge
all_start-returns-in-Merge t c =
    let Q : Tree → Type 0 = EachCurrent (IsStarted (node_view c.args.self.now)) in
    of_form Q c.arguments_start.result c.args.e.now _ _ c.in-Merge.is (viewed-Merge c.in-Merge.field-0 c.in-Merge.field-1 c.in-Merge.branches) (of_list (EachCurrentOfAll (IsStarted (node_view c.args.self.now))) c.arguments_start.result c.deref-in-Merge.result.now c.in-Merge.branches.items c.deref-in-Merge.ensures.value c.arguments_start.ensures)

pub arguments_start-loop-a-preserved : goal.arguments_start-loop-a-preserved
arguments_start-loop-a-preserved t c =
    list_more (EachCurrent (IsStarted (node_view c.args.self.now))) (EachCurrentOfAll (IsStarted (node_view c.args.self.now))) (EachCurrentOfAll (IsStarted (node_view c.args.self.now)) (trees_of (views c.args.arguments.now))) (λ _ _. (λ h. h, λ h. h)) c.args.arguments.now c.loop-a.a-index c.a-item.result c.all_start.result
    c.loop-a-test.true c.a-item.is c.if-all_start.true c.all_start.ensures c.loop-a.invariant

pub arguments_start-returns-in-loop-a : goal.arguments_start-returns-in-loop-a
arguments_start-returns-in-loop-a t c =
    list_failed (EachCurrent (IsStarted (node_view c.args.self.now))) (EachCurrentOfAll (IsStarted (node_view c.args.self.now))) (EachCurrentOfAll (IsStarted (node_view c.args.self.now)) (trees_of (views c.args.arguments.now))) (λ _ _. (λ h. h, λ h. h)) c.args.arguments.now c.loop-a.a-index c.a-item.result c.all_start.result
    c.loop-a-test.true c.a-item.is c.if-all_start.false c.all_start.ensures c.loop-a.invariant

pub arguments_start-returns : goal.arguments_start-returns
arguments_start-returns t c =
    list_held (EachCurrentOfAll (IsStarted (node_view c.args.self.now))) (EachCurrentOfAll (IsStarted (node_view c.args.self.now)) (trees_of (views c.args.arguments.now))) tt c.args.arguments.now c.loop-a.a-index c.loop-a-test.false c.loop-a.invariant

pub all_start-returns-in-Call : goal.all_start-returns-in-Call
all_start-returns-in-Call t c =
    let Q : Tree → Type 0 = EachCurrent (IsStarted (node_view c.args.self.now)) in
    of_form Q c.arguments_start-in-Call.result c.args.e.now _ _ c.in-Call.is (viewed-Call c.in-Call.field-0 c.in-Call.arguments) (of_list (EachCurrentOfAll (IsStarted (node_view c.args.self.now))) c.arguments_start-in-Call.result c.deref-in-Call.result.now c.in-Call.arguments.items c.deref-in-Call.ensures.value c.arguments_start-in-Call.ensures)

pub all_start-returns-in-Number : goal.all_start-returns-in-Number
all_start-returns-in-Number t c = of_four_forms (EachCurrent (IsStarted (node_view c.args.self.now))) c.args.e.now c.in-Number.is (λ _. tt) (λ _. tt) (λ _. tt) (λ _. tt)

pub all_start-returns-in-Number-2 : goal.all_start-returns-in-Number-2
all_start-returns-in-Number-2 t c = of_four_forms (EachCurrent (IsStarted (node_view c.args.self.now))) c.args.e.now c.in-Number.is (λ _. tt) (λ _. tt) (λ _. tt) (λ _. tt)

pub all_start-returns-in-Number-3 : goal.all_start-returns-in-Number-3
all_start-returns-in-Number-3 t c = of_four_forms (EachCurrent (IsStarted (node_view c.args.self.now))) c.args.e.now c.in-Number.is (λ _. tt) (λ _. tt) (λ _. tt) (λ _. tt)

pub all_start-returns-in-Number-4 : goal.all_start-returns-in-Number-4
all_start-returns-in-Number-4 t c = of_four_forms (EachCurrent (IsStarted (node_view c.args.self.now))) c.args.e.now c.in-Number.is (λ _. tt) (λ _. tt) (λ _. tt) (λ _. tt)
