use Rattle.std.proofs.Common.{sym, subst, ◌↔◌, IsTrue}
use Rattle.lutree.specs.Tree.{Tree, view, views, trees_of, node_view}
use Rattle.lustat_rules.specs.Scope.{IsVariable}
use Rattle.lutype.specs.Forms.{EachName, EachNameOf}
use Rattle.lutree.proofs.Views.{viewed-Merge, viewed-Binary, viewed-If, viewed-When, viewed-Unary, viewed-Call}
use Rattle.lutree.proofs.Tests.{of_three_forms, of_form, of_lent, both_held, both_failed, three_held, three_failed, of_list, list_more, list_failed, list_held}
use Rattle.lutype.proofs.known.+known.Goals as goal
use Rattle.lutype.proofs.known.+known.Goals.{expr_is_known-then-expr_is_known-2, expr_is_known-else-expr_is_known-2}

pub expr_is_known-returns-then-expr_is_known : goal.expr_is_known-returns-then-expr_is_known
expr_is_known-returns-then-expr_is_known t c =
    let Q : Tree → Type 0 = EachName (IsVariable (node_view c.args.scope.now)) in
    let first = of_lent Q c.expr_is_known-in-Binary.result c.deref-in-Binary.result.now c.in-Binary.a.value c.deref-in-Binary.ensures c.expr_is_known-in-Binary.ensures in
    let last = of_lent Q c.expr_is_known-then-expr_is_known.result c.deref-then-expr_is_known.result.now c.in-Binary.b.value c.deref-then-expr_is_known.ensures c.expr_is_known-then-expr_is_known.ensures in
    of_form Q c.expr_is_known-then-expr_is_known.result c.args.e.now _ _ c.in-Binary.is (viewed-Binary c.in-Binary.field-0 c.in-Binary.a c.in-Binary.b) (both_held (Q (view c.in-Binary.a.value)) (Q (view c.in-Binary.b.value)) c.expr_is_known-in-Binary.result c.expr_is_known-then-expr_is_known.result c.if-expr_is_known.true first last)

pub expr_is_known-returns-else-expr_is_known : goal.expr_is_known-returns-else-expr_is_known
expr_is_known-returns-else-expr_is_known t c =
    let Q : Tree → Type 0 = EachName (IsVariable (node_view c.args.scope.now)) in
    let first = of_lent Q c.expr_is_known-in-Binary.result c.deref-in-Binary.result.now c.in-Binary.a.value c.deref-in-Binary.ensures c.expr_is_known-in-Binary.ensures in
    of_form Q c.expr_is_known-in-Binary.result c.args.e.now _ _ c.in-Binary.is (viewed-Binary c.in-Binary.field-0 c.in-Binary.a c.in-Binary.b) (both_failed (Q (view c.in-Binary.a.value)) (Q (view c.in-Binary.b.value)) c.expr_is_known-in-Binary.result c.if-expr_is_known.false first)

pub expr_is_known-returns-then-expr_is_known-3 : goal.expr_is_known-returns-then-expr_is_known-3
expr_is_known-returns-then-expr_is_known-3 t c =
    let Q : Tree → Type 0 = EachName (IsVariable (node_view c.args.scope.now)) in
    let first = of_lent Q c.expr_is_known-in-If.result c.deref-in-If.result.now c.in-If.c.value c.deref-in-If.ensures c.expr_is_known-in-If.ensures in
    let two : IsTrue c.if-expr_is_known-2.value ↔ (Q (view c.in-If.c.value) × Q (view c.in-If.a.value)) = elim c.if-expr_is_known-2.branch [
      | expr_is_known-then-expr_is_known-2 w ↦
          let next = of_lent Q w.expr_is_known-then-expr_is_known-2.result w.deref-then-expr_is_known-2.result.now c.in-If.a.value w.deref-then-expr_is_known-2.ensures w.expr_is_known-then-expr_is_known-2.ensures in
          subst (λ v. IsTrue v ↔ (Q (view c.in-If.c.value) × Q (view c.in-If.a.value))) (sym w.value-is) (both_held (Q (view c.in-If.c.value)) (Q (view c.in-If.a.value)) c.expr_is_known-in-If.result w.expr_is_known-then-expr_is_known-2.result w.if-expr_is_known-2.true first next)
      | expr_is_known-else-expr_is_known-2 w ↦ subst (λ v. IsTrue v ↔ (Q (view c.in-If.c.value) × Q (view c.in-If.a.value))) (sym w.value-is) (both_failed (Q (view c.in-If.c.value)) (Q (view c.in-If.a.value)) c.expr_is_known-in-If.result w.if-expr_is_known-2.false first)
    ] in
    let last = of_lent Q c.expr_is_known-then-expr_is_known-3.result c.deref-then-expr_is_known-3.result.now c.in-If.b.value c.deref-then-expr_is_known-3.ensures c.expr_is_known-then-expr_is_known-3.ensures in
    of_form Q c.expr_is_known-then-expr_is_known-3.result c.args.e.now _ _ c.in-If.is (viewed-If c.in-If.c c.in-If.a c.in-If.b) (three_held (Q (view c.in-If.c.value)) (Q (view c.in-If.a.value)) (Q (view c.in-If.b.value)) c.if-expr_is_known-2.value c.expr_is_known-then-expr_is_known-3.result c.if-expr_is_known-3.true two last)

pub expr_is_known-returns-else-expr_is_known-3 : goal.expr_is_known-returns-else-expr_is_known-3
expr_is_known-returns-else-expr_is_known-3 t c =
    let Q : Tree → Type 0 = EachName (IsVariable (node_view c.args.scope.now)) in
    let first = of_lent Q c.expr_is_known-in-If.result c.deref-in-If.result.now c.in-If.c.value c.deref-in-If.ensures c.expr_is_known-in-If.ensures in
    let two : IsTrue c.if-expr_is_known-2.value ↔ (Q (view c.in-If.c.value) × Q (view c.in-If.a.value)) = elim c.if-expr_is_known-2.branch [
      | expr_is_known-then-expr_is_known-2 w ↦
          let next = of_lent Q w.expr_is_known-then-expr_is_known-2.result w.deref-then-expr_is_known-2.result.now c.in-If.a.value w.deref-then-expr_is_known-2.ensures w.expr_is_known-then-expr_is_known-2.ensures in
          subst (λ v. IsTrue v ↔ (Q (view c.in-If.c.value) × Q (view c.in-If.a.value))) (sym w.value-is) (both_held (Q (view c.in-If.c.value)) (Q (view c.in-If.a.value)) c.expr_is_known-in-If.result w.expr_is_known-then-expr_is_known-2.result w.if-expr_is_known-2.true first next)
      | expr_is_known-else-expr_is_known-2 w ↦ subst (λ v. IsTrue v ↔ (Q (view c.in-If.c.value) × Q (view c.in-If.a.value))) (sym w.value-is) (both_failed (Q (view c.in-If.c.value)) (Q (view c.in-If.a.value)) c.expr_is_known-in-If.result w.if-expr_is_known-2.false first)
    ] in
    of_form Q c.if-expr_is_known-2.value c.args.e.now _ _ c.in-If.is (viewed-If c.in-If.c c.in-If.a c.in-If.b) (three_failed (Q (view c.in-If.c.value)) (Q (view c.in-If.a.value)) (Q (view c.in-If.b.value)) c.if-expr_is_known-2.value c.if-expr_is_known-3.false two)

pub expr_is_known-returns-then-expr_is_known-4 : goal.expr_is_known-returns-then-expr_is_known-4
expr_is_known-returns-then-expr_is_known-4 t c =
    let Q : Tree → Type 0 = EachName (IsVariable (node_view c.args.scope.now)) in
    let first = of_lent Q c.expr_is_known-in-When.result c.deref-in-When.result.now c.in-When.a.value c.deref-in-When.ensures c.expr_is_known-in-When.ensures in
    of_form Q c.is_variable.result c.args.e.now _ _ c.in-When.is (viewed-When c.in-When.a c.in-When.c) (both_held (Q (view c.in-When.a.value)) (IsVariable (node_view c.args.scope.now) c.in-When.c.variable) c.expr_is_known-in-When.result c.is_variable.result c.if-expr_is_known-4.true first (subst (λ x. IsTrue c.is_variable.result ↔ IsVariable (node_view c.args.scope.now) x) c.as_str.ensures c.is_variable.ensures))

pub expr_is_known-returns-else-expr_is_known-4 : goal.expr_is_known-returns-else-expr_is_known-4
expr_is_known-returns-else-expr_is_known-4 t c =
    let Q : Tree → Type 0 = EachName (IsVariable (node_view c.args.scope.now)) in
    let first = of_lent Q c.expr_is_known-in-When.result c.deref-in-When.result.now c.in-When.a.value c.deref-in-When.ensures c.expr_is_known-in-When.ensures in
    of_form Q c.expr_is_known-in-When.result c.args.e.now _ _ c.in-When.is (viewed-When c.in-When.a c.in-When.c) (both_failed (Q (view c.in-When.a.value)) (IsVariable (node_view c.args.scope.now) c.in-When.c.variable) c.expr_is_known-in-When.result c.if-expr_is_known-4.false first)

pub expr_is_known-returns-then-is_variable : goal.expr_is_known-returns-then-is_variable
expr_is_known-returns-then-is_variable t c =
    let Q : Tree → Type 0 = EachName (IsVariable (node_view c.args.scope.now)) in
    let P = IsVariable (node_view c.args.scope.now) in
    let first = subst (λ x. IsTrue c.is_variable-in-Merge.result ↔ P x) c.as_str-in-Merge.ensures c.is_variable-in-Merge.ensures in
    let form = viewed-Merge c.in-Merge.c c.in-Merge.field-1 c.in-Merge.branches in
    let last = subst (λ es. IsTrue c.all_are_known.result ↔ EachNameOf P (trees_of (views es))) c.deref-then-is_variable.ensures.value c.all_are_known.ensures in
    of_form Q c.all_are_known.result c.args.e.now _ _ c.in-Merge.is form (both_held (P c.in-Merge.c) (EachNameOf P (trees_of (views c.in-Merge.branches.items))) c.is_variable-in-Merge.result c.all_are_known.result c.if-is_variable.true first last)

pub expr_is_known-returns-else-is_variable : goal.expr_is_known-returns-else-is_variable
expr_is_known-returns-else-is_variable t c =
    let Q : Tree → Type 0 = EachName (IsVariable (node_view c.args.scope.now)) in
    let P = IsVariable (node_view c.args.scope.now) in
    let first = subst (λ x. IsTrue c.is_variable-in-Merge.result ↔ P x) c.as_str-in-Merge.ensures c.is_variable-in-Merge.ensures in
    let form = viewed-Merge c.in-Merge.c c.in-Merge.field-1 c.in-Merge.branches in
    of_form Q c.is_variable-in-Merge.result c.args.e.now _ _ c.in-Merge.is form (both_failed (P c.in-Merge.c) (EachNameOf P (trees_of (views c.in-Merge.branches.items))) c.is_variable-in-Merge.result c.if-is_variable.false first)

pub expr_is_known-returns-in-Number : goal.expr_is_known-returns-in-Number
expr_is_known-returns-in-Number t c = of_three_forms (EachName (IsVariable (node_view c.args.scope.now))) c.args.e.now c.in-Number.is (λ _. tt) (λ _. tt) (λ _. tt)

pub expr_is_known-returns-in-Number-2 : goal.expr_is_known-returns-in-Number-2
expr_is_known-returns-in-Number-2 t c = of_three_forms (EachName (IsVariable (node_view c.args.scope.now))) c.args.e.now c.in-Number.is (λ _. tt) (λ _. tt) (λ _. tt)

pub expr_is_known-returns-in-Number-3 : goal.expr_is_known-returns-in-Number-3
expr_is_known-returns-in-Number-3 t c = of_three_forms (EachName (IsVariable (node_view c.args.scope.now))) c.args.e.now c.in-Number.is (λ _. tt) (λ _. tt) (λ _. tt)

pub expr_is_known-returns-in-Unary : goal.expr_is_known-returns-in-Unary
expr_is_known-returns-in-Unary t c =
    let Q : Tree → Type 0 = EachName (IsVariable (node_view c.args.scope.now)) in
    of_form Q c.expr_is_known.result c.args.e.now _ _ c.in-Unary.is (viewed-Unary c.in-Unary.field-0 c.in-Unary.a) (of_lent Q c.expr_is_known.result c.deref.result.now c.in-Unary.a.value c.deref.ensures c.expr_is_known.ensures)

pub expr_is_known-returns-in-Call : goal.expr_is_known-returns-in-Call
expr_is_known-returns-in-Call t c =
    let Q : Tree → Type 0 = EachName (IsVariable (node_view c.args.scope.now)) in
    of_form Q c.all_are_known-in-Call.result c.args.e.now _ _ c.in-Call.is (viewed-Call c.in-Call.field-0 c.in-Call.arguments) (of_list (EachNameOf (IsVariable (node_view c.args.scope.now))) c.all_are_known-in-Call.result c.deref-in-Call.result.now c.in-Call.arguments.items c.deref-in-Call.ensures.value c.all_are_known-in-Call.ensures)

pub all_are_known-loop-a-preserved : goal.all_are_known-loop-a-preserved
all_are_known-loop-a-preserved t c =
    list_more (EachName (IsVariable (node_view c.args.scope.now))) (EachNameOf (IsVariable (node_view c.args.scope.now))) (EachNameOf (IsVariable (node_view c.args.scope.now)) (trees_of (views c.args.arguments.now))) (λ _ _. (λ h. h, λ h. h)) c.args.arguments.now c.loop-a.a-index c.a-item.result c.expr_is_known.result
    c.loop-a-test.true c.a-item.is c.if-expr_is_known.true c.expr_is_known.ensures c.loop-a.invariant

pub all_are_known-returns-in-loop-a : goal.all_are_known-returns-in-loop-a
all_are_known-returns-in-loop-a t c =
    list_failed (EachName (IsVariable (node_view c.args.scope.now))) (EachNameOf (IsVariable (node_view c.args.scope.now))) (EachNameOf (IsVariable (node_view c.args.scope.now)) (trees_of (views c.args.arguments.now))) (λ _ _. (λ h. h, λ h. h)) c.args.arguments.now c.loop-a.a-index c.a-item.result c.expr_is_known.result
    c.loop-a-test.true c.a-item.is c.if-expr_is_known.false c.expr_is_known.ensures c.loop-a.invariant

pub all_are_known-returns : goal.all_are_known-returns
all_are_known-returns t c =
    list_held (EachNameOf (IsVariable (node_view c.args.scope.now))) (EachNameOf (IsVariable (node_view c.args.scope.now)) (trees_of (views c.args.arguments.now))) tt c.args.arguments.now c.loop-a.a-index c.loop-a-test.false c.loop-a.invariant
