use Rattle.std.proofs.Common.{sym, subst, ◌↔◌, IsTrue}
use Rattle.lutree.specs.Tree.{Tree, view, node_view, views, trees_of}
use Rattle.lustat_rules.specs.Parts.{EachPart, EachPartOf}
use Rattle.lustat_rules.specs.Clocks.{NamesClocks, IsTypedClock}
use Rattle.lutree.proofs.Views.{viewed-Binary, viewed-If, viewed-When, viewed-Unary, viewed-Call}
use Rattle.lutree.proofs.Tests.{of_five_forms, of_form, of_lent, both_held, both_failed, triple_held, triple_failed, of_list, list_more, list_failed, list_held}
use Rattle.lustat_clocks.proofs.chain.+clocks.Goals as goal
use Rattle.lustat_clocks.proofs.chain.+clocks.Goals.{names_clocks_inside-then-names_clocks_inside-2, names_clocks_inside-else-names_clocks_inside-2}

pub names_clocks_inside-returns-then-names_clocks_inside : goal.names_clocks_inside-returns-then-names_clocks_inside
names_clocks_inside-returns-then-names_clocks_inside t c =
    let Q : Tree → Type 0 = EachPart (NamesClocks (node_view c.args.scope.now)) in
    let first = of_lent Q c.names_clocks_inside-in-Binary.result c.deref-in-Binary.result.now c.in-Binary.a.value c.deref-in-Binary.ensures c.names_clocks_inside-in-Binary.ensures in
    let last = of_lent Q c.names_clocks_inside-then-names_clocks_inside.result c.deref-then-names_clocks_inside.result.now c.in-Binary.b.value c.deref-then-names_clocks_inside.ensures c.names_clocks_inside-then-names_clocks_inside.ensures in
    of_form Q c.names_clocks_inside-then-names_clocks_inside.result c.args.e.now _ _ c.in-Binary.is (viewed-Binary c.in-Binary.field-0 c.in-Binary.a c.in-Binary.b) (both_held (Q (view c.in-Binary.a.value)) (Q (view c.in-Binary.b.value)) c.names_clocks_inside-in-Binary.result c.names_clocks_inside-then-names_clocks_inside.result c.if-names_clocks_inside.true first last)

pub names_clocks_inside-returns-else-names_clocks_inside : goal.names_clocks_inside-returns-else-names_clocks_inside
names_clocks_inside-returns-else-names_clocks_inside t c =
    let Q : Tree → Type 0 = EachPart (NamesClocks (node_view c.args.scope.now)) in
    let first = of_lent Q c.names_clocks_inside-in-Binary.result c.deref-in-Binary.result.now c.in-Binary.a.value c.deref-in-Binary.ensures c.names_clocks_inside-in-Binary.ensures in
    of_form Q c.names_clocks_inside-in-Binary.result c.args.e.now _ _ c.in-Binary.is (viewed-Binary c.in-Binary.field-0 c.in-Binary.a c.in-Binary.b) (both_failed (Q (view c.in-Binary.a.value)) (Q (view c.in-Binary.b.value)) c.names_clocks_inside-in-Binary.result c.if-names_clocks_inside.false first)

pub names_clocks_inside-returns-then-names_clocks_inside-3 : goal.names_clocks_inside-returns-then-names_clocks_inside-3
names_clocks_inside-returns-then-names_clocks_inside-3 t c =
    let Q : Tree → Type 0 = EachPart (NamesClocks (node_view c.args.scope.now)) in
    let first = of_lent Q c.names_clocks_inside-in-If.result c.deref-in-If.result.now c.in-If.c.value c.deref-in-If.ensures c.names_clocks_inside-in-If.ensures in
    let two : IsTrue c.if-names_clocks_inside-2.value ↔ (Q (view c.in-If.c.value) × Q (view c.in-If.a.value)) = elim c.if-names_clocks_inside-2.branch [
      | names_clocks_inside-then-names_clocks_inside-2 w ↦
          let next = of_lent Q w.names_clocks_inside-then-names_clocks_inside-2.result w.deref-then-names_clocks_inside-2.result.now c.in-If.a.value w.deref-then-names_clocks_inside-2.ensures w.names_clocks_inside-then-names_clocks_inside-2.ensures in
          subst (λ v. IsTrue v ↔ (Q (view c.in-If.c.value) × Q (view c.in-If.a.value))) (sym w.value-is) (both_held (Q (view c.in-If.c.value)) (Q (view c.in-If.a.value)) c.names_clocks_inside-in-If.result w.names_clocks_inside-then-names_clocks_inside-2.result w.if-names_clocks_inside-2.true first next)
      | names_clocks_inside-else-names_clocks_inside-2 w ↦ subst (λ v. IsTrue v ↔ (Q (view c.in-If.c.value) × Q (view c.in-If.a.value))) (sym w.value-is) (both_failed (Q (view c.in-If.c.value)) (Q (view c.in-If.a.value)) c.names_clocks_inside-in-If.result w.if-names_clocks_inside-2.false first)
    ] in
    let last = of_lent Q c.names_clocks_inside-then-names_clocks_inside-3.result c.deref-then-names_clocks_inside-3.result.now c.in-If.b.value c.deref-then-names_clocks_inside-3.ensures c.names_clocks_inside-then-names_clocks_inside-3.ensures in
    of_form Q c.names_clocks_inside-then-names_clocks_inside-3.result c.args.e.now _ _ c.in-If.is (viewed-If c.in-If.c c.in-If.a c.in-If.b) (triple_held (Q (view c.in-If.c.value)) (Q (view c.in-If.a.value)) (Q (view c.in-If.b.value)) c.if-names_clocks_inside-2.value c.names_clocks_inside-then-names_clocks_inside-3.result c.if-names_clocks_inside-3.true two last)

pub names_clocks_inside-returns-else-names_clocks_inside-3 : goal.names_clocks_inside-returns-else-names_clocks_inside-3
names_clocks_inside-returns-else-names_clocks_inside-3 t c =
    let Q : Tree → Type 0 = EachPart (NamesClocks (node_view c.args.scope.now)) in
    let first = of_lent Q c.names_clocks_inside-in-If.result c.deref-in-If.result.now c.in-If.c.value c.deref-in-If.ensures c.names_clocks_inside-in-If.ensures in
    let two : IsTrue c.if-names_clocks_inside-2.value ↔ (Q (view c.in-If.c.value) × Q (view c.in-If.a.value)) = elim c.if-names_clocks_inside-2.branch [
      | names_clocks_inside-then-names_clocks_inside-2 w ↦
          let next = of_lent Q w.names_clocks_inside-then-names_clocks_inside-2.result w.deref-then-names_clocks_inside-2.result.now c.in-If.a.value w.deref-then-names_clocks_inside-2.ensures w.names_clocks_inside-then-names_clocks_inside-2.ensures in
          subst (λ v. IsTrue v ↔ (Q (view c.in-If.c.value) × Q (view c.in-If.a.value))) (sym w.value-is) (both_held (Q (view c.in-If.c.value)) (Q (view c.in-If.a.value)) c.names_clocks_inside-in-If.result w.names_clocks_inside-then-names_clocks_inside-2.result w.if-names_clocks_inside-2.true first next)
      | names_clocks_inside-else-names_clocks_inside-2 w ↦ subst (λ v. IsTrue v ↔ (Q (view c.in-If.c.value) × Q (view c.in-If.a.value))) (sym w.value-is) (both_failed (Q (view c.in-If.c.value)) (Q (view c.in-If.a.value)) c.names_clocks_inside-in-If.result w.if-names_clocks_inside-2.false first)
    ] in
    of_form Q c.if-names_clocks_inside-2.value c.args.e.now _ _ c.in-If.is (viewed-If c.in-If.c c.in-If.a c.in-If.b) (triple_failed (Q (view c.in-If.c.value)) (Q (view c.in-If.a.value)) (Q (view c.in-If.b.value)) c.if-names_clocks_inside-2.value c.if-names_clocks_inside-3.false two)

pub names_clocks_inside-returns-then-names_clocks_inside-4 : goal.names_clocks_inside-returns-then-names_clocks_inside-4
names_clocks_inside-returns-then-names_clocks_inside-4 t c =
    let Q : Tree → Type 0 = EachPart (NamesClocks (node_view c.args.scope.now)) in
    let first = of_lent Q c.names_clocks_inside-in-When.result c.deref-in-When.result.now c.in-When.a.value c.deref-in-When.ensures c.names_clocks_inside-in-When.ensures in
    of_form Q c.is_typed.result c.args.e.now _ _ c.in-When.is (viewed-When c.in-When.a c.in-When.c) (both_held (Q (view c.in-When.a.value)) (IsTypedClock (node_view c.args.scope.now) c.in-When.c) c.names_clocks_inside-in-When.result c.is_typed.result c.if-names_clocks_inside-4.true first c.is_typed.ensures)

pub names_clocks_inside-returns-else-names_clocks_inside-4 : goal.names_clocks_inside-returns-else-names_clocks_inside-4
names_clocks_inside-returns-else-names_clocks_inside-4 t c =
    let Q : Tree → Type 0 = EachPart (NamesClocks (node_view c.args.scope.now)) in
    let first = of_lent Q c.names_clocks_inside-in-When.result c.deref-in-When.result.now c.in-When.a.value c.deref-in-When.ensures c.names_clocks_inside-in-When.ensures in
    of_form Q c.names_clocks_inside-in-When.result c.args.e.now _ _ c.in-When.is (viewed-When c.in-When.a c.in-When.c) (both_failed (Q (view c.in-When.a.value)) (IsTypedClock (node_view c.args.scope.now) c.in-When.c) c.names_clocks_inside-in-When.result c.if-names_clocks_inside-4.false first)

pub names_clocks_inside-returns-in-Unary : goal.names_clocks_inside-returns-in-Unary
names_clocks_inside-returns-in-Unary t c =
    let Q : Tree → Type 0 = EachPart (NamesClocks (node_view c.args.scope.now)) in
    of_form Q c.names_clocks_inside.result c.args.e.now _ _ c.in-Unary.is (viewed-Unary c.in-Unary.field-0 c.in-Unary.a) (of_lent Q c.names_clocks_inside.result c.deref.result.now c.in-Unary.a.value c.deref.ensures c.names_clocks_inside.ensures)

pub names_clocks_inside-returns-in-Call : goal.names_clocks_inside-returns-in-Call
names_clocks_inside-returns-in-Call t c =
    let Q : Tree → Type 0 = EachPart (NamesClocks (node_view c.args.scope.now)) in
    of_form Q c.all_name_clocks-in-Call.result c.args.e.now _ _ c.in-Call.is (viewed-Call c.in-Call.field-0 c.in-Call.arguments) (of_list (EachPartOf (NamesClocks (node_view c.args.scope.now))) c.all_name_clocks-in-Call.result c.deref-in-Call.result.now c.in-Call.arguments.items c.deref-in-Call.ensures.value c.all_name_clocks-in-Call.ensures)

pub all_name_clocks-loop-a-preserved : goal.all_name_clocks-loop-a-preserved
all_name_clocks-loop-a-preserved t c =
    list_more (EachPart (NamesClocks (node_view c.args.scope.now))) (EachPartOf (NamesClocks (node_view c.args.scope.now))) (EachPartOf (NamesClocks (node_view c.args.scope.now)) (trees_of (views c.args.arguments.now))) (λ _ _. (λ h. h, λ h. h)) c.args.arguments.now c.loop-a.a-index c.a-item.result c.names_clocks_inside.result
    c.loop-a-test.true c.a-item.is c.if-names_clocks_inside.true c.names_clocks_inside.ensures c.loop-a.invariant

pub all_name_clocks-returns-in-loop-a : goal.all_name_clocks-returns-in-loop-a
all_name_clocks-returns-in-loop-a t c =
    list_failed (EachPart (NamesClocks (node_view c.args.scope.now))) (EachPartOf (NamesClocks (node_view c.args.scope.now))) (EachPartOf (NamesClocks (node_view c.args.scope.now)) (trees_of (views c.args.arguments.now))) (λ _ _. (λ h. h, λ h. h)) c.args.arguments.now c.loop-a.a-index c.a-item.result c.names_clocks_inside.result
    c.loop-a-test.true c.a-item.is c.if-names_clocks_inside.false c.names_clocks_inside.ensures c.loop-a.invariant

pub all_name_clocks-returns : goal.all_name_clocks-returns
all_name_clocks-returns t c =
    list_held (EachPartOf (NamesClocks (node_view c.args.scope.now))) (EachPartOf (NamesClocks (node_view c.args.scope.now)) (trees_of (views c.args.arguments.now))) tt c.args.arguments.now c.loop-a.a-index c.loop-a-test.false c.loop-a.invariant

pub names_clocks_inside-returns-in-Number : goal.names_clocks_inside-returns-in-Number
names_clocks_inside-returns-in-Number t c = of_five_forms (EachPart (NamesClocks (node_view c.args.scope.now))) c.args.e.now c.in-Number.is (λ _. tt) (λ _. tt) (λ _. tt) (λ _. tt) (λ _. tt)

pub names_clocks_inside-returns-in-Number-2 : goal.names_clocks_inside-returns-in-Number-2
names_clocks_inside-returns-in-Number-2 t c = of_five_forms (EachPart (NamesClocks (node_view c.args.scope.now))) c.args.e.now c.in-Number.is (λ _. tt) (λ _. tt) (λ _. tt) (λ _. tt) (λ _. tt)

pub names_clocks_inside-returns-in-Number-3 : goal.names_clocks_inside-returns-in-Number-3
names_clocks_inside-returns-in-Number-3 t c = of_five_forms (EachPart (NamesClocks (node_view c.args.scope.now))) c.args.e.now c.in-Number.is (λ _. tt) (λ _. tt) (λ _. tt) (λ _. tt) (λ _. tt)

pub names_clocks_inside-returns-in-Number-4 : goal.names_clocks_inside-returns-in-Number-4
names_clocks_inside-returns-in-Number-4 t c = of_five_forms (EachPart (NamesClocks (node_view c.args.scope.now))) c.args.e.now c.in-Number.is (λ _. tt) (λ _. tt) (λ _. tt) (λ _. tt) (λ _. tt)

pub names_clocks_inside-returns-in-Number-5 : goal.names_clocks_inside-returns-in-Number-5
names_clocks_inside-returns-in-Number-5 t c = of_five_forms (EachPart (NamesClocks (node_view c.args.scope.now))) c.args.e.now c.in-Number.is (λ _. tt) (λ _. tt) (λ _. tt) (λ _. tt) (λ _. tt)
