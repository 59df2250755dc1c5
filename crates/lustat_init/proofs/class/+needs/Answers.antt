use Rattle.std.proofs.Common.{sym, subst, ◌↔◌, IsTrue}
use Rattle.lutree.specs.Tree.{Tree, view, node_view}
use Rattle.lustat_rules.specs.Classes.{NeedsMet, AllReady}
use Rattle.lustat_init.specs.Assigned.{assigned}
use Rattle.lutree.proofs.Views.{viewed-If, viewed-When, viewed-Merge, viewed-Call}
use Rattle.lutree.proofs.Tests.{of_four_forms, of_form, of_lent, both_held, both_failed, triple_held, triple_failed, of_list}
use Rattle.lustat_init.proofs.class.+needs.Goals as goal
use Rattle.lustat_init.proofs.class.+needs.Goals.{needs_met-then-needs_met-3, needs_met-else-needs_met-3}

pub needs_met-returns-then-needs_met-4 : goal.needs_met-returns-then-needs_met-4
needs_met-returns-then-needs_met-4 t c =
    let Q : Tree → Type 0 = NeedsMet (assigned (node_view c.args.scope.now) c.args.marks.now) in
    let first = of_lent Q c.needs_met-in-If.result c.deref-in-If.result.now c.in-If.c.value c.deref-in-If.ensures c.needs_met-in-If.ensures in
    let two : IsTrue c.if-needs_met-3.value ↔ (Q (view c.in-If.c.value) × Q (view c.in-If.a.value)) = elim c.if-needs_met-3.branch [
      | needs_met-then-needs_met-3 w ↦
          let next = of_lent Q w.needs_met-then-needs_met-3.result w.deref-then-needs_met-3.result.now c.in-If.a.value w.deref-then-needs_met-3.ensures w.needs_met-then-needs_met-3.ensures in
          subst (λ v. IsTrue v ↔ (Q (view c.in-If.c.value) × Q (view c.in-If.a.value))) (sym w.value-is) (both_held (Q (view c.in-If.c.value)) (Q (view c.in-If.a.value)) c.needs_met-in-If.result w.needs_met-then-needs_met-3.result w.if-needs_met-3.true first next)
      | needs_met-else-needs_met-3 w ↦ subst (λ v. IsTrue v ↔ (Q (view c.in-If.c.value) × Q (view c.in-If.a.value))) (sym w.value-is) (both_failed (Q (view c.in-If.c.value)) (Q (view c.in-If.a.value)) c.needs_met-in-If.result w.if-needs_met-3.false first)
    ] in
    let last = of_lent Q c.needs_met-then-needs_met-4.result c.deref-then-needs_met-4.result.now c.in-If.b.value c.deref-then-needs_met-4.ensures c.needs_met-then-needs_met-4.ensures in
    of_form Q c.needs_met-then-needs_met-4.result c.args.e.now _ _ c.in-If.is (viewed-If c.in-If.c c.in-If.a c.in-If.b) (triple_held (Q (view c.in-If.c.value)) (Q (view c.in-If.a.value)) (Q (view c.in-If.b.value)) c.if-needs_met-3.value c.needs_met-then-needs_met-4.result c.if-needs_met-4.true two last)

pub needs_met-returns-else-needs_met-4 : goal.needs_met-returns-else-needs_met-4
needs_met-returns-else-needs_met-4 t c =
    let Q : Tree → Type 0 = NeedsMet (assigned (node_view c.args.scope.now) c.args.marks.now) in
    let first = of_lent Q c.needs_met-in-If.result c.deref-in-If.result.now c.in-If.c.value c.deref-in-If.ensures c.needs_met-in-If.ensures in
    let two : IsTrue c.if-needs_met-3.value ↔ (Q (view c.in-If.c.value) × Q (view c.in-If.a.value)) = elim c.if-needs_met-3.branch [
      | needs_met-then-needs_met-3 w ↦
          let next = of_lent Q w.needs_met-then-needs_met-3.result w.deref-then-needs_met-3.result.now c.in-If.a.value w.deref-then-needs_met-3.ensures w.needs_met-then-needs_met-3.ensures in
          subst (λ v. IsTrue v ↔ (Q (view c.in-If.c.value) × Q (view c.in-If.a.value))) (sym w.value-is) (both_held (Q (view c.in-If.c.value)) (Q (view c.in-If.a.value)) c.needs_met-in-If.result w.needs_met-then-needs_met-3.result w.if-needs_met-3.true first next)
      | needs_met-else-needs_met-3 w ↦ subst (λ v. IsTrue v ↔ (Q (view c.in-If.c.value) × Q (view c.in-If.a.value))) (sym w.value-is) (both_failed (Q (view c.in-If.c.value)) (Q (view c.in-If.a.value)) c.needs_met-in-If.result w.if-needs_met-3.false first)
    ] in
    of_form Q c.if-needs_met-3.value c.args.e.now _ _ c.in-If.is (viewed-If c.in-If.c c.in-If.a c.in-If.b) (triple_failed (Q (view c.in-If.c.value)) (Q (view c.in-If.a.value)) (Q (view c.in-If.b.value)) c.if-needs_met-3.value c.if-needs_met-4.false two)

pub needs_met-returns-in-When : goal.needs_met-returns-in-When
needs_met-returns-in-When t c =
    let Q : Tree → Type 0 = NeedsMet (assigned (node_view c.args.scope.now) c.args.marks.now) in
    of_form Q c.needs_met-in-When.result c.args.e.now _ _ c.in-When.is (viewed-When c.in-When.a c.in-When.field-1) (of_lent Q c.needs_met-in-When.result c.deref-in-When.result.now c.in-When.a.value c.deref-in-When.ensures c.needs_met-in-When.ensures)

pub needs_met-returns-in-Merge : goal.needs_met-returns-in-Merge
needs_met-returns-in-Merge t c =
    let Q : Tree → Type 0 = NeedsMet (assigned (node_view c.args.scope.now) c.args.marks.now) in
    of_form Q c.all_ready.result c.args.e.now _ _ c.in-Merge.is (viewed-Merge c.in-Merge.field-0 c.in-Merge.field-1 c.in-Merge.branches) (of_list (AllReady (assigned (node_view c.args.scope.now) c.args.marks.now)) c.all_ready.result c.deref-in-Merge.result.now c.in-Merge.branches.items c.deref-in-Merge.ensures.value c.all_ready.ensures)

pub needs_met-returns-in-Call : goal.needs_met-returns-in-Call
needs_met-returns-in-Call t c =
    let Q : Tree → Type 0 = NeedsMet (assigned (node_view c.args.scope.now) c.args.marks.now) in
    of_form Q c.all_ready-in-Call.result c.args.e.now _ _ c.in-Call.is (viewed-Call c.in-Call.field-0 c.in-Call.arguments) (of_list (AllReady (assigned (node_view c.args.scope.now) c.args.marks.now)) c.all_ready-in-Call.result c.deref-in-Call.result.now c.in-Call.arguments.items c.deref-in-Call.ensures.value c.all_ready-in-Call.ensures)

pub needs_met-returns-in-Number : goal.needs_met-returns-in-Number
needs_met-returns-in-Number t c = of_four_forms (NeedsMet (assigned (node_view c.args.scope.now) c.args.marks.now)) c.args.e.now c.in-Number.is (λ _. tt) (λ _. tt) (λ _. tt) (λ _. tt)

pub needs_met-returns-in-Number-2 : goal.needs_met-returns-in-Number-2
needs_met-returns-in-Number-2 t c = of_four_forms (NeedsMet (assigned (node_view c.args.scope.now) c.args.marks.now)) c.args.e.now c.in-Number.is (λ _. tt) (λ _. tt) (λ _. tt) (λ _. tt)

pub needs_met-returns-in-Number-3 : goal.needs_met-returns-in-Number-3
needs_met-returns-in-Number-3 t c = of_four_forms (NeedsMet (assigned (node_view c.args.scope.now) c.args.marks.now)) c.args.e.now c.in-Number.is (λ _. tt) (λ _. tt) (λ _. tt) (λ _. tt)

pub needs_met-returns-in-Number-4 : goal.needs_met-returns-in-Number-4
needs_met-returns-in-Number-4 t c = of_four_forms (NeedsMet (assigned (node_view c.args.scope.now) c.args.marks.now)) c.args.e.now c.in-Number.is (λ _. tt) (λ _. tt) (λ _. tt) (λ _. tt)
