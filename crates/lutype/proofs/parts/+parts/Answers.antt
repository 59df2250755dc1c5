use Rattle.std.proofs.Common.{◌∙◌, ℕ, List, length, sym, subst, ◌↔◌, IsTrue}
use Rattle.lutree.specs.declared.expr.Expr.{Expr}
use Rattle.lutree.specs.declared.expr.Pattern.{Pattern}
use Rattle.lutree.specs.Tree.{Tree, view, node_view, program_view, views, trees_of, list_of}
use Rattle.lustat_rules.specs.Parts.{Part, EachPart, EachPartOf}
use Rattle.lustat_rules.specs.Parts as part
use Rattle.lutype.specs.PartRules.{PartKeeps}
use Rattle.lutype.proofs.Forms.{merge_step, merge_fails}
use Rattle.lutree.proofs.Views.{viewed-Binary, viewed-If, viewed-When, viewed-Label, viewed-Unary, viewed-Call, viewed-Merge}
use Rattle.lutree.proofs.Tests.{of_unlabelled_forms, of_form, of_lent, both_held, both_failed, triple_held, triple_failed, of_list, list_more, list_failed, list_held}
use Rattle.lutype.proofs.parts.+parts.Goals as goal
use Rattle.lutype.proofs.parts.+parts.Goals.{parts_keep-then-parts_keep-2, parts_keep-else-parts_keep-2}

pub whole_merge_keeps-returns-then-merge_keeps : goal.whole_merge_keeps-returns-then-merge_keeps
whole_merge_keeps-returns-then-merge_keeps t c =
    merge_step (PartKeeps (program_view c.args.catalog.now) (node_view c.args.scope.now) c.args.rule) c.args.name.now c.args.all.now c.args.branches.now c.merge_keeps.result c.all_parts_keep.result
    c.if-merge_keeps.true c.merge_keeps.ensures c.all_parts_keep.ensures

pub whole_merge_keeps-returns-else-merge_keeps : goal.whole_merge_keeps-returns-else-merge_keeps
whole_merge_keeps-returns-else-merge_keeps t c =
    merge_fails (PartKeeps (program_view c.args.catalog.now) (node_view c.args.scope.now) c.args.rule) c.args.name.now c.args.all.now c.args.branches.now c.merge_keeps.result
    c.if-merge_keeps.false c.merge_keeps.ensures

pub parts_keep-returns-then-parts_keep : goal.parts_keep-returns-then-parts_keep
parts_keep-returns-then-parts_keep t c =
    let Q : Tree → Type 0 = EachPart (PartKeeps (program_view c.args.catalog.now) (node_view c.args.scope.now) c.args.rule) in
    let first = of_lent Q c.parts_keep-in-Binary.result c.deref-in-Binary.result.now c.in-Binary.a.value c.deref-in-Binary.ensures c.parts_keep-in-Binary.ensures in
    let last = of_lent Q c.parts_keep-then-parts_keep.result c.deref-then-parts_keep.result.now c.in-Binary.b.value c.deref-then-parts_keep.ensures c.parts_keep-then-parts_keep.ensures in
    of_form Q c.parts_keep-then-parts_keep.result c.args.e.now _ _ c.in-Binary.is (viewed-Binary c.in-Binary.field-0 c.in-Binary.a c.in-Binary.b) (both_held (Q (view c.in-Binary.a.value)) (Q (view c.in-Binary.b.value)) c.parts_keep-in-Binary.result c.parts_keep-then-parts_keep.result c.if-parts_keep.true first last)

pub parts_keep-returns-else-parts_keep : goal.parts_keep-returns-else-parts_keep
parts_keep-returns-else-parts_keep t c =
    let Q : Tree → Type 0 = EachPart (PartKeeps (program_view c.args.catalog.now) (node_view c.args.scope.now) c.args.rule) in
    let first = of_lent Q c.parts_keep-in-Binary.result c.deref-in-Binary.result.now c.in-Binary.a.value c.deref-in-Binary.ensures c.parts_keep-in-Binary.ensures in
    of_form Q c.parts_keep-in-Binary.result c.args.e.now _ _ c.in-Binary.is (viewed-Binary c.in-Binary.field-0 c.in-Binary.a c.in-Binary.b) (both_failed (Q (view c.in-Binary.a.value)) (Q (view c.in-Binary.b.value)) c.parts_keep-in-Binary.result c.if-parts_keep.false first)

pub parts_keep-returns-then-parts_keep-3 : goal.parts_keep-returns-then-parts_keep-3
parts_keep-returns-then-parts_keep-3 t c =
    let Q : Tree → Type 0 = EachPart (PartKeeps (program_view c.args.catalog.now) (node_view c.args.scope.now) c.args.rule) in
    let first = of_lent Q c.parts_keep-in-If.result c.deref-in-If.result.now c.in-If.c.value c.deref-in-If.ensures c.parts_keep-in-If.ensures in
    let two : IsTrue c.if-parts_keep-2.value ↔ (Q (view c.in-If.c.value) × Q (view c.in-If.a.value)) = elim c.if-parts_keep-2.branch [
      | parts_keep-then-parts_keep-2 w ↦
          let next = of_lent Q w.parts_keep-then-parts_keep-2.result w.deref-then-parts_keep-2.result.now c.in-If.a.value w.deref-then-parts_keep-2.ensures w.parts_keep-then-parts_keep-2.ensures in
          subst (λ v. IsTrue v ↔ (Q (view c.in-If.c.value) × Q (view c.in-If.a.value))) (sym w.value-is) (both_held (Q (view c.in-If.c.value)) (Q (view c.in-If.a.value)) c.parts_keep-in-If.result w.parts_keep-then-parts_keep-2.result w.if-parts_keep-2.true first next)
      | parts_keep-else-parts_keep-2 w ↦ subst (λ v. IsTrue v ↔ (Q (view c.in-If.c.value) × Q (view c.in-If.a.value))) (sym w.value-is) (both_failed (Q (view c.in-If.c.value)) (Q (view c.in-If.a.value)) c.parts_keep-in-If.result w.if-parts_keep-2.false first)
    ] in
    let last = of_lent Q c.parts_keep-then-parts_keep-3.result c.deref-then-parts_keep-3.result.now c.in-If.b.value c.deref-then-parts_keep-3.ensures c.parts_keep-then-parts_keep-3.ensures in
    of_form Q c.parts_keep-then-parts_keep-3.result c.args.e.now _ _ c.in-If.is (viewed-If c.in-If.c c.in-If.a c.in-If.b) (triple_held (Q (view c.in-If.c.value)) (Q (view c.in-If.a.value)) (Q (view c.in-If.b.value)) c.if-parts_keep-2.value c.parts_keep-then-parts_keep-3.result c.if-parts_keep-3.true two last)

pub parts_keep-returns-else-parts_keep-3 : goal.parts_keep-returns-else-parts_keep-3
parts_keep-returns-else-parts_keep-3 t c =
    let Q : Tree → Type 0 = EachPart (PartKeeps (program_view c.args.catalog.now) (node_view c.args.scope.now) c.args.rule) in
    let first = of_lent Q c.parts_keep-in-If.result c.deref-in-If.result.now c.in-If.c.value c.deref-in-If.ensures c.parts_keep-in-If.ensures in
    let two : IsTrue c.if-parts_keep-2.value ↔ (Q (view c.in-If.c.value) × Q (view c.in-If.a.value)) = elim c.if-parts_keep-2.branch [
      | parts_keep-then-parts_keep-2 w ↦
          let next = of_lent Q w.parts_keep-then-parts_keep-2.result w.deref-then-parts_keep-2.result.now c.in-If.a.value w.deref-then-parts_keep-2.ensures w.parts_keep-then-parts_keep-2.ensures in
          subst (λ v. IsTrue v ↔ (Q (view c.in-If.c.value) × Q (view c.in-If.a.value))) (sym w.value-is) (both_held (Q (view c.in-If.c.value)) (Q (view c.in-If.a.value)) c.parts_keep-in-If.result w.parts_keep-then-parts_keep-2.result w.if-parts_keep-2.true first next)
      | parts_keep-else-parts_keep-2 w ↦ subst (λ v. IsTrue v ↔ (Q (view c.in-If.c.value) × Q (view c.in-If.a.value))) (sym w.value-is) (both_failed (Q (view c.in-If.c.value)) (Q (view c.in-If.a.value)) c.parts_keep-in-If.result w.if-parts_keep-2.false first)
    ] in
    of_form Q c.if-parts_keep-2.value c.args.e.now _ _ c.in-If.is (viewed-If c.in-If.c c.in-If.a c.in-If.b) (triple_failed (Q (view c.in-If.c.value)) (Q (view c.in-If.a.value)) (Q (view c.in-If.b.value)) c.if-parts_keep-2.value c.if-parts_keep-3.false two)

pub parts_keep-returns-then-parts_keep-4 : goal.parts_keep-returns-then-parts_keep-4
parts_keep-returns-then-parts_keep-4 t c =
    let Q : Tree → Type 0 = EachPart (PartKeeps (program_view c.args.catalog.now) (node_view c.args.scope.now) c.args.rule) in
    let first = of_lent Q c.parts_keep-in-When.result c.deref-in-When.result.now c.in-When.a.value c.deref-in-When.ensures c.parts_keep-in-When.ensures in
    of_form Q c.clock_keeps.result c.args.e.now _ _ c.in-When.is (viewed-When c.in-When.a c.in-When.c) (both_held (Q (view c.in-When.a.value)) (PartKeeps (program_view c.args.catalog.now) (node_view c.args.scope.now) c.args.rule (part.clock c.in-When.c)) c.parts_keep-in-When.result c.clock_keeps.result c.if-parts_keep-4.true first c.clock_keeps.ensures)

pub parts_keep-returns-else-parts_keep-4 : goal.parts_keep-returns-else-parts_keep-4
parts_keep-returns-else-parts_keep-4 t c =
    let Q : Tree → Type 0 = EachPart (PartKeeps (program_view c.args.catalog.now) (node_view c.args.scope.now) c.args.rule) in
    let first = of_lent Q c.parts_keep-in-When.result c.deref-in-When.result.now c.in-When.a.value c.deref-in-When.ensures c.parts_keep-in-When.ensures in
    of_form Q c.parts_keep-in-When.result c.args.e.now _ _ c.in-When.is (viewed-When c.in-When.a c.in-When.c) (both_failed (Q (view c.in-When.a.value)) (PartKeeps (program_view c.args.catalog.now) (node_view c.args.scope.now) c.args.rule (part.clock c.in-When.c)) c.parts_keep-in-When.result c.if-parts_keep-4.false first)

pub parts_keep-returns-in-Number : goal.parts_keep-returns-in-Number
parts_keep-returns-in-Number t c = of_unlabelled_forms (EachPart (PartKeeps (program_view c.args.catalog.now) (node_view c.args.scope.now) c.args.rule)) c.args.e.now c.in-Number.is (λ _. tt) (λ _. tt) (λ _. tt) (λ _. tt)

pub parts_keep-returns-in-Number-2 : goal.parts_keep-returns-in-Number-2
parts_keep-returns-in-Number-2 t c = of_unlabelled_forms (EachPart (PartKeeps (program_view c.args.catalog.now) (node_view c.args.scope.now) c.args.rule)) c.args.e.now c.in-Number.is (λ _. tt) (λ _. tt) (λ _. tt) (λ _. tt)

pub parts_keep-returns-in-Number-3 : goal.parts_keep-returns-in-Number-3
parts_keep-returns-in-Number-3 t c = of_unlabelled_forms (EachPart (PartKeeps (program_view c.args.catalog.now) (node_view c.args.scope.now) c.args.rule)) c.args.e.now c.in-Number.is (λ _. tt) (λ _. tt) (λ _. tt) (λ _. tt)

pub parts_keep-returns-in-Number-4 : goal.parts_keep-returns-in-Number-4
parts_keep-returns-in-Number-4 t c = of_unlabelled_forms (EachPart (PartKeeps (program_view c.args.catalog.now) (node_view c.args.scope.now) c.args.rule)) c.args.e.now c.in-Number.is (λ _. tt) (λ _. tt) (λ _. tt) (λ _. tt)

pub parts_keep-returns-in-Unary : goal.parts_keep-returns-in-Unary
parts_keep-returns-in-Unary t c =
    let Q : Tree → Type 0 = EachPart (PartKeeps (program_view c.args.catalog.now) (node_view c.args.scope.now) c.args.rule) in
    of_form Q c.parts_keep.result c.args.e.now _ _ c.in-Unary.is (viewed-Unary c.in-Unary.field-0 c.in-Unary.a) (of_lent Q c.parts_keep.result c.deref.result.now c.in-Unary.a.value c.deref.ensures c.parts_keep.ensures)

pub parts_keep-returns-in-Call : goal.parts_keep-returns-in-Call
parts_keep-returns-in-Call t c =
    let Q : Tree → Type 0 = EachPart (PartKeeps (program_view c.args.catalog.now) (node_view c.args.scope.now) c.args.rule) in
    of_form Q c.all_parts_keep.result c.args.e.now _ _ c.in-Call.is (viewed-Call c.in-Call.field-0 c.in-Call.arguments) (of_list (EachPartOf (PartKeeps (program_view c.args.catalog.now) (node_view c.args.scope.now) c.args.rule)) c.all_parts_keep.result c.deref-in-Call.result.now c.in-Call.arguments.items c.deref-in-Call.ensures.value c.all_parts_keep.ensures)

pub all_parts_keep-loop-a-preserved : goal.all_parts_keep-loop-a-preserved
all_parts_keep-loop-a-preserved t c =
    list_more (EachPart (PartKeeps (program_view c.args.catalog.now) (node_view c.args.scope.now) c.args.rule)) (EachPartOf (PartKeeps (program_view c.args.catalog.now) (node_view c.args.scope.now) c.args.rule)) (EachPartOf (PartKeeps (program_view c.args.catalog.now) (node_view c.args.scope.now) c.args.rule) (trees_of (views c.args.arguments.now))) (λ _ _. (λ h. h, λ h. h)) c.args.arguments.now c.loop-a.a-index c.a-item.result c.parts_keep.result
    c.loop-a-test.true c.a-item.is c.if-parts_keep.true c.parts_keep.ensures c.loop-a.invariant

pub all_parts_keep-returns-in-loop-a : goal.all_parts_keep-returns-in-loop-a
all_parts_keep-returns-in-loop-a t c =
    list_failed (EachPart (PartKeeps (program_view c.args.catalog.now) (node_view c.args.scope.now) c.args.rule)) (EachPartOf (PartKeeps (program_view c.args.catalog.now) (node_view c.args.scope.now) c.args.rule)) (EachPartOf (PartKeeps (program_view c.args.catalog.now) (node_view c.args.scope.now) c.args.rule) (trees_of (views c.args.arguments.now))) (λ _ _. (λ h. h, λ h. h)) c.args.arguments.now c.loop-a.a-index c.a-item.result c.parts_keep.result
    c.loop-a-test.true c.a-item.is c.if-parts_keep.false c.parts_keep.ensures c.loop-a.invariant

pub all_parts_keep-returns : goal.all_parts_keep-returns
all_parts_keep-returns t c =
    list_held (EachPartOf (PartKeeps (program_view c.args.catalog.now) (node_view c.args.scope.now) c.args.rule)) (EachPartOf (PartKeeps (program_view c.args.catalog.now) (node_view c.args.scope.now) c.args.rule) (trees_of (views c.args.arguments.now))) tt c.args.arguments.now c.loop-a.a-index c.loop-a-test.false c.loop-a.invariant

pub parts_keep-returns-in-Label : goal.parts_keep-returns-in-Label
parts_keep-returns-in-Label t c =
    let Q : Tree → Type 0 = EachPart (PartKeeps (program_view c.args.catalog.now) (node_view c.args.scope.now) c.args.rule) in
    of_form Q c.label_keeps.result c.args.e.now _ _ c.in-Label.is (viewed-Label c.in-Label.l) c.label_keeps.ensures

pub parts_keep-returns-in-Merge : goal.parts_keep-returns-in-Merge
parts_keep-returns-in-Merge t c =
    let P : Part → Type 0 = PartKeeps (program_view c.args.catalog.now) (node_view c.args.scope.now) c.args.rule in
    let r = c.whole_merge_keeps.result in
    let W : List ℕ → List Pattern → List Expr → Type 0 = λ x ps es. IsTrue r ↔ (P (part.merge x ps (length (list_of (trees_of (views es))))) × EachPartOf P (trees_of (views es))) in
    of_form (EachPart P) r c.args.e.now _ _ c.in-Merge.is (viewed-Merge c.in-Merge.c c.in-Merge.all c.in-Merge.branches)
    (subst (W c.in-Merge.c c.in-Merge.all.value) c.deref-in-Merge-2.ensures.value
    (subst (λ ps. W c.in-Merge.c ps c.deref-in-Merge-2.result.now) (c.as_slice.ensures ∙ c.deref-in-Merge.ensures)
    (subst (λ x. W x c.as_slice.result.now c.deref-in-Merge-2.result.now) c.as_str.ensures c.whole_merge_keeps.ensures)))
