use Rattle.std.proofs.Common.{ℕ, List, ◌∙◌, ◌≡◌, ◌↔◌, IsTrue, length, nat_eq, refl, sym, subst, arith}
use Rattle.std.proofs.lemmas.Bool.Decides.{nat_tests}
use Rattle.lutree.specs.declared.expr.Expr.{Expr}
use Rattle.lutree.specs.declared.expr.Pattern.{Pattern}
use Rattle.lutree.specs.Tree as tree
use Rattle.lutree.specs.Tree.{Tree, view, trees_of, views, node_view, Trees}
use Rattle.lustat_rules.specs.Clocks.{HasClock, FitsClockInside, AllFitInside, BranchesFitInside}
use Rattle.lustat_rules.specs.ClockRefs.{placed_view}
use Rattle.lustat_clocks.proofs.Branched.{branches_end}
use Rattle.lutree.proofs.Views.{viewed-Binary, viewed-If, viewed-Unary, viewed-Call, viewed-Variable, viewed-Current, viewed-Merge}
use Rattle.lutree.proofs.Tests.{of_three_forms, of_form, of_lent, both_held, both_failed, triple_held, triple_failed, of_list, list_more, list_failed, list_held}
use Rattle.lustat_clocks.proofs.fit.+fits.Goals as goal
use Rattle.lustat_clocks.proofs.fit.+fits.Goals.{fits_inside-then-fits_inside-2, fits_inside-else-fits_inside-2}

pub branches_fit-returns : goal.branches_fit-returns
branches_fit-returns t c =
    let end : length c.args.branches.now ≡ c.loop-i.i = grind (arith, nat_tests, c.loop-i-test.false, c.loop-i.auto.i-end) in
    branches_end (node_view c.args.scope.now) c.args.name.now c.args.patterns.now c.args.branches.now c.loop-i.i (nat_eq (length c.args.branches.now) (length c.args.patterns.now)) (
    BranchesFitInside (node_view c.args.scope.now) c.args.name.now c.args.patterns.now (trees_of (views c.args.branches.now))
    ) end c.loop-i.invariant.within refl c.loop-i.invariant.so_far

pub fits_inside-returns-then-fits_inside : goal.fits_inside-returns-then-fits_inside
fits_inside-returns-then-fits_inside t c =
    let Q : Tree → Type 0 = λ x. FitsClockInside (node_view c.args.scope.now) x (placed_view c.args.k) in
    let first = of_lent Q c.fits_inside-in-Binary.result c.deref-in-Binary.result.now c.in-Binary.a.value c.deref-in-Binary.ensures c.fits_inside-in-Binary.ensures in
    let last = of_lent Q c.fits_inside-then-fits_inside.result c.deref-then-fits_inside.result.now c.in-Binary.b.value c.deref-then-fits_inside.ensures c.fits_inside-then-fits_inside.ensures in
    of_form Q c.fits_inside-then-fits_inside.result c.args.e.now _ _ c.in-Binary.is (viewed-Binary c.in-Binary.field-0 c.in-Binary.a c.in-Binary.b) (both_held (Q (view c.in-Binary.a.value)) (Q (view c.in-Binary.b.value)) c.fits_inside-in-Binary.result c.fits_inside-then-fits_inside.result c.if-fits_inside.true first last)

pub fits_inside-returns-else-fits_inside : goal.fits_inside-returns-else-fits_inside
fits_inside-returns-else-fits_inside t c =
    let Q : Tree → Type 0 = λ x. FitsClockInside (node_view c.args.scope.now) x (placed_view c.args.k) in
    let first = of_lent Q c.fits_inside-in-Binary.result c.deref-in-Binary.result.now c.in-Binary.a.value c.deref-in-Binary.ensures c.fits_inside-in-Binary.ensures in
    of_form Q c.fits_inside-in-Binary.result c.args.e.now _ _ c.in-Binary.is (viewed-Binary c.in-Binary.field-0 c.in-Binary.a c.in-Binary.b) (both_failed (Q (view c.in-Binary.a.value)) (Q (view c.in-Binary.b.value)) c.fits_inside-in-Binary.result c.if-fits_inside.false first)

pub fits_inside-returns-then-fits_inside-3 : goal.fits_inside-returns-then-fits_inside-3
fits_inside-returns-then-fits_inside-3 t c =
    let Q : Tree → Type 0 = λ x. FitsClockInside (node_view c.args.scope.now) x (placed_view c.args.k) in
    let first = of_lent Q c.fits_inside-in-If.result c.deref-in-If.result.now c.in-If.c.value c.deref-in-If.ensures c.fits_inside-in-If.ensures in
    let two : IsTrue c.if-fits_inside-2.value ↔ (Q (view c.in-If.c.value) × Q (view c.in-If.a.value)) = elim c.if-fits_inside-2.branch [
      | fits_inside-then-fits_inside-2 w ↦
          let next = of_lent Q w.fits_inside-then-fits_inside-2.result w.deref-then-fits_inside-2.result.now c.in-If.a.value w.deref-then-fits_inside-2.ensures w.fits_inside-then-fits_inside-2.ensures in
          subst (λ v. IsTrue v ↔ (Q (view c.in-If.c.value) × Q (view c.in-If.a.value))) (sym w.value-is) (both_held (Q (view c.in-If.c.value)) (Q (view c.in-If.a.value)) c.fits_inside-in-If.result w.fits_inside-then-fits_inside-2.result w.if-fits_inside-2.true first next)
      | fits_inside-else-fits_inside-2 w ↦ subst (λ v. IsTrue v ↔ (Q (view c.in-If.c.value) × Q (view c.in-If.a.value))) (sym w.value-is) (both_failed (Q (view c.in-If.c.value)) (Q (view c.in-If.a.value)) c.fits_inside-in-If.result w.if-fits_inside-2.false first)
    ] in
    let last = of_lent Q c.fits_inside-then-fits_inside-3.result c.deref-then-fits_inside-3.result.now c.in-If.b.value c.deref-then-fits_inside-3.ensures c.fits_inside-then-fits_inside-3.ensures in
    of_form Q c.fits_inside-then-fits_inside-3.result c.args.e.now _ _ c.in-If.is (viewed-If c.in-If.c c.in-If.a c.in-If.b) (triple_held (Q (view c.in-If.c.value)) (Q (view c.in-If.a.value)) (Q (view c.in-If.b.value)) c.if-fits_inside-2.value c.fits_inside-then-fits_inside-3.result c.if-fits_inside-3.true two last)

pub fits_inside-returns-else-fits_inside-3 : goal.fits_inside-returns-else-fits_inside-3
fits_inside-returns-else-fits_inside-3 t c =
    let Q : Tree → Type 0 = λ x. FitsClockInside (node_view c.args.scope.now) x (placed_view c.args.k) in
    let first = of_lent Q c.fits_inside-in-If.result c.deref-in-If.result.now c.in-If.c.value c.deref-in-If.ensures c.fits_inside-in-If.ensures in
    let two : IsTrue c.if-fits_inside-2.value ↔ (Q (view c.in-If.c.value) × Q (view c.in-If.a.value)) = elim c.if-fits_inside-2.branch [
      | fits_inside-then-fits_inside-2 w ↦
          let next = of_lent Q w.fits_inside-then-fits_inside-2.result w.deref-then-fits_inside-2.result.now c.in-If.a.value w.deref-then-fits_inside-2.ensures w.fits_inside-then-fits_inside-2.ensures in
          subst (λ v. IsTrue v ↔ (Q (view c.in-If.c.value) × Q (view c.in-If.a.value))) (sym w.value-is) (both_held (Q (view c.in-If.c.value)) (Q (view c.in-If.a.value)) c.fits_inside-in-If.result w.fits_inside-then-fits_inside-2.result w.if-fits_inside-2.true first next)
      | fits_inside-else-fits_inside-2 w ↦ subst (λ v. IsTrue v ↔ (Q (view c.in-If.c.value) × Q (view c.in-If.a.value))) (sym w.value-is) (both_failed (Q (view c.in-If.c.value)) (Q (view c.in-If.a.value)) c.fits_inside-in-If.result w.if-fits_inside-2.false first)
    ] in
    of_form Q c.if-fits_inside-2.value c.args.e.now _ _ c.in-If.is (viewed-If c.in-If.c c.in-If.a c.in-If.b) (triple_failed (Q (view c.in-If.c.value)) (Q (view c.in-If.a.value)) (Q (view c.in-If.b.value)) c.if-fits_inside-2.value c.if-fits_inside-3.false two)

pub fits_inside-returns-in-Unary : goal.fits_inside-returns-in-Unary
fits_inside-returns-in-Unary t c =
    let Q : Tree → Type 0 = λ x. FitsClockInside (node_view c.args.scope.now) x (placed_view c.args.k) in
    of_form Q c.fits_inside.result c.args.e.now _ _ c.in-Unary.is (viewed-Unary c.in-Unary.field-0 c.in-Unary.a) (of_lent Q c.fits_inside.result c.deref.result.now c.in-Unary.a.value c.deref.ensures c.fits_inside.ensures)

pub fits_inside-returns-in-Call : goal.fits_inside-returns-in-Call
fits_inside-returns-in-Call t c =
    let Q : Tree → Type 0 = λ x. FitsClockInside (node_view c.args.scope.now) x (placed_view c.args.k) in
    of_form Q c.all_fit.result c.args.e.now _ _ c.in-Call.is (viewed-Call c.in-Call.field-0 c.in-Call.arguments) (of_list (λ xs. AllFitInside (node_view c.args.scope.now) xs (placed_view c.args.k)) c.all_fit.result c.deref-in-Call.result.now c.in-Call.arguments.items c.deref-in-Call.ensures.value c.all_fit.ensures)

pub all_fit-loop-a-preserved : goal.all_fit-loop-a-preserved
all_fit-loop-a-preserved t c =
    list_more (λ x. FitsClockInside (node_view c.args.scope.now) x (placed_view c.args.k)) (λ xs. AllFitInside (node_view c.args.scope.now) xs (placed_view c.args.k)) (AllFitInside (node_view c.args.scope.now) (trees_of (views c.args.arguments.now)) (placed_view c.args.k)) (λ _ _. (λ h. h, λ h. h)) c.args.arguments.now c.loop-a.a-index c.a-item.result c.fits_inside.result
    c.loop-a-test.true c.a-item.is c.if-fits_inside.true c.fits_inside.ensures c.loop-a.invariant

pub all_fit-returns-in-loop-a : goal.all_fit-returns-in-loop-a
all_fit-returns-in-loop-a t c =
    list_failed (λ x. FitsClockInside (node_view c.args.scope.now) x (placed_view c.args.k)) (λ xs. AllFitInside (node_view c.args.scope.now) xs (placed_view c.args.k)) (AllFitInside (node_view c.args.scope.now) (trees_of (views c.args.arguments.now)) (placed_view c.args.k)) (λ _ _. (λ h. h, λ h. h)) c.args.arguments.now c.loop-a.a-index c.a-item.result c.fits_inside.result
    c.loop-a-test.true c.a-item.is c.if-fits_inside.false c.fits_inside.ensures c.loop-a.invariant

pub all_fit-returns : goal.all_fit-returns
all_fit-returns t c =
    list_held (λ xs. AllFitInside (node_view c.args.scope.now) xs (placed_view c.args.k)) (AllFitInside (node_view c.args.scope.now) (trees_of (views c.args.arguments.now)) (placed_view c.args.k)) tt c.args.arguments.now c.loop-a.a-index c.loop-a-test.false c.loop-a.invariant

pub fits_inside-returns-then-has_clock : goal.fits_inside-returns-then-has_clock
fits_inside-returns-then-has_clock t c =
    let n = node_view c.args.scope.now in
    let k = placed_view c.args.k in
    let Q : Tree → Type 0 = λ x. FitsClockInside n x k in
    let first = subst (λ x. IsTrue c.has_clock-in-Merge.result ↔ HasClock n x k) c.as_str-name.ensures c.has_clock-in-Merge.ensures in
    let A = HasClock n c.in-Merge.c k in
    let B = BranchesFitInside n c.in-Merge.c c.in-Merge.patterns.value (trees_of (views c.in-Merge.branches.items)) in
    let form = viewed-Merge c.in-Merge.c c.in-Merge.patterns c.in-Merge.branches in
    let r = c.branches_fit.result in
    let W : List ℕ → List Pattern → List Expr → Type 0 = λ x ps es. IsTrue r ↔ BranchesFitInside n x ps (trees_of (views es)) in
    let last = subst (W c.in-Merge.c c.in-Merge.patterns.value) c.deref-then-has_clock-2.ensures.value
    (subst (λ ps. W c.in-Merge.c ps c.deref-then-has_clock-2.result.now) (c.as_slice.ensures ∙ c.deref-then-has_clock.ensures)
    (subst (λ x. W x c.as_slice.result.now c.deref-then-has_clock-2.result.now) c.as_str-name.ensures c.branches_fit.ensures)) in
    of_form Q r c.args.e.now _ _ c.in-Merge.is form (both_held A B c.has_clock-in-Merge.result r c.if-has_clock.true first last)

pub fits_inside-returns-else-has_clock : goal.fits_inside-returns-else-has_clock
fits_inside-returns-else-has_clock t c =
    let n = node_view c.args.scope.now in
    let k = placed_view c.args.k in
    let Q : Tree → Type 0 = λ x. FitsClockInside n x k in
    let first = subst (λ x. IsTrue c.has_clock-in-Merge.result ↔ HasClock n x k) c.as_str-name.ensures c.has_clock-in-Merge.ensures in
    let A = HasClock n c.in-Merge.c k in
    let B = BranchesFitInside n c.in-Merge.c c.in-Merge.patterns.value (trees_of (views c.in-Merge.branches.items)) in
    let form = viewed-Merge c.in-Merge.c c.in-Merge.patterns c.in-Merge.branches in
    of_form Q c.has_clock-in-Merge.result c.args.e.now _ _ c.in-Merge.is form (both_failed A B c.has_clock-in-Merge.result c.if-has_clock.false first)

pub fits_inside-returns-in-Variable : goal.fits_inside-returns-in-Variable
fits_inside-returns-in-Variable t c =
    let n = node_view c.args.scope.now in
    let k = placed_view c.args.k in
    let Q : Tree → Type 0 = λ x. FitsClockInside n x k in
    of_form Q c.has_clock.result c.args.e.now _ _ c.in-Variable.is (viewed-Variable c.in-Variable.x) (subst (λ x. IsTrue c.has_clock.result ↔ HasClock n x k) c.as_str.ensures c.has_clock.ensures)

pub fits_inside-returns-in-Current : goal.fits_inside-returns-in-Current
fits_inside-returns-in-Current t c =
    let n = node_view c.args.scope.now in
    let k = placed_view c.args.k in
    let Q : Tree → Type 0 = λ x. FitsClockInside n x k in
    of_form Q c.current_fits.result c.args.e.now _ _ c.in-Current.is (viewed-Current c.in-Current.x) (subst (λ x. IsTrue c.current_fits.result ↔ Q (tree.current x)) c.as_str-in-Current.ensures c.current_fits.ensures)

pub fits_inside-returns-in-Number : goal.fits_inside-returns-in-Number
fits_inside-returns-in-Number t c = of_three_forms (λ x. FitsClockInside (node_view c.args.scope.now) x (placed_view c.args.k)) c.args.e.now c.in-Number.is (λ _. tt) (λ _. tt) (λ _. tt)

pub fits_inside-returns-in-Number-2 : goal.fits_inside-returns-in-Number-2
fits_inside-returns-in-Number-2 t c = of_three_forms (λ x. FitsClockInside (node_view c.args.scope.now) x (placed_view c.args.k)) c.args.e.now c.in-Number.is (λ _. tt) (λ _. tt) (λ _. tt)

pub fits_inside-returns-in-Number-3 : goal.fits_inside-returns-in-Number-3
fits_inside-returns-in-Number-3 t c = of_three_forms (λ x. FitsClockInside (node_view c.args.scope.now) x (placed_view c.args.k)) c.args.e.now c.in-Number.is (λ _. tt) (λ _. tt) (λ _. tt)
