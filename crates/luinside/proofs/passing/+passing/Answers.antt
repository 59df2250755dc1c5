use Rattle.std.specs.Prelude.{◌<◌, ◌+◌, ◌∷◌, ◌++◌, [], length}
use Rattle.std.proofs.Common.{arith, ap, subst, sym, refl, ◌∙◌, take}
use Rattle.lutree.specs.declared.expr.Expr.{Expr}
use Rattle.lutree.specs.Tree.{view, views, program_view}
use Rattle.lutree.proofs.Views.{viewed-Unary, viewed-When, viewed-Binary, viewed-If, viewed-Merge, viewed-Call}
use Rattle.luinside.specs.declared.passing.Reached.TheVariants.{Behind}
use Rattle.luinside.specs.Parts.{operands}
use Rattle.luinside.specs.FlowsPassed.{Passes}
use Rattle.luinside.proofs.Passed.{entered, passed_as, passed_one, one_more, trees_back, views_more, views_before}
use Rattle.luinside.proofs.passing.+passing.Goals as goal

pub enter-returns : goal.enter-returns
enter-returns t c =
    entered (program_view c.args.search.now.catalog.now) c.args.search.now.counts.now c.args.search.now.target c.args.number (view c.args.e.now) c.args.count c.args.here c.args.part.now.items c.push.new.self.items c.inside.new.part.items c.leave.new.part.items c.in_ok-reached.reached
    c.in_ok-push.ensures.items (c.in_ok-reached.ensures c.args.here c.push.new.self.items c.inside.new.part.items c.in_ok-inside.ensures) c.leave.ensures

pub inside-returns-in_ok-first-in-Unary : goal.inside-returns-in_ok-first-in-Unary
inside-returns-in_ok-first-in-Unary t c =
    let p = program_view c.args.search.now.catalog.now in
    let s = c.args.search.now.counts.now in
    let target = c.args.search.now.target in
    let old = c.args.part.now.items in
    let new = c.pass.new.part.items in
    let r = c.in_ok-first-in-Unary.first in
    let a = c.in-Unary.a in
    let same = ap operands (ap view c.in-Unary.is ∙ viewed-Unary c.in-Unary.field-0 a) in
    let one = subst (λ (x : Expr). Passes p s target 0 (view x) (Behind c.args.here) old new r) c.deref.ensures c.in_ok-first-in-Unary.ensures in
    passed_as p s target (operands (view c.args.e.now)) (view a.value ∷ []) c.args.here old new r same (passed_one p s target (view a.value) c.args.here old new r c.requires one)

pub inside-returns-in_ok-first-in-When : goal.inside-returns-in_ok-first-in-When
inside-returns-in_ok-first-in-When t c =
    let p = program_view c.args.search.now.catalog.now in
    let s = c.args.search.now.counts.now in
    let target = c.args.search.now.target in
    let old = c.args.part.now.items in
    let new = c.pass-in-When.new.part.items in
    let r = c.in_ok-first-in-When.first in
    let a = c.in-When.a in
    let same = ap operands (ap view c.in-When.is ∙ viewed-When a c.in-When.field-1) in
    let one = subst (λ (x : Expr). Passes p s target 0 (view x) (Behind c.args.here) old new r) c.deref-in-When.ensures c.in_ok-first-in-When.ensures in
    passed_as p s target (operands (view c.args.e.now)) (view a.value ∷ []) c.args.here old new r same (passed_one p s target (view a.value) c.args.here old new r c.requires one)

pub inside-returns-in_ok-second-in-Binary : goal.inside-returns-in_ok-second-in-Binary
inside-returns-in_ok-second-in-Binary t c =
    let p = program_view c.args.search.now.catalog.now in
    let s = c.args.search.now.counts.now in
    let target = c.args.search.now.target in
    let old = c.args.part.now.items in
    let mid = c.pass-in-Binary.new.part.items in
    let new = c.pass-in-Binary-2.new.part.items in
    let q = c.in_ok-first-in-Binary.first in
    let r = c.in_ok-second-in-Binary.second in
    let a = c.in-Binary.a in
    let b = c.in-Binary.b in
    let same = ap operands (ap view c.in-Binary.is ∙ viewed-Binary c.in-Binary.field-0 a b) in
    let one = subst (λ (x : Expr). Passes p s target 0 (view x) (Behind c.args.here) old mid q) c.deref-in-Binary.ensures c.in_ok-first-in-Binary.ensures in
    let two = subst (λ (x : Expr). Passes p s target 1 (view x) q mid new r) c.deref-in-Binary-2.ensures c.in_ok-second-in-Binary.ensures in
    let first = passed_one p s target (view a.value) c.args.here old mid q c.requires one in
    passed_as p s target (operands (view c.args.e.now)) (view a.value ∷ view b.value ∷ []) c.args.here old new r same (one_more p s target (view a.value ∷ []) (view b.value) 1 c.args.here old mid new q r refl first two)

pub inside-returns-in_ok-third-in-If : goal.inside-returns-in_ok-third-in-If
inside-returns-in_ok-third-in-If t c =
    let p = program_view c.args.search.now.catalog.now in
    let s = c.args.search.now.counts.now in
    let target = c.args.search.now.target in
    let old = c.args.part.now.items in
    let mid = c.pass-in-If.new.part.items in
    let mid' = c.pass-in-If-2.new.part.items in
    let new = c.pass-in-If-3.new.part.items in
    let q = c.in_ok-first-in-If.first in
    let q' = c.in_ok-second-in-If.second in
    let r = c.in_ok-third-in-If.third in
    let k = c.in-If.c in
    let a = c.in-If.a in
    let b = c.in-If.b in
    let same = ap operands (ap view c.in-If.is ∙ viewed-If k a b) in
    let one = subst (λ (x : Expr). Passes p s target 0 (view x) (Behind c.args.here) old mid q) c.deref-in-If.ensures c.in_ok-first-in-If.ensures in
    let two = subst (λ (x : Expr). Passes p s target 1 (view x) q mid mid' q') c.deref-in-If-2.ensures c.in_ok-second-in-If.ensures in
    let three = subst (λ (x : Expr). Passes p s target 2 (view x) q' mid' new r) c.deref-in-If-3.ensures c.in_ok-third-in-If.ensures in
    let first = passed_one p s target (view k.value) c.args.here old mid q c.requires one in
    let second = one_more p s target (view k.value ∷ []) (view a.value) 1 c.args.here old mid mid' q q' refl first two in
    passed_as p s target (operands (view c.args.e.now)) (view k.value ∷ view a.value ∷ view b.value ∷ []) c.args.here old new r same
    (one_more p s target (view k.value ∷ view a.value ∷ []) (view b.value) 2 c.args.here old mid' new q' r refl second three)

pub inside-returns-in_ok-all-in-Merge : goal.inside-returns-in_ok-all-in-Merge
inside-returns-in_ok-all-in-Merge t c =
    let p = program_view c.args.search.now.catalog.now in
    let s = c.args.search.now.counts.now in
    let target = c.args.search.now.target in
    let es = c.in-Merge.branches.items in
    let same = ap operands (ap view c.in-Merge.is ∙ viewed-Merge c.in-Merge.field-0 c.in-Merge.field-1 c.in-Merge.branches) ∙ trees_back (views es) ∙ ap views (sym c.deref-in-Merge.ensures.value) in
    passed_as p s target (operands (view c.args.e.now)) (views c.deref-in-Merge.result.now) c.args.here c.args.part.now.items c.pass_all.new.part.items c.in_ok-all-in-Merge.all same c.in_ok-all-in-Merge.ensures

pub inside-returns-in_ok-all-in-Call : goal.inside-returns-in_ok-all-in-Call
inside-returns-in_ok-all-in-Call t c =
    let p = program_view c.args.search.now.catalog.now in
    let s = c.args.search.now.counts.now in
    let target = c.args.search.now.target in
    let es = c.in-Call.arguments.items in
    let same = ap operands (ap view c.in-Call.is ∙ viewed-Call c.in-Call.field-0 c.in-Call.arguments) ∙ trees_back (views es) ∙ ap views (sym c.deref-in-Call.ensures.value) in
    passed_as p s target (operands (view c.args.e.now)) (views c.deref-in-Call.result.now) c.args.here c.args.part.now.items c.pass_all-in-Call.new.part.items c.in_ok-all-in-Call.all same c.in_ok-all-in-Call.ensures

pub pass_all-loop-number-preserved : goal.pass_all-loop-number-preserved
pass_all-loop-number-preserved t c =
    let p = program_view c.args.search.now.catalog.now in
    let s = c.args.search.now.counts.now in
    let target = c.args.search.now.target in
    let es = c.args.all.now in
    let i = c.loop-number.number in
    let e = c.index-all-number.result in
    let lt : i < length es = omega (arith, c.loop-number-test.true) in
    let more = one_more p s target (views (take i es)) (view e) i c.args.here c.args.part.now.items c.loop-number.part.items c.pass.new.part.items c.loop-number.reached c.in_ok-reached.reached
    (views_before es i lt) c.loop-number.invariant c.in_ok-reached.ensures in
    passed_as p s target (views (take (i + 1) es)) (views (take i es) ++ view e ∷ []) c.args.here c.args.part.now.items c.pass.new.part.items c.in_ok-reached.reached (views_more es i e lt c.index-all-number.is) more
