use Rattle.std.specs.Prelude.{◌<◌, ◌∷◌, ◌++◌, [], length}
use Rattle.std.proofs.Common.{List, arith, subst, ap, ◌∙◌}
use Rattle.lutree.specs.Tree.{list_of, view, views, trees_of}
use Rattle.lutree.specs.Tree as tree
use Rattle.lutree.proofs.Views.{viewed-Binary, viewed-If, viewed-Call}
use Rattle.lustat_rules.specs.Naming.{calls_in, calls_in_all}
use Rattle.luinside.specs.Calls.{Passes}
use Rattle.luinside.proofs.CallsPassed.{lent, passes_both, passes_as, passes_more}
use Rattle.luinside.proofs.texts.+texts.Goals as goal

pub pass-returns-in-Binary : goal.pass-returns-in-Binary
pass-returns-in-Binary t c =
    let a = c.in-Binary.a in
    let b = c.in-Binary.b in
    let first = lent c.deref-in-Binary.result.now a.value c.args.reached c.pass.result c.deref-in-Binary.ensures c.pass.ensures in
    let second = lent c.deref.result.now b.value c.pass.result c.pass-in-Binary.result c.deref.ensures c.pass-in-Binary.ensures in
    passes_as (view c.args.e.now) (tree.binary c.in-Binary.field-0 (view a.value) (view b.value)) c.args.reached c.pass-in-Binary.result (ap view c.in-Binary.is ∙ viewed-Binary c.in-Binary.field-0 a b)
    (passes_both (calls_in (view a.value)) (calls_in (view b.value)) c.args.reached c.pass.result c.pass-in-Binary.result first second)

pub pass-returns-in-If : goal.pass-returns-in-If
pass-returns-in-If t c =
    let k = c.in-If.c in
    let a = c.in-If.a in
    let b = c.in-If.b in
    let first = lent c.deref-in-If-3.result.now k.value c.args.reached c.pass-in-If.result c.deref-in-If-3.ensures c.pass-in-If.ensures in
    let second = lent c.deref-in-If-2.result.now a.value c.pass-in-If.result c.pass-in-If-2.result c.deref-in-If-2.ensures c.pass-in-If-2.ensures in
    let third = lent c.deref-in-If.result.now b.value c.pass-in-If-2.result c.pass-in-If-3.result c.deref-in-If.ensures c.pass-in-If-3.ensures in
    passes_as (view c.args.e.now) (tree.choice (view k.value) (view a.value) (view b.value)) c.args.reached c.pass-in-If-3.result (ap view c.in-If.is ∙ viewed-If k a b)
    (passes_both (calls_in (view k.value)) (calls_in (view a.value) ++ calls_in (view b.value)) c.args.reached c.pass-in-If.result c.pass-in-If-3.result first
    (passes_both (calls_in (view a.value)) (calls_in (view b.value)) c.pass-in-If.result c.pass-in-If-2.result c.pass-in-If-3.result second third))

pub pass-returns-in-Call : goal.pass-returns-in-Call
pass-returns-in-Call t c =
    let f = c.in-Call.f in
    let all = trees_of (views c.in-Call.arguments.items) in
    let count = length (list_of all) in
    let first = subst (λ es. Passes (calls_in_all (trees_of (views es))) c.args.reached c.pass_all-in-Call.result) c.deref-in-Call.ensures.value c.pass_all-in-Call.ensures in
    let one = subst (λ (f : List _). Passes (record { node = f; arguments = count } ∷ []) c.pass_all-in-Call.result c.pass_one.result) c.as_str.ensures (c.pass_one.ensures count) in
    passes_as (view c.args.e.now) (tree.call f all) c.args.reached c.pass_one.result (ap view c.in-Call.is ∙ viewed-Call f c.in-Call.arguments)
    (passes_both (calls_in_all all) (record { node = f; arguments = count } ∷ []) c.args.reached c.pass_all-in-Call.result c.pass_one.result first one)

pub pass_all-loop-a-preserved : goal.pass_all-loop-a-preserved
pass_all-loop-a-preserved t c =
    let lt : c.loop-a.a-index < length c.args.arguments.now = omega arith in
    passes_more c.args.arguments.now c.loop-a.a-index c.a-item.result c.args.reached c.loop-a.now c.pass-now.result lt c.a-item.is c.loop-a.invariant c.pass-now.ensures
