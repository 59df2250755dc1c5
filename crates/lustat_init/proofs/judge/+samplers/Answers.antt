use Rattle.std.specs.Prelude.{◌≡◌, ◌<◌, ◌++◌, ◌∷◌, [], List, ℕ, length, OnOk}
use Rattle.std.proofs.Common.{arith, sym, ap, subst, refl, ◌∙◌}
use Rattle.std.proofs.lemmas.Result.{on_ok_weaker}
use Rattle.lutree.specs.declared.expr.Expr.{Expr}
use Rattle.lutree.specs.Tree.{view, views, trees_of}
use Rattle.lustat_rules.specs.Clocks.{clocks_in, clocks_in_all}
use Rattle.lustat_init.specs.Judged.{spelled}
use Rattle.lutree.proofs.Views.{viewed-Binary, viewed-If, viewed-When, viewed-Merge}
use Rattle.lustat_init.proofs.Pushed.{pushed_both, pushed_more, pushed_all}
use Rattle.lustat_init.proofs.judge.+samplers.Goals as goal

pub push_samplers-returns-in_ok-push_samplers-in-Binary : goal.push_samplers-returns-in_ok-push_samplers-in-Binary
push_samplers-returns-in_ok-push_samplers-in-Binary t c =
    let old = spelled c.args.names.now.items in
    let one = spelled c.push_samplers-in-Binary.new.names.items in
    let two = spelled c.push_samplers-in-Binary-2.new.names.items in
    let a = c.in-Binary.a in
    let b = c.in-Binary.b in
    let seen = ap (λ e. clocks_in (view e)) c.in-Binary.is ∙ ap clocks_in (viewed-Binary c.in-Binary.field-0 a b) in
    subst (λ xs. OnOk c.push_samplers-in-Binary-2.result (two ≡ old ++ xs)) (sym seen)
    (on_ok_weaker c.push_samplers-in-Binary-2.result
    (λ h. pushed_both old one two (clocks_in (view a.value)) (clocks_in (view b.value))
    (subst (λ e. one ≡ old ++ clocks_in (view e)) c.deref-in-Binary.ensures c.in_ok-push_samplers-in-Binary.ensures)
    (subst (λ e. two ≡ one ++ clocks_in (view e)) c.deref-in-Binary-2.ensures h))
    c.push_samplers-in-Binary-2.ensures)

pub push_samplers-returns-in_ok-push_samplers-in-If-2 : goal.push_samplers-returns-in_ok-push_samplers-in-If-2
push_samplers-returns-in_ok-push_samplers-in-If-2 t c =
    let old = spelled c.args.names.now.items in
    let one = spelled c.push_samplers-in-If.new.names.items in
    let two = spelled c.push_samplers-in-If-2.new.names.items in
    let three = spelled c.push_samplers-in-If-3.new.names.items in
    let first = clocks_in (view c.in-If.c.value) in
    let second = clocks_in (view c.in-If.a.value) in
    let third = clocks_in (view c.in-If.b.value) in
    let seen = ap (λ e. clocks_in (view e)) c.in-If.is ∙ ap clocks_in (viewed-If c.in-If.c c.in-If.a c.in-If.b) in
    subst (λ xs. OnOk c.push_samplers-in-If-3.result (three ≡ old ++ xs)) (sym seen)
    (on_ok_weaker c.push_samplers-in-If-3.result
    (λ h. pushed_both old one three first (second ++ third)
    (subst (λ e. one ≡ old ++ clocks_in (view e)) c.deref-in-If.ensures c.in_ok-push_samplers-in-If.ensures)
    (pushed_both one two three second third
    (subst (λ e. two ≡ one ++ clocks_in (view e)) c.deref-in-If-2.ensures c.in_ok-push_samplers-in-If-2.ensures)
    (subst (λ e. three ≡ two ++ clocks_in (view e)) c.deref-in-If-3.ensures h)))
    c.push_samplers-in-If-3.ensures)

pub push_samplers-returns-in_ok-push_samplers-in-When : goal.push_samplers-returns-in_ok-push_samplers-in-When
push_samplers-returns-in_ok-push_samplers-in-When t c =
    let old = spelled c.args.names.now.items in
    let one = spelled c.push_samplers-in-When.new.names.items in
    let two = spelled c.push_sampler.new.names.items in
    let a = c.in-When.a in
    let k = c.in-When.c in
    let seen = ap (λ e. clocks_in (view e)) c.in-When.is ∙ ap clocks_in (viewed-When a k) in
    subst (λ xs. OnOk c.push_sampler.result (two ≡ old ++ xs)) (sym seen)
    (on_ok_weaker c.push_sampler.result
    (λ h. pushed_both old one two (clocks_in (view a.value)) (k.variable ∷ [])
    (subst (λ e. one ≡ old ++ clocks_in (view e)) c.deref-in-When.ensures c.in_ok-push_samplers-in-When.ensures)
    (subst (λ (x : List ℕ). two ≡ one ++ x ∷ []) c.as_str.ensures h))
    c.push_sampler.ensures)

pub push_samplers-returns-in_ok-push_sampler-in-Merge : goal.push_samplers-returns-in_ok-push_sampler-in-Merge
push_samplers-returns-in_ok-push_sampler-in-Merge t c =
    let old = spelled c.args.names.now.items in
    let one = spelled c.push_sampler-in-Merge.new.names.items in
    let two = spelled c.push_samplers_of_all.new.names.items in
    let k = c.in-Merge.c in
    let es = c.in-Merge.branches in
    let seen = ap (λ e. clocks_in (view e)) c.in-Merge.is ∙ ap clocks_in (viewed-Merge k c.in-Merge.field-1 es) in
    subst (λ xs. OnOk c.push_samplers_of_all.result (two ≡ old ++ xs)) (sym seen)
    (on_ok_weaker c.push_samplers_of_all.result
    (λ h. pushed_both old one two (k ∷ []) (clocks_in_all (trees_of (views es.items)))
    (subst (λ (x : List ℕ). one ≡ old ++ x ∷ []) c.as_str-in-Merge.ensures c.in_ok-push_sampler-in-Merge.ensures)
    (subst (λ xs. two ≡ one ++ clocks_in_all (trees_of (views xs))) c.deref-in-Merge.ensures.value h))
    c.push_samplers_of_all.ensures)

pub push_samplers_of_all-loop-a-preserved : goal.push_samplers_of_all-loop-a-preserved
push_samplers_of_all-loop-a-preserved t c =
    let lt : c.loop-a.a-index < length c.args.arguments.now = omega arith in
    pushed_more (λ (e : Expr). clocks_in (view e)) (λ (es : List Expr). clocks_in_all (trees_of (views es))) (λ _ _. refl) c.args.arguments.now c.loop-a.a-index c.a-item.result
    (spelled c.loop-a.names.items) (spelled c.push_samplers.new.names.items) _ lt c.a-item.is c.in_ok-push_samplers.ensures c.loop-a.invariant

pub push_samplers_of_all-returns : goal.push_samplers_of_all-returns
push_samplers_of_all-returns t c =
    pushed_all (λ (es : List Expr). clocks_in_all (trees_of (views es))) refl c.args.arguments.now c.loop-a.a-index _ _ c.loop-a-test.false c.loop-a.invariant
