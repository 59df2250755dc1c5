use Rattle.std.proofs.Common.{◌≡◌, ◌<◌, Option, Some, List, pos, length, take, refl, sym, ap, subst, ◌∙◌, arith}
use Rattle.std.proofs.lemmas.List.{take_all}
use Rattle.std.proofs.lemmas.Result.{IfOk-weaker}
use Rattle.lutree.specs.declared.program.Kind.{Kind}
use Rattle.lutree.specs.declared.program.Kind.TheVariants.{Int as Ints, Bool as Truths}
use Rattle.lutree.specs.declared.expr.Expr.{Expr}
use Rattle.lutree.specs.Tree.{Tree, view, views, trees_of, node_view, program_view}
use Rattle.lutree.specs.Tree as tree
use Rattle.luflow.specs.declared.form.Form.{Form}
use Rattle.luflow.specs.declared.form.Form.TheVariants.{Constant, If, When, Current, Merge}
use Rattle.luflow.specs.declared.data.Datum.{Datum}
use Rattle.luflow.specs.declared.data.Datum.TheVariants.{Int, Bool as Truth, Name}
use Rattle.lusource.specs.Names.{clock_of}
use Rattle.lusource.specs.Source.{condition}
use Rattle.lustat_rules.specs.Scope.{node_called, kind_of}
use Rattle.lustat_rules.specs.Typing.{choice_kind, agreed_all, type_of, types_of, only, call_kinds}
use Rattle.lucore_laws.specs.Layout.{clock_place, instance, variable_place, walk}
use Rattle.lucore_laws.specs.Layout.Root.{own, at}
use Rattle.lustat_rules.specs.ClockRefs.{placed_view}
use Rattle.lucore_build.specs.Walks.{IsWalked, root_view, plain, flow_on, prefix_form, prefix_kind, kinds_of}
use Rattle.lucore_build.specs.Operands.{places_of}
use Rattle.lutree.proofs.Views.{viewed-Number, viewed-Truth, viewed-Variable, viewed-Current, viewed-Call, viewed-Unary, viewed-Binary, viewed-If, viewed-When, viewed-Merge, viewed-Label}
use Rattle.lucore_build.proofs.Forms.{AreMade, none_made, argument_made, argument_typed, BranchesAreMade, no_branches, branch_made, operand_is, operand_typed, formed, number_is, truth_is, variable_is, current_is, unary_is, binary_is, choice_is, when_is, merge_is, label_is, prefix_typed, infix_typed, choice_typed}
use Rattle.lucore_build.proofs.Walking.{IsMade}
use Rattle.lucore_build.proofs.walk.+walk.Goals as goal

pub walk-returns-in_ok-x-in-Unary-clause-walked : goal.walk-returns-in_ok-x-in-Unary-clause-walked
walk-returns-in_ok-x-in-Unary-clause-walked t c =
    let p = program_view c.args.context.now.catalog.now in
    let l = plain c.args.context.now.lists.now in
    let n = node_view c.args.context.now.scope.now in
    let k = placed_view c.args.clock in
    let old = c.args.flows.now.items in
    let m = operand_is p l n c.in-Unary.a.value c.deref.result.now (k) (old) c.walk_operand.new.flows.items c.in_ok-x-in-Unary.x.place c.deref.ensures c.in_ok-x-in-Unary.ensures.flows c.in_ok-x-in-Unary.ensures.place in
    let mk = operand_typed p l n c.in-Unary.a.value c.deref.result.now c.in_ok-x-in-Unary.x.kind c.deref.ensures c.in_ok-x-in-Unary.ensures.kind in
    let x = c.in_ok-x-in-Unary.x in
    let op = c.in-Unary.op in
    let ck = clock_place n k in
    let root = ap root_view c.own-in-Unary.ensures.root ∙ ap (λ (q : Option Kind). own (flow_on ck q c.prefix.result)) c.kind_of_prefix.ensures ∙ ap (λ (f : Form). own (flow_on ck (prefix_kind op x.kind) f)) c.prefix.ensures in
    formed p l n (view c.args.e.now) (tree.unary op (view c.in-Unary.a.value)) k old c.walk_operand.new.flows.items (root_view c.own-in-Unary.result.root) (own (flow_on ck (prefix_kind op x.kind) (prefix_form op x.place)))
    (ap view c.in-Unary.is ∙ viewed-Unary op c.in-Unary.a) root (unary_is p l n op (view c.in-Unary.a.value) k old c.walk_operand.new.flows.items x m mk)

pub walk-returns-in_ok-x-in-Unary-clause-kind : goal.walk-returns-in_ok-x-in-Unary-clause-kind
walk-returns-in_ok-x-in-Unary-clause-kind t c =
    let p = program_view c.args.context.now.catalog.now in
    let l = plain c.args.context.now.lists.now in
    let n = node_view c.args.context.now.scope.now in
    let mk = operand_typed p l n c.in-Unary.a.value c.deref.result.now c.in_ok-x-in-Unary.x.kind c.deref.ensures c.in_ok-x-in-Unary.ensures.kind in
    let op = c.in-Unary.op in
    let a = view c.in-Unary.a.value in
    c.own-in-Unary.ensures.kind ∙ c.kind_of_prefix.ensures ∙ prefix_typed p l n op a c.in_ok-x-in-Unary.x.kind mk ∙ sym (ap (type_of p n) (ap view c.in-Unary.is ∙ viewed-Unary op c.in-Unary.a))

pub walk-returns-in_ok-y-in-Binary-clause-walked : goal.walk-returns-in_ok-y-in-Binary-clause-walked
walk-returns-in_ok-y-in-Binary-clause-walked t c =
    let p = program_view c.args.context.now.catalog.now in
    let l = plain c.args.context.now.lists.now in
    let n = node_view c.args.context.now.scope.now in
    let k = placed_view c.args.clock in
    let old = c.args.flows.now.items in
    let m = operand_is p l n c.in-Binary.a.value c.deref-in-Binary.result.now (k) (old) c.walk_operand-in-Binary.new.flows.items c.in_ok-x-in-Binary.x.place c.deref-in-Binary.ensures c.in_ok-x-in-Binary.ensures.flows c.in_ok-x-in-Binary.ensures.place in
    let mk = operand_typed p l n c.in-Binary.a.value c.deref-in-Binary.result.now c.in_ok-x-in-Binary.x.kind c.deref-in-Binary.ensures c.in_ok-x-in-Binary.ensures.kind in
    let r = operand_is p l n c.in-Binary.b.value c.deref-in-Binary-2.result.now (k) (c.walk_operand-in-Binary.new.flows.items) c.walk_operand-in-Binary-2.new.flows.items c.in_ok-y-in-Binary.y.place c.deref-in-Binary-2.ensures c.in_ok-y-in-Binary.ensures.flows c.in_ok-y-in-Binary.ensures.place in
    let rk = operand_typed p l n c.in-Binary.b.value c.deref-in-Binary-2.result.now c.in_ok-y-in-Binary.y.kind c.deref-in-Binary-2.ensures c.in_ok-y-in-Binary.ensures.kind in
    let op = c.in-Binary.op in
    let a = c.in-Binary.a in
    let b = c.in-Binary.b in
    let x = c.in_ok-x-in-Binary.x in
    let y = c.in_ok-y-in-Binary.y in
    IfOk-weaker c.infix.result _ _ (λ w h.
    formed p l n (view c.args.e.now) (tree.binary op (view a.value) (view b.value)) k old c.infix.new.flows.items (root_view w.root) (root_view w.root)
    (ap view c.in-Binary.is ∙ viewed-Binary op a b) refl
    (binary_is p l n op (view a.value) (view b.value) k old c.walk_operand-in-Binary.new.flows.items c.walk_operand-in-Binary-2.new.flows.items c.infix.new.flows.items x y (root_view w.root) m r mk rk h))
    c.infix.ensures.walked

pub walk-returns-in_ok-y-in-Binary-clause-kind : goal.walk-returns-in_ok-y-in-Binary-clause-kind
walk-returns-in_ok-y-in-Binary-clause-kind t c =
    let p = program_view c.args.context.now.catalog.now in
    let l = plain c.args.context.now.lists.now in
    let n = node_view c.args.context.now.scope.now in
    let mk = operand_typed p l n c.in-Binary.a.value c.deref-in-Binary.result.now c.in_ok-x-in-Binary.x.kind c.deref-in-Binary.ensures c.in_ok-x-in-Binary.ensures.kind in
    let rk = operand_typed p l n c.in-Binary.b.value c.deref-in-Binary-2.result.now c.in_ok-y-in-Binary.y.kind c.deref-in-Binary-2.ensures c.in_ok-y-in-Binary.ensures.kind in
    let op = c.in-Binary.op in
    let a = c.in-Binary.a in
    let b = c.in-Binary.b in
    IfOk-weaker c.infix.result _ _ (λ w h.
    h ∙ infix_typed p l n op (view a.value) (view b.value) c.in_ok-x-in-Binary.x.kind c.in_ok-y-in-Binary.y.kind mk rk ∙ sym (ap (type_of p n) (ap view c.in-Binary.is ∙ viewed-Binary op a b)))
    c.infix.ensures.kind

pub walk-returns-in_ok-y-in-If-clause-walked : goal.walk-returns-in_ok-y-in-If-clause-walked
walk-returns-in_ok-y-in-If-clause-walked t c =
    let p = program_view c.args.context.now.catalog.now in
    let l = plain c.args.context.now.lists.now in
    let n = node_view c.args.context.now.scope.now in
    let k = placed_view c.args.clock in
    let old = c.args.flows.now.items in
    let h = operand_is p l n c.in-If.c.value c.deref-in-If.result.now (k) (old) c.walk_operand-in-If.new.flows.items c.in_ok-z-in-If.z.place c.deref-in-If.ensures c.in_ok-z-in-If.ensures.flows c.in_ok-z-in-If.ensures.place in
    let hk = operand_typed p l n c.in-If.c.value c.deref-in-If.result.now c.in_ok-z-in-If.z.kind c.deref-in-If.ensures c.in_ok-z-in-If.ensures.kind in
    let m = operand_is p l n c.in-If.a.value c.deref-in-If-2.result.now (k) (c.walk_operand-in-If.new.flows.items) c.walk_operand-in-If-2.new.flows.items c.in_ok-x-in-If.x.place c.deref-in-If-2.ensures c.in_ok-x-in-If.ensures.flows c.in_ok-x-in-If.ensures.place in
    let mk = operand_typed p l n c.in-If.a.value c.deref-in-If-2.result.now c.in_ok-x-in-If.x.kind c.deref-in-If-2.ensures c.in_ok-x-in-If.ensures.kind in
    let r = operand_is p l n c.in-If.b.value c.deref-in-If-3.result.now (k) (c.walk_operand-in-If-2.new.flows.items) c.walk_operand-in-If-3.new.flows.items c.in_ok-y-in-If.y.place c.deref-in-If-3.ensures c.in_ok-y-in-If.ensures.flows c.in_ok-y-in-If.ensures.place in
    let rk = operand_typed p l n c.in-If.b.value c.deref-in-If-3.result.now c.in_ok-y-in-If.y.kind c.deref-in-If-3.ensures c.in_ok-y-in-If.ensures.kind in
    let d = c.in-If.c in
    let a = c.in-If.a in
    let b = c.in-If.b in
    let z = c.in_ok-z-in-If.z in
    let x = c.in_ok-x-in-If.x in
    let y = c.in_ok-y-in-If.y in
    let ck = clock_place n k in
    let root = ap root_view c.own-in-If.ensures.root ∙ ap (λ (q : Option Kind). own (flow_on ck q (If z.place x.place y.place))) c.kind_of_choice-kind.ensures in
    formed p l n (view c.args.e.now) (tree.choice (view d.value) (view a.value) (view b.value)) k old c.walk_operand-in-If-3.new.flows.items (root_view c.own-in-If.result.root) (own (flow_on ck (choice_kind z.kind x.kind y.kind) (If z.place x.place y.place)))
    (ap view c.in-If.is ∙ viewed-If d a b) root
    (choice_is p l n (view d.value) (view a.value) (view b.value) k old c.walk_operand-in-If.new.flows.items c.walk_operand-in-If-2.new.flows.items c.walk_operand-in-If-3.new.flows.items z x y h m r hk mk rk)

pub walk-returns-in_ok-y-in-If-clause-kind : goal.walk-returns-in_ok-y-in-If-clause-kind
walk-returns-in_ok-y-in-If-clause-kind t c =
    let p = program_view c.args.context.now.catalog.now in
    let l = plain c.args.context.now.lists.now in
    let n = node_view c.args.context.now.scope.now in
    let hk = operand_typed p l n c.in-If.c.value c.deref-in-If.result.now c.in_ok-z-in-If.z.kind c.deref-in-If.ensures c.in_ok-z-in-If.ensures.kind in
    let mk = operand_typed p l n c.in-If.a.value c.deref-in-If-2.result.now c.in_ok-x-in-If.x.kind c.deref-in-If-2.ensures c.in_ok-x-in-If.ensures.kind in
    let rk = operand_typed p l n c.in-If.b.value c.deref-in-If-3.result.now c.in_ok-y-in-If.y.kind c.deref-in-If-3.ensures c.in_ok-y-in-If.ensures.kind in
    let d = c.in-If.c in
    let a = c.in-If.a in
    let b = c.in-If.b in
    c.own-in-If.ensures.kind ∙ c.kind_of_choice-kind.ensures
    ∙ choice_typed p l n (view d.value) (view a.value) (view b.value) c.in_ok-z-in-If.z.kind c.in_ok-x-in-If.x.kind c.in_ok-y-in-If.y.kind hk mk rk
    ∙ sym (ap (type_of p n) (ap view c.in-If.is ∙ viewed-If d a b))

pub walk-returns-in_ok-x-in-When-clause-walked : goal.walk-returns-in_ok-x-in-When-clause-walked
walk-returns-in_ok-x-in-When-clause-walked t c =
    let p = program_view c.args.context.now.catalog.now in
    let l = plain c.args.context.now.lists.now in
    let n = node_view c.args.context.now.scope.now in
    let k = placed_view c.args.clock in
    let old = c.args.flows.now.items in
    let a = c.in-When.a in
    let d = c.in-When.c in
    let x = c.in_ok-x-in-When.x in
    let mid = c.walk_operand-in-When.new.flows.items in
    let inside = c.variable_clock-inside.ensures.clock ∙ ap (clock_of n) c.as_str-name.ensures in
    let sampled = c.placed-sampled.ensures.clock ∙ c.of.ensures in
    let m = subst (λ j. IsMade (walk p l n (view a.value) j) old mid x.place) inside
    (operand_is p l n a.value c.deref-in-When.result.now _ old mid x.place c.deref-in-When.ensures c.in_ok-x-in-When.ensures.flows c.in_ok-x-in-When.ensures.place) in
    let mk = operand_typed p l n a.value c.deref-in-When.result.now x.kind c.deref-in-When.ensures c.in_ok-x-in-When.ensures.kind in
    let root = ap root_view c.own-in-When.ensures.root ∙ ap (λ j. own (flow_on (clock_place n j) x.kind (When x.place))) sampled in
    formed p l n (view c.args.e.now) (tree.when (view a.value) d) k old mid (root_view c.own-in-When.result.root) (own (flow_on (clock_place n (Some d)) x.kind (When x.place)))
    (ap view c.in-When.is ∙ viewed-When a d) root (when_is p l n (view a.value) d k old mid x m mk)

pub walk-returns-in_ok-x-in-When-clause-kind : goal.walk-returns-in_ok-x-in-When-clause-kind
walk-returns-in_ok-x-in-When-clause-kind t c =
    let p = program_view c.args.context.now.catalog.now in
    let l = plain c.args.context.now.lists.now in
    let n = node_view c.args.context.now.scope.now in
    let mk = operand_typed p l n c.in-When.a.value c.deref-in-When.result.now c.in_ok-x-in-When.x.kind c.deref-in-When.ensures c.in_ok-x-in-When.ensures.kind in
    c.own-in-When.ensures.kind ∙ mk ∙ sym (ap (type_of p n) (ap view c.in-When.is ∙ viewed-When c.in-When.a c.in-When.c))

pub merge-loop-i-init : goal.merge-loop-i-init
merge-loop-i-init t c =
    let p = program_view c.args.context.now.catalog.now in
    let l = plain c.args.context.now.lists.now in
    let n = node_view c.args.context.now.scope.now in
    let old = c.args.flows.now.items in
    let none = c.in_ok-operands.ensures.items in
    record {
      made = subst (λ ops. BranchesAreMade p l n c.args.name.now c.args.patterns.now tree.none old old (places_of ops)) (sym none) (no_branches p l n c.args.name.now c.args.patterns.now old);
      kinds = ap kinds_of none;
    }

pub merge-loop-i-preserved : goal.merge-loop-i-preserved
merge-loop-i-preserved t c =
    let p = program_view c.args.context.now.catalog.now in
    let l = plain c.args.context.now.lists.now in
    let n = node_view c.args.context.now.scope.now in
    let old = c.args.flows.now.items in
    let args = c.args.branches.now in
    let x = c.args.name.now in
    let ps = c.args.patterns.now in
    let i = c.loop-i.i in
    let lt : i < length args = omega arith in
    let a = c.index-branches-i.result in
    let ops = c.loop-i.operands.items in
    let y = c.in_ok-x.x in
    let more = c.in_ok-push.ensures.items in
    let on = c.placed-on.ensures.clock ∙ ap (condition x) c.pattern_at.ensures in
    let m = subst (λ k. IsMade (walk p l n (view a) k) c.loop-i.flows.items c.walk_operand.new.flows.items y.place) on
    (operand_is p l n a a _ c.loop-i.flows.items c.walk_operand.new.flows.items y.place refl c.in_ok-x.ensures.flows c.in_ok-x.ensures.place) in
    let mk = operand_typed p l n a a y.kind refl c.in_ok-x.ensures.kind in
    record {
      made = branch_made p l n x ps args i a old c.loop-i.flows.items c.walk_operand.new.flows.items ops c.push.new.self.items y lt c.index-branches-i.is c.loop-i.invariant.made m more;
      kinds = argument_typed p l n args i a ops c.push.new.self.items y lt c.index-branches-i.is c.loop-i.invariant.kinds mk more;
    }

pub merge-returns-clause-walked : goal.merge-returns-clause-walked
merge-returns-clause-walked t c =
    let p = program_view c.args.context.now.catalog.now in
    let l = plain c.args.context.now.lists.now in
    let n = node_view c.args.context.now.scope.now in
    let k = placed_view c.args.clock in
    let old = c.args.flows.now.items in
    let args = c.args.branches.now in
    let x = c.args.name.now in
    let ps = c.args.patterns.now in
    let ck = clock_place n k in
    let ops = c.loop-i.operands.items in
    let full : take c.loop-i.i args ≡ args = take_all c.loop-i.i args (omega arith) in
    let made = subst (λ es. BranchesAreMade p l n x ps (trees_of (views es)) old c.loop-i.flows.items (places_of ops)) full c.loop-i.invariant.made in
    let kinds = c.loop-i.invariant.kinds ∙ ap (λ es. types_of p n (trees_of (views es))) full in
    let kind = c.kind_of_branches.ensures ∙ ap (λ os. agreed_all (kinds_of os)) c.as_slice-2.ensures.value in
    let places = c.in_ok-places.ensures ∙ ap places_of c.as_slice.ensures.value in
    let root = ap root_view c.own.ensures.root
    ∙ ap (λ (q : Option Kind). own (flow_on ck q (Merge c.variable_place.result c.in_ok-places.places))) kind
    ∙ ap (λ i. own (flow_on ck (agreed_all (kinds_of ops)) (Merge i c.in_ok-places.places))) c.variable_place.ensures
    ∙ ap (λ xs. own (flow_on ck (agreed_all (kinds_of ops)) (Merge (variable_place p l n x) xs))) places in
    subst (λ r. IsWalked (walk p l n (tree.merge x ps (trees_of (views args))) k) old c.loop-i.flows.items r) (sym root)
    (merge_is p l n x ps args k old c.loop-i.flows.items ops made kinds)

pub merge-returns-clause-kind : goal.merge-returns-clause-kind
merge-returns-clause-kind t c =
    let p = program_view c.args.context.now.catalog.now in
    let n = node_view c.args.context.now.scope.now in
    let args = c.args.branches.now in
    let full : take c.loop-i.i args ≡ args = take_all c.loop-i.i args (omega arith) in
    c.own.ensures.kind ∙ c.kind_of_branches.ensures ∙ ap (λ os. agreed_all (kinds_of os)) c.as_slice-2.ensures.value
    ∙ ap agreed_all (c.loop-i.invariant.kinds ∙ ap (λ es. types_of p n (trees_of (views es))) full)

pub walk-returns-in-Merge-clause-walked : goal.walk-returns-in-Merge-clause-walked
walk-returns-in-Merge-clause-walked t c =
    let p = program_view c.args.context.now.catalog.now in
    let l = plain c.args.context.now.lists.now in
    let n = node_view c.args.context.now.scope.now in
    let k = placed_view c.args.clock in
    let old = c.args.flows.now.items in
    let x = c.in-Merge.c in
    let ps = c.in-Merge.patterns in
    let all = λ (es : List Expr). trees_of (views es) in
    let given : tree.merge c.as_str-in-Merge.result.now c.as_slice.result.now (all c.deref-in-Merge-2.result.now) ≡ tree.merge x ps.value (all c.in-Merge.branches.items) =
    ap (λ g. tree.merge g c.as_slice.result.now (all c.deref-in-Merge-2.result.now)) c.as_str-in-Merge.ensures
    ∙ ap (λ qs. tree.merge x qs (all c.deref-in-Merge-2.result.now)) (c.as_slice.ensures ∙ c.deref-in-Merge.ensures)
    ∙ ap (λ es. tree.merge x ps.value (all es)) c.deref-in-Merge-2.ensures.value in
    let same = ap view c.in-Merge.is ∙ viewed-Merge x ps c.in-Merge.branches ∙ sym given in
    IfOk-weaker c.merge.result _ _ (λ w h.
    formed p l n (view c.args.e.now) (tree.merge c.as_str-in-Merge.result.now c.as_slice.result.now (all c.deref-in-Merge-2.result.now)) k old c.merge.new.flows.items (root_view w.root) (root_view w.root) same refl h)
    c.merge.ensures.walked

pub walk-returns-in-Merge-clause-kind : goal.walk-returns-in-Merge-clause-kind
walk-returns-in-Merge-clause-kind t c =
    let p = program_view c.args.context.now.catalog.now in
    let n = node_view c.args.context.now.scope.now in
    let x = c.in-Merge.c in
    let ps = c.in-Merge.patterns in
    let all = λ (es : List Expr). trees_of (views es) in
    let given : tree.merge c.as_str-in-Merge.result.now c.as_slice.result.now (all c.deref-in-Merge-2.result.now) ≡ tree.merge x ps.value (all c.in-Merge.branches.items) =
    ap (λ g. tree.merge g c.as_slice.result.now (all c.deref-in-Merge-2.result.now)) c.as_str-in-Merge.ensures
    ∙ ap (λ qs. tree.merge x qs (all c.deref-in-Merge-2.result.now)) (c.as_slice.ensures ∙ c.deref-in-Merge.ensures)
    ∙ ap (λ es. tree.merge x ps.value (all es)) c.deref-in-Merge-2.ensures.value in
    let same = ap view c.in-Merge.is ∙ viewed-Merge x ps c.in-Merge.branches ∙ sym given in
    IfOk-weaker c.merge.result _ _ (λ w h. h ∙ sym (ap (type_of p n) same)) c.merge.ensures.kind

pub walk-returns-in-Label-clause-walked : goal.walk-returns-in-Label-clause-walked
walk-returns-in-Label-clause-walked t c =
    let p = program_view c.args.context.now.catalog.now in
    let l = plain c.args.context.now.lists.now in
    let n = node_view c.args.context.now.scope.now in
    let k = placed_view c.args.clock in
    let old = c.args.flows.now.items in
    let ck = clock_place n k in
    let x = c.in-Label.x in
    formed p l n (view c.args.e.now) (tree.label x) k old old (root_view c.own-in-Label.result.root) (own (flow_on ck (Some x.kind) (Constant (Name x.number))))
    (ap view c.in-Label.is ∙ viewed-Label x) (ap root_view c.own-in-Label.ensures.root) (label_is p l n x k old)

pub walk-returns-in-Label-clause-kind : goal.walk-returns-in-Label-clause-kind
walk-returns-in-Label-clause-kind t c =
    let p = program_view c.args.context.now.catalog.now in
    let n = node_view c.args.context.now.scope.now in
    c.own-in-Label.ensures.kind ∙ sym (ap (type_of p n) (ap view c.in-Label.is ∙ viewed-Label c.in-Label.x))

pub call-loop-a-init : goal.call-loop-a-init
call-loop-a-init t c =
    let p = program_view c.args.context.now.catalog.now in
    let l = plain c.args.context.now.lists.now in
    let n = node_view c.args.context.now.scope.now in
    let k = placed_view c.args.clock in
    let old = c.args.flows.now.items in
    let args = c.args.arguments.now in
    let none = c.in_ok-operands.ensures.items in
    record {
      made = subst (λ ops. AreMade p l n tree.none k old old (places_of ops)) (sym none) (none_made p l n k old);
      kinds = ap kinds_of none;
    }

pub call-loop-a-preserved : goal.call-loop-a-preserved
call-loop-a-preserved t c =
    let p = program_view c.args.context.now.catalog.now in
    let l = plain c.args.context.now.lists.now in
    let n = node_view c.args.context.now.scope.now in
    let k = placed_view c.args.clock in
    let old = c.args.flows.now.items in
    let args = c.args.arguments.now in
    let i = c.loop-a.a-index in
    let lt : i < length args = omega arith in
    let a = c.a-item.result in
    let ops = c.loop-a.operands.items in
    let x = c.in_ok-x.x in
    let more = c.in_ok-push.ensures.items in
    let m = operand_is p l n a a k c.loop-a.flows.items c.walk_operand.new.flows.items x.place refl c.in_ok-x.ensures.flows c.in_ok-x.ensures.place in
    let mk = operand_typed p l n a a x.kind refl c.in_ok-x.ensures.kind in
    record {
      made = argument_made p l n args i a k old c.loop-a.flows.items c.walk_operand.new.flows.items ops c.push.new.self.items x lt c.a-item.is c.loop-a.invariant.made m more;
      kinds = argument_typed p l n args i a ops c.push.new.self.items x lt c.a-item.is c.loop-a.invariant.kinds mk more;
    }

pub call-returns-clause-walked : goal.call-returns-clause-walked
call-returns-clause-walked t c =
    let p = program_view c.args.context.now.catalog.now in
    let l = plain c.args.context.now.lists.now in
    let n = node_view c.args.context.now.scope.now in
    let k = placed_view c.args.clock in
    let old = c.args.flows.now.items in
    let args = c.args.arguments.now in
    let f = c.args.name.now in
    let ck = clock_place n k in
    let ops = c.loop-a.operands.items in
    let lent = c.as_slice.ensures.value in
    let full : take c.loop-a.a-index args ≡ args = take_all c.loop-a.a-index args (omega arith) in
    let all = subst (λ es. AreMade p l n (trees_of (views es)) k old c.loop-a.flows.items (places_of ops)) full c.loop-a.invariant.made in
    IfOk-weaker c.instance_of.result _ _ (λ w h.
    all.behind (λ xs. instance p l f ck xs) c.instance_of.new.flows.items (root_view w.root)
    (subst (λ os. IsWalked (instance p l f ck (places_of os)) c.loop-a.flows.items c.instance_of.new.flows.items (root_view w.root)) lent h))
    c.instance_of.ensures.walked

pub call-returns-clause-kind : goal.call-returns-clause-kind
call-returns-clause-kind t c =
    let p = program_view c.args.context.now.catalog.now in
    let l = plain c.args.context.now.lists.now in
    let n = node_view c.args.context.now.scope.now in
    let k = placed_view c.args.clock in
    let old = c.args.flows.now.items in
    let args = c.args.arguments.now in
    let f = c.args.name.now in
    let ck = clock_place n k in
    let ops = c.loop-a.operands.items in
    let lent = c.as_slice.ensures.value in
    let full : take c.loop-a.a-index args ≡ args = take_all c.loop-a.a-index args (omega arith) in
    let types : kinds_of c.as_slice.result.now ≡ types_of p n (trees_of (views args)) = ap kinds_of lent ∙ c.loop-a.invariant.kinds ∙ ap (λ es. types_of p n (trees_of (views es))) full in
    IfOk-weaker c.instance_of.result _ _ (λ w h. h ∙ ap (λ ks. only (call_kinds (node_called p f) ks)) types) c.instance_of.ensures.kind

pub walk-returns-in-Number-clause-walked : goal.walk-returns-in-Number-clause-walked
walk-returns-in-Number-clause-walked t c =
    let p = program_view c.args.context.now.catalog.now in
    let l = plain c.args.context.now.lists.now in
    let n = node_view c.args.context.now.scope.now in
    let k = placed_view c.args.clock in
    let old = c.args.flows.now.items in
    let ck = clock_place n k in
    let a = c.in-Number.n in
    let root = ap root_view c.own.ensures.root ∙ ap (λ (d : Datum). own (flow_on ck (Some Ints) (Constant d))) c.constant.ensures in
    formed p l n (view c.args.e.now) (tree.number a) k old old (root_view c.own.result.root) (own (flow_on ck (Some Ints) (Constant (Int (pos a)))))
    (ap view c.in-Number.is ∙ viewed-Number a) root (number_is p l n a k old)

pub walk-returns-in-Number-clause-kind : goal.walk-returns-in-Number-clause-kind
walk-returns-in-Number-clause-kind t c =
    let p = program_view c.args.context.now.catalog.now in
    let n = node_view c.args.context.now.scope.now in
    c.own.ensures.kind ∙ sym (ap (type_of p n) (ap view c.in-Number.is ∙ viewed-Number c.in-Number.n))

pub walk-returns-in-Truth-clause-walked : goal.walk-returns-in-Truth-clause-walked
walk-returns-in-Truth-clause-walked t c =
    let p = program_view c.args.context.now.catalog.now in
    let l = plain c.args.context.now.lists.now in
    let n = node_view c.args.context.now.scope.now in
    let k = placed_view c.args.clock in
    let old = c.args.flows.now.items in
    let ck = clock_place n k in
    let b = c.in-Truth.b in
    formed p l n (view c.args.e.now) (tree.truth b) k old old (root_view c.own-in-Truth.result.root) (own (flow_on ck (Some Truths) (Constant (Truth b))))
    (ap view c.in-Truth.is ∙ viewed-Truth b) (ap root_view c.own-in-Truth.ensures.root) (truth_is p l n b k old)

pub walk-returns-in-Truth-clause-kind : goal.walk-returns-in-Truth-clause-kind
walk-returns-in-Truth-clause-kind t c =
    let p = program_view c.args.context.now.catalog.now in
    let n = node_view c.args.context.now.scope.now in
    c.own-in-Truth.ensures.kind ∙ sym (ap (type_of p n) (ap view c.in-Truth.is ∙ viewed-Truth c.in-Truth.b))

pub walk-returns-in-Variable-clause-walked : goal.walk-returns-in-Variable-clause-walked
walk-returns-in-Variable-clause-walked t c =
    let p = program_view c.args.context.now.catalog.now in
    let l = plain c.args.context.now.lists.now in
    let n = node_view c.args.context.now.scope.now in
    let k = placed_view c.args.clock in
    let old = c.args.flows.now.items in
    let ck = clock_place n k in
    let x = c.in-Variable.x in
    let here = c.variable_place.ensures ∙ ap (variable_place p l n) c.as_str.ensures in
    formed p l n (view c.args.e.now) (tree.variable x) k old old (at c.variable_place.result) (at (variable_place p l n x))
    (ap view c.in-Variable.is ∙ viewed-Variable x) (ap at here) (variable_is p l n x k old)

pub walk-returns-in-Variable-clause-kind : goal.walk-returns-in-Variable-clause-kind
walk-returns-in-Variable-clause-kind t c =
    let p = program_view c.args.context.now.catalog.now in
    let n = node_view c.args.context.now.scope.now in
    let x = c.in-Variable.x in
    c.kind.ensures ∙ ap (kind_of n) c.as_str-in-Variable.ensures ∙ sym (ap (type_of p n) (ap view c.in-Variable.is ∙ viewed-Variable x))

pub walk-returns-in-Current-clause-walked : goal.walk-returns-in-Current-clause-walked
walk-returns-in-Current-clause-walked t c =
    let p = program_view c.args.context.now.catalog.now in
    let l = plain c.args.context.now.lists.now in
    let n = node_view c.args.context.now.scope.now in
    let k = placed_view c.args.clock in
    let old = c.args.flows.now.items in
    let ck = clock_place n k in
    let x = c.in-Current.x in
    let here = c.variable_place-in-Current.ensures ∙ ap (variable_place p l n) c.as_str-in-Current.ensures in
    let kind = c.kind-in-Current.ensures ∙ ap (kind_of n) c.as_str-in-Current-2.ensures in
    let root = ap root_view c.own-in-Current.ensures.root ∙ ap (λ (q : Option Kind). own (flow_on ck q (Current c.variable_place-in-Current.result))) kind
    ∙ ap (λ i. own (flow_on ck (kind_of n x) (Current i))) here in
    formed p l n (view c.args.e.now) (tree.current x) k old old (root_view c.own-in-Current.result.root) (own (flow_on ck (kind_of n x) (Current (variable_place p l n x))))
    (ap view c.in-Current.is ∙ viewed-Current x) root (current_is p l n x k old)

pub walk-returns-in-Current-clause-kind : goal.walk-returns-in-Current-clause-kind
walk-returns-in-Current-clause-kind t c =
    let p = program_view c.args.context.now.catalog.now in
    let n = node_view c.args.context.now.scope.now in
    let x = c.in-Current.x in
    c.own-in-Current.ensures.kind ∙ c.kind-in-Current.ensures ∙ ap (kind_of n) c.as_str-in-Current-2.ensures ∙ sym (ap (type_of p n) (ap view c.in-Current.is ∙ viewed-Current x))

pub walk-returns-in-Call-clause-walked : goal.walk-returns-in-Call-clause-walked
walk-returns-in-Call-clause-walked t c =
    let p = program_view c.args.context.now.catalog.now in
    let l = plain c.args.context.now.lists.now in
    let n = node_view c.args.context.now.scope.now in
    let k = placed_view c.args.clock in
    let old = c.args.flows.now.items in
    let ck = clock_place n k in
    let f = c.in-Call.f in
    let all = λ (es : List Expr). trees_of (views es) in
    let given : tree.call c.as_str-in-Call.result.now (all c.deref-in-Call.result.now) ≡ tree.call f (all c.in-Call.arguments.items) =
    ap (λ g. tree.call g (all c.deref-in-Call.result.now)) c.as_str-in-Call.ensures ∙ ap (λ es. tree.call f (all es)) c.deref-in-Call.ensures.value in
    let same = ap view c.in-Call.is ∙ viewed-Call f c.in-Call.arguments ∙ sym given in
    IfOk-weaker c.call.result _ _ (λ w h.
    formed p l n (view c.args.e.now) (tree.call c.as_str-in-Call.result.now (all c.deref-in-Call.result.now)) k old c.call.new.flows.items (root_view w.root) (root_view w.root) same refl h)
    c.call.ensures.walked

pub walk-returns-in-Call-clause-kind : goal.walk-returns-in-Call-clause-kind
walk-returns-in-Call-clause-kind t c =
    let p = program_view c.args.context.now.catalog.now in
    let n = node_view c.args.context.now.scope.now in
    let f = c.in-Call.f in
    let all = λ (es : List Expr). trees_of (views es) in
    let given : tree.call c.as_str-in-Call.result.now (all c.deref-in-Call.result.now) ≡ tree.call f (all c.in-Call.arguments.items) =
    ap (λ g. tree.call g (all c.deref-in-Call.result.now)) c.as_str-in-Call.ensures ∙ ap (λ es. tree.call f (all es)) c.deref-in-Call.ensures.value in
    let same = ap view c.in-Call.is ∙ viewed-Call f c.in-Call.arguments ∙ sym given in
    IfOk-weaker c.call.result _ _ (λ w h. h ∙ sym (ap (type_of p n) same)) c.call.ensures.kind
