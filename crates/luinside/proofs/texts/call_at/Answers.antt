use Rattle.std.specs.Prelude.{◌≡◌, ◌<◌, ◌+◌, ℕ, List, Some, length, map, option_map, take, slice_get}
use Rattle.std.proofs.Common.{arith, get_or, refl, sym, subst, ap, ◌∙◌}
use Rattle.std.proofs.lemmas.List.{take_all, length-map}
use Rattle.std.proofs.lemmas.Option.{slice_get-map, slice_get_read}
use Rattle.lutree.specs.declared.program.Equation.{Equation}
use Rattle.lutree.specs.Tree.{view, equation_view, node_view}
use Rattle.lustat_rules.specs.Naming.{calls_in}
use Rattle.luinside.specs.declared.texts.Reached.TheVariants.{Left}
use Rattle.luinside.specs.Calls.{calls_of, Passes}
use Rattle.luinside.proofs.CallsPassed.{equations_more, node_at, node_past}
use Rattle.luinside.proofs.texts.call_at.Goals as goal

-- an equation of a node in memory
there : (items : List Equation) (i : ℕ) (q : Equation) → i < length items → q ≡ get_or items i q → slice_get (map equation_view items) i ≡ Some (equation_view q)
there items i q lt is = slice_get-map equation_view items i ∙ ap (option_map equation_view) (slice_get_read items (length items) i q refl lt is)

pub returns-in-At-clause-there : goal.returns-in-At-clause-there
returns-in-At-clause-there c =
    let items = c.as_slice-q-items.result.now in
    let i = c.loop-equation.equation in
    let q = c.q-item.result in
    let at = there items i q c.loop-equation-test.true c.q-item.is in
    record {
      equation = equation_view q;
      is_equation = subst (λ qs. slice_get (map equation_view qs) i ≡ Some (equation_view q)) c.as_slice-q-items.ensures at;
      called = subst (Passes (calls_in (view q.right)) (Left c.loop-equation.left)) c.in-At.is c.pass.ensures;
      before = subst (λ qs. c.args.number ≡ length (calls_of (take i (map equation_view qs))) + c.loop-equation.left) c.as_slice-q-items.ensures c.loop-equation.invariant;
    }

pub returns-in-At-clause-called : goal.returns-in-At-clause-called
returns-in-At-clause-called c =
    let items = c.as_slice-q-items.result.now in
    let i = c.loop-equation.equation in
    let q = c.q-item.result in
    let at = there items i q c.loop-equation-test.true c.q-item.is in
    sym (node_at (node_view c.args.node.now) i (equation_view q) c.args.number c.loop-equation.left c.in-At.name.now
    (subst (λ qs. slice_get (map equation_view qs) i ≡ Some (equation_view q)) c.as_slice-q-items.ensures at)
    (subst (λ qs. c.args.number ≡ length (calls_of (take i (map equation_view qs))) + c.loop-equation.left) c.as_slice-q-items.ensures c.loop-equation.invariant)
    (subst (Passes (calls_in (view q.right)) (Left c.loop-equation.left)) c.in-At.is c.pass.ensures))

pub loop-equation-preserved : goal.loop-equation-preserved
loop-equation-preserved c =
    let items = c.as_slice-q-items.result.now in
    let i = c.loop-equation.equation in
    let q = c.q-item.result in
    let more = equations_more (map equation_view items) i (equation_view q) (there items i q c.loop-equation-test.true c.q-item.is) in
    let passed = subst (Passes (calls_in (view q.right)) (Left c.loop-equation.left)) c.in-Left.is c.pass.ensures in
    omega (arith, more, passed, c.loop-equation.invariant)

pub returns-clause-called : goal.returns-clause-called
returns-clause-called c =
    let items = c.as_slice-q-items.result.now in
    let qs = map equation_view items in
    let i = c.loop-equation.equation in
    let long = length-map items equation_view in
    let all = take_all i qs (omega (arith, long, c.loop-equation-test.false)) in
    sym (node_past (node_view c.args.node.now) c.args.number c.loop-equation.left
    (subst (λ qs. c.args.number ≡ length (calls_of (map equation_view qs)) + c.loop-equation.left) c.as_slice-q-items.ensures (c.loop-equation.invariant ∙ ap (λ qs. length (calls_of qs) + c.loop-equation.left) all)))
