use Rattle.std.proofs.Common.{◌≡◌, ◌∙◌, ◌+◌, ◌<◌, ℕ, List, Some, map, length, refl, sym, ap, subst, arith}
use Rattle.std.specs.Option.{option_map}
use Rattle.std.specs.Prelude.{Vec, slice_get}
use Rattle.std.specs.Global.{Global}
use Rattle.std.proofs.lemmas.Option.{slice_get-map, slice_get_read}
use Rattle.lutree.specs.declared.program.Equation.{Equation}
use Rattle.lutree.specs.Tree.{EquationTree, equation_view, node_view, view}
use Rattle.lustat_init.specs.Linked.{AreStarts}
use Rattle.lustat_init.proofs.Starting.{starts_push, starts_skip, unmarked_one}
use Rattle.lustat_init.proofs.least.starts_of.Goals as goal
use Rattle.lustat_init.proofs.least.starts_of.Goals.{then-is_one+in_ok-push, else-is_one}

pub loop-i-preserved : goal.loop-i-preserved
loop-i-preserved c =
    let xs : List Equation = c.args.equations.now in
    let i : ℕ = c.loop-i.i in
    let q : Equation = c.index-equations-i.result in
    let lt : i < length xs = omega (arith, c.loop-i-test.true) in
    let qs : List EquationTree = map equation_view xs in
    let here : slice_get qs i ≡ Some (equation_view q) =
    slice_get-map equation_view xs i ∙ ap (option_map equation_view) (slice_get_read xs (length xs) i q refl lt c.index-equations-i.is) in
    let own = sym (unmarked_one (node_view c.args.scope.now) (view q.right)) ∙ sym c.is_one.ensures in
    elim c.if-is_one.branch [
      | then-is_one+in_ok-push w ↦
          subst (AreStarts qs c.args.first (i + 1)) (sym (ap (λ (v : Vec ℕ Global). v.items) w.starts-is ∙ w.in_ok-push.ensures.items))
          (starts_push qs c.args.first i (equation_view q) here c.loop-i.starts.items c.loop-i.invariant (own ∙ w.if-is_one.true))
      | else-is_one w ↦
          subst (AreStarts qs c.args.first (i + 1)) (sym (ap (λ (v : Vec ℕ Global). v.items) w.starts-is))
          (starts_skip qs c.args.first i (equation_view q) here c.loop-i.starts.items c.loop-i.invariant (own ∙ w.if-is_one.false))
    ]

pub returns : goal.returns
returns c =
    let e : c.loop-i.i ≡ length c.args.equations.now = omega (arith, c.loop-i-test.false) in
    subst (λ k. AreStarts (map equation_view c.args.equations.now) c.args.first k c.loop-i.starts.items) e c.loop-i.invariant
