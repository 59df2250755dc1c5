use Rattle.std.proofs.Common.{◌++◌, map, take, sym, ap, ◌∙◌, arith}
use Rattle.lutree.specs.Tree.{EquationTree, equation_view}
use Rattle.lustat_rules.specs.Scope.{lefts_of}
use Rattle.lucore_build.proofs.Growing.{joined_more}
use Rattle.lucore_build.proofs.open.left_names.Goals as goal

pub loop-equation-preserved : goal.loop-equation-preserved
loop-equation-preserved c =
    let qs = c.args.equations.now in
    let i = c.loop-equation.equation-index in
    c.in_ok-push_names.ensures ∙ ap (λ xs. xs ++ c.as_slice.result.now) c.loop-equation.invariant ∙ ap (λ ys. lefts_of (map equation_view (take i qs)) ++ ys) c.as_slice.ensures
    ∙ sym (joined_more (λ (q : EquationTree). q.left) equation_view qs i c.equation-item.result (omega (arith, c.loop-equation-test.true)) c.equation-item.is)
