use Rattle.std.proofs.Common.{◌++◌, length, map, take, replicate, sym, ap, ◌∙◌, arith}
use Rattle.lutree.specs.Tree.{EquationTree, equation_view, node_view}
use Rattle.lusource.specs.Names.{name_at, variables_of, place_of}
use Rattle.lucore_build.specs.Nodes.{leaders}
use Rattle.lucore_build.proofs.Growing.{joined_more}
use Rattle.lucore_build.proofs.owners.leaders_of.Goals as goal

pub loop-equation-preserved : goal.loop-equation-preserved
loop-equation-preserved c =
    let n = node_view c.args.scope.now in
    let qs = c.args.equations.now in
    let i = c.loop-equation.equation-index in
    let left = c.as_slice-left.result.now in
    let so_far = leaders n (map equation_view (take i qs)) in
    let owner = c.variable_place-owner.ensures ∙ ap (place_of (variables_of n)) c.first_name.ensures in
    c.in_ok-push_copies.ensures ∙ ap (λ xs. xs ++ replicate (length left) c.variable_place-owner.result) c.loop-equation.invariant
    ∙ ap (λ o. so_far ++ replicate (length left) o) owner ∙ ap (λ xs. so_far ++ replicate (length xs) (place_of (variables_of n) (name_at xs 0))) c.as_slice-left.ensures
    ∙ sym
    (joined_more (λ (q : EquationTree). replicate (length q.left) (place_of (variables_of n) (name_at q.left 0))) equation_view qs i c.equation-item.result (omega (arith, c.loop-equation-test.true)) c.equation-item.is)
