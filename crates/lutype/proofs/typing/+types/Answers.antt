use Rattle.std.proofs.Common.{◌≡◌, ◌∙◌, ◌≤◌, length, sym, ap, Some, map, true, arith}
use Rattle.std.proofs.lemmas.List.{take_all}
use Rattle.lutree.specs.Tree.{DeclarationTree, views, trees_of, node_view, program_view, declarations_view}
use Rattle.lutree.specs.declared.program.Node.{Node}
use Rattle.lustat_rules.specs.Scope.{node_called}
use Rattle.lustat_rules.specs.Typing.{types_of, agreed_all, arguments_fit, only}
use Rattle.lutype.proofs.Branches.{branch_more}
use Rattle.lutype.proofs.Fit.{fit_end}
use Rattle.lutype.proofs.Lookups.{call_kinds_fit}
use Rattle.lutype.proofs.typing.+types.Goals as goal

pub kind_of_call-returns-then-arguments_have_kinds : goal.kind_of_call-returns-then-arguments_have_kinds
kind_of_call-returns-then-arguments_have_kinds t c =
    let p = program_view c.args.catalog.now in
    let types = types_of p (node_view c.args.scope.now) (trees_of (views c.args.arguments.now)) in
    let n = node_view c.in-Some.called.now in
    let called : node_called p c.args.f.now ≡ Some n = grind (arith, c.find.ensures, c.in-Some.is, c.in-Some.ensures) in
    let fit : arguments_fit types n.inputs ≡ true = grind (arith, c.arguments_have_kinds.ensures, c.if-arguments_have_kinds.true, c.as_slice.ensures, c.node-node.ensures) in
    let outputs = c.as_slice-then-arguments_have_kinds.ensures ∙ ap (λ (n : Node). n.outputs) c.node-node.ensures in
    c.only_kind.ensures
    ∙ ap (λ l. only (Some (map (λ (d : DeclarationTree). d.kind) (declarations_view l)))) outputs
    ∙ ap only (sym (call_kinds_fit (node_called p c.args.f.now) n types called fit))

pub arguments_have_kinds-returns : goal.arguments_have_kinds-returns
arguments_have_kinds-returns t c =
    fit_end (program_view c.args.catalog.now) (node_view c.args.scope.now) c.args.arguments.now c.args.inputs.now c.loop-i.i (omega arith) (omega arith)
    ∙ c.loop-i.invariant.so_far

pub kind_of_branches-loop-i-preserved : goal.kind_of_branches-loop-i-preserved
kind_of_branches-loop-i-preserved t c =
    branch_more (program_view c.args.catalog.now) (node_view c.args.scope.now) c.args.branches.now c.loop-i.i c.index-branches-i.result c.loop-i.all c.kind_of_expr-kind.result c.kind_with-all.result
    c.loop-i-test.true c.index-branches-i.is c.loop-i.invariant c.kind_of_expr-kind.ensures c.kind_with-all.ensures

pub kind_of_branches-returns : goal.kind_of_branches-returns
kind_of_branches-returns t c =
    let le : length c.args.branches.now ≤ c.loop-i.i = omega (arith, c.loop-i-test.false) in
    c.loop-i.invariant ∙ ap (λ es. agreed_all (types_of (program_view c.args.catalog.now) (node_view c.args.scope.now) (trees_of (views es)))) (take_all c.loop-i.i c.args.branches.now le)
