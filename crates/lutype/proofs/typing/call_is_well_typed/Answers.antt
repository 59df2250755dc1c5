use Rattle.std.proofs.Common.{◌≡◌, ◌∙◌, ap, Some, map, true, arith}
use Rattle.lutree.specs.declared.program.Node.{Node}
use Rattle.lutree.specs.Tree.{node_view, program_view, views, trees_of, declarations_view}
use Rattle.lustat_rules.specs.Scope.{kind_of, node_called}
use Rattle.lustat_rules.specs.Typing.{types_of, arguments_fit}
use Rattle.lutype.proofs.Lookups.{meet_call}
use Rattle.lutype.proofs.typing.call_is_well_typed.Goals as goal

pub returns-then-arguments_have_kinds : goal.returns-then-arguments_have_kinds
returns-then-arguments_have_kinds c =
    let p = program_view c.args.catalog.now in
    let own = node_view c.args.scope.now in
    let n = node_view c.in-Some.called.now in
    let types = types_of p own (trees_of (views c.args.arguments.now)) in
    let left = map (kind_of own) c.args.left.now in
    let called : node_called p c.args.f.now ≡ Some n = grind (arith, c.find.ensures, c.in-Some.is, c.in-Some.ensures) in
    let fit : arguments_fit types n.inputs ≡ true = grind (arith, c.arguments_have_kinds.ensures, c.if-arguments_have_kinds.true, c.as_slice.ensures, c.node-node.ensures) in
    let outputs = c.as_slice-then-arguments_have_kinds.ensures ∙ ap (λ (n : Node). n.outputs) c.node-node.ensures in
    meet_call (node_called p c.args.f.now) n types left c.left_has_kinds.result called fit
    (c.left_has_kinds.ensures ∙ ap (λ l. arguments_fit left (declarations_view l)) outputs)
