use Rattle.std.proofs.Common.{◌≡◌, ◌∙◌, sym, ap, Some, map, true, arith}
use Rattle.lutree.specs.Tree.{DeclarationTree, node_view, program_view, declarations_view}
use Rattle.lutree.specs.declared.program.Node.{Node}
use Rattle.lustat_rules.specs.Scope.{node_called}
use Rattle.lustat_rules.specs.Typing.{arguments_fit, only}
use Rattle.lucore_build.specs.Walks.{kinds_of}
use Rattle.lucore_build.proofs.Fit.{call_kinds_fit}
use Rattle.lucore_build.proofs.walk.kind_of_call.Goals as goal

pub returns-then-arguments_have_kinds : goal.returns-then-arguments_have_kinds
returns-then-arguments_have_kinds c =
    let p = program_view c.args.catalog.now in
    let kinds = kinds_of c.args.arguments.now in
    let n = node_view c.in_ok-find.field-0.now in
    let called : node_called p c.args.name.now ≡ Some n = grind (arith, c.find.ensures, c.in_ok-find.is, c.in_ok-find.ensures) in
    let fit : arguments_fit kinds n.inputs ≡ true = grind (arith, c.arguments_have_kinds.ensures, c.if-arguments_have_kinds.true, c.as_slice.ensures, c.node-node.ensures) in
    let outputs = c.as_slice-then-arguments_have_kinds.ensures ∙ ap (λ (n : Node). n.outputs) c.node-node.ensures in
    c.only_kind.ensures
    ∙ ap (λ l. only (Some (map (λ (d : DeclarationTree). d.kind) (declarations_view l)))) outputs
    ∙ ap only (sym (call_kinds_fit (node_called p c.args.name.now) n kinds called fit))
