use Rattle.std.proofs.Common.{◌↔◌, IsTrue, ◌≡◌, ◌∙◌, subst, ap}
use Rattle.lutree.specs.declared.program.Node.{Node}
use Rattle.std.specs.Prelude.{Contains}
use Rattle.lustat_rules.specs.Scope.{names_of}
use Rattle.lutree.specs.Tree.{declarations_view}
use Rattle.lustat_rules.proofs.Declared.{same_spellings}
use Rattle.lustat_rules.proofs.scope.Scope.is_output.Goals as goal

pub returns : goal.returns
returns c =
    let n = c.args.self.now in
    let same : c.self.inside.outputs ≡ names_of (declarations_view n.outputs) = c.self.invariant.outputs ∙ same_spellings c.self.inside.node.now.outputs ∙ ap (λ (n : Node). names_of (declarations_view n.outputs)) c.self.view_is in
    subst (λ names. IsTrue c.has.result ↔ Contains names c.args.name.now) same c.has.ensures
