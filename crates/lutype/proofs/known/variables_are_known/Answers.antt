use Rattle.std.proofs.Common.{subst}
use Rattle.std.specs.Prelude.{All}
use Rattle.lutree.specs.Tree.{node_view, view}
use Rattle.lustat_rules.specs.Scope.{IsVariable}
use Rattle.lutype.proofs.Forms.{each_name}
use Rattle.lutype.proofs.known.variables_are_known.Goals as goal

pub returns-then-left_is_known : goal.returns-then-left_is_known
returns-then-left_is_known c =
    let P = IsVariable (node_view c.args.scope.now) in
    let law = each_name P (view c.args.equation.now.right) in (
      λ h. (subst (All P) c.as_slice.ensures (c.left_is_known.ensures.0 c.if-left_is_known.true), law.0 (c.expr_is_known.ensures.0 h)),
      λ h. c.expr_is_known.ensures.1 (law.1 h.1),
    )
