use Rattle.std.proofs.Common.{◌∙◌, arith}
use Rattle.lutree.specs.Tree.{node_view}
use Rattle.lustat_rules.specs.Scope.{kind_of}
use Rattle.lutype.proofs.Fit.{left_end}
use Rattle.lutype.proofs.typing.left_has_kinds.Goals as goal

pub returns : goal.returns
returns c =
    left_end (kind_of (node_view c.args.scope.now)) c.args.left.now c.args.outputs.now c.loop-i.i (omega arith) (omega arith)
    ∙ c.loop-i.invariant.so_far
