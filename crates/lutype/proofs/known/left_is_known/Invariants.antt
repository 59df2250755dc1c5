use Rattle.std.proofs.Common.{ℕ, List, ◌<◌, get_or}
use Rattle.lutree.specs.Tree.{node_view}
use Rattle.lustat_rules.specs.Scope.{IsVariable}
use Rattle.lutype.proofs.known.left_is_known.Given as goal

abbrev pub invariant-loop-x : goal.invariant-loop-x
invariant-loop-x l = (k : ℕ) (d : List ℕ) → k < l.x-index → IsVariable (node_view l.scope) (get_or l.left k d)
