use Rattle.std.proofs.Common.{◌≡◌, ℕ, List, ◌<◌, ◌+◌, map, Some}
use Rattle.std.specs.Prelude.{slice_get}
use Rattle.lutree.specs.Tree.{node_view, equation_view}
use Rattle.lustat_rules.specs.Scope.{lefts_of}
use Rattle.lutype.specs.Starts.{IsAnew}
use Rattle.lutype.proofs.defined.is_anew.Given as goal

abbrev pub invariant-loop-j : goal.invariant-loop-j
invariant-loop-j l = (k : ℕ) (x : List ℕ) → k < l.j → slice_get l.left k ≡ Some x → IsAnew (node_view l.scope) (lefts_of (map equation_view l.definitions.equations)) (l.start + k) x
