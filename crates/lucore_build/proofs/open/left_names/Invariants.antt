use Rattle.std.proofs.Common.{◌≡◌, map, take}
use Rattle.lutree.specs.Tree.{equation_view}
use Rattle.lustat_rules.specs.Scope.{lefts_of}
use Rattle.lucore_build.proofs.open.left_names.Given as goal

abbrev pub invariant-loop-equation : goal.invariant-loop-equation
invariant-loop-equation l = map (λ n. n.now) l.names.items ≡ lefts_of (map equation_view (take l.equation-index l.equations))
