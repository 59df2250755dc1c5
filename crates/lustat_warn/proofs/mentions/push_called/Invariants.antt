use Rattle.std.proofs.Common.{◌≡◌, ◌++◌, map, take}
use Rattle.std.specs.Prelude.{flat_map}
use Rattle.lutree.specs.Tree.{EquationTree, equation_view}
use Rattle.lustat_warn.specs.Scans.{spelled, nodes_in}
use Rattle.lustat_warn.proofs.mentions.push_called.Given as goal

abbrev pub invariant-loop-q : goal.invariant-loop-q
invariant-loop-q l = spelled l.names.items ≡ spelled l.initial.names.items ++ flat_map (λ (q : EquationTree). nodes_in q.right) (map equation_view (take l.q-index l.q-items))
