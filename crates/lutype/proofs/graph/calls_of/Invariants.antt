use Rattle.std.proofs.Common.{◌≡◌, take}
use Rattle.std.specs.Prelude.{flat_map}
use Rattle.std.specs.List.{filter_map}
use Rattle.lutree.specs.declared.program.Equation.{Equation}
use Rattle.lutree.specs.Tree.{view, program_view}
use Rattle.lustat_rules.specs.Naming.{node_place}
use Rattle.lutype.specs.CallGraph.{names_called}
use Rattle.lutype.proofs.graph.calls_of.Given as goal

abbrev pub invariant-loop-q : goal.invariant-loop-q
invariant-loop-q l =
    l.row.items ≡ filter_map (node_place (program_view l.catalog)) (flat_map (λ (q : Equation). names_called (view q.right)) (take l.q-index l.q-items))
