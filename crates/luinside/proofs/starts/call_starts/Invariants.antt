use Rattle.std.specs.Prelude.{length}
use Rattle.lutree.specs.Tree.{node_view, program_view}
use Rattle.lusource.specs.Names.{variables_of}
use Rattle.luinside.proofs.Pushing.{Passed}
use Rattle.luinside.proofs.starts.call_starts.Given as goal

abbrev pub invariant-loop-equation : goal.invariant-loop-equation
invariant-loop-equation l = Passed (program_view l.catalog) l.counts l.equation-items l.equation-index (length (variables_of (node_view l.node))) l.found.items l.at
