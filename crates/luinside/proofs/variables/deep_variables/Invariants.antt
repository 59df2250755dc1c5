use Rattle.lutree.specs.Tree.{program_view}
use Rattle.luflow.specs.Program.{FlatView}
use Rattle.lucore.specs.Result.{IsFlatOf}
use Rattle.luinside.proofs.ListedVariables.{Passed}
use Rattle.luinside.proofs.variables.deep_variables.Given as goal

abbrev pub invariant-loop-instance : goal.invariant-loop-instance
invariant-loop-instance l =
    (flat : FlatView) → IsFlatOf (program_view l.program.program) l.program.main flat → Passed (program_view l.program.program) l.program.main l.instance-items l.instance-index l.way.items l.found.items
