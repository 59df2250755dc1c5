use Rattle.lutree.specs.Tree.{program_view}
use Rattle.lucore_build.proofs.Counting.{Until}
use Rattle.lucore_build.proofs.nodes.sizes.Given as goal

abbrev pub invariant-loop-place : goal.invariant-loop-place
invariant-loop-place l = Until (program_view l.program.program) l.place-items l.place-index l.counts.items
