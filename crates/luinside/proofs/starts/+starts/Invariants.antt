use Rattle.lutree.specs.Tree.{program_view}
use Rattle.luinside.proofs.Pushing.{Pushed}
use Rattle.luinside.proofs.starts.+starts.Given as goal

abbrev pub invariant-push_all-loop-a : goal.invariant-push_all-loop-a
invariant-push_all-loop-a l = Pushed (program_view l.catalog) l.counts l.arguments l.a-index l.at l.initial.found.items l.found.items l.behind
