use Rattle.std.proofs.Common.{All, take}
use Rattle.lutree.specs.Tree.{node_view}
use Rattle.lustat_init.specs.Judged.{IsFree}
use Rattle.lustat_init.proofs.judge.are_free.Given as goal

abbrev pub invariant-loop-x : goal.invariant-loop-x
invariant-loop-x l = All (IsFree (node_view l.scope)) (take l.x-index l.names)
