use Rattle.std.proofs.Common.{◌≡◌, ◌++◌, take}
use Rattle.luinside.specs.Names.{steps_from}
use Rattle.luinside.specs.Passing.{spelled}
use Rattle.luinside.proofs.names.push_steps.Given as goal

abbrev pub invariant-loop-k : goal.invariant-loop-k
invariant-loop-k l = l.steps.items ≡ l.initial.steps.items ++ steps_from l.first 1 (take l.k (spelled l.called.items))
