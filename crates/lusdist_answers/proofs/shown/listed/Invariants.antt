use Rattle.std.proofs.Common.{◌≡◌, ◌++◌, drop}
use Rattle.lusdist_call.specs.Shown.{listed_from}
use Rattle.lusdist_answers.proofs.shown.listed.Given as goal

abbrev pub invariant-loop-v : goal.invariant-loop-v
invariant-loop-v l = l.list.items ++ listed_from l.all l.v (drop l.v l.variables) ≡ listed_from l.all 0 l.variables
