use Rattle.std.proofs.Common.{◌≡◌, take}
use Rattle.lusdist_call.specs.Shown.{listed_kinds}
use Rattle.lusdist_answers.proofs.shown.kinds_in.Given as goal

abbrev pub invariant-loop-k : goal.invariant-loop-k
invariant-loop-k l = l.kinds.items ≡ listed_kinds (take l.k l.list)
