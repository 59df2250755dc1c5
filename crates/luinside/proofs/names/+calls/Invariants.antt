use Rattle.std.proofs.Common.{◌≡◌, ◌++◌, take}
use Rattle.luinside.specs.Passing.{spelled}
use Rattle.luinside.proofs.Calling.{called_among}
use Rattle.luinside.proofs.names.+calls.Given as goal

abbrev pub invariant-push_all_called-loop-e : goal.invariant-push_all_called-loop-e
invariant-push_all_called-loop-e l = spelled l.called.items ≡ spelled l.fn.called.items ++ called_among (take l.e-index l.all)
