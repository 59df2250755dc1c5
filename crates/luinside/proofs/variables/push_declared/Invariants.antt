use Rattle.std.proofs.Common.{◌≡◌, ◌++◌, take}
use Rattle.luinside.specs.Passing.{named_from}
use Rattle.luinside.proofs.ListedVariables.{declared_as}
use Rattle.luinside.proofs.variables.push_declared.Given as goal

abbrev pub invariant-loop-i : goal.invariant-loop-i
invariant-loop-i l = l.found.items ≡ l.initial.found.items ++ named_from l.prefix l.path l.start (declared_as l.fn.role (take l.i l.declarations))
