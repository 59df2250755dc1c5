use Rattle.std.proofs.Common.{◌≡◌, take}
use Rattle.std.specs.List.{list_any}
use Rattle.lusdist_call.specs.Violations.{is_observable}
use Rattle.lusdist_call.proofs.violations.is_unknown.Given as goal

abbrev pub invariant-loop-x : goal.invariant-loop-x
invariant-loop-x l = l.found ≡ list_any (is_observable l.name) (take l.x-index l.variables)
