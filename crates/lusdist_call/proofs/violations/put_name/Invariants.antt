use Rattle.std.proofs.Common.{◌≡◌, ◌++◌, flat_map, map, take, string_bytes}
use Rattle.luchart.specs.Signals.{signal_view}
use Rattle.lusdist_call.specs.Violations.{violation_if}
use Rattle.lusdist_call.proofs.violations.put_name.Given as goal

abbrev pub invariant-loop-flow : goal.invariant-loop-flow
invariant-loop-flow l = string_bytes l.text ≡ string_bytes l.initial.text ++ flat_map (violation_if l.name) (map signal_view (take l.flow-index l.flows))
