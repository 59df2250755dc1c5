use Rattle.std.proofs.Common.{◌≡◌, ◌++◌, flat_map, take, string_bytes}
use Rattle.clap.specs.Walk.{texts}
use Rattle.luchart.specs.Signals.{signals_view}
use Rattle.lusdist_call.specs.Violations.{violation_of}
use Rattle.lusdist_call.proofs.violations.put_names.Given as goal

abbrev pub invariant-loop-k : goal.invariant-loop-k
invariant-loop-k l = string_bytes l.text ≡ string_bytes l.initial.text ++ flat_map (violation_of (signals_view l.flows)) (texts (take l.k l.names))
