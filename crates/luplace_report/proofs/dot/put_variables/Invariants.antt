use Rattle.std.proofs.Common.{◌≡◌, ◌++◌, flat_map, string_bytes}
use Rattle.std.specs.List.{range_with_len}
use Rattle.luplace_report.specs.Graph.{variable_node}
use Rattle.luplace_report.proofs.dot.put_variables.Given as goal

abbrev pub invariant-loop-variable : goal.invariant-loop-variable
invariant-loop-variable l = string_bytes l.text ≡ string_bytes l.initial.text ++ flat_map (variable_node l.plan l.site) (range_with_len 0 l.variable)
