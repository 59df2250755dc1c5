use Rattle.std.proofs.Common.{◌≡◌, map}
use Rattle.std.specs.List.{range_with_len}
use Rattle.serde_json.specs.View.{view}
use Rattle.luplace_report.specs.Report.{flow_data}
use Rattle.luplace_report.proofs.json.flows_value.Given as goal

abbrev pub invariant-loop-variable : goal.invariant-loop-variable
invariant-loop-variable l = map view l.values.items ≡ map (flow_data l.plan) (range_with_len 0 l.variable)
