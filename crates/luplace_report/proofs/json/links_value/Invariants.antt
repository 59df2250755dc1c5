use Rattle.std.proofs.Common.{◌≡◌, map, take}
use Rattle.serde_json.specs.View.{view}
use Rattle.luplace_report.specs.Report.{link_data}
use Rattle.luplace_report.proofs.json.links_value.Given as goal

abbrev pub invariant-loop-link : goal.invariant-loop-link
invariant-loop-link l = map view l.values.items ≡ map (link_data l.plan) (take l.link-index l.plan.links)
