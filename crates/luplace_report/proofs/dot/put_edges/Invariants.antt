use Rattle.std.proofs.Common.{◌≡◌, ◌++◌, flat_map, take, string_bytes}
use Rattle.luplace_report.specs.Graph.{edge}
use Rattle.luplace_report.proofs.dot.put_edges.Given as goal

abbrev pub invariant-loop-link : goal.invariant-loop-link
invariant-loop-link l = string_bytes l.text ≡ string_bytes l.initial.text ++ flat_map (edge l.plan) (take l.link-index l.plan.links)
