use Rattle.std.proofs.Common.{◌≡◌, map, take}
use Rattle.luplace_report.specs.Cycles.{ends}
use Rattle.luplace_report.proofs.cycles.pairs_of.Given as goal

abbrev pub invariant-loop-link : goal.invariant-loop-link
invariant-loop-link l = l.pairs.items ≡ map ends (take l.link-index l.link-items)
