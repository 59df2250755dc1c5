use Rattle.std.proofs.Common.{◌≡◌, filter}
use Rattle.std.specs.List.{range_with_len}
use Rattle.luplace_report.specs.Cycles.{in_step}
use Rattle.luplace_report.proofs.cycles.group_of.Given as goal

abbrev pub invariant-loop-other : goal.invariant-loop-other
invariant-loop-other l = l.group.items ≡ filter (in_step l.fed l.site) (range_with_len 0 l.other)
