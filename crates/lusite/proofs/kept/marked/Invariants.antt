use Rattle.std.proofs.Common.{◌≡◌, filter}
use Rattle.std.specs.List.{range_with_len}
use Rattle.lusite.specs.KeptFlows.{is_marked}
use Rattle.lusite.proofs.kept.marked.Given as goal

abbrev pub invariant-loop-k : goal.invariant-loop-k
invariant-loop-k l = l.found.items ≡ filter (is_marked l.marks) (range_with_len 0 l.k)
