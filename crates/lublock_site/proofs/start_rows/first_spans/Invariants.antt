use Rattle.std.proofs.Common.{◌≡◌, map, take}
use Rattle.lublock_site.specs.Starts.{first_span}
use Rattle.lublock_site.proofs.start_rows.first_spans.Given as goal

abbrev pub invariant-loop-mark : goal.invariant-loop-mark
invariant-loop-mark l = l.spans.items ≡ map first_span (take l.mark-index l.taken)
