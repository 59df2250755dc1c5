use Rattle.std.proofs.Common.{◌≡◌, filter}
use Rattle.std.specs.Prelude.{slice_index}
use Rattle.std.specs.List.{range_with_len}
use Rattle.luworld.specs.Jobs.{knows}
use Rattle.lusite_program.proofs.projecting.known_ranks.Given as goal

abbrev pub invariant-loop-p : goal.invariant-loop-p
invariant-loop-p l = l.found.items ≡ filter (λ p. knows l.plan l.site (slice_index l.order p)) (range_with_len 0 l.p)
