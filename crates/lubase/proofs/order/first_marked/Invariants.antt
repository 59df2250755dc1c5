use Rattle.std.proofs.Common.{ℕ, ◌<◌}
use Rattle.lubase.specs.Search.{Lacks}
use Rattle.lubase.proofs.order.first_marked.Given as goal

abbrev pub invariant-loop-place : goal.invariant-loop-place
invariant-loop-place l = (u : ℕ) → u < l.place → Lacks l.marks u
