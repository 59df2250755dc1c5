use Rattle.std.proofs.Common.{◌≡◌, List, ℕ, take, map, length}
use Rattle.lucore_laws.proofs.ranking.reads_missing.Given as goal

abbrev pub invariant-loop-reads : goal.invariant-loop-reads
invariant-loop-reads l = l.missing.items ≡ map (λ (reads : List ℕ). length reads) (take l.reads-index l.rows)
