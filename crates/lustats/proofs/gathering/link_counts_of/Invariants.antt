use Rattle.std.proofs.Common.{◌≡◌, ◌≤◌, length, vec_len}
use Rattle.std.specs.Prelude.{vec_capacity}
use Rattle.lustats.proofs.gathering.link_counts_of.Given as goal

abbrev pub invariant-loop-cell : goal.invariant-loop-cell
invariant-loop-cell l = (vec_len l.counts ≡ l.cell-index) × (length l.cells ≤ vec_capacity l.counts)
