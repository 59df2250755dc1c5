use Rattle.std.proofs.Common.{◌≡◌, ℕ, [], length}
use Rattle.lubase.specs.Graph.{row_of}
use Rattle.lubase.proofs.link.empty_rows.Given as goal

abbrev pub invariant-loop : goal.invariant-loop
invariant-loop l = (length l.rows.items ≡ l.counter) × ((v : ℕ) → row_of l.rows.items v ≡ [])
