use Rattle.std.proofs.Common.{◌≡◌, ◌⊎◌, length}
use Rattle.luexplain.specs.Refusals.{AreRefusalsOf}
use Rattle.luexplain.proofs.refused.read_through.Given as goal

abbrev pub invariant-loop-turn : goal.invariant-loop-turn
invariant-loop-turn l =
    (length l.read.items ≡ length l.text) × (((l._turn ≡ 0) × (length l.found.items ≡ 0) × (l.read.items ≡ l.text)) ⊎ AreRefusalsOf l.path l.text l.found.items)
