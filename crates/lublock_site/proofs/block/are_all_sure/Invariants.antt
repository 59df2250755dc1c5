use Rattle.std.proofs.Common.{◌≡◌, ◌<◌, ℕ, true}
use Rattle.lublock_kernels.specs.Parts.{knows}
use Rattle.lublock_site.specs.Marks.{marked, marked_part}
use Rattle.lublock_site.proofs.block.are_all_sure.Given as goal

abbrev pub invariant-loop-i : goal.invariant-loop-i
invariant-loop-i l = record { sure : (j : ℕ) → j < l.i → knows (marked_part l.own l.taken) j ≡ true → marked l.sure j ≡ true }
