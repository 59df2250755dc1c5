use Rattle.std.proofs.Common.{◌≡◌, ◌<◌, ℕ, length}
use Rattle.luworld.specs.Needs.{stands}
use Rattle.lublock_site.specs.Marks.{marked}
use Rattle.lublock_site.proofs.code_marks.own_marks.Given as goal

abbrev pub invariant-loop-i : goal.invariant-loop-i
invariant-loop-i l = record {
  len : length l.own.items ≡ l.i;
  stand : (j : ℕ) → j < l.i → marked l.own.items j ≡ stands l.plan j l.site;
}
