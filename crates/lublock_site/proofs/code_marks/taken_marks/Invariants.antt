use Rattle.std.proofs.Common.{◌≡◌, ◌<◌, ℕ, true, Some}
use Rattle.std.specs.Prelude.{slice_get}
use Rattle.luworld.specs.declared.link.Link.{Link}
use Rattle.lublock_site.specs.Marks.{marked}
use Rattle.lublock_site.proofs.code_marks.taken_marks.Given as goal

abbrev pub invariant-loop-l : goal.invariant-loop-l
invariant-loop-l l = record { here : (j : ℕ) (x : Link) → j < l.l → slice_get l.links j ≡ Some x → x.to ≡ l.site → marked l.taken.items x.flow ≡ true }
