use Rattle.std.proofs.Common.{◌≡◌, ◌<◌, ℕ, Some}
use Rattle.std.specs.Prelude.{slice_get}
use Rattle.lublock_kernels.specs.Machine.{ticks_of}
use Rattle.lublock_site.specs.declared.sources.Source.{Source}
use Rattle.lublock_site.proofs.block.have_brought.Given as goal

abbrev pub invariant-loop-k : goal.invariant-loop-k
invariant-loop-k l = record { all : (j : ℕ) (x : Source) → j < l.k → slice_get l.sources j ≡ Some x → x.got ≡ ticks_of l.spans x.flow }
