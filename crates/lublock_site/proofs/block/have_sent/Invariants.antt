use Rattle.std.proofs.Common.{◌≡◌, ◌<◌, ℕ, Some}
use Rattle.std.specs.Prelude.{slice_get}
use Rattle.lublock_kernels.specs.Machine.{ticks_of}
use Rattle.lublock_site.specs.declared.outlets.Outlet.{Outlet}
use Rattle.lublock_site.proofs.block.have_sent.Given as goal

abbrev pub invariant-loop-k : goal.invariant-loop-k
invariant-loop-k l = record { all : (j : ℕ) (x : Outlet) → j < l.k → slice_get l.outlets j ≡ Some x → x.sent ≡ ticks_of l.spans x.flow }
