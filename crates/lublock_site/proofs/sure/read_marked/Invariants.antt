use Rattle.std.proofs.Common.{◌≡◌, ◌<◌, ℕ, Some}
use Rattle.std.specs.Prelude.{slice_get}
use Rattle.lublock_site.specs.Sure.{ReadsSure}
use Rattle.lublock_site.proofs.sure.read_marked.Given as goal

abbrev pub invariant-loop-k : goal.invariant-loop-k
invariant-loop-k l = record { reads : (j i : ℕ) → j < l.k → slice_get l.flows j ≡ Some i → ReadsSure l.flat l.own l.marks i }
