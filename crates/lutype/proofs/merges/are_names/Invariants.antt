use Rattle.std.proofs.Common.{◌≡◌, ◌<◌, ℕ, Some}
use Rattle.std.specs.Prelude.{slice_get}
use Rattle.lutree.specs.declared.expr.Pattern.{Pattern}
use Rattle.lustat_rules.specs.Typing.{IsNumbered}
use Rattle.lutype.proofs.merges.are_names.Given as goal

abbrev pub invariant-loop-k : goal.invariant-loop-k
invariant-loop-k l = (j : ℕ) (x : Pattern) → j < l.k → slice_get l.all j ≡ Some x → IsNumbered l.kind j x
