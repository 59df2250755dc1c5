use Rattle.std.specs.Prelude.{◌≡◌, ℕ, Option, Some}
use Rattle.lustat_rules.specs.declared.error.StatError.{StatError}
use Rattle.lustat_rules.proofs.Judging.{FaultBefore}
use Rattle.lustat_rules.specs.AllFaults.{Gains}
use Rattle.lustat_rules.proofs.row.push_each.Given as goal

abbrev pub invariant-loop-told : goal.invariant-loop-told
invariant-loop-told l = Gains (FaultBefore l.told-index l.row (λ (_ : ℕ) (o : Option StatError) (e : StatError). o ≡ Some e)) l.initial.found.items l.found.items
