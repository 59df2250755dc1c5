-- All faults, each once, in order of place.
use Rattle.std.specs.Prelude.{◌↔◌, ◌⊎◌, List, All, AllPairs, Contains, IsTrue}
use Rattle.lustat_rules.specs.declared.error.StatError.{StatError}
use Rattle.lustat_rules.specs.Faults.{is_before}

-- each in the list is a fault, each fault is in the list, and each is before all behind it: it has the lesser
-- byte, or at equal bytes the lesser number
pub record AreAllFaults (IsFault : StatError → Type 0) (faults : List StatError) : Type 0 where
  pub only : All IsFault faults
  pub all : (e : StatError) → IsFault e → Contains faults e
  pub ascend : AllPairs (λ e f. IsTrue (is_before e f)) faults

-- a list has these faults besides what it had, and nothing else
abbrev pub Gains : (StatError → Type 0) → List StatError → List StatError → Type 0
Gains IsFault old new = (e : StatError) → Contains new e ↔ (Contains old e ⊎ IsFault e)
