-- The fault that is reported of several.
use Rattle.lustat_rules.specs.declared.error.StatError.{StatError}
use Rattle.lustat_rules.specs.Faults.{IsAtMost}

-- a refusal is one of these faults, and none of them is reported before it
abbrev pub IsLeastFault : (StatError → Type 0) → StatError → Type 0
IsLeastFault IsFault e = IsFault e × ((f : StatError) → IsFault f → IsAtMost e f)
