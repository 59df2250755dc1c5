-- What is told of a place, rule by rule.
use Rattle.std.specs.Prelude.{◌≡◌, ◌↔◌, List, Option, Some, None, All, Contains, fold}
use Rattle.lustat_rules.specs.declared.error.StatError.{StatError}
use Rattle.lustat_rules.specs.Faults.{lesser_of}

-- the faults in a row are those of a place, and where there is none in it, all is kept there
pub record Tells (IsFault : StatError → Type 0) (Kept : Type 0) (row : List (Option StatError)) : Type 0 where
  pub faults : (e : StatError) → Contains row (Some e) ↔ IsFault e
  pub kept : All (λ o. o ≡ None) row → Kept

-- the fault of a row that is reported
abbrev pub least_in : List (Option StatError) → Option StatError
least_in row = fold lesser_of None row
