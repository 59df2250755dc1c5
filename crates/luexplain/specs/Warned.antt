-- What is told of the warnings of a program.
use Rattle.std.specs.Prelude.{◌≡◌, ℕ, List, [], ◌∷◌, ◌++◌, codes, take}
use Rattle.lustat_warn.specs.declared.warning.Warning.{Warning}
use Rattle.lustat_warn.specs.declared.warning.WarningKind.{WarningKind}
use Rattle.lustat_warn.specs.declared.warning.WarningKind.TheVariants.{UnusedNode, UnusedInput, UnusedLocal}
use Rattle.lustat_warn.specs.declared.warning.WarningKind.TheVariants.{DividingBranch}
use Rattle.luexplain.specs.Place.{spot}

-- its code and its name
abbrev pub title : WarningKind → List ℕ
title UnusedNode = codes "W01 UnusedNode"
title UnusedInput = codes "W02 UnusedInput"
title UnusedLocal = codes "W03 UnusedLocal"
title DividingBranch = codes "W04 DividingBranch"

-- the line of a warning: `PATH:LINE:COLUMN: CODE NAME: what it says`
pub record IsWarned (path text : List ℕ) (w : Warning) (line : List ℕ) : Type 0 where
  pub what : List ℕ
  pub is : line
      ≡ spot path (take w.byte text) ++ codes ": " ++ title w.kind ++ codes ": " ++ what ++ codes "\n"

-- the lines of warnings, one behind the other
pub data AreWarned (path text : List ℕ) : List Warning → List ℕ → Type 0 where
  none : AreWarned path text [] []
  more : (before : List Warning) (w : Warning) (lines line : List ℕ) → AreWarned path text before lines
      → IsWarned path text w line → AreWarned path text (before ++ w ∷ []) (lines ++ line)
