-- The line that reports a refusal of a placement.
use Rattle.std.specs.Prelude.{ℕ, List, codes}
use Rattle.luplace_file.specs.declared.error.PlaceError.{PlaceError}
use Rattle.luplace_file.specs.declared.error.PlaceError.TheVariants.{NotToml, BadKey, UnknownSite}
use Rattle.luplace_file.specs.declared.error.PlaceError.TheVariants.{UnknownVariable, Unplaced, DuplicateSite}
use Rattle.luplace_file.specs.declared.error.PlaceError.TheVariants.{OutOfRange, SplitCall, OutOfMemory}

-- a code and a name, and where; no line feed
abbrev pub line_of : PlaceError → List ℕ
line_of NotToml = codes "P01 NotToml"
line_of BadKey = codes "P02 BadKey"
line_of UnknownSite = codes "P03 UnknownSite"
line_of UnknownVariable = codes "P04 UnknownVariable"
line_of Unplaced = codes "P05 Unplaced"
line_of DuplicateSite = codes "P06 DuplicateSite"
line_of OutOfRange = codes "P07 OutOfRange"
line_of SplitCall = codes "P08 SplitCall"
line_of OutOfMemory = codes "R2 OutOfMemory"
