-- The line that reports a refusal of a table.
use Rattle.std.specs.Prelude.{ℕ, List, ◌++◌, codes}
use Rattle.std.specs.Fmt.{decimal}
use Rattle.lutab.specs.declared.error.TabError.{TabError}
use Rattle.lutab.specs.declared.error.TabError.TheVariants.{BadHeader, BadRow, BadValue, TooLong, OutOfMemory}

-- a code and a name, and where; no line feed
abbrev pub line_of : TabError → List ℕ
line_of BadHeader = codes "T01 BadHeader"
line_of (BadRow line) = codes "T02 BadRow line " ++ decimal line
line_of (BadValue line) = codes "T03 BadValue line " ++ decimal line
line_of TooLong = codes "T04 TooLong"
line_of OutOfMemory = codes "R2 OutOfMemory"
