-- The line that reports a refusal of a text.
use Rattle.std.specs.Prelude.{ℕ, List, ◌++◌, codes}
use Rattle.std.specs.Fmt.{decimal}
use Rattle.lusyn.specs.declared.error.SynError.{SynError}
use Rattle.lusyn.specs.declared.error.SynError.TheVariants.{Syntax, NumberTooLarge, NotAscii, TooLong}
use Rattle.lusyn.specs.declared.error.SynError.TheVariants.{LongRun, OutOfMemory}

-- a code and a name, and where; no line feed
abbrev pub line_of : SynError → List ℕ
line_of (Syntax byte) = codes "E01 Syntax at " ++ decimal byte
line_of (NumberTooLarge byte) = codes "E02 NumberTooLarge at " ++ decimal byte
line_of NotAscii = codes "E03 NotAscii"
line_of TooLong = codes "E04 TooLong"
line_of (LongRun byte) = codes "E05 LongRun at " ++ decimal byte
line_of OutOfMemory = codes "R2 OutOfMemory"
