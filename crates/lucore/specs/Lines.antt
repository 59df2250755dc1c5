-- The line that reports why a program has no flat program.
use Rattle.std.specs.Prelude.{ℕ, List, ◌++◌, codes}
use Rattle.lucore.specs.declared.error.CoreError.{CoreError}
use Rattle.lucore.specs.declared.error.CoreError.TheVariants.{TooLarge, Cycle, OutOfMemory}

-- a code and a name, and where; no line feed
abbrev pub line_of : CoreError → List ℕ
line_of TooLarge = codes "E50 TooLarge"
line_of (Cycle variable) = codes "E40 Cycle " ++ variable
line_of OutOfMemory = codes "R2 OutOfMemory"
