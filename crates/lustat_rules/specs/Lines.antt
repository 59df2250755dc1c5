-- The line that reports a broken rule.
use Rattle.std.specs.Prelude.{ℕ, List, ◌++◌, codes}
use Rattle.std.specs.Fmt.{decimal}
use Rattle.lustat_rules.specs.declared.error.StatError.{StatError}
use Rattle.lustat_rules.specs.declared.error.StatError.TheVariants.{DuplicateName, UnknownName, UnknownNode}
use Rattle.lustat_rules.specs.declared.error.StatError.TheVariants.{TypeMismatch, WrongArity, Undefined}
use Rattle.lustat_rules.specs.declared.error.StatError.TheVariants.{DefinedTwice, RecursiveNode, NoMain}
use Rattle.lustat_rules.specs.declared.error.StatError.TheVariants.{BadMerge, ClockMismatch, NotAClock}
use Rattle.lustat_rules.specs.declared.error.StatError.TheVariants.{ClockedParameter, HiddenClock, MaybeNil}
use Rattle.lustat_rules.specs.declared.error.StatError.TheVariants.{CurrentMayBeNil, OutOfMemory}

-- a code and a name, and where; no line feed
abbrev pub line_of : StatError → List ℕ
line_of (DuplicateName byte) = codes "E10 DuplicateName at " ++ decimal byte
line_of (UnknownName byte) = codes "E11 UnknownName at " ++ decimal byte
line_of (UnknownNode byte) = codes "E12 UnknownNode at " ++ decimal byte
line_of (TypeMismatch byte) = codes "E13 TypeMismatch at " ++ decimal byte
line_of (WrongArity byte) = codes "E14 WrongArity at " ++ decimal byte
line_of (Undefined byte) = codes "E15 Undefined at " ++ decimal byte
line_of (DefinedTwice byte) = codes "E16 DefinedTwice at " ++ decimal byte
line_of (RecursiveNode byte) = codes "E17 RecursiveNode at " ++ decimal byte
line_of NoMain = codes "E18 NoMain at 0"
line_of (BadMerge byte) = codes "E19 BadMerge at " ++ decimal byte
line_of (ClockMismatch byte) = codes "E20 ClockMismatch at " ++ decimal byte
line_of (NotAClock byte) = codes "E21 NotAClock at " ++ decimal byte
line_of (ClockedParameter byte) = codes "E22 ClockedParameter at " ++ decimal byte
line_of (HiddenClock byte) = codes "E23 HiddenClock at " ++ decimal byte
line_of (MaybeNil byte) = codes "E30 MaybeNil at " ++ decimal byte
line_of (CurrentMayBeNil byte) = codes "E31 CurrentMayBeNil at " ++ decimal byte
line_of OutOfMemory = codes "R2 OutOfMemory"
