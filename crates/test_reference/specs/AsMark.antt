-- The marks of the code are those of the definitions.
use Rattle.std.specs.Prelude.{Option, Some, None}
use Rattle.luflow.specs.Streams as streams
use Rattle.test_reference.specs.declared.mark.Mark.{Mark}
use Rattle.test_reference.specs.declared.mark.Mark.TheVariants.{Known, Broken}

abbrev pub as_mark : Mark → streams.Mark
as_mark (Known status) = streams.Known status
as_mark Broken = streams.Broken

-- the mark of a cell, broken where there is no cell
abbrev pub mark_there : Option Mark → streams.Mark
mark_there None = streams.Broken
mark_there (Some m) = as_mark m
