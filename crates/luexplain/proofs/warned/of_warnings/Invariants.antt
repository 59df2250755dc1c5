use Rattle.std.proofs.Common.{take, string_bytes}
use Rattle.luexplain.specs.Warned.{AreWarned}
use Rattle.luexplain.proofs.warned.of_warnings.Given as goal

abbrev pub invariant-loop-j : goal.invariant-loop-j
invariant-loop-j l = AreWarned l.path l.text (take l.j l.warnings) (string_bytes l.lines)
