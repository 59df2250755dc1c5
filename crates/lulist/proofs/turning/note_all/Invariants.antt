use Rattle.std.proofs.Common.{map}
use Rattle.lusite_program.specs.Logs.{log_view}
use Rattle.lulist.specs.Turns.{AreNotedTo}
use Rattle.lulist.proofs.turning.note_all.Given as goal

abbrev pub invariant-loop-j : goal.invariant-loop-j
invariant-loop-j l = record { noted : AreNotedTo l.noted l.shown (map log_view l.fn.logs.items) (map log_view l.logs.items) l.j }
