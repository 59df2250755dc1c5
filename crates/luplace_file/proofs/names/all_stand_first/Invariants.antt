use Rattle.luplace_file.proofs.Differing.{StandFirst}
use Rattle.luplace_file.proofs.names.all_stand_first.Given as goal

-- each name before `i` stands there first
abbrev pub invariant-loop-i : goal.invariant-loop-i
invariant-loop-i l = StandFirst l.names l.i
