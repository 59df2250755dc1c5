use Rattle.std.proofs.Common.{◌≡◌, ◌≤◌, length}
use Rattle.std.specs.Prelude.{vec_capacity}
use Rattle.lusite_program.proofs.OutputLogs.{AreDrawn, AreLeft}
use Rattle.lusite_program.proofs.logs.drawn.Given as goal

-- the outputs so far are moved out, and the logs of the others are as they were
abbrev pub invariant-loop-k : goal.invariant-loop-k
invariant-loop-k l = record {
  len : length l.rows.items ≡ l.k;
  room : l.count ≤ vec_capacity l.rows;
  done : AreDrawn l.program l.fn.logs.items l.rows.items l.k;
  left : AreLeft l.program l.fn.logs.items l.logs.items l.k;
}
