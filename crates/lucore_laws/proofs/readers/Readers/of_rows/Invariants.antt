use Rattle.lucore_laws.proofs.Reading.{AreFirstReaders}
use Rattle.lucore_laws.proofs.readers.Readers.of_rows.Given as goal

abbrev pub invariant-loop-place : goal.invariant-loop-place
invariant-loop-place l = AreFirstReaders l.rows l.readers l.place
