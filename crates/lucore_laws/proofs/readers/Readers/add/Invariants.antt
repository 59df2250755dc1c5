use Rattle.std.proofs.Common.{take}
use Rattle.lucore_laws.specs.Search.{IsAdded}
use Rattle.lucore_laws.proofs.readers.Readers.add.Given as goal

abbrev pub invariant-loop-read : goal.invariant-loop-read
invariant-loop-read l = IsAdded l.reader (take l.read-index l.reads) l.fn.self l.self
