use Rattle.std.proofs.Common.{take}
use Rattle.lucore_laws.specs.Search.{IsReleased}
use Rattle.lucore_laws.proofs.release.release.Given as goal

abbrev pub invariant-loop-reader : goal.invariant-loop-reader
invariant-loop-reader l = IsReleased (take l.reader-index l.readers) l.fn.missing.items l.missing.items l.fn.ready l.ready
