use Rattle.std.proofs.Common.{◌≡◌, take}
use Rattle.lucore_laws.proofs.Reading.{lists_of}
use Rattle.lucore_laws.proofs.cycle.graph_of.Given as goal

abbrev pub invariant-loop-reads : goal.invariant-loop-reads
invariant-loop-reads l = lists_of l.graph.items ≡ take l.reads-index l.rows
