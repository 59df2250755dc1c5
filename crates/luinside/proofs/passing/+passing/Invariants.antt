use Rattle.std.proofs.Common.{take}
use Rattle.lutree.specs.Tree.{views, program_view}
use Rattle.luinside.specs.FlowsPassed.{PassesAll}
use Rattle.luinside.proofs.passing.+passing.Given as goal

abbrev pub invariant-pass_all-loop-number : goal.invariant-pass_all-loop-number
invariant-pass_all-loop-number l = PassesAll (program_view l.search.catalog.now) l.search.counts.now l.search.target (views (take l.number l.all)) l.fn.here l.initial.part.items l.part.items l.reached
