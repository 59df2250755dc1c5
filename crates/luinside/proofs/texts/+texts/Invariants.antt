use Rattle.std.proofs.Common.{take}
use Rattle.luinside.specs.Calls.{Passes}
use Rattle.lutree.specs.Tree.{views, trees_of}
use Rattle.lustat_rules.specs.Naming.{calls_in_all}
use Rattle.luinside.proofs.texts.+texts.Given as goal

abbrev pub invariant-pass_all-loop-a : goal.invariant-pass_all-loop-a
invariant-pass_all-loop-a l = Passes (calls_in_all (trees_of (views (take l.a-index l.arguments)))) l.initial.now l.now
