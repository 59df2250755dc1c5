use Rattle.std.proofs.Common.{◌≡◌, ◌++◌, take}
use Rattle.lutree.specs.Tree.{declarations_view}
use Rattle.lucore_build.specs.Nodes.{inputs_from}
use Rattle.lucore_build.proofs.open.push_inputs.Given as goal

abbrev pub invariant-loop-number : goal.invariant-loop-number
invariant-loop-number l = l.flows.items ≡ l.initial.flows.items ++ inputs_from 0 (declarations_view (take l.number l.inputs))
