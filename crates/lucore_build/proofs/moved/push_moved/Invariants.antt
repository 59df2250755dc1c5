use Rattle.std.proofs.Common.{◌≡◌, ◌++◌, map, take}
use Rattle.lucore_laws.specs.Layout.{moved}
use Rattle.lucore_build.specs.Operands.{places_of}
use Rattle.lucore_build.proofs.moved.push_moved.Given as goal

abbrev pub invariant-loop-flow : goal.invariant-loop-flow
invariant-loop-flow l = l.flows.items ≡ l.initial.flows.items ++ map (moved l.base l.call (places_of l.arguments)) (take l.flow-index l.list)
