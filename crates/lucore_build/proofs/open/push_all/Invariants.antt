use Rattle.std.proofs.Common.{◌≡◌, ◌++◌, take}
use Rattle.lucore_build.proofs.open.push_all.Given as goal

abbrev pub invariant-loop-flow : goal.invariant-loop-flow
invariant-loop-flow l = l.flows.items ≡ l.initial.flows.items ++ take l.flow-index l.more
