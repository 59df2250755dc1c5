use Rattle.std.proofs.Common.{◌≡◌, map, take}
use Rattle.std.specs.Prelude.{flat_map}
use Rattle.lutree.specs.Tree.{equation_view}
use Rattle.luinside.specs.Names.{equation_steps}
use Rattle.luinside.proofs.names.steps_of.Given as goal

abbrev pub invariant-loop-equation : goal.invariant-loop-equation
invariant-loop-equation l = l.steps.items ≡ flat_map equation_steps (map equation_view (take l.equation-index l.equation-items))
