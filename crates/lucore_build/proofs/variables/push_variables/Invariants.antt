use Rattle.std.proofs.Common.{◌≡◌, ◌++◌, take}
use Rattle.lutree.specs.Tree.{declarations_view}
use Rattle.lucore_laws.specs.Layout.{variables_as}
use Rattle.lucore_build.proofs.variables.push_variables.Given as goal

abbrev pub invariant-loop-declaration : goal.invariant-loop-declaration
invariant-loop-declaration l = l.variables.items ≡ l.initial.variables.items ++ variables_as l.role (declarations_view (take l.declaration-index l.declarations))
