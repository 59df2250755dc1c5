use Rattle.std.proofs.Common.{◌≡◌, map, take}
use Rattle.lutree.specs.Tree.{type_view}
use Rattle.lucore_laws.specs.Layout.{enum_of}
use Rattle.lucore_build.proofs.types.types_in.Given as goal

abbrev pub invariant-loop-declared : goal.invariant-loop-declared
invariant-loop-declared l = l.all.items ≡ map enum_of (map type_view (take l.declared-index l.types))
