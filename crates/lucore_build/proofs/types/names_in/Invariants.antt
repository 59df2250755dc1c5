use Rattle.std.proofs.Common.{◌≡◌, map, take}
use Rattle.lutree.specs.declared.program.DeclaredName.{DeclaredName}
use Rattle.lucore_build.proofs.types.names_in.Given as goal

abbrev pub invariant-loop-declared : goal.invariant-loop-declared
invariant-loop-declared l = l.copies.items ≡ map (λ (x : DeclaredName). x.name) (take l.declared-index l.names)
