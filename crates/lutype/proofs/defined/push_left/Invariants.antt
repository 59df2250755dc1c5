use Rattle.std.proofs.Common.{◌≡◌, ◌++◌, map, take}
use Rattle.lutype.proofs.defined.push_left.Given as goal

abbrev pub invariant-loop-x : goal.invariant-loop-x
invariant-loop-x l = map (λ n. n.now) l.names.items ≡ map (λ n. n.now) l.initial.names.items ++ take l.x-index l.left
