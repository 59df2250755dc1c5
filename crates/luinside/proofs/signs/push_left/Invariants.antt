use Rattle.std.proofs.Common.{◌≡◌, ◌++◌, map, take}
use Rattle.lusyn_grammar.specs.Tokens.{identifier, tok}
use Rattle.luinside.proofs.signs.push_left.Given as goal

abbrev pub invariant-loop-x : goal.invariant-loop-x
invariant-loop-x l = map tok l.signs.items ≡ map tok l.fn.signs.items ++ map identifier (take l.x-index l.left)
