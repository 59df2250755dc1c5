use Rattle.std.proofs.Common.{◌≡◌, ◌++◌, Some, map, drop}
use Rattle.lutree.specs.Tree.{view}
use Rattle.lusyn_grammar.specs.Tokens.{tok}
use Rattle.luinside.specs.Signs.{expression_at, signs_before}
use Rattle.luinside.proofs.signs.push_before.Given as goal

abbrev pub invariant-loop-number : goal.invariant-loop-number
invariant-loop-number l =
    (map tok l.signs.items ++ signs_before (Some (view l.now)) (drop l.number-index l.part) ≡ map tok l.fn.signs.items ++ signs_before (Some (view l.fn.e)) l.part)
    × (expression_at (view l.now) (drop l.number-index l.part) ≡ expression_at (view l.fn.e) l.part)
