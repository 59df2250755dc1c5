use Rattle.std.proofs.Common.{◌≡◌, take}
use Rattle.lusyn_grammar.specs.Tokens.{located}
use Rattle.luinside.specs.Signs.{signs_from}
use Rattle.luinside.proofs.place.signs_from.Given as goal

abbrev pub invariant-loop-lexeme : goal.invariant-loop-lexeme
invariant-loop-lexeme l = located l.found.items ≡ signs_from l.begin (located (take l.lexeme-index l.lexemes))
