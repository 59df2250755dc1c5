use Rattle.std.proofs.Common.{◌≡◌, map, take}
use Rattle.lusyn_grammar.specs.Tokens.{tok, toks}
use Rattle.luinside.proofs.place.begin_with.Given as goal

abbrev pub invariant-loop-i : goal.invariant-loop-i
invariant-loop-i l = take l.i (toks l.lexemes) ≡ map tok (take l.i l.signs)
