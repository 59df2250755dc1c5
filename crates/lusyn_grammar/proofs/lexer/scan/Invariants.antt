use Rattle.std.proofs.Common.{◌≡◌, ◌+◌, length}
use Rattle.std.specs.Str.{IsAscii}
use denote.Shadow.{shadow}
use denote.Text.{Utf8}
use Rattle.lusyn_grammar.specs.Tokens.{located}
use Rattle.lusyn_grammar.specs.Gives.{IsCounted}
use Rattle.lusyn_grammar.specs.Scanning.{lex, with_front}
use Rattle.lusyn_grammar.proofs.lexer.scan.Given as goal

abbrev pub invariant-loop-rest : goal.invariant-loop-rest
invariant-loop-rest l = record {
  same : with_front (located l.found.tokens.items) (lex 0 l.at l.rest) ≡ lex 0 0 l.fn.text;
  counted : IsCounted l.found;
  ascii : IsAscii l.rest;
  place : l.at + length l.rest ≡ length l.fn.text;
  is_text : shadow (Utf8 l.rest);
}

abbrev pub decreases-loop-rest : goal.decreases-loop-rest
decreases-loop-rest l = length l.rest
