use Rattle.lusyn_grammar.specs.declared.token.Lexeme.{Lexeme}
use Rattle.std.proofs.Common.{Vec, Global, ◌≡◌, ◌+◌, ◌<◌, arith, rules, ap, sym, ◌∙◌, length, drop}
use Rattle.std.proofs.lemmas.Result.{err_from_is_err_and}
use Rattle.std.proofs.lemmas.Str.{IsAscii-drop, IsUtf8-from_ascii}
use Rattle.lusyn_grammar.specs.Tokens.{located}
use Rattle.lusyn_grammar.specs.Gives.{seen}
use Rattle.lusyn_grammar.specs.Scanning.{lex, with_front, after, limited}
use Rattle.lusyn_grammar.proofs.ScanningLemmas.{lex-piece, lex-end, Lexes-from_takes}
use Rattle.lusyn_grammar.proofs.Whole.{scanned-along}
use Rattle.lusyn_grammar.proofs.lexer.scan.Goals as goal
use Rattle.lusyn_grammar.proofs.lexer.scan.Goals.{After-take}

-- what was to come is this piece, and what comes after it
before : (c : After-take) → with_front (located c.loop-rest.found.tokens.items) (after c.loop-rest.at (seen c.piece_of-len.result.0) (lex 0 (c.loop-rest.at + c.piece_of-len.result.1) (drop c.piece_of-len.result.1 c.loop-rest.rest.now))) ≡ lex 0 0 c.args.text.now
before c =
    let some : 0 < length c.loop-rest.rest.now = search rules in
    ap (with_front (located c.loop-rest.found.tokens.items)) (sym (lex-piece c.loop-rest.rest.now c.loop-rest.at (seen c.piece_of-len.result.0) c.piece_of-len.result.1 some c.piece_of-len.ensures.piece c.piece_of-len.ensures.within.0 c.piece_of-len.ensures.within.1))
    ∙ c.loop-rest.invariant.same

pub returns-in_err-take : goal.returns-in_err-take
returns-in_err-take c =
    let p = err_from_is_err_and c.from_residual.result c.from_residual.ensures.1 in
    rw (p.1, p.2) (Lexes-from_takes (λ (v : Vec Lexeme Global). v.items) _ _ _ _ (before (goal.at.returns-in_err-take c).After-take) (c.in_err-take.ensures.takes _))

pub loop-rest-preserved : goal.loop-rest-preserved
loop-rest-preserved c = record {
  same = rw (c.split_at.ensures.back) (sym (c.in_ok-take.ensures.takes _) ∙ before (goal.at.loop-rest-preserved c).After-take);
  counted = c.in_ok-take.ensures.counts c.loop-rest.invariant.counted;
  ascii = rw (c.split_at.ensures.back) (IsAscii-drop c.loop-rest.rest.now c.piece_of-len.result.1 c.loop-rest.invariant.ascii);
  place = omega (arith, c.split_at.ensures.back_len, c.split_at.ensures.front_len, c.loop-rest.invariant.place, c.piece_of-len.ensures.within.1);
  is_text = IsUtf8-from_ascii _ (rw (c.split_at.ensures.back) (IsAscii-drop c.loop-rest.rest.now c.piece_of-len.result.1 c.loop-rest.invariant.ascii));
}

pub returns : goal.returns
returns c =
    let e : length c.loop-rest.rest.now ≡ 0 = search rules in
    scanned-along (λ (v : Vec Lexeme Global). v.items) c.limited.result _ _ (ap limited (sym (lex-end (located c.loop-rest.found.tokens.items) c.loop-rest.at c.loop-rest.rest.now e) ∙ c.loop-rest.invariant.same)) c.limited.ensures
