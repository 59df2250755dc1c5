use Rattle.std.proofs.Common.{Vec, Global}
use Rattle.lusyn_grammar.specs.declared.token.Lexeme.{Lexeme}
use Rattle.lusyn_grammar.proofs.Whole.{scanned-tokens, scanned-only, scanned-refused, scanned-refuses}
use Rattle.lusyn_grammar.proofs.lexer.lex.Goals as goal

pub returns-then-is_ascii-clause-tokens : goal.returns-then-is_ascii-clause-tokens
returns-then-is_ascii-clause-tokens c =
    scanned-tokens (λ (v : Vec Lexeme Global). v.items) c.scan.result c.args.text.now (c.if-text-gt-LONGEST_PROGRAM.false, c.if-is_ascii.ensures.cases) c.scan.ensures

pub returns-then-is_ascii-clause-only : goal.returns-then-is_ascii-clause-only
returns-then-is_ascii-clause-only c = λ ts lexed. scanned-only (λ (v : Vec Lexeme Global). v.items) c.scan.result c.args.text.now ts c.scan.ensures lexed

pub returns-then-is_ascii-clause-refused : goal.returns-then-is_ascii-clause-refused
returns-then-is_ascii-clause-refused c =
    scanned-refused (λ (v : Vec Lexeme Global). v.items) c.scan.result c.args.text.now (c.if-text-gt-LONGEST_PROGRAM.false, c.if-is_ascii.ensures.cases) c.scan.ensures

pub returns-then-is_ascii-clause-refuses : goal.returns-then-is_ascii-clause-refuses
returns-then-is_ascii-clause-refuses c = λ error refused.
    scanned-refuses (λ (v : Vec Lexeme Global). v.items) c.scan.result c.args.text.now error (c.if-text-gt-LONGEST_PROGRAM.false, c.if-is_ascii.ensures.cases) c.scan.ensures refused
