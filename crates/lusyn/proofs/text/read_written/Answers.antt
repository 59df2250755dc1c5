use Rattle.std.proofs.Common.{Vec, Global, sym, rules}
use Rattle.std.proofs.lemmas.Result.{err_from_is_err_and}
use Rattle.lusyn_grammar.specs.declared.token.Lexeme.{Lexeme}
use Rattle.lusyn.proofs.Whole.{lexer-only, lexer-refuses, scanned, parser-only, parser-refuses, many-only, many-refused, found-refuses, few-spelled, few-only}
use Rattle.lutree.specs.Tree.{program_view}
use Rattle.lusyn.proofs.Limits.{not_large}
use Rattle.lusyn.proofs.Places.{places_of}
use Rattle.lusyn.proofs.text.read_written.Goals as goal

pub returns-in_err-tokens-clause-only : goal.returns-in_err-tokens-clause-only
returns-in_err-tokens-clause-only c =
    let p = err_from_is_err_and c.from_residual.result c.from_residual.ensures.1 in
    rw (p.1, p.2) (λ tree s few. lexer-only (λ (v : Vec Lexeme Global). v.items) c.args.text.now c.in_err-tokens.field-0.0 tree c.in_err-tokens.ensures.only s)

pub returns-in_err-tokens-clause-refuses : goal.returns-in_err-tokens-clause-refuses
returns-in_err-tokens-clause-refuses c =
    let p = err_from_is_err_and c.from_residual.result c.from_residual.ensures.1 in
    rw (p.1, p.2) (λ error h. lexer-refuses (λ (v : Vec Lexeme Global). v.items) c.args.text.now c.in_err-tokens.field-0.0 error c.in_err-tokens.ensures.only c.in_err-tokens.ensures.refuses h)

pub returns-in_err-program-clause-only : goal.returns-in_err-program-clause-only
returns-in_err-program-clause-only c =
    let p = err_from_is_err_and c.from_residual-in_err-program.result c.from_residual-in_err-program.ensures.1 in
    let s = scanned (λ (v : Vec Lexeme Global). v.items) c.in_ok-tokens.tokens c.args.text.now c.deref.result.now c.deref.ensures.value c.in_ok-tokens.ensures.tokens c.in_ok-tokens.ensures.only c.in_ok-tokens.ensures.refuses in
    rw (p.1, p.2) (λ tree h few. parser-only c.args.text.now c.deref.result.now c.in_err-program.field-0.0 tree s c.in_err-program.ensures.only h)

pub returns-in_err-program-clause-refuses : goal.returns-in_err-program-clause-refuses
returns-in_err-program-clause-refuses c =
    let p = err_from_is_err_and c.from_residual-in_err-program.result c.from_residual-in_err-program.ensures.1 in
    let s = scanned (λ (v : Vec Lexeme Global). v.items) c.in_ok-tokens.tokens c.args.text.now c.deref.result.now c.deref.ensures.value c.in_ok-tokens.ensures.tokens c.in_ok-tokens.ensures.only c.in_ok-tokens.ensures.refuses in
    rw (p.1, p.2) (λ error h. parser-refuses c.args.text.now c.deref.result.now c.in_err-program.field-0.0 error s c.in_err-program.ensures.only c.in_err-program.ensures.refuses h)

pub returns-in_err-tokens-clause-refused : goal.returns-in_err-tokens-clause-refused
returns-in_err-tokens-clause-refused c = search rules

pub returns-in_err-program-clause-refused : goal.returns-in_err-program-clause-refused
returns-in_err-program-clause-refused c = search rules

pub returns-then-not-is_small-clause-only : goal.returns-then-not-is_small-clause-only
returns-then-not-is_small-clause-only c = λ tree h few.
    let s = scanned (λ (v : Vec Lexeme Global). v.items) c.in_ok-tokens.tokens c.args.text.now c.deref.result.now c.deref.ensures.value c.in_ok-tokens.ensures.tokens c.in_ok-tokens.ensures.only c.in_ok-tokens.ensures.refuses in
    let many = c.is_small.ensures.large c.if-not-is_small.true in
    absurd (many-only c.args.text.now c.deref.result.now c.in_ok-program.program tree s c.in_ok-program.ensures.only many h few)

pub returns-then-not-is_small-clause-refused : goal.returns-then-not-is_small-clause-refused
returns-then-not-is_small-clause-refused c =
    let s = scanned (λ (v : Vec Lexeme Global). v.items) c.in_ok-tokens.tokens c.args.text.now c.deref.result.now c.deref.ensures.value c.in_ok-tokens.ensures.tokens c.in_ok-tokens.ensures.only c.in_ok-tokens.ensures.refuses in
    let many = c.is_small.ensures.large c.if-not-is_small.true in
    many-refused c.args.text.now c.deref.result.now c.in_ok-program.program s c.in_ok-program.ensures.spelled many

pub returns-then-not-is_small-clause-refuses : goal.returns-then-not-is_small-clause-refuses
returns-then-not-is_small-clause-refuses c = λ error h.
    let s = scanned (λ (v : Vec Lexeme Global). v.items) c.in_ok-tokens.tokens c.args.text.now c.deref.result.now c.deref.ensures.value c.in_ok-tokens.ensures.tokens c.in_ok-tokens.ensures.only c.in_ok-tokens.ensures.refuses in
    sym (found-refuses c.args.text.now c.deref.result.now c.in_ok-program.program error s c.in_ok-program.ensures.only c.in_ok-program.ensures.refuses h).0

pub returns-clause-spelled : goal.returns-clause-spelled
returns-clause-spelled c =
    let s = scanned (λ (v : Vec Lexeme Global). v.items) c.in_ok-tokens.tokens c.args.text.now c.deref.result.now c.deref.ensures.value c.in_ok-tokens.ensures.tokens c.in_ok-tokens.ensures.only c.in_ok-tokens.ensures.refuses in
    few-spelled c.args.text.now c.deref.result.now c.in_ok-program.program s c.in_ok-program.ensures.spelled

pub returns-clause-only : goal.returns-clause-only
returns-clause-only c = λ tree h few.
    let s = scanned (λ (v : Vec Lexeme Global). v.items) c.in_ok-tokens.tokens c.args.text.now c.deref.result.now c.deref.ensures.value c.in_ok-tokens.ensures.tokens c.in_ok-tokens.ensures.only c.in_ok-tokens.ensures.refuses in
    few-only c.args.text.now c.deref.result.now c.in_ok-program.program tree s c.in_ok-program.ensures.only h

pub returns-clause-refuses : goal.returns-clause-refuses
returns-clause-refuses c = λ error h.
    let s = scanned (λ (v : Vec Lexeme Global). v.items) c.in_ok-tokens.tokens c.args.text.now c.deref.result.now c.deref.ensures.value c.in_ok-tokens.ensures.tokens c.in_ok-tokens.ensures.only c.in_ok-tokens.ensures.refuses in
    let few = c.is_small.ensures.small c.if-not-is_small.false in
    let many = (found-refuses c.args.text.now c.deref.result.now c.in_ok-program.program error s c.in_ok-program.ensures.only c.in_ok-program.ensures.refuses h).1 in
    absurd (not_large (program_view c.in_ok-program.program) few many)

pub returns-clause-places : goal.returns-clause-places
returns-clause-places c =
    let s = scanned (λ (v : Vec Lexeme Global). v.items) c.in_ok-tokens.tokens c.args.text.now c.deref.result.now c.deref.ensures.value c.in_ok-tokens.ensures.tokens c.in_ok-tokens.ensures.only c.in_ok-tokens.ensures.refuses in
    places_of c.args.text.now c.deref.result.now c.in_ok-program.program s c.in_ok-program.ensures.places
