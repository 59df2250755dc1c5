-- What the lexer's functions answer, against the plain data that they stand for.
use Rattle.std.specs.Prelude.{◌≡◌, List, None, Result, Ok, Err}
use Rattle.lusyn_grammar.specs.declared.token.Lexeme.{Lexeme}
use Rattle.lusyn_grammar.specs.Tokens.{tok, located}
use Rattle.lusyn_grammar.specs.declared.error.LexError.{LexError}
use Rattle.lusyn_grammar.specs.declared.error.LexError.TheVariants as e
use Rattle.lusyn_grammar.specs.declared.lexer.Count.{Count}
use Rattle.lusyn_grammar.specs.declared.lexer.Found.{Found}
use Rattle.lusyn_grammar.specs.declared.lexer.Piece.{Piece}
use Rattle.lusyn_grammar.specs.declared.lexer.Piece.TheVariants as p
use Rattle.lusyn_grammar.specs.Scanning.{Lexed}
use Rattle.lusyn_grammar.specs.Scanning as scanning

abbrev pub seen : Piece → scanning.Piece
seen p.Blank = scanning.blank
seen (p.Token t) = scanning.token (tok t)
seen p.TooLarge = scanning.too_large
seen p.Illegal = scanning.illegal

abbrev pub count_view : Count → scanning.Count
count_view c = (c.in_run, c.too_many)

-- what was counted are the tokens that were found
abbrev pub IsCounted : Found → Type 0
IsCounted found = count_view found.count ≡ scanning.count (0, None) (located found.tokens.items)

-- what was answered, seen by `view`, is this, unless memory ran out
abbrev pub Lexes : {X : Type 0} → (X → List Lexeme) → Result X LexError → Lexed → Type 0
Lexes view (Ok x) lexed = lexed ≡ Ok (located (view x))
Lexes view (Err e.OutOfMemory) lexed = Unit {0}
Lexes view (Err e) lexed = lexed ≡ Err e

-- a step that ends nothing goes from what was to come to what is still to come
abbrev pub Takes : Result (Unit {0}) LexError → Lexed → Lexed → Type 0
Takes (Ok x) before now = before ≡ now
Takes (Err e.OutOfMemory) before now = Unit {0}
Takes (Err e) before now = before ≡ Err e
