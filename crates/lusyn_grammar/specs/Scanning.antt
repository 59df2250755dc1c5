-- Finding the tokens of a text from left to right.
use Rattle.std.specs.Prelude.{ℕ, zero, suc, ◌+◌, ◌-◌, ◌^◌, Bool, ◌&&◌, ◌==◌, nat_lt, List, [], ◌∷◌, ◌++◌}
use Rattle.std.specs.Prelude.{take, Option, Some, None, Result, Ok, Err, if◌then◌else◌, slice_index}
use Rattle.std.specs.Char.{is_ascii_digit}
use Rattle.std.specs.List.{prefix_len}
use Rattle.std.specs.Str.Parse.{digits_value}
use Rattle.lubase.specs.Limits.{longest_run}
use Rattle.lusyn_grammar.specs.declared.error.LexError.{LexError}
use Rattle.lusyn_grammar.specs.declared.error.LexError.TheVariants.{NoToken, NumberTooLarge, LongRun}
use Rattle.lusyn_grammar.specs.declared.token.Fixed.{Fixed}
use Rattle.lusyn_grammar.specs.declared.token.Fixed.TheVariants as f
use Rattle.lusyn_grammar.specs.Tokens.{Tok, identifier, number, fixed, keyword}
use Rattle.lusyn_grammar.specs.Lexing.{is_blank, is_line, is_letter, is_word, Placed}
use Rattle.lusyn_grammar.specs.Runs.{is_of_run}

-- a comment begins with `--`
abbrev pub is_comment : ℕ → ℕ → Bool
is_comment first second = first == 45 && second == 45

-- the keyword that is spelled so, or else an identifier
abbrev pub word_or : List ℕ → Option Fixed → Tok
word_or x None = identifier x
word_or x (Some g) = fixed g

abbrev pub word : List ℕ → Tok
word x = word_or x (keyword x)

-- the longest sign that this byte and the next begin, and its length
abbrev pub sign : ℕ → ℕ → Option (Fixed × ℕ)
sign b next =
    if b == 40 then Some (f.Open, 1)
    else if b == 41 then Some (f.Close, 1)
    else if b == 123 then Some (f.OpenBrace, 1)
    else if b == 125 then Some (f.CloseBrace, 1)
    else if b == 44 then Some (f.Comma, 1)
    else if b == 59 then Some (f.Semicolon, 1)
    else if b == 58 then Some (f.Colon, 1)
    else if b == 43 then Some (f.Plus, 1)
    else if b == 42 then Some (f.Star, 1)
    else if b == 45 then (if next == 62 then Some (f.Arrow, 2) else Some (f.Minus, 1))
    else if b == 61 then (if next == 62 then Some (f.Implies, 2) else Some (f.Equal, 1))
    else if b == 60 then (if next == 61 then Some (f.LessEqual, 2) else if next == 62 then Some (f.Unequal, 2)
    else Some (f.Less, 1))
    else if b == 62 then (if next == 61 then Some (f.GreaterEqual, 2) else Some (f.Greater, 1))
    else None

-- what begins a text
pub data Piece : Type 0 where
  blank : Piece
  token : Tok → Piece
  too_large : Piece
  illegal : Piece

abbrev pub signed : Option (Fixed × ℕ) → Piece × ℕ
signed None = (illegal, 1)
signed (Some s) = (token (fixed s.0), s.1)

-- a number of 9223372036854775808 or more is none of the language
abbrev pub numeral : List ℕ → Piece
numeral ds = if nat_lt (digits_value 10 ds) (2 ^ 63) then token (number (digits_value 10 ds)) else too_large

-- what begins a text that isn't empty, and its length
unfoldable pub piece : List ℕ → Piece × ℕ
piece z =
    if is_blank (slice_index z 0) then (blank, 1)
    else if is_comment (slice_index z 0) (slice_index z 1) then (blank, prefix_len is_line z)
    else if is_letter (slice_index z 0)
    then (token (word (take (prefix_len is_word z) z)), prefix_len is_word z)
    else if is_ascii_digit (slice_index z 0)
    then (numeral (take (prefix_len is_ascii_digit z) z), prefix_len is_ascii_digit z)
    else signed (sign (slice_index z 0) (slice_index z 1))

-- the tokens with their places, or why there are none
abbrev pub Lexed : Type 0
Lexed = Result (List Placed) LexError

abbrev pub with_front : List Placed → Lexed → Lexed
with_front front (Err e) = Err e
with_front front (Ok ts) = Ok (front ++ ts)

abbrev pub after : ℕ → Piece → Lexed → Lexed
after at blank rest = rest
after at (token t) (Ok ts) = Ok ((at, t) ∷ ts)
after at (token t) (Err e) = Err e
after at too_large rest = Err (NumberTooLarge at)
after at illegal rest = Err (NoToken at)

-- The tokens from a place on, each with its place; the first number counts the bytes that are left of the
-- last one.
unfoldable pub lex : ℕ → ℕ → List ℕ → Lexed
lex left at [] = Ok []
lex (suc left) at (b ∷ z) = lex left (at + 1) z
lex zero at (b ∷ z) = let p = piece (b ∷ z) in let rest = lex (p.1 - 1) (at + 1) z in after at p.0 rest

-- how many tokens of the last run there are, and the place of the first one too many, if there is one
abbrev pub Count : Type 0
Count = ℕ × Option ℕ

abbrev pub first : Option ℕ → ℕ → Option ℕ
first None at = Some at
first (Some place) at = Some place

-- one token more
abbrev pub counted : Count → Placed → Count
counted c x = if is_of_run x.1 then (if nat_lt c.0 longest_run then (c.0 + 1, c.1) else (c.0, first c.1 x.0))
    else (0, c.1)

abbrev pub count : Count → List Placed → Count
count c [] = c
count c (x ∷ xs) = count (counted c x) xs

-- tokens with a long run are refused
abbrev pub short : Option ℕ → Lexed → Lexed
short None (Ok ts) = Ok ts
short (Some at) (Ok ts) = Err (LongRun at)
short place (Err e) = Err e

-- the tokens of a text, or why there are none
abbrev pub limited : Lexed → Lexed
limited (Ok ts) = short (count (0, None) ts).1 (Ok ts)
limited (Err e) = Err e
