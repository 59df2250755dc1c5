-- Which tokens a text has. A text is cut into pieces, which are white space, comments and tokens, and each is
-- the longest that fits.
use Rattle.std.specs.Prelude.{◌≡◌, ◌≢◌, ◌+◌, ◌<◌, ◌≤◌, ◌^◌, ℕ, Bool, true, false, not, ◌&&◌, ◌||◌, ◌==◌, List}
use Rattle.std.specs.Prelude.{[], ◌∷◌, ◌++◌, length, Option, Some, None}
use Rattle.std.specs.Char.{is_ascii_digit, is_ascii_alphabetic, is_ascii_alphanumeric}
use Rattle.std.specs.List.{list_all}
use Rattle.std.specs.Str.Parse.{digits_value}
use Rattle.lusyn_grammar.specs.declared.token.Fixed.{Fixed}
use Rattle.lusyn_grammar.specs.Tokens.{Tok, identifier, number, fixed, text_of}

-- space, tab, line feed and carriage return
abbrev pub is_blank : ℕ → Bool
is_blank b = b == 32 || b == 9 || b == 10 || b == 13

-- all but the line feed, at which a comment ends
abbrev pub is_line : ℕ → Bool
is_line b = not (b == 10)

-- an identifier or a keyword begins with a letter or `_`, which is 95
abbrev pub is_letter : ℕ → Bool
is_letter b = is_ascii_alphabetic b || b == 95

-- and goes on with letters, digits and `_`
abbrev pub is_word : ℕ → Bool
is_word b = is_ascii_alphanumeric b || b == 95

-- these bytes are spelled as an identifier or a keyword is
abbrev pub is_word_text : List ℕ → Bool
is_word_text [] = false
is_word_text (b ∷ w) = is_letter b && list_all is_word w

-- one or more digits
abbrev pub is_digits : List ℕ → Bool
is_digits [] = false
is_digits (b ∷ w) = list_all is_ascii_digit (b ∷ w)

-- These bytes are one piece: this token, or none where they are white space or a comment. A keyword or a sign
-- is `spelled` as it is, a name is a word that none of these has, and a number has any size here. 45 is `-`.
pub data IsPiece (w : List ℕ) (t : Option Tok) : Type 0 where
  blank : (b : ℕ) → is_blank b ≡ true → w ≡ b ∷ [] → t ≡ None → IsPiece w t
  comment : (line : List ℕ) → list_all is_line line ≡ true → w ≡ 45 ∷ 45 ∷ line → t ≡ None → IsPiece w t
  spelled : (g : Fixed) → w ≡ text_of g → t ≡ Some (fixed g) → IsPiece w t
  name : is_word_text w ≡ true → ((g : Fixed) → w ≢ text_of g) → t ≡ Some (identifier w) → IsPiece w t
  digits : is_digits w ≡ true → t ≡ Some (number (digits_value 10 w)) → IsPiece w t

-- no piece that begins this text, of the piece and the rest, is longer
abbrev pub IsLongest : List ℕ → List ℕ → Type 0
IsLongest w rest = (v u : List ℕ) (t : Option Tok) → IsPiece v t → v ++ u ≡ w ++ rest → length v ≤ length w

-- a number is at most 9223372036854775807
abbrev pub IsInRange : Option Tok → Type 0
IsInRange None = Unit {0}
IsInRange (Some (identifier x)) = Unit {0}
IsInRange (Some (number n)) = n < 2 ^ 63
IsInRange (Some (fixed g)) = Unit {0}

-- pieces in order, each with its bytes and its token
abbrev pub Pieces : Type 0
Pieces = List (List ℕ × Option Tok)

-- all their bytes
abbrev pub bytes : Pieces → List ℕ
bytes [] = []
bytes (p ∷ ps) = p.0 ++ bytes ps

-- a token with its place, which is the number of bytes before it
abbrev pub Placed : Type 0
Placed = ℕ × Tok

abbrev pub before : ℕ → Option Tok → List Placed → List Placed
before at None ts = ts
before at (Some t) ts = (at, t) ∷ ts

-- all their tokens, where the first piece stands at this place
abbrev pub placed : ℕ → Pieces → List Placed
placed at [] = []
placed at (p ∷ ps) = before at p.1 (placed (at + length p.0) ps)

-- each is a piece, is the longest that fits there, and no number is too large; this rest follows them
abbrev pub AreCut : Pieces → List ℕ → Type 0
AreCut [] rest = Unit {0}
AreCut (p ∷ ps) rest = IsPiece p.0 p.1 × IsLongest p.0 (bytes ps ++ rest) × IsInRange p.1 × AreCut ps rest

-- the text is such pieces and this rest
abbrev pub CutsTo : List ℕ → Pieces → List ℕ → Type 0
CutsTo text ps rest = AreCut ps rest × (bytes ps ++ rest ≡ text)

-- the text is such pieces, to the last byte, and these are their tokens
abbrev pub HasTokens : List ℕ → List Placed → Type 0
HasTokens text ts = (ps : Pieces) × CutsTo text ps [] × (placed 0 ps ≡ ts)
