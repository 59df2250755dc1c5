-- What a text has to be, and which refusal is true of any other.
use Rattle.std.specs.Prelude.{◌≡◌, ◌≢◌, ◌<◌, ◌≤◌, ◌^◌, ℕ, List, ◌∷◌, ◌++◌, length, Option, Some}
use Rattle.std.specs.Str.{IsAscii, IsNotAscii}
use Rattle.lubase.specs.Limits.{longest_program}
use Rattle.lusyn_grammar.specs.Tokens.{Tok, number}
use Rattle.lusyn_grammar.specs.declared.error.LexError.{LexError}
use Rattle.lusyn_grammar.specs.declared.error.LexError.TheVariants as e
use Rattle.lusyn_grammar.specs.Lexing.{IsPiece, IsLongest, Pieces, Placed, bytes, CutsTo, HasTokens}
use Rattle.lusyn_grammar.specs.Runs.{HasShortRuns, IsTooMany}

-- at most 1,048,576 bytes, all of them below 128
abbrev pub IsPlain : List ℕ → Type 0
IsPlain text = (length text ≤ longest_program) × IsAscii text

-- a text that is accepted, and its tokens
abbrev pub IsLexed : List ℕ → List Placed → Type 0
IsLexed text ts = IsPlain text × HasTokens text ts × HasShortRuns ts

-- no piece begins this text
abbrev pub BeginsNoPiece : List ℕ → Type 0
BeginsNoPiece z = (w rest : List ℕ) (t : Option Tok) → IsPiece w t → w ++ rest ≢ z

-- behind pieces stands a byte that begins none
abbrev pub HasNoToken : List ℕ → ℕ → Type 0
HasNoToken text byte =
    (ps : Pieces) × (b : ℕ) × (rest : List ℕ) × CutsTo text ps (b ∷ rest) × (length (bytes ps) ≡ byte)
    × BeginsNoPiece (b ∷ rest)

-- behind pieces the longest one is a number above 9223372036854775807
abbrev pub HasLargeNumber : List ℕ → ℕ → Type 0
HasLargeNumber text byte =
    (ps : Pieces) × (w rest : List ℕ) × (n : ℕ) × CutsTo text ps (w ++ rest) × (length (bytes ps) ≡ byte)
    × IsPiece w (Some (number n)) × IsLongest w rest × (2 ^ 63 ≤ n)

-- the text has tokens, and this place is that of the first one too many in a run
abbrev pub HasLongRun : List ℕ → ℕ → Type 0
HasLongRun text byte = (ts : List Placed) × HasTokens text ts × IsTooMany ts byte

-- this refusal is true of the text, and none of those before it in order; out of memory is none of a text
abbrev pub IsRefused : List ℕ → LexError → Type 0
IsRefused text e.TooLong = longest_program < length text
IsRefused text e.NotAscii = (length text ≤ longest_program) × IsNotAscii text
IsRefused text (e.NoToken byte) = IsPlain text × HasNoToken text byte
IsRefused text (e.NumberTooLarge byte) = IsPlain text × HasLargeNumber text byte
IsRefused text (e.LongRun byte) = IsPlain text × HasLongRun text byte
IsRefused text e.OutOfMemory = ⊥
