-- All refusals that are told of a text that is no program: it is overwritten where it is refused, and judged
-- anew.
use Rattle.std.specs.Prelude.{◌≡◌, ◌⊎◌, ℕ, Bool, List, length, nat_eq}
use Rattle.std.specs.List.{prefix_len, All, Contains, IsDistinct}
use Rattle.std.specs.List.Sorted.{IsNonDecreasingBy}
use Rattle.std.specs.Str.{IsUtf8}
use Rattle.lusyn.specs.Refusals.{IsRefused}
use Rattle.lusyn.specs.declared.error.SynError.{SynError}
use Rattle.lusyn.specs.declared.error.SynError.TheVariants.{Syntax, NumberTooLarge, NotAscii, TooLong}
use Rattle.lusyn.specs.declared.error.SynError.TheVariants.{LongRun, OutOfMemory}
use Rattle.luexplain.specs.declared.refused.SyntaxRefusal.{SyntaxRefusal}
use Rattle.luexplain.specs.Explanations.{IsExplanation}
use Rattle.luexplain.specs.Syntax.{is_ascii, place_of_syntax}

-- this refusal is true of the bytes; of those that are no text it is that a byte is above 127
abbrev pub IsRefusedAs : List ℕ → SynError → Type 0
IsRefusedAs text e = (IsUtf8 text × IsRefused text e) ⊎ ((e ≡ NotAscii) × (¬ IsUtf8 text))

-- the byte at which it stands; 0 where it is of the whole
abbrev pub byte_of_syntax : List ℕ → SynError → ℕ
byte_of_syntax text (Syntax byte) = byte
byte_of_syntax text (NumberTooLarge byte) = byte
byte_of_syntax text (LongRun byte) = byte
byte_of_syntax text NotAscii = prefix_len is_ascii text
byte_of_syntax text TooLong = 0
byte_of_syntax text OutOfMemory = 0

-- A refusal of a text as it was read: one of the same length, in which bytes of the text are overwritten. It
-- stands at the same place of both.
pub record IsRefusedLike (path text read : List ℕ) (r : SyntaxRefusal) : Type 0 where
  pub long : length read ≡ length text
  pub refused : IsRefusedAs read r.error
  pub byte : r.byte ≡ byte_of_syntax text r.error
  pub explained : IsExplanation (place_of_syntax path text r.error) r.reason

-- a refusal of the text as it was read at some time
abbrev pub IsReadSo : List ℕ → List ℕ → SyntaxRefusal → Type 0
IsReadSo path text r = (read : List ℕ) × IsRefusedLike path text read r

-- two of them stand at one byte
abbrev pub at_one_byte : SyntaxRefusal → SyntaxRefusal → Bool
at_one_byte a b = nat_eq a.byte b.byte

-- Refusals that are told of a text: each of the text as it was read, that of the text itself among them, and no
-- two at one byte.
pub record AreRefusalsOf (path text : List ℕ) (found : List SyntaxRefusal) : Type 0 where
  pub own : (r : SyntaxRefusal) × Contains found r × IsRefusedLike path text text r
  pub each : All (IsReadSo path text) found
  pub distinct : IsDistinct at_one_byte found

-- the same in the order of their bytes
pub record AreRefusals (path text : List ℕ) (found : List SyntaxRefusal) : Type 0 where
  pub are : AreRefusalsOf path text found
  pub ordered : IsNonDecreasingBy (λ r. r.byte) found

-- there are none, since no refusal is true of the text
pub record AreNone (text : List ℕ) (found : List SyntaxRefusal) : Type 0 where
  pub none : length found ≡ 0
  pub accepted : (e : SynError) → ¬ IsRefusedAs text e

-- all that are told of a text
abbrev pub AreAllRefusals : List ℕ → List ℕ → List SyntaxRefusal → Type 0
AreAllRefusals path text found = AreNone text found ⊎ AreRefusals path text found
