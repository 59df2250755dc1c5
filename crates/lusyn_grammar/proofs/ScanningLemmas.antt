-- Runs of bytes.
use Rattle.std.proofs.Common.{◌≡◌, ◌≤◌, ◌<◌, ◌+◌, ◌-◌, ◌^◌, ℕ, zero, suc, List, [], ◌∷◌, take, drop, length, refl, ap, sym, ◌∙◌, arith, cond, Bool, true, false, Result, Ok, Err, nat_lt}
use Rattle.std.proofs.Math.Numerals.{one-add}
use Rattle.std.proofs.lemmas.Bool.{ltb-true}
use Rattle.lusyn_grammar.specs.Tokens.{number}
use Rattle.std.proofs.lemmas.List.{append-nil}
use Rattle.lusyn_grammar.specs.Gives.{Lexes, Takes}
use Rattle.lusyn_grammar.specs.declared.token.Lexeme.{Lexeme}
use Rattle.lusyn_grammar.specs.declared.error.LexError.{LexError}
use Rattle.lusyn_grammar.specs.declared.error.LexError.TheVariants as errors
use Rattle.std.specs.List.{prefix_len}
use Rattle.std.specs.Char.{is_ascii_digit}
use Rattle.std.specs.Str.{all_ascii_digits}
use Rattle.std.specs.Result.{OkIff}
use Rattle.std.specs.Str.Parse.{digits_value, ParsesUnsigned}
use Rattle.std.proofs.lemmas.Str.Parse.{parse_digits, numerals_by_value, tells_all_ascii_digits}
use Rattle.lusyn_grammar.specs.Lexing.{Placed}
use Rattle.lusyn_grammar.specs.Scanning.{numeral, token, too_large, lex, after, piece, Piece, Lexed, with_front, limited}

pub digits_front : (z : List ℕ) → all_ascii_digits (take (prefix_len is_ascii_digit z) z) ≡ true
digits_front [] = refl
digits_front (b ∷ z) = by_test (is_ascii_digit b) refl (digits_front z)
  where
    by_test : (t : Bool) → is_ascii_digit b ≡ t → all_ascii_digits (take (prefix_len is_ascii_digit z) z) ≡ true → all_ascii_digits (take (cond t (1 + prefix_len is_ascii_digit z) 0) (b ∷ z)) ≡ true
    by_test false e h = refl
    by_test true e h = rw (one-add, e) h

pub parsed : {E : Type 0} (ds : List ℕ) (r : Result ℕ E) → ParsesUnsigned 64 10 ds r → all_ascii_digits ds ≡ true → 0 < length ds → OkIff r ((0 < length ds) × (digits_value 10 ds < 2 ^ 64)) (digits_value 10 ds)
parsed ds r h p some = parse_digits (numerals_by_value _ tells_all_ascii_digits) 64 ds r h p

pub number_refused : {E : Type 0} (ds : List ℕ) (r : Result ℕ E) (e : E) → r ≡ Err e → ParsesUnsigned 64 10 ds r → all_ascii_digits ds ≡ true → 0 < length ds → too_large ≡ numeral ds
number_refused ds (Ok x) e k h p some = absurd cc
number_refused ds (Err x) e k h p some = by_test (nat_lt (digits_value 10 ds) (2 ^ 63)) refl
  where
    by_test : (b : Bool) → nat_lt (digits_value 10 ds) (2 ^ 63) ≡ b → too_large ≡ cond b (token (number (digits_value 10 ds))) too_large
    by_test true t = absurd (parsed ds (Err x) h p some (some, omega (arith, ltb-true (digits_value 10 ds) (2 ^ 63) t)))
    by_test false t = refl

-- the bytes of what was just taken are passed over
pub lex-skip : (k at : ℕ) (z : List ℕ) → k ≤ length z → lex k at z ≡ lex 0 (at + k) (drop k z)
unfolding lex
lex-skip zero at z h = ap (λ (n : ℕ). lex 0 n z) (omega arith)
lex-skip (suc k) at [] h = absurd (omega arith)
lex-skip (suc k) at (b ∷ z) h = lex-skip k (at + 1) z (omega arith) ∙ ap (λ (n : ℕ). lex 0 n (drop k z)) (omega arith)

pub lex-piece : (z : List ℕ) (at : ℕ) (p : Piece) (len : ℕ) → 0 < length z → (p, len) ≡ piece z → 1 ≤ len → len ≤ length z → lex 0 at z ≡ after at p (lex 0 (at + len) (drop len z))
unfolding lex
lex-piece [] at p len some e low high = absurd (omega arith)
lex-piece (b ∷ z) at p zero some e low high = absurd (omega arith)
lex-piece (b ∷ z) at p (suc len) some e low high =
    ap (λ (q : Piece × ℕ). after at q.0 (lex (q.1 - 1) (at + 1) z)) (sym e)
    ∙ ap (λ (n : ℕ). after at p (lex n (at + 1) z)) (omega arith)
    ∙ ap (after at p) (lex-skip len (at + 1) z (omega arith) ∙ ap (λ (n : ℕ). lex 0 n (drop len z)) (omega arith))

pub Lexes-from_takes : {X : Type 0} (view : X → List Lexeme) (e : LexError) (lexed before now : Lexed) → before ≡ lexed → Takes (Err e) before now → Lexes view (Err e) (limited lexed)
Lexes-from_takes view errors.OutOfMemory lexed before now h t = tt
Lexes-from_takes view errors.TooLong lexed before now h t = ap limited (sym h ∙ t)
Lexes-from_takes view errors.NotAscii lexed before now h t = ap limited (sym h ∙ t)
Lexes-from_takes view (errors.NoToken byte) lexed before now h t = ap limited (sym h ∙ t)
Lexes-from_takes view (errors.NumberTooLarge byte) lexed before now h t = ap limited (sym h ∙ t)
Lexes-from_takes view (errors.LongRun byte) lexed before now h t = ap limited (sym h ∙ t)

pub lex-end : (front : List Placed) (at : ℕ) (z : List ℕ) → length z ≡ 0 → with_front front (lex 0 at z) ≡ Ok front
unfolding lex
lex-end front at [] h = ap (λ (ts : List Placed). Ok ts) (append-nil front)
lex-end front at (b ∷ z) h = absurd (omega arith)
