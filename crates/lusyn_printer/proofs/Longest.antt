-- Which pieces are the longest that fit before what follows them.
use Rattle.std.proofs.Common.{◌≡◌, ℕ, Bool, true, false, List, [], ◌∷◌, ◌++◌, length, refl, ap, sym, subst, ◌∙◌, arith}
use Rattle.std.proofs.lemmas.Bool.{and_parts}
use Rattle.std.specs.Char.{is_ascii_digit}
use Rattle.std.specs.List.{prefix_len, list_all}
use Rattle.lusyn_grammar.specs.declared.token.Fixed.{Fixed}
use Rattle.lusyn_grammar.specs.declared.token.Fixed.TheVariants as f
use Rattle.lusyn_grammar.specs.Tokens.{text_of}
use Rattle.lusyn_grammar.specs.Lexing.{is_letter, is_word, is_word_text, is_digits, IsLongest}
use Rattle.lusyn_grammar.specs.Scanning.{Piece, piece}
use Rattle.lusyn_grammar.proofs.TextPieces.{Bounds, piece-bounds, piece-word, piece-digits, letter-is_word}

-- a byte that goes on with no word, number or sign
pub data End : Type 0 where
  space : End
  feed : End
  opening : End
  closing : End
  comma : End
  semicolon : End
  colon : End

abbrev pub code : End → ℕ
code space = 32
code feed = 10
code opening = 40
code closing = 41
code comma = 44
code semicolon = 59
code colon = 58

-- one such byte comes first
abbrev pub Ends : List ℕ → Type 0
Ends z = (e : End) × (u : List ℕ) × (z ≡ code e ∷ u)

-- scanning finds no more than this
pub longest-from : (w rest : List ℕ) → (piece (w ++ rest)).1 ≡ length w → IsLongest w rest
longest-from w rest e = λ v u t is same.
    let h : Bounds v u t = piece-bounds v u t is in
    let k : (piece (v ++ u)).1 ≡ (piece (w ++ rest)).1 = ap (λ (x : List ℕ). (piece x).1) same in
    omega (arith, h.0, k, e)

pub longest-along : (w z rest : List ℕ) → z ≡ rest → IsLongest w rest → IsLongest w z
longest-along w z rest e h = let P : List ℕ → Type 0 = IsLongest w in subst P (sym e) h

-- ---- white space, and signs that nothing goes on with

pub space-longest : (rest : List ℕ) → IsLongest (32 ∷ []) rest
unfolding piece
space-longest rest = longest-from (32 ∷ []) rest refl

pub feed-longest : (rest : List ℕ) → IsLongest (10 ∷ []) rest
unfolding piece
feed-longest rest = longest-from (10 ∷ []) rest refl

-- no byte goes on with it
abbrev pub IsMark : Fixed → Type 0
IsMark f.Open = Unit {0}
IsMark f.Close = Unit {0}
IsMark f.Comma = Unit {0}
IsMark f.Semicolon = Unit {0}
IsMark f.Colon = Unit {0}
IsMark _ = ⊥

pub mark-longest : (g : Fixed) (rest : List ℕ) → IsMark g → IsLongest (text_of g) rest
unfolding piece
mark-longest f.Open rest h = longest-from (text_of f.Open) rest refl
mark-longest f.Close rest h = longest-from (text_of f.Close) rest refl
mark-longest f.Comma rest h = longest-from (text_of f.Comma) rest refl
mark-longest f.Semicolon rest h = longest-from (text_of f.Semicolon) rest refl
mark-longest f.Colon rest h = longest-from (text_of f.Colon) rest refl
mark-longest _ rest h = absurd h

-- ---- every keyword and sign before such a byte

at_end : (P : End → Type 0) → P space → P feed → P opening → P closing → P comma → P semicolon → P colon → (e : End) → P e
at_end P a b c d e g h space = a
at_end P a b c d e g h feed = b
at_end P a b c d e g h opening = c
at_end P a b c d e g h closing = d
at_end P a b c d e g h comma = e
at_end P a b c d e g h semicolon = g
at_end P a b c d e g h colon = h

fixed-alone : (g : Fixed) (e : End) (u : List ℕ) → (piece (text_of g ++ code e ∷ u)).1 ≡ length (text_of g)
unfolding piece
fixed-alone f.Node e u = at_end (λ d. (piece (text_of f.Node ++ code d ∷ u)).1 ≡ length (text_of f.Node)) refl refl refl refl refl refl refl e
fixed-alone g e u = at_end (λ d. (piece (text_of g ++ code d ∷ u)).1 ≡ length (text_of g)) refl refl refl refl refl refl refl e

pub fixed-longest : (g : Fixed) (rest : List ℕ) → Ends rest → IsLongest (text_of g) rest
fixed-longest g rest (e, u, same) = longest-along (text_of g) rest (code e ∷ u) same (longest-from (text_of g) (code e ∷ u) (fixed-alone g e u))

-- ---- names and numbers before such a byte

no_word : (e : End) → is_word (code e) ≡ false
no_word space = refl
no_word _ = refl

no_digit : (e : End) → is_ascii_digit (code e) ≡ false
no_digit space = refl
no_digit _ = refl

-- a run of bytes that pass a test ends where one doesn't
run-length : (p : ℕ → Bool) (w : List ℕ) (b : ℕ) (u : List ℕ) → list_all p w ≡ true → p b ≡ false → prefix_len p (w ++ b ∷ u) ≡ length w
run-length p [] b u h off = rw off refl
run-length p (c ∷ w) b u h off =
    let k = and_parts (p c) (list_all p w) h in
    let first : p c ≡ true = k.0 in
    let more = run-length p w b u k.1 off in
    rw first (omega (arith, more))

name-alone : (w : List ℕ) (e : End) (u : List ℕ) → is_word_text w ≡ true → (piece (w ++ code e ∷ u)).1 ≡ length w
name-alone [] e u h = absurd cc
name-alone (c ∷ w) e u h =
    let k = and_parts (is_letter c) (list_all is_word w) h in
    let all : list_all is_word (c ∷ w) ≡ true = rw (letter-is_word c k.0) k.1 in
    ap (λ (x : Piece × ℕ). x.1) (piece-word c (w ++ code e ∷ u) k.0) ∙ run-length is_word (c ∷ w) (code e) u all (no_word e)

pub name-longest : (w rest : List ℕ) → is_word_text w ≡ true → Ends rest → IsLongest w rest
name-longest w rest h (e, u, same) = longest-along w rest (code e ∷ u) same (longest-from w (code e ∷ u) (name-alone w e u h))

digits-alone : (w : List ℕ) (e : End) (u : List ℕ) → is_digits w ≡ true → (piece (w ++ code e ∷ u)).1 ≡ length w
digits-alone [] e u h = absurd cc
digits-alone (c ∷ w) e u h =
    let k = and_parts (is_ascii_digit c) (list_all is_ascii_digit w) h in
    ap (λ (x : Piece × ℕ). x.1) (piece-digits c (w ++ code e ∷ u) k.0) ∙ run-length is_ascii_digit (c ∷ w) (code e) u h (no_digit e)

pub digits-longest : (w rest : List ℕ) → is_digits w ≡ true → Ends rest → IsLongest w rest
digits-longest w rest h (e, u, same) = longest-along w rest (code e ∷ u) same (longest-from w (code e ∷ u) (digits-alone w e u h))
