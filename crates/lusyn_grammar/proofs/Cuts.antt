-- Scanning finds the pieces that a text has.
use Rattle.std.proofs.Common.{◌≡◌, ◌≤◌, ◌<◌, ◌+◌, ◌^◌, ◌⊎◌, ℕ, zero, suc, true, List, [], ◌∷◌, ◌++◌, length, take, drop, Option, Some, Ok, Err, refl, ap, sym, subst, ◌∙◌, inl, inr, arith}
use Rattle.std.proofs.Math.Seq.{drop-append_seam}
use Rattle.std.proofs.lemmas.List.{take-append-drop, length-append, length-drop, length-take-le, append_assoc, append-nil}
use Rattle.lusyn_grammar.specs.declared.token.Fixed.{Fixed}
use Rattle.lusyn_grammar.specs.declared.token.Fixed.TheVariants as f
use Rattle.lusyn_grammar.specs.Tokens.{Tok, number, text_of}
use Rattle.lusyn_grammar.specs.declared.error.LexError.TheVariants as errors
use Rattle.lusyn_grammar.specs.Lexing as pieces
use Rattle.lusyn_grammar.specs.Lexing.{is_word_text, is_digits, IsPiece, IsLongest, IsInRange, Pieces, Placed, bytes, before, placed, AreCut, CutsTo, HasTokens}
use Rattle.lusyn_grammar.specs.Refusals.{BeginsNoPiece, HasNoToken, HasLargeNumber}
use Rattle.lusyn_grammar.specs.Scanning.{Piece, blank, token, too_large, illegal, piece, Lexed, lex, after, with_front}
use Rattle.lusyn_grammar.proofs.TextPieces.{Shows, Bounds, piece-bounds, Found, piece-found}
use Rattle.lusyn_grammar.proofs.ScanningLemmas.{lex-piece}

-- a piece has a byte
text_of-some : (g : Fixed) → 1 ≤ length (text_of g)
text_of-some f.Node = omega arith
text_of-some _ = omega arith

word-some : (w : List ℕ) → is_word_text w ≡ true → 1 ≤ length w
word-some [] h = absurd cc
word-some (b ∷ w) h = omega arith

digits-some : (w : List ℕ) → is_digits w ≡ true → 1 ≤ length w
digits-some [] h = absurd cc
digits-some (b ∷ w) h = omega arith

piece-some : (w : List ℕ) (t : Option Tok) → IsPiece w t → 1 ≤ length w
piece-some w t (pieces.blank b h e k) = omega (arith, ap length e)
piece-some w t (pieces.comment line h e k) = omega (arith, ap length e)
piece-some w t (pieces.spelled g e k) = omega (arith, ap length e, text_of-some g)
piece-some w t (pieces.name h free k) = word-some w h
piece-some w t (pieces.digits h k) = digits-some w h

-- scanning finds a longest piece that stands at the head
finds : (b : ℕ) (z w rest : List ℕ) (t : Option Tok) → IsPiece w t → IsLongest w rest → w ++ rest ≡ b ∷ z → (length w ≡ (piece (b ∷ z)).1) × Shows (piece (b ∷ z)).0 t
finds b z w rest t is longest e =
    let P : List ℕ → Type 0 = λ x. (length w ≤ (piece x).1) × (length w ≡ (piece x).1 → Shows (piece x).0 t) in
    let h : (length w ≤ (piece (b ∷ z)).1) × (length w ≡ (piece (b ∷ z)).1 → Shows (piece (b ∷ z)).0 t) = subst P e (piece-bounds w rest t is) in
    let k : Found (b ∷ z) (piece (b ∷ z)) = piece-found b z in
    let some : 1 ≤ length w = piece-some w t is in
    let len = (piece (b ∷ z)).1 in
    let high : len ≤ length w =
    elim k.is [
      | inl none ↦ omega (arith, none.1)
      | inr shown ↦
          let size : length (take len (b ∷ z)) ≡ len = length-take-le len (b ∷ z) k.within in
          let bound = longest (take len (b ∷ z)) (drop len (b ∷ z)) shown.0 shown.1 (take-append-drop len (b ∷ z) ∙ sym e) in
          omega (arith, bound)
    ] in
    let same : length w ≡ len = omega (arith, h.0) in
    (same, h.1 same)

-- what scanning finds at the head is the longest piece there
head_longest : (b : ℕ) (z : List ℕ) → IsLongest (take (piece (b ∷ z)).1 (b ∷ z)) (drop (piece (b ∷ z)).1 (b ∷ z))
head_longest b z = λ v u t is e.
    let whole : v ++ u ≡ b ∷ z = e ∙ take-append-drop (piece (b ∷ z)).1 (b ∷ z) in
    let h : Bounds v u t = piece-bounds v u t is in
    let same : (piece (v ++ u)).1 ≡ (piece (b ∷ z)).1 = ap (λ (x : List ℕ). (piece x).1) whole in
    let k : Found (b ∷ z) (piece (b ∷ z)) = piece-found b z in
    let size : length (take (piece (b ∷ z)).1 (b ∷ z)) ≡ (piece (b ∷ z)).1 = length-take-le (piece (b ∷ z)).1 (b ∷ z) k.within in
    omega (arith, h.0)

-- ---- from pieces to what scanning gives

with_none : (l : Lexed) → l ≡ with_front [] l
with_none (Ok ts) = refl
with_none (Err e) = refl

add_token : (at : ℕ) (x : Tok) (ls : List Placed) (l : Lexed) → after at (token x) (with_front ls l) ≡ with_front ((at, x) ∷ ls) l
add_token at x ls (Ok ts) = refl
add_token at x ls (Err e) = refl

-- a piece adds its token to those after it
after-with_front : (at : ℕ) (p : Piece) (t : Option Tok) (ls : List Placed) (l : Lexed) → Shows p t → IsInRange t → after at p (with_front ls l) ≡ with_front (before at t ls) l
after-with_front at blank t ls l s range = ap (λ (x : Option Tok). with_front (before at x ls) l) (sym s)
after-with_front at (token x) t ls l s range = add_token at x ls l ∙ ap (λ (y : Option Tok). with_front (before at y ls) l) (sym s.0)
after-with_front at too_large t ls l s range =
    let P : Option Tok → Type 0 = IsInRange in
    let low : s.0 < 2 ^ 63 = subst P s.1 range in
    absurd (omega (arith, s.2))
after-with_front at illegal t ls l s range = absurd s

-- scanning takes a longest piece at once
abbrev TakesPiece : ℕ → List ℕ → List ℕ → List ℕ → Option Tok → Type 0
TakesPiece at z w rest t = (p : Piece) × Shows p t × (lex 0 at z ≡ after at p (lex 0 (at + length w) rest))

takes_piece : (at : ℕ) (z w rest : List ℕ) (t : Option Tok) → IsPiece w t → IsLongest w rest → w ++ rest ≡ z → TakesPiece at z w rest t
takes_piece at [] w rest t is longest e =
    let some : 1 ≤ length w = piece-some w t is in
    let size : length (w ++ rest) ≡ 0 = ap length e in
    absurd (omega (arith, length-append w rest))
takes_piece at (b ∷ z) w rest t is longest e =
    let h = finds b z w rest t is longest e in
    let k : Found (b ∷ z) (piece (b ∷ z)) = piece-found b z in
    let len = (piece (b ∷ z)).1 in
    let p = (piece (b ∷ z)).0 in
    let some : 1 ≤ len = k.some in
    let left : drop len (b ∷ z) ≡ rest = ap (λ (x : List ℕ). drop len x) (sym e) ∙ ap (λ (n : ℕ). drop n (w ++ rest)) (sym h.0) ∙ drop-append_seam w rest in (
      p,
      h.1,
      lex-piece (b ∷ z) at p len (omega arith) refl k.some k.within
          ∙ ap (λ (x : List ℕ). after at p (lex 0 (at + len) x)) left
          ∙ ap (λ (n : ℕ). after at p (lex 0 (at + n) rest)) (sym h.0),
    )

pub cut-scans : (ps : Pieces) (at : ℕ) (rest : List ℕ) → AreCut ps rest → lex 0 at (bytes ps ++ rest) ≡ with_front (placed at ps) (lex 0 (at + length (bytes ps)) rest)
cut-scans [] at rest cut = ap (λ (n : ℕ). lex 0 n rest) (omega arith) ∙ with_none (lex 0 (at + 0) rest)
cut-scans ((w, t) ∷ ps) at rest cut =
    let k = takes_piece at (w ++ (bytes ps ++ rest)) w (bytes ps ++ rest) t cut.0 cut.1 refl in
    let places : at + length w + length (bytes ps) ≡ at + length (w ++ bytes ps) = omega (arith, length-append w (bytes ps)) in
    ap (lex 0 at) (append_assoc w (bytes ps) rest)
    ∙ k.2
    ∙ ap (after at k.0) (cut-scans ps (at + length w) rest cut.3)
    ∙ after-with_front at k.0 t (placed (at + length w) ps) (lex 0 (at + length w + length (bytes ps)) rest) k.1 cut.2
    ∙ ap (λ (n : ℕ). with_front (before at t (placed (at + length w) ps)) (lex 0 n rest)) places

lex-nothing : (at : ℕ) → lex 0 at [] ≡ Ok []
unfolding lex
lex-nothing at = refl

pub has-lex : (text : List ℕ) (ts : List Placed) → HasTokens text ts → lex 0 0 text ≡ Ok ts
has-lex text ts (ps, (cut, same), found) =
    ap (lex 0 0) (sym same)
    ∙ cut-scans ps 0 [] cut
    ∙ ap (with_front (placed 0 ps)) (lex-nothing (0 + length (bytes ps)))
    ∙ ap (λ (xs : List Placed). Ok xs) (append-nil (placed 0 ps) ∙ found)

-- no piece at the head
lex-no_piece : (at b : ℕ) (z : List ℕ) → BeginsNoPiece (b ∷ z) → lex 0 at (b ∷ z) ≡ Err (errors.NoToken at)
lex-no_piece at b z none =
    let k : Found (b ∷ z) (piece (b ∷ z)) = piece-found b z in
    let len = (piece (b ∷ z)).1 in
    let some : 1 ≤ len = k.some in
    elim k.is [
      | inl is ↦
          lex-piece (b ∷ z) at (piece (b ∷ z)).0 len (omega arith) refl k.some k.within
          ∙ ap (λ (q : Piece). after at q (lex 0 (at + len) (drop len (b ∷ z)))) is.0
      | inr shown ↦ absurd (none (take len (b ∷ z)) (drop len (b ∷ z)) shown.0 shown.1 (take-append-drop len (b ∷ z)))
    ]

-- behind the last piece stands what scanning stops at
stops : (text : List ℕ) (ps : Pieces) (rest : List ℕ) (byte : ℕ) → CutsTo text ps rest → length (bytes ps) ≡ byte → lex 0 0 text ≡ with_front (placed 0 ps) (lex 0 byte rest)
stops text ps rest byte (cut, same) size =
    let e : 0 + length (bytes ps) ≡ byte = omega (arith, size) in
    ap (lex 0 0) (sym same) ∙ cut-scans ps 0 rest cut ∙ ap (λ (n : ℕ). with_front (placed 0 ps) (lex 0 n rest)) e

pub no_token-lex : (text : List ℕ) (byte : ℕ) → HasNoToken text byte → lex 0 0 text ≡ Err (errors.NoToken byte)
no_token-lex text byte (ps, b, rest, cut, size, none) = stops text ps (b ∷ rest) byte cut size ∙ ap (with_front (placed 0 ps)) (lex-no_piece byte b rest none)

after-large : (at : ℕ) (p : Piece) (n : ℕ) (l : Lexed) → Shows p (Some (number n)) → 2 ^ 63 ≤ n → after at p l ≡ Err (errors.NumberTooLarge at)
after-large at blank n l s large = absurd cc
after-large at (token x) n l s large =
    let P : Option Tok → Type 0 = IsInRange in
    let low : n < 2 ^ 63 = subst P (sym s.0) s.1 in
    absurd (omega (arith, large))
after-large at too_large n l s large = refl
after-large at illegal n l s large = absurd s

pub large-lex : (text : List ℕ) (byte : ℕ) → HasLargeNumber text byte → lex 0 0 text ≡ Err (errors.NumberTooLarge byte)
large-lex text byte (ps, w, rest, n, cut, size, is, longest, large) =
    let k = takes_piece byte (w ++ rest) w rest (Some (number n)) is longest refl in
    stops text ps (w ++ rest) byte cut size ∙ ap (with_front (placed 0 ps)) (k.2 ∙ after-large byte k.0 n (lex 0 (byte + length w) rest) k.1 large)

-- ---- every text is cut into pieces as far as they go

-- where the pieces end
data CutHere (rest : List ℕ) : Type 0 where
  ended : rest ≡ [] → CutHere rest
  nothing : (b : ℕ) (u : List ℕ) → rest ≡ b ∷ u → BeginsNoPiece (b ∷ u) → CutHere rest
  large : (w u : List ℕ) (n : ℕ) → rest ≡ w ++ u → IsPiece w (Some (number n)) → IsLongest w u → 2 ^ 63 ≤ n → CutHere rest

abbrev Cut : List ℕ → Type 0
Cut z = (ps : Pieces) × (rest : List ℕ) × CutsTo z ps rest × CutHere rest

begins_none : (b : ℕ) (z : List ℕ) → (piece (b ∷ z)).0 ≡ illegal → (piece (b ∷ z)).1 ≡ 1 → BeginsNoPiece (b ∷ z)
begins_none b z is one = λ w rest t wis e.
    let P : List ℕ → Type 0 = λ x. (length w ≤ (piece x).1) × (length w ≡ (piece x).1 → Shows (piece x).0 t) in
    let h : (length w ≤ (piece (b ∷ z)).1) × (length w ≡ (piece (b ∷ z)).1 → Shows (piece (b ∷ z)).0 t) = subst P e (piece-bounds w rest t wis) in
    let some : 1 ≤ length w = piece-some w t wis in
    let low : length w ≤ (piece (b ∷ z)).1 = h.0 in
    let same : length w ≡ (piece (b ∷ z)).1 = omega (arith, one) in
    let Q : Piece → Type 0 = λ q. Shows q t in
    subst Q is (h.1 same)

range_or_large : (p : Piece) (t : Option Tok) → Shows p t → IsInRange t ⊎ ((n : ℕ) × (t ≡ Some (number n)) × (2 ^ 63 ≤ n))
range_or_large blank t s = inl (let P : Option Tok → Type 0 = IsInRange in subst P (sym s) tt)
range_or_large (token x) t s = inl (let P : Option Tok → Type 0 = IsInRange in subst P (sym s.0) s.1)
range_or_large too_large t s = inr s
range_or_large illegal t s = absurd s

-- one piece before others
cut-before : (z w u : List ℕ) (t : Option Tok) → IsPiece w t → IsLongest w u → IsInRange t → w ++ u ≡ z → Cut u → Cut z
cut-before z w u t is longest range e (ps, rest, (cut, same), stop) =
    let Q : List ℕ → Type 0 = IsLongest w in (
      (w, t) ∷ ps,
      rest,
      ((is, subst Q (sym same) longest, range, cut), append_assoc w (bytes ps) rest ∙ ap (λ (x : List ℕ). w ++ x) same ∙ e),
      stop,
    )

cut-large : (z w u : List ℕ) (t : Option Tok) (n : ℕ) → IsPiece w t → IsLongest w u → t ≡ Some (number n) → 2 ^ 63 ≤ n → w ++ u ≡ z → Cut z
cut-large z w u t n is longest same big e = let P : Option Tok → Type 0 = IsPiece w in ([], z, (tt, refl), large w u n (sym e) (subst P same is) longest big)

cut-of : (n : ℕ) (z : List ℕ) → length z ≤ n → Cut z
cut-of n [] small = ([], [], (tt, refl), ended refl)
cut-of zero (b ∷ z) small = absurd (omega arith)
cut-of (suc n) (b ∷ z) small =
    let k : Found (b ∷ z) (piece (b ∷ z)) = piece-found b z in
    let len = (piece (b ∷ z)).1 in
    let some : 1 ≤ len = k.some in
    let w = take len (b ∷ z) in
    let u = drop len (b ∷ z) in
    let whole : w ++ u ≡ b ∷ z = take-append-drop len (b ∷ z) in
    let others : Cut u = cut-of n u (omega (arith, length-drop len (b ∷ z))) in
    elim k.is [
      | inl none ↦ ([], b ∷ z, (tt, refl), nothing b z refl (begins_none b z none.0 none.1))
      | inr shown ↦
          elim (range_or_large (piece (b ∷ z)).0 shown.0 shown.2) [
            | inl range ↦ cut-before (b ∷ z) w u shown.0 shown.1 (head_longest b z) range whole others
            | inr big ↦ cut-large (b ∷ z) w u shown.0 big.0 shown.1 (head_longest b z) big.1 big.2 whole
          ]
    ]

-- what scanning gives is true of the text
pub data Outcome (text : List ℕ) : Type 0 where
  found : (ts : List Placed) → HasTokens text ts → Outcome text
  no_token : (byte : ℕ) → HasNoToken text byte → Outcome text
  large_number : (byte : ℕ) → HasLargeNumber text byte → Outcome text

outcome-from : (text : List ℕ) (ps : Pieces) (rest : List ℕ) → CutsTo text ps rest → CutHere rest → Outcome text
outcome-from text ps rest cut (ended e) = let P : List ℕ → Type 0 = CutsTo text ps in found (placed 0 ps) (ps, subst P e cut, refl)
outcome-from text ps rest cut (nothing b u e none) = let P : List ℕ → Type 0 = CutsTo text ps in no_token (length (bytes ps)) (ps, b, u, subst P e cut, refl, none)
outcome-from text ps rest cut (large w u n e is longest big) =
    let P : List ℕ → Type 0 = CutsTo text ps in large_number (length (bytes ps)) (ps, w, u, n, subst P e cut, refl, is, longest, big)

pub outcome : (text : List ℕ) → Outcome text
outcome text = let c : Cut text = cut-of (length text) text (omega arith) in outcome-from text c.0 c.1 c.2 c.3
