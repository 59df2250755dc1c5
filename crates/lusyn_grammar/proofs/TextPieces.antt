-- What scanning finds at the head of a text is the longest piece there.
use Rattle.std.proofs.Common.{◌≡◌, ◌≢◌, ◌≤◌, ◌+◌, ◌^◌, ◌⊎◌, ℕ, Bool, true, false, ◌&&◌, ◌||◌, ◌==◌, cond, List, [], ◌∷◌, ◌++◌, length, take, Option, Some, None, refl, ap, sym, subst, ◌∙◌, inl, inr, arith, nat_lt, nat_le, slice_index}
use Rattle.std.proofs.Math.Numerals.{one-add}
use Rattle.std.proofs.Math.Seq.{take-append_seam}
use Rattle.std.proofs.lemmas.Bool.{and_parts, eqb-true, leb-true, lt-leb, ltb-true, ltb-false}
use Rattle.std.proofs.lemmas.List.Sums.{prefix_len-le-length}
use Rattle.std.specs.Char.{is_ascii_digit}
use Rattle.std.specs.List.{prefix_len, list_all}
use Rattle.std.specs.Int.{is_in_range}
use Rattle.std.specs.Str.{bytes_eq}
use Rattle.std.specs.Str.Parse.{digits_value}
use Rattle.std.proofs.lemmas.Slice.Eq.{bytes_eq-Decides}
use Rattle.lusyn_grammar.specs.declared.token.Fixed.{Fixed}
use Rattle.lusyn_grammar.specs.declared.token.Fixed.TheVariants as f
use Rattle.lusyn_grammar.specs.Tokens.{Tok, identifier, number, fixed, text_of, keywords, keyword_among}
use Rattle.lusyn_grammar.specs.Lexing.{is_blank, is_line, is_letter, is_word, is_word_text, is_digits, IsPiece, IsInRange}
use Rattle.lusyn_grammar.specs.Lexing as pieces
use Rattle.lusyn_grammar.specs.Scanning.{Piece, blank, token, too_large, illegal, is_comment, word_or, word, sign, signed, numeral, piece}

pub by_test : {A : Type 0} (b : Bool) (x y : A) (P : A → Type 0) → (b ≡ true → P x) → (b ≡ false → P y) → P (cond b x y)
by_test true x y P held failed = held refl
by_test false x y P held failed = failed refl

-- Runs of bytes that pass a test.
front : (p : ℕ → Bool) (z : List ℕ) → list_all p (take (prefix_len p z) z) ≡ true
front p [] = refl
front p (b ∷ z) =
    let h = front p z in
    let P : ℕ → Type 0 = λ n. list_all p (take n (b ∷ z)) ≡ true in
    by_test (p b) (1 + prefix_len p z) 0 P (λ e. rw (one-add, e) h) (λ e. refl)

longer : (p : ℕ → Bool) (v u : List ℕ) → list_all p v ≡ true → length v ≤ prefix_len p (v ++ u)
longer p [] u h = omega arith
longer p (b ∷ v) u h =
    let k = and_parts (p b) (list_all p v) h in
    let q : length v ≤ prefix_len p (v ++ u) = longer p v u k.1 in
    let e : p b ≡ true = k.0 in
    rw e (omega arith)

-- Which bytes are apart.
apart : (q : ℕ → Bool) (c : ℕ) → q c ≡ false → (b : ℕ) → q b ≡ true → (b == c) ≡ false
apart q c off b on = by_value (b == c) refl
  where
    by_value : (t : Bool) → (b == c) ≡ t → t ≡ false
    by_value false e = refl
    by_value true e = let same : b ≡ c = eqb-true b c e in let off2 : q b ≡ false = ap q same ∙ off in absurd cc

none_of : (w x y z : Bool) → w ≡ false → x ≡ false → y ≡ false → z ≡ false → (((w || x) || y) || z) ≡ false
none_of w x y z e f g h = rw (e, f, g, h) refl

not_blank : (q : ℕ → Bool) → q 32 ≡ false → q 9 ≡ false → q 10 ≡ false → q 13 ≡ false → (b : ℕ) → q b ≡ true → is_blank b ≡ false
not_blank q h1 h2 h3 h4 b on = none_of (b == 32) (b == 9) (b == 10) (b == 13) (apart q 32 h1 b on) (apart q 9 h2 b on) (apart q 10 h3 b on) (apart q 13 h4 b on)

and_false : (x y : Bool) → x ≡ false → (x && y) ≡ false
and_false x y e = rw e refl

not_comment : (q : ℕ → Bool) → q 45 ≡ false → (b next : ℕ) → q b ≡ true → is_comment b next ≡ false
not_comment q off b next on = and_false (b == 45) (next == 45) (apart q 45 off b on)

widen : (d x y w : Bool) → ((x || y) || w) ≡ true → (((d || x) || y) || w) ≡ true
widen true x y w h = refl
widen false x y w h = h

pub letter-is_word : (b : ℕ) → is_letter b ≡ true → is_word b ≡ true
letter-is_word b h = widen (is_in_range 48 57 b) (is_in_range 65 90 b) (is_in_range 97 122 b) (b == 95) h

digit-is_no_letter : (b : ℕ) → is_ascii_digit b ≡ true → is_letter b ≡ false
digit-is_no_letter b h =
    let k = and_parts (nat_le 48 b) (nat_le b 57) h in
    let low : 48 ≤ b = leb-true 48 b k.0 in
    let high : b ≤ 57 = leb-true b 57 k.1 in
    let capital : nat_le 65 b ≡ false = lt-leb 65 b (omega arith) in
    let small : nat_le 97 b ≡ false = lt-leb 97 b (omega arith) in
    let line : (b == 95) ≡ false = apart is_ascii_digit 95 refl b h in
    rw (capital, small, line) refl

-- What scanning finds, by the first bytes.
piece-blank : (b : ℕ) (z : List ℕ) → is_blank b ≡ true → piece (b ∷ z) ≡ (blank, 1)
unfolding piece
piece-blank b z h = rw h refl

pub piece-word : (b : ℕ) (z : List ℕ) → is_letter b ≡ true → piece (b ∷ z) ≡ (token (word (take (prefix_len is_word (b ∷ z)) (b ∷ z))), prefix_len is_word (b ∷ z))
unfolding piece
piece-word b z h =
    let no_blank : is_blank b ≡ false = not_blank is_letter refl refl refl refl b h in
    let no_comment : is_comment b (slice_index (b ∷ z) 1) ≡ false = not_comment is_letter refl b (slice_index (b ∷ z) 1) h in
    rw (no_blank, no_comment, h) refl

pub piece-digits : (b : ℕ) (z : List ℕ) → is_ascii_digit b ≡ true → piece (b ∷ z) ≡ (numeral (take (prefix_len is_ascii_digit (b ∷ z)) (b ∷ z)), prefix_len is_ascii_digit (b ∷ z))
unfolding piece
piece-digits b z h =
    let no_blank : is_blank b ≡ false = not_blank is_ascii_digit refl refl refl refl b h in
    let no_comment : is_comment b (slice_index (b ∷ z) 1) ≡ false = not_comment is_ascii_digit refl b (slice_index (b ∷ z) 1) h in
    let no_letter : is_letter b ≡ false = digit-is_no_letter b h in
    rw (no_blank, no_comment, no_letter, h) refl

-- What a piece of scanning shows is this token, or none.
abbrev pub Shows : Piece → Option Tok → Type 0
Shows blank t = t ≡ None
Shows (token x) t = (t ≡ Some x) × IsInRange (Some x)
Shows too_large t = (n : ℕ) × (t ≡ Some (number n)) × (2 ^ 63 ≤ n)
Shows illegal t = ⊥

-- The piece that scanning finds is no shorter than this one, and is this one where they are equally long.
abbrev pub Bounds : List ℕ → List ℕ → Option Tok → Type 0
Bounds v u t = (length v ≤ (piece (v ++ u)).1) × (length v ≡ (piece (v ++ u)).1 → Shows (piece (v ++ u)).0 t)

-- the same, where it is known what scanning finds
abbrev Finds : List ℕ → Option Tok → Piece × ℕ → Type 0
Finds v t p = (length v ≤ p.1) × (length v ≡ p.1 → Shows p.0 t)

Bounds-from : (v u : List ℕ) (t : Option Tok) (p : Piece × ℕ) → piece (v ++ u) ≡ p → Finds v t p → Bounds v u t
Bounds-from v u t p e h = let P : Piece × ℕ → Type 0 = Finds v t in subst P (sym e) h

-- a run of bytes that is as long as a piece which it begins with is that piece
same_run : (v u : List ℕ) (k : ℕ) → length v ≡ k → take k (v ++ u) ≡ v
same_run v u k e = ap (λ (n : ℕ). take n (v ++ u)) (sym e) ∙ take-append_seam v u

word-bounds : (v u : List ℕ) (t : Tok) → is_word_text v ≡ true → word v ≡ t → IsInRange (Some t) → Bounds v u (Some t)
word-bounds [] u t h e r = absurd cc
word-bounds (b ∷ v) u t h e r =
    let k = and_parts (is_letter b) (list_all is_word v) h in
    let all : list_all is_word (b ∷ v) ≡ true = rw (letter-is_word b k.0) k.1 in
    let n = prefix_len is_word (b ∷ (v ++ u)) in
    Bounds-from (b ∷ v) u (Some t) (token (word (take n (b ∷ (v ++ u)))), n) (piece-word b (v ++ u) k.0) (
      longer is_word (b ∷ v) u all,
      λ same. let P : Tok → Type 0 = λ x. Shows (token x) (Some t) in subst P (sym (ap word (same_run (b ∷ v) u n same) ∙ e)) (refl, r),
    )

numeral-shows : (v : List ℕ) → Shows (numeral v) (Some (number (digits_value 10 v)))
numeral-shows v =
    let P : Piece → Type 0 = λ p. Shows p (Some (number (digits_value 10 v))) in
    by_test (nat_lt (digits_value 10 v) (2 ^ 63)) (token (number (digits_value 10 v))) too_large P
    (λ e. (refl, ltb-true (digits_value 10 v) (2 ^ 63) e)) (λ e. (digits_value 10 v, refl, ltb-false (digits_value 10 v) (2 ^ 63) e))

digits-bounds : (v u : List ℕ) → is_digits v ≡ true → Bounds v u (Some (number (digits_value 10 v)))
digits-bounds [] u h = absurd cc
digits-bounds (b ∷ v) u h =
    let k = and_parts (is_ascii_digit b) (list_all is_ascii_digit v) h in
    let n = prefix_len is_ascii_digit (b ∷ (v ++ u)) in
    Bounds-from (b ∷ v) u (Some (number (digits_value 10 (b ∷ v)))) (numeral (take n (b ∷ (v ++ u))), n) (piece-digits b (v ++ u) k.0) (
      longer is_ascii_digit (b ∷ v) u h,
      λ same. let P : List ℕ → Type 0 = λ x. Shows (numeral x) (Some (number (digits_value 10 (b ∷ v)))) in subst P (sym (same_run (b ∷ v) u n same)) (numeral-shows (b ∷ v)),
    )

comment-bounds : (line u : List ℕ) → list_all is_line line ≡ true → Bounds (45 ∷ 45 ∷ line) u None
unfolding piece
comment-bounds line u h = (longer is_line (45 ∷ 45 ∷ line) u h, λ same. refl)

blank-bounds : (b : ℕ) (u : List ℕ) → is_blank b ≡ true → Bounds (b ∷ []) u None
blank-bounds b u h = Bounds-from (b ∷ []) u None (blank, 1) (piece-blank b u h) (omega arith, λ same. refl)

-- a sign of one byte, where the next byte may make it longer
short : (b : ℕ) (g long : Fixed) (t : Bool) → Finds (b ∷ []) (Some (fixed g)) (signed (cond t (Some (long, 2)) (Some (g, 1))))
short b g long true = (omega arith, λ same. absurd (omega arith))
short b g long false = (omega arith, λ same. (refl, tt))

minus-bounds : (u : List ℕ) → Bounds (45 ∷ []) u (Some (fixed f.Minus))
unfolding piece
minus-bounds [] = (omega arith, λ same. (refl, tt))
minus-bounds (c ∷ u) =
    let P : Piece × ℕ → Type 0 = Finds (45 ∷ []) (Some (fixed f.Minus)) in
    by_test (c == 45) (blank, prefix_len is_line (45 ∷ c ∷ u)) (signed (sign 45 c)) P
    (λ e. let same : c ≡ 45 = eqb-true c 45 e in
    let Q : ℕ → Type 0 = λ d. P (blank, prefix_len is_line (45 ∷ d ∷ u)) in
    subst Q (sym same) (omega arith, λ short. absurd (omega arith)))
    (λ e. short 45 f.Minus f.Arrow (c == 62))

less-bounds : (next : ℕ) → Finds (60 ∷ []) (Some (fixed f.Less)) (signed (sign 60 next))
less-bounds next =
    let P : Option (Fixed × ℕ) → Type 0 = λ s. Finds (60 ∷ []) (Some (fixed f.Less)) (signed s) in
    by_test (next == 61) (Some (f.LessEqual, 2)) (cond (next == 62) (Some (f.Unequal, 2)) (Some (f.Less, 1))) P
    (λ e. (omega arith, λ same. absurd (omega arith))) (λ e. short 60 f.Less f.Unequal (next == 62))

spelled-bounds : (g : Fixed) (u : List ℕ) → Bounds (text_of g) u (Some (fixed g))
unfolding piece
spelled-bounds f.Open u = (omega arith, λ same. (refl, tt))
spelled-bounds f.Close u = (omega arith, λ same. (refl, tt))
spelled-bounds f.OpenBrace u = (omega arith, λ same. (refl, tt))
spelled-bounds f.CloseBrace u = (omega arith, λ same. (refl, tt))
spelled-bounds f.Comma u = (omega arith, λ same. (refl, tt))
spelled-bounds f.Semicolon u = (omega arith, λ same. (refl, tt))
spelled-bounds f.Colon u = (omega arith, λ same. (refl, tt))
spelled-bounds f.Plus u = (omega arith, λ same. (refl, tt))
spelled-bounds f.Star u = (omega arith, λ same. (refl, tt))
spelled-bounds f.Equal u = short 61 f.Equal f.Implies (slice_index (61 ∷ u) 1 == 62)
spelled-bounds f.Unequal u = (omega arith, λ same. (refl, tt))
spelled-bounds f.Less u = less-bounds (slice_index (60 ∷ u) 1)
spelled-bounds f.LessEqual u = (omega arith, λ same. (refl, tt))
spelled-bounds f.Greater u = short 62 f.Greater f.GreaterEqual (slice_index (62 ∷ u) 1 == 61)
spelled-bounds f.GreaterEqual u = (omega arith, λ same. (refl, tt))
spelled-bounds f.Minus u = minus-bounds u
spelled-bounds f.Arrow u = (omega arith, λ same. (refl, tt))
spelled-bounds f.Implies u = (omega arith, λ same. (refl, tt))
spelled-bounds g u = word-bounds (text_of g) u (fixed g) refl refl tt

-- a word that is no keyword is an identifier
keyword-cases : (gs : List Fixed) (w : List ℕ) → (keyword_among gs w ≡ None) ⊎ ((g : Fixed) × (keyword_among gs w ≡ Some g) × (w ≡ text_of g))
keyword-cases [] w = inl refl
keyword-cases (k ∷ ks) w =
    let others = keyword-cases ks w in
    let P : Option Fixed → Type 0 = λ o. (o ≡ None) ⊎ ((g : Fixed) × (o ≡ Some g) × (w ≡ text_of g)) in
    by_test (bytes_eq w (text_of k)) (Some k) (keyword_among ks w) P (λ e. inr (k, refl, (bytes_eq-Decides w (text_of k)).0 e)) (λ e. others)

word-cases : (w : List ℕ) → (word w ≡ identifier w) ⊎ ((g : Fixed) × (word w ≡ fixed g) × (w ≡ text_of g))
word-cases w =
    elim (keyword-cases keywords w) [ inl is ↦ inl (ap (word_or w) is) | inr k ↦ inr (k.0, ap (word_or w) k.1, k.2) ]

-- a text that a keyword or a sign has is no identifier
word-text_of : (g : Fixed) → (is_word_text (text_of g) ≡ false) ⊎ (word (text_of g) ≡ fixed g)
word-text_of f.Open = inl refl
word-text_of f.Close = inl refl
word-text_of f.OpenBrace = inl refl
word-text_of f.CloseBrace = inl refl
word-text_of f.Comma = inl refl
word-text_of f.Semicolon = inl refl
word-text_of f.Colon = inl refl
word-text_of f.Plus = inl refl
word-text_of f.Star = inl refl
word-text_of f.Equal = inl refl
word-text_of f.Unequal = inl refl
word-text_of f.Less = inl refl
word-text_of f.LessEqual = inl refl
word-text_of f.Greater = inl refl
word-text_of f.GreaterEqual = inl refl
word-text_of f.Minus = inl refl
word-text_of f.Arrow = inl refl
word-text_of f.Implies = inl refl
word-text_of _ = inr refl

reserved : (g : Fixed) (w : List ℕ) → is_word_text w ≡ true → w ≡ text_of g → word w ≡ fixed g
reserved g w h e =
    elim (word-text_of g) [ inl no_word ↦ (let on : is_word_text (text_of g) ≡ true = sym (ap is_word_text e) ∙ h in absurd cc) | inr is ↦ ap word e ∙ is ]

word-is_identifier : (w : List ℕ) → is_word_text w ≡ true → ((g : Fixed) → w ≢ text_of g) → word w ≡ identifier w
word-is_identifier w h free = elim (word-cases w) [ inl is ↦ is | inr k ↦ absurd (free k.0 k.2) ]

word-piece : (w : List ℕ) → is_word_text w ≡ true → IsPiece w (Some (word w))
word-piece w h =
    elim (word-cases w) [
      | inl is ↦ pieces.name h (λ g e. let k : word w ≡ fixed g = reserved g w h e in absurd cc) (ap (λ (t : Tok). Some t) is)
      | inr k ↦ pieces.spelled k.0 k.2 (ap (λ (t : Tok). Some t) k.1)
    ]

Bounds-along : (v w u : List ℕ) (s t : Option Tok) → w ≡ v → t ≡ s → Bounds v u s → Bounds w u t
Bounds-along v w u s t e k h =
    let P : List ℕ → Type 0 = λ x. Bounds x u s in
    let Q : Option Tok → Type 0 = λ x. Bounds w u x in
    subst Q (sym k) (subst P (sym e) h)

pub piece-bounds : (v u : List ℕ) (t : Option Tok) → IsPiece v t → Bounds v u t
piece-bounds v u t (pieces.blank b h e k) = Bounds-along (b ∷ []) v u None t e k (blank-bounds b u h)
piece-bounds v u t (pieces.comment line h e k) = Bounds-along (45 ∷ 45 ∷ line) v u None t e k (comment-bounds line u h)
piece-bounds v u t (pieces.spelled g e k) = Bounds-along (text_of g) v u (Some (fixed g)) t e k (spelled-bounds g u)
piece-bounds v u t (pieces.name h free k) = Bounds-along v v u (Some (identifier v)) t refl k (word-bounds v u (identifier v) h (word-is_identifier v h free) tt)
piece-bounds v u t (pieces.digits h k) = Bounds-along v v u (Some (number (digits_value 10 v))) t refl k (digits-bounds v u h)

-- What scanning finds at the head of a text is within the text, and is a piece unless no piece stands there.
pub record Found (z : List ℕ) (p : Piece × ℕ) : Type 0 where
  pub some : 1 ≤ p.1
  pub within : p.1 ≤ length z
  pub is : ((p.0 ≡ illegal) × (p.1 ≡ 1)) ⊎ ((t : Option Tok) × IsPiece (take p.1 z) t × Shows p.0 t)

one_within : (b : ℕ) (z : List ℕ) → 1 ≤ length (b ∷ z)
one_within b z = omega arith

run-some : (p : ℕ → Bool) (b : ℕ) (z : List ℕ) → p b ≡ true → 1 ≤ prefix_len p (b ∷ z)
run-some p b z h = rw h (omega arith)

take-run : (p : ℕ → Bool) (b : ℕ) (z : List ℕ) → p b ≡ true → take (prefix_len p (b ∷ z)) (b ∷ z) ≡ b ∷ take (prefix_len p z) z
take-run p b z h = rw (h, one-add) refl

found-comment : (b : ℕ) (z : List ℕ) → is_comment b (slice_index (b ∷ z) 1) ≡ true → Found (b ∷ z) (blank, prefix_len is_line (b ∷ z))
found-comment b [] h = let k = and_parts (b == 45) (0 == 45) h in absurd cc
found-comment b (c ∷ z) h =
    let k = and_parts (b == 45) (c == 45) h in
    let first : b ≡ 45 = eqb-true b 45 k.0 in
    let second : c ≡ 45 = eqb-true c 45 k.1 in
    let P : ℕ → Type 0 = λ x. Found (x ∷ c ∷ z) (blank, prefix_len is_line (x ∷ c ∷ z)) in
    let Q : ℕ → Type 0 = λ x. Found (45 ∷ x ∷ z) (blank, prefix_len is_line (45 ∷ x ∷ z)) in
    subst P (sym first) (subst Q (sym second) (record {
      some = omega arith;
      within = prefix_len-le-length is_line (45 ∷ 45 ∷ z);
      is = inr (
        None,
        pieces.comment (take (prefix_len is_line z) z) (front is_line z)
            (take-run is_line 45 (45 ∷ z) refl ∙ ap (λ (x : List ℕ). 45 ∷ x) (take-run is_line 45 z refl)) refl,
        refl,
      );
    }))

-- a word is no number
word-in_range : (w : List ℕ) → IsInRange (Some (word w))
word-in_range w = elim (word-cases w) [ inl is ↦ along (identifier w) is tt | inr k ↦ along (fixed k.0) k.1 tt ]
  where
    along : (t : Tok) → word w ≡ t → IsInRange (Some t) → IsInRange (Some (word w))
    along t e h = let P : Tok → Type 0 = λ x. IsInRange (Some x) in subst P (sym e) h

found-word : (b : ℕ) (z : List ℕ) → is_letter b ≡ true → Found (b ∷ z) (token (word (take (prefix_len is_word (b ∷ z)) (b ∷ z))), prefix_len is_word (b ∷ z))
found-word b z h =
    let starts : is_word b ≡ true = letter-is_word b h in
    let all = front is_word z in
    let is_text : is_word_text (b ∷ take (prefix_len is_word z) z) ≡ true = rw h all in
    let w = take (prefix_len is_word (b ∷ z)) (b ∷ z) in
    let t : is_word_text w ≡ true = ap is_word_text (take-run is_word b z starts) ∙ is_text in
    record {
      some = run-some is_word b z starts;
      within = prefix_len-le-length is_word (b ∷ z);
      is = inr (Some (word w), word-piece w t, (refl, word-in_range w));
    }

found-digits : (b : ℕ) (z : List ℕ) → is_ascii_digit b ≡ true → Found (b ∷ z) (numeral (take (prefix_len is_ascii_digit (b ∷ z)) (b ∷ z)), prefix_len is_ascii_digit (b ∷ z))
found-digits b z h =
    let all = front is_ascii_digit z in
    let w = take (prefix_len is_ascii_digit (b ∷ z)) (b ∷ z) in
    let is_text : is_digits (b ∷ take (prefix_len is_ascii_digit z) z) ≡ true = rw h all in
    let t : is_digits w ≡ true = ap is_digits (take-run is_ascii_digit b z h) ∙ is_text in
    record {
      some = run-some is_ascii_digit b z h;
      within = prefix_len-le-length is_ascii_digit (b ∷ z);
      is = inr (Some (number (digits_value 10 w)), pieces.digits t refl, numeral-shows w);
    }

-- a sign that is found is spelled by the first byte, or by the first two
abbrev Spells : ℕ → ℕ → Option (Fixed × ℕ) → Type 0
Spells b next None = Unit {0}
Spells b next (Some s) = ((s.1 ≡ 1) × (b ∷ [] ≡ text_of s.0)) ⊎ ((s.1 ≡ 2) × (b ∷ next ∷ [] ≡ text_of s.0) × (1 ≤ next))

one : (b next : ℕ) (g : Fixed) (c : ℕ) → text_of g ≡ c ∷ [] → (b == c) ≡ true → Spells b next (Some (g, 1))
one b next g c is e = inl (refl, ap (λ (x : ℕ). x ∷ []) (eqb-true b c e) ∙ sym is)

two : (b next : ℕ) (g : Fixed) (c d : ℕ) → text_of g ≡ c ∷ d ∷ [] → 1 ≤ d → (b == c) ≡ true → (next == d) ≡ true → Spells b next (Some (g, 2))
two b next g c d is some e k =
    let same : next ≡ d = eqb-true next d k in
    inr (refl, ap (λ (x : ℕ). x ∷ next ∷ []) (eqb-true b c e) ∙ ap (λ (x : ℕ). c ∷ x ∷ []) same ∙ sym is, omega arith)

sign-spells : (b next : ℕ) → Spells b next (sign b next)
sign-spells b next =
    let P : Option (Fixed × ℕ) → Type 0 = Spells b next in
    by_test (b == 40) (Some (f.Open, 1)) _ P (one b next f.Open 40 refl) (λ h1.
    by_test (b == 41) (Some (f.Close, 1)) _ P (one b next f.Close 41 refl) (λ h2.
    by_test (b == 123) (Some (f.OpenBrace, 1)) _ P (one b next f.OpenBrace 123 refl) (λ o.
    by_test (b == 125) (Some (f.CloseBrace, 1)) _ P (one b next f.CloseBrace 125 refl) (λ c.
    by_test (b == 44) (Some (f.Comma, 1)) _ P (one b next f.Comma 44 refl) (λ h3.
    by_test (b == 59) (Some (f.Semicolon, 1)) _ P (one b next f.Semicolon 59 refl) (λ h4.
    by_test (b == 58) (Some (f.Colon, 1)) _ P (one b next f.Colon 58 refl) (λ h5.
    by_test (b == 43) (Some (f.Plus, 1)) _ P (one b next f.Plus 43 refl) (λ h6.
    by_test (b == 42) (Some (f.Star, 1)) _ P (one b next f.Star 42 refl) (λ h7.
    by_test (b == 45) _ _ P
    (λ e. by_test (next == 62) (Some (f.Arrow, 2)) (Some (f.Minus, 1)) P (two b next f.Arrow 45 62 refl (omega arith) e) (λ k. one b next f.Minus 45 refl e)) (λ h8.
    by_test (b == 61) _ _ P
    (λ e. by_test (next == 62) (Some (f.Implies, 2)) (Some (f.Equal, 1)) P (two b next f.Implies 61 62 refl (omega arith) e) (λ k. one b next f.Equal 61 refl e)) (λ h9.
    by_test (b == 60) _ _ P
    (λ e. by_test (next == 61) (Some (f.LessEqual, 2)) _ P (two b next f.LessEqual 60 61 refl (omega arith) e)
    (λ k. by_test (next == 62) (Some (f.Unequal, 2)) (Some (f.Less, 1)) P (two b next f.Unequal 60 62 refl (omega arith) e) (λ k2. one b next f.Less 60 refl e))) (λ h10.
    by_test (b == 62) _ None P
    (λ e. by_test (next == 61) (Some (f.GreaterEqual, 2)) (Some (f.Greater, 1)) P (two b next f.GreaterEqual 62 61 refl (omega arith) e) (λ k. one b next f.Greater 62 refl e)) (λ h11. tt)))))))))))))

found-signed : (b : ℕ) (z : List ℕ) (s : Option (Fixed × ℕ)) → Spells b (slice_index (b ∷ z) 1) s → Found (b ∷ z) (signed s)
found-signed b z None h = record { some = omega arith; within = omega arith; is = inl (refl, refl) }
found-signed b z (Some (g, n)) (inl (e, k)) =
    let P : ℕ → Type 0 = λ x. Found (b ∷ z) (token (fixed g), x) in
    subst P (sym e) (record { some = omega arith; within = omega arith; is = inr (Some (fixed g), pieces.spelled g k refl, (refl, tt)) })
found-signed b [] (Some (g, n)) (inr (e, k, some)) = absurd (omega arith)
found-signed b (c ∷ z) (Some (g, n)) (inr (e, k, some)) =
    let P : ℕ → Type 0 = λ x. Found (b ∷ c ∷ z) (token (fixed g), x) in
    subst P (sym e) (record { some = omega arith; within = omega arith; is = inr (Some (fixed g), pieces.spelled g k refl, (refl, tt)) })

pub piece-found : (b : ℕ) (z : List ℕ) → Found (b ∷ z) (piece (b ∷ z))
unfolding piece
piece-found b z =
    let P : Piece × ℕ → Type 0 = Found (b ∷ z) in
    let next = slice_index (b ∷ z) 1 in
    by_test (is_blank b) (blank, 1) _ P
    (λ e. record { some = omega arith; within = omega arith; is = inr (None, pieces.blank b e refl refl, refl) })
    (λ h1. by_test (is_comment b next) (blank, prefix_len is_line (b ∷ z)) _ P (found-comment b z)
    (λ h2. by_test (is_letter b) (token (word (take (prefix_len is_word (b ∷ z)) (b ∷ z))), prefix_len is_word (b ∷ z)) _ P (found-word b z)
    (λ h3. by_test (is_ascii_digit b) (numeral (take (prefix_len is_ascii_digit (b ∷ z)) (b ∷ z)), prefix_len is_ascii_digit (b ∷ z)) (signed (sign b next)) P
    (found-digits b z) (λ h4. found-signed b z (sign b next) (sign-spells b next)))))
