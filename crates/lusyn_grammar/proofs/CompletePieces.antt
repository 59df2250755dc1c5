-- Repeated pieces that are spelled so are read.
use Rattle.std.proofs.Common.{◌≡◌, ◌<◌, ◌≤◌, ◌+◌, ℕ, zero, suc, Result, Ok, Err, List, ◌∷◌, [], ◌++◌, refl, ap, sym, ◌∙◌, cond, Bool, true, false, append_assoc, length, arith}
use Rattle.std.specs.List.{flat_map}
use Rattle.std.proofs.lemmas.List.{append-nil}
use Rattle.lusyn_grammar.specs.declared.token.Fixed.{Fixed}
use Rattle.lusyn_grammar.specs.declared.token.Fixed.TheVariants as f
use Rattle.lusyn_grammar.specs.Tokens.{Tok, fixed}
use Rattle.lusyn_grammar.specs.Grammar.{repeated, led, separated, optional, Each}
use Rattle.lusyn_grammar.specs.Reading.{Read, ◌>>=◌, after, past, past_by, many}
use Rattle.lusyn_grammar.proofs.Tables.{same-refl}

pub goes_on : {A B E : Type 0} (r : Result A E) (x : A) (go : A → Result B E) → r ≡ Ok x → (r >>= go) ≡ go x
goes_on r x go e = ap (λ (o : Result _ _). o >>= go) e

pub chosen_true : {A : Type 0} (b : Bool) (x y : A) → b ≡ true → cond b x y ≡ x
chosen_true true x y e = refl
chosen_true false x y e = absurd cc

pub after-here : (g : Fixed) (rest : List Tok) → after g (fixed g ∷ rest) ≡ Ok rest
after-here g rest = chosen_true _ (Ok rest) (Err (fixed g ∷ rest)) (same-refl g)

pub past-optional : (b : Bool) (rest : List Tok) → after f.Semicolon rest ≡ Err rest → past f.Semicolon (optional b rest) ≡ rest
past-optional true rest none = refl
past-optional false rest none = ap (past_by rest) none

pub many-goes : {A : Type 0} (test : List Tok → Bool) (piece : List A → List Tok → Read (List A)) (n : ℕ) (found : List A) (ts : List Tok)
    → test ts ≡ true → many test piece (suc n) found ts ≡ (piece found ts >>= λ x. many test piece n x.0 x.1)
unfolding many
many-goes test piece n found ts e = ap (λ (b : Bool). cond b (piece found ts >>= λ x. many test piece n x.0 x.1) (Ok (found, ts))) e

pub many-stops : {A : Type 0} (test : List Tok → Bool) (piece : List A → List Tok → Read (List A)) (n : ℕ) (found : List A) (ts : List Tok)
    → test ts ≡ false → many test piece (suc n) found ts ≡ Ok (found, ts)
unfolding many
many-stops test piece n found ts e = ap (λ (b : Bool). cond b (piece found ts >>= λ x. many test piece n x.0 x.1) (Ok (found, ts))) e

-- A piece that is written well is read, where this may follow it, and the rest is left.
abbrev pub Complete : {W A : Type 0} → (W → List Tok → List Tok) → (W → List A) → (W → Type 0) → (List Tok → Type 0) → (List A → List Tok → Read (List A)) → Type 0
Complete of view Good May piece = (v : _) (found : List _) (rest : List Tok) → Good v → May rest → piece found (of v rest) ≡ Ok (found ++ view v, rest)

module _ {W A : Type 0} (test : List Tok → Bool) (piece : List A → List Tok → Read (List A)) (of : W → List Tok → List Tok) (view : W → List A) (Good : W → Type 0) (May : List Tok → Type 0)
    (starts : (v : W) (rest : List Tok) → Good v → test (of v rest) ≡ true) (follows : (v : W) (rest : List Tok) → May (of v rest))
    (complete : Complete of view Good May piece) where
  pub may : (vs : List W) (rest : List Tok) → May rest → May (repeated of vs rest)
  may [] rest h = h
  may (v ∷ vs) rest h = follows v (repeated of vs rest)

  pub many_complete : (fuel : ℕ) (vs : List W) (found : List A) (rest : List Tok) → Each Good vs → May rest → test rest ≡ false → length vs < fuel
      → many test piece fuel found (repeated of vs rest) ≡ Ok (found ++ flat_map view vs, rest)
  many_complete zero vs found rest good ends over small = absurd (omega arith)
  many_complete (suc fuel) [] found rest good ends over small =
      many-stops test piece fuel found rest over ∙ ap (λ (xs : List A). Ok (xs, rest)) (sym (append-nil found))
  many_complete (suc fuel) (v ∷ vs) found rest good ends over small =
      many-goes test piece fuel found (of v (repeated of vs rest)) (starts v (repeated of vs rest) good.0)
      ∙ goes_on (piece found (of v (repeated of vs rest))) (found ++ view v, repeated of vs rest) (λ x. many test piece fuel x.0 x.1) (complete v found (repeated of vs rest) good.0 (may vs rest ends))
      ∙ many_complete fuel vs (found ++ view v) rest good.1 ends over (omega arith)
      ∙ ap (λ (xs : List A). Ok (xs, rest)) (append_assoc found (view v) (flat_map view vs))

-- Pieces that are written with few tokens are few, and each is small.
module _ {W : Type 0} (of : W → List Tok → List Tok) (more : (v : W) (rest : List Tok) → length rest < length (of v rest)) where
  pub repeated-few : (vs : List W) (rest : List Tok) → length vs + length rest ≤ length (repeated of vs rest)
  repeated-few [] rest = omega arith
  repeated-few (v ∷ vs) rest = omega (arith, repeated-few vs rest, more v (repeated of vs rest))

  pub repeated-small : (Good Small : W → Type 0) (most : ℕ) → ((v : W) (rest : List Tok) → Good v → length (of v rest) ≤ most → Small v)
      → (vs : List W) (rest : List Tok) → Each Good vs → length (repeated of vs rest) ≤ most → Each Small vs
  repeated-small Good Small most small [] rest good h = tt
  repeated-small Good Small most small (v ∷ vs) rest good h =
      (small v (repeated of vs rest) good.0 h, repeated-small Good Small most small vs rest good.1 (omega (arith, more v (repeated of vs rest))))

  led-more : (sign : Fixed) (v : W) (rest : List Tok) → length rest < length (led sign of v rest)
  led-more sign v rest = omega (arith, more v rest)

module _ {W : Type 0} (sign : Fixed) (of : W → List Tok → List Tok) (more : (v : W) (rest : List Tok) → length rest < length (of v rest)) where
  pub separated-few : (vs : List W) (rest : List Tok) → length vs + length rest ≤ length (separated sign of vs rest)
  separated-few [] rest = omega arith
  separated-few (v ∷ vs) rest =
      omega (arith, repeated-few (led sign of) (led-more of more sign) vs rest, more v (repeated (led sign of) vs rest))

  pub separated-small : (Good Small : W → Type 0) (most : ℕ) → ((v : W) (rest : List Tok) → Good v → length (of v rest) ≤ most → Small v)
      → (vs : List W) (rest : List Tok) → Each Good vs → length (separated sign of vs rest) ≤ most → Each Small vs
  separated-small Good Small most small [] rest good h = tt
  separated-small Good Small most small (v ∷ vs) rest good h = (
    small v (repeated (led sign of) vs rest) good.0 h,
    repeated-small (led sign of) (led-more of more sign) Good Small most (λ u us p k. small u us p (omega arith)) vs rest good.1 (omega (arith, more v (repeated (led sign of) vs rest))),
  )
