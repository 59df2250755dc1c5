-- Items put at places of a list, no place twice.
use Rattle.std.proofs.Common.{◌≡◌, ◌≢◌, ℕ, zero, suc, ◌<◌, inl, inr, List, [], ◌∷◌, length, set, get_or, replicate, Some, refl, sym, ap, ◌∙◌, subst, arith}
use Rattle.std.specs.Prelude.{slice_get, slice_index, All}
use Rattle.std.proofs.lemmas.Bool.{cases_eq}
use Rattle.std.proofs.lemmas.List.{length-set, set-set, set_comm}
use Rattle.std.proofs.lemmas.List.Elements.{All-replicate}
use Rattle.std.proofs.lemmas.Option.{same_Some, slice_get_within, slice_get-get_or, get_or_from_slice_get}
use Rattle.luflow.proofs.Solutions.{some_at}
use Rattle.lusite_program.specs.Spread.{put_at, spread}
use Rattle.lusite_program.proofs.Written.{slice_get-set_same, slice_get-set_other}

-- no place twice
abbrev pub AreOnce : List ℕ → Type 0
AreOnce ps = (j k : ℕ) → j < k → k < length ps → slice_index ps j ≢ slice_index ps k

rest_once : (p : ℕ) (ps : List ℕ) → AreOnce (p ∷ ps) → AreOnce ps
rest_once p ps once j k l lk = once (suc j) (suc k) (omega (arith, l)) (omega (arith, lk))

first_once : (p : ℕ) (ps : List ℕ) (k i : ℕ) → AreOnce (p ∷ ps) → slice_get ps k ≡ Some i → i ≢ p
first_once p ps k i once e same =
    let l = slice_get_within ps k i e in
    once 0 (suc k) (omega arith) (omega (arith, l)) (sym same ∙ sym (get_or_from_slice_get ps k i 0 e))

-- what holds of all items holds of each
pub all_get : {X : Type 0} (P : X → Type 0) (xs : List X) (i : ℕ) (x : X) → All P xs → slice_get xs i ≡ Some x → P x
all_get P xs i x h e = subst P (get_or_from_slice_get xs i x x e) (h i x (slice_get_within xs i x e))

pub put_len : {X : Type 0} (base : List X) (ps : List ℕ) (xs : List X) → length (put_at base ps xs) ≡ length base
unfolding put_at
put_len base [] xs = refl
put_len base (p ∷ ps) [] = refl
put_len base (p ∷ ps) (x ∷ xs) = length-set (put_at base ps xs) p x ∙ put_len base ps xs

-- an item stands at its place
pub put_has : {X : Type 0} (base : List X) (ps : List ℕ) (xs : List X) (k i : ℕ) (x : X) → AreOnce ps → i < length base → slice_get ps k ≡ Some i → slice_get xs k ≡ Some x → slice_get (put_at base ps xs) i ≡ Some x
unfolding put_at
put_has base [] xs k i x once li ep ex = absurd cc
put_has base (p ∷ ps) [] k i x once li ep ex = absurd cc
put_has base (p ∷ ps) (y ∷ xs) zero i x once li ep ex =
    let same = same_Some p i ep in
    let n = put_len base ps xs in
    ap (slice_get (set (put_at base ps xs) p y)) (sym same) ∙ slice_get-set_same (put_at base ps xs) p y (omega (arith, li, same, n)) ∙ ex
put_has base (p ∷ ps) (y ∷ xs) (suc k) i x once li ep ex =
    slice_get-set_other (put_at base ps xs) p i y (first_once p ps k i once ep) ∙ put_has base ps xs k i x (rest_once p ps once) li ep ex

-- so what stands there is the item
pub put_same : {X : Type 0} (base : List X) (ps : List ℕ) (xs : List X) (k i : ℕ) → AreOnce ps → length xs ≡ length ps → i < length base → slice_get ps k ≡ Some i → slice_get (put_at base ps xs) i ≡ slice_get xs k
put_same base ps xs k i once len li ep =
    let l = slice_get_within ps k i ep in
    let x = some_at xs k (omega (arith, l, len)) in
    put_has base ps xs k i x.0 once li ep x.1 ∙ sym x.1

-- what stands anywhere is an item, or was there before
pub put_from : {X : Type 0} (P : X → Type 0) (base : List X) (ps : List ℕ) (xs : List X) → ((i : ℕ) (y : X) → slice_get base i ≡ Some y → P y) → ((k : ℕ) (y : X) → slice_get xs k ≡ Some y → P y) → (i : ℕ) (y : X) → slice_get (put_at base ps xs) i ≡ Some y → P y
unfolding put_at
put_from P base [] xs old new i y e = old i y e
put_from P base (p ∷ ps) [] old new i y e = old i y e
put_from P base (p ∷ ps) (x ∷ xs) old new i y e =
    let ys = put_at base ps xs in
    let l = slice_get_within (set ys p x) i y e in
    let n = length-set ys p x in
    elim (cases_eq i p) [
      | inl same ↦ new 0 y (sym (slice_get-set_same ys p x (omega (arith, l, n, same))) ∙ ap (slice_get (set ys p x)) (sym same) ∙ e)
      | inr other ↦ put_from P base ps xs old (λ k z ez. new (suc k) z ez) i y (sym (slice_get-set_other ys p i x other) ∙ e)
    ]

pub spread_all : {X : Type 0} (P : X → Type 0) (n : ℕ) (other : X) (ps : List ℕ) (xs : List X) → P other → All P xs → All P (spread n other ps xs)
spread_all P n other ps xs here all = λ i d l.
    put_from P (replicate n other) ps xs (λ j y e. all_get P (replicate n other) j y (All-replicate P n other here) e) (λ k y e. all_get P xs k y all e) i (get_or (put_at (replicate n other) ps xs) i d) (slice_get-get_or (put_at (replicate n other) ps xs) i d l)

-- one item is another
pub put_set : {X : Type 0} (base : List X) (ps : List ℕ) (xs : List X) (k i : ℕ) (x : X) → AreOnce ps → length xs ≡ length ps → slice_get ps k ≡ Some i → put_at base ps (set xs k x) ≡ set (put_at base ps xs) i x
unfolding put_at
put_set base [] xs k i x once len ep = absurd cc
put_set base (p ∷ ps) [] k i x once len ep = absurd (omega (arith, len))
put_set base (p ∷ ps) (y ∷ xs) zero i x once len ep =
    sym (set-set (put_at base ps xs) p y x) ∙ ap (λ q. set (set (put_at base ps xs) p y) q x) (same_Some p i ep)
put_set base (p ∷ ps) (y ∷ xs) (suc k) i x once len ep =
    ap (λ ys. set ys p y) (put_set base ps xs k i x (rest_once p ps once) (omega (arith, len)) ep)
    ∙ set_comm (put_at base ps xs) i p x y (first_once p ps k i once ep)

set_replicate : {X : Type 0} (n i : ℕ) (x : X) → set (replicate n x) i x ≡ replicate n x
set_replicate zero i x = refl
set_replicate (suc n) zero x = refl
set_replicate (suc n) (suc i) x = ap (λ ys. x ∷ ys) (set_replicate n i x)

-- what stands everywhere may be put anywhere
pub put_none : {X : Type 0} (n : ℕ) (x : X) (ps : List ℕ) (m : ℕ) → put_at (replicate n x) ps (replicate m x) ≡ replicate n x
unfolding put_at
put_none n x [] m = refl
put_none n x (p ∷ ps) zero = refl
put_none n x (p ∷ ps) (suc m) = ap (λ ys. set ys p x) (put_none n x ps m) ∙ set_replicate n p x
