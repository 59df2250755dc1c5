-- A script up to the item at which it stops.
use Rattle.std.proofs.Common.{◌≡◌, ℕ, zero, suc, ◌+◌, Bool, true, false, cond, List, [], ◌∷◌, ◌++◌, length, take, slice_get, Some, refl, sym, ap, ◌∙◌, arith, append_assoc, append-nil}
use Rattle.std.proofs.lemmas.Bool.{false≢true}
use Rattle.luworld.specs.Systems.{Item}
use Rattle.luworld.specs.Outline.{Outline, cut, stops, NoStop}

module _ (plan : Outline) where
  shift : (before : List Item) (y : Item) (xs : List Item) → before ++ y ∷ xs ≡ (before ++ y ∷ []) ++ xs
  shift before y xs = sym (append_assoc before (y ∷ []) xs)

  pub cut_at : (before xs : List Item) (n : ℕ) → NoStop plan before (take n xs) → slice_get (cut plan before xs) n ≡ slice_get xs n
  cut_at before [] n h = refl
  cut_at before (x ∷ xs) zero h = refl
  cut_at before (x ∷ xs) (suc n) h =
      ap (λ (b : Bool). slice_get (cond b [] (cut plan (before ++ x ∷ []) xs)) n) h.0 ∙ cut_at (before ++ x ∷ []) xs n h.1

  pub cut_take : (before xs : List Item) (n : ℕ) → NoStop plan before (take n xs) → take n (cut plan before xs) ≡ take n xs
  cut_take before [] n h = refl
  cut_take before (x ∷ xs) zero h = refl
  cut_take before (x ∷ xs) (suc n) h =
      ap (λ (b : Bool). x ∷ take n (cond b [] (cut plan (before ++ x ∷ []) xs))) h.0 ∙ ap (λ (ys : List Item). x ∷ ys) (cut_take (before ++ x ∷ []) xs n h.1)

  pub cut_free : (before xs : List Item) → NoStop plan before xs → cut plan before xs ≡ xs
  cut_free before [] h = refl
  cut_free before (x ∷ xs) h =
      ap (λ (b : Bool). x ∷ cond b [] (cut plan (before ++ x ∷ []) xs)) h.0 ∙ ap (λ (ys : List Item). x ∷ ys) (cut_free (before ++ x ∷ []) xs h.1)

  pub no_stop_more : (before xs : List Item) (n : ℕ) (x : Item) → NoStop plan before (take n xs) → slice_get xs n ≡ Some x → stops plan (before ++ take n xs) x ≡ false → NoStop plan before (take (suc n) xs)
  no_stop_more before [] n x h at e = cc
  no_stop_more before (y ∷ xs) zero x h at e =
      let same : x ≡ y = cc in
      (ap (λ (ys : List Item). stops plan ys y) (sym (append-nil before)) ∙ ap (stops plan (before ++ [])) (sym same) ∙ e, tt)
  no_stop_more before (y ∷ xs) (suc n) x h at e =
      (h.0, no_stop_more (before ++ y ∷ []) xs n x h.1 at (ap (λ (ys : List Item). stops plan ys x) (sym (shift before y (take n xs))) ∙ e))

  pub cut_stops : (before xs : List Item) (n : ℕ) (x : Item) → NoStop plan before (take n xs) → slice_get xs n ≡ Some x → stops plan (before ++ take n xs) x ≡ true → length (cut plan before xs) ≡ n + 1
  cut_stops before [] n x h at e = cc
  cut_stops before (y ∷ xs) zero x h at e =
      let same : x ≡ y = cc in
      let s = ap (λ (ys : List Item). stops plan ys y) (sym (append-nil before)) ∙ ap (stops plan (before ++ [])) (sym same) ∙ e in
      ap (λ (b : Bool). suc (length (cond b [] (cut plan (before ++ y ∷ []) xs)))) s
  cut_stops before (y ∷ xs) (suc n) x h at e =
      let ih = cut_stops (before ++ y ∷ []) xs n x h.1 at (ap (λ (ys : List Item). stops plan ys x) (sym (shift before y (take n xs))) ∙ e) in
      let g = ap (λ (b : Bool). length (cond b [] (cut plan (before ++ y ∷ []) xs))) h.0 in
      omega (arith, ih, g)

  -- a stop among the items is a stop of the script
  pub stop_not : (before ys : List Item) (n : ℕ) (x : Item) → slice_get ys n ≡ Some x → stops plan (before ++ take n ys) x ≡ true → NoStop plan before ys → ⊥
  stop_not before [] n x at e h = cc
  stop_not before (y ∷ ys) zero x at e h =
      let same : x ≡ y = cc in
      let s = ap (λ (zs : List Item). stops plan zs y) (sym (append-nil before)) ∙ ap (stops plan (before ++ [])) (sym same) ∙ e in
      false≢true (sym h.0 ∙ s)
  stop_not before (y ∷ ys) (suc n) x at e h =
      stop_not (before ++ y ∷ []) ys n x at (ap (λ (zs : List Item). stops plan zs x) (sym (shift before y (take n ys))) ∙ e) h.1
