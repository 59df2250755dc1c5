-- One more at the end of a list.
use Rattle.std.proofs.Common.{◌≡◌, ℕ, zero, suc, ◌+◌, List, [], ◌∷◌, ◌++◌, length, Some, sym, subst, ◌∙◌, ap, arith}
use Rattle.std.specs.Prelude.{slice_get}
use Rattle.std.proofs.lemmas.Option.{same_Some, slice_get_within}
use Rattle.luworld.proofs.Cursor.{slice_get-append_left, slice_get-append_right}

pub pushed : {A : Type 0} (P : ℕ → A → Type 0) (xs : List A) (y : A) → P (length xs) y → ((k : ℕ) (x : A) → slice_get xs k ≡ Some x → P k x) → (k : ℕ) (x : A) → slice_get (xs ++ y ∷ []) k ≡ Some x → P k x
pushed P [] y here each zero x there = subst (P 0) (same_Some y x there) here
pushed P [] y here each (suc k) x there = absurd cc
pushed P (z ∷ xs) y here each zero x there = each zero x there
pushed P (z ∷ xs) y here each (suc k) x there = pushed (λ n. P (suc n)) xs y here (λ j w h. each (suc j) w h) k x there

pub still_at : {A : Type 0} (xs ys : List A) (k : ℕ) (x : A) → slice_get xs k ≡ Some x → slice_get (xs ++ ys) k ≡ Some x
still_at xs ys k x there = slice_get-append_left xs ys k (slice_get_within xs k x there) ∙ there

pub last_at : {A : Type 0} (xs : List A) (y : A) → slice_get (xs ++ y ∷ []) (length xs) ≡ Some y
last_at xs y = let e : length xs ≡ length xs + 0 = omega arith in ap (slice_get (xs ++ y ∷ [])) e ∙ slice_get-append_right xs (y ∷ []) 0

-- Each of these belongs to the two at its place, and so does one more.
pub matched_more : {L R S : Type 0} (Fits : L → R → S → Type 0) (ls : List L) (rs : List R) (r : R) (xs xs' : List S) (l : L) (x : S) → length xs ≡ length rs → slice_get ls (length xs) ≡ Some l → xs' ≡ xs ++ x ∷ [] → Fits l r x
    → ((k : ℕ) (y : S) → slice_get xs k ≡ Some y → (m : L) × (slice_get ls k ≡ Some m) × (q : R) × (slice_get rs k ≡ Some q) × Fits m q y)
    → (k : ℕ) (y : S) → slice_get xs' k ≡ Some y → (m : L) × (slice_get ls k ≡ Some m) × (q : R) × (slice_get (rs ++ r ∷ []) k ≡ Some q) × Fits m q y
matched_more {L} {R} {S} Fits ls rs r xs xs' l x long at is fits each k y there =
    let P : ℕ → S → Type 0 = λ n z. (m : L) × (slice_get ls n ≡ Some m) × (q : R) × (slice_get (rs ++ r ∷ []) n ≡ Some q) × Fits m q z in
    let here : slice_get (rs ++ r ∷ []) (length xs) ≡ Some r = subst (λ (n : ℕ). slice_get (rs ++ r ∷ []) n ≡ Some r) (sym long) (last_at rs r) in
    pushed P xs x (l, at, r, here, fits)
    (λ n z h. let (m, m_at, q, q_at, fit) = each n z h in (m, m_at, q, still_at rs (r ∷ []) n q q_at, fit)) k y
    (subst (λ (zs : List S). slice_get zs k ≡ Some y) is there)
