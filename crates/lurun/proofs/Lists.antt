-- Lists, by what stands at each place.
use Rattle.std.proofs.Common.{get_or, ◌≡◌, ℕ, zero, suc, ◌+◌, ◌<◌, List, [], ◌∷◌, ◌++◌, length, take, Some, All, refl, sym, ap, ◌∙◌, subst, arith}
use Rattle.std.specs.Prelude.{slice_get, unwrap_or}
use Rattle.std.proofs.lemmas.List.{take_more, same_lists}
use Rattle.std.proofs.lemmas.Option.{slice_get_within, slice_get-get_or, get_or_from_slice_get, unwrap_or-slice_get}

pub same_one : {A : Type 0} (x y : A) → Some x ≡ Some y → x ≡ y
same_one x y e = cc

module _ {A : Type 0} where
  pub slice_left : (xs ys : List A) (k : ℕ) (x : A) → slice_get xs k ≡ Some x → slice_get (xs ++ ys) k ≡ Some x
  slice_left [] ys k x e = absurd cc
  slice_left (y ∷ xs) ys zero x e = e
  slice_left (y ∷ xs) ys (suc k) x e = slice_left xs ys k x e

  pub slice_seam : (xs : List A) (x : A) → slice_get (xs ++ x ∷ []) (length xs) ≡ Some x
  slice_seam [] x = refl
  slice_seam (y ∷ xs) x = slice_seam xs x

  pub take_next : (xs : List A) (n : ℕ) (x : A) → slice_get xs n ≡ Some x → take (n + 1) xs ≡ take n xs ++ x ∷ []
  take_next xs n x at = take_more xs n x (slice_get_within xs n x at) ∙ ap (λ y. take n xs ++ y ∷ []) (get_or_from_slice_get xs n x x at)

  -- a fact of each element, by its place
  pub all_from : (P : A → Type 0) (xs : List A) → ((k : ℕ) (x : A) → slice_get xs k ≡ Some x → P x) → All P xs
  all_from P xs h k d l = h k _ (slice_get-get_or xs k d l)

  pub all_at : (P : A → Type 0) (xs : List A) (k : ℕ) (x : A) → All P xs → slice_get xs k ≡ Some x → P x
  all_at P xs k x all at = subst P (get_or_from_slice_get xs k x x at) (all k x (slice_get_within xs k x at))

  pub all_weaker : (P Q : A → Type 0) (xs : List A) → ((x : A) → P x → Q x) → All P xs → All Q xs
  all_weaker P Q xs f all k d l = f _ (all k d l)

pub pushed_at : {A : Type 0} (P : ℕ → A → Type 0) (xs : List A) (y : A) → P (length xs) y → ((k : ℕ) (x : A) → slice_get xs k ≡ Some x → P k x) → (k : ℕ) (x : A) → slice_get (xs ++ y ∷ []) k ≡ Some x → P k x
pushed_at P [] y here each zero x e = subst (P 0) (same_one y x e) here
pushed_at P [] y here each (suc k) x e = absurd cc
pushed_at P (z ∷ xs) y here each zero x e = each zero x e
pushed_at P (z ∷ xs) y here each (suc k) x e = pushed_at (λ n. P (suc n)) xs y here (λ j w h. each (suc j) w h) k x e

pub empty_list : {A : Type 0} (xs : List A) → length xs ≡ 0 → xs ≡ []
empty_list [] e = refl
empty_list (x ∷ xs) e = absurd (omega (arith, e))

pub same_at : {A : Type 0} (xs : List A) (k : ℕ) (x y : A) → slice_get xs k ≡ Some x → slice_get xs k ≡ Some y → x ≡ y
same_at xs k x y ex ey = same_one x y (sym ex ∙ ey)

pub got_at : {A : Type 0} (xs : List A) (k : ℕ) (x : A) → k < length xs → x ≡ get_or xs k x → slice_get xs k ≡ Some x
got_at xs k x l e = slice_get-get_or xs k x l ∙ ap Some (sym e)

-- lists with the same elements by place are one
pub same_elements : {A : Type 0} (xs ys : List A) → length xs ≡ length ys → ((k : ℕ) → k < length xs → slice_get xs k ≡ slice_get ys k) → xs ≡ ys
same_elements xs ys len h = same_lists xs ys len (λ k d l. sym (unwrap_or-slice_get xs k d) ∙ ap (λ o. unwrap_or o d) (h k l) ∙ unwrap_or-slice_get ys k d)
