-- One new site more.
use Rattle.std.proofs.Common.{◌≡◌, ℕ, zero, suc, List, [], ◌∷◌, ◌++◌, length, Some, None, slice_get, subst, sym}
use Rattle.luworld.specs.Jobs.{JobView}
use Rattle.lusite.specs.Sites.{SiteView}
use Rattle.luweave.specs.Worlds.{IsNewSite}

nothing : {A : Type 0} (x : A) → None ≡ Some x → ⊥
nothing x h = cc

same_some : {A : Type 0} (x y : A) → Some x ≡ Some y → x ≡ y
same_some x y h = cc

pub pushed : {A : Type 0} (P : ℕ → A → Type 0) (xs : List A) (y : A) → P (length xs) y → ((k : ℕ) (x : A) → slice_get xs k ≡ Some x → P k x)
    → (k : ℕ) (x : A) → slice_get (xs ++ y ∷ []) k ≡ Some x → P k x
pushed P [] y here each zero x e = subst (P 0) (same_some y x e) here
pushed P [] y here each (suc k) x e = absurd (nothing x e)
pushed P (z ∷ xs) y here each zero x e = each zero x e
pushed P (z ∷ xs) y here each (suc k) x e = pushed (λ n. P (suc n)) xs y here (λ j w h. each (suc j) w h) k x e

pub one_more : (job : JobView) (sites all : List SiteView) (s : ℕ) (new : SiteView) → all ≡ sites ++ new ∷ [] → length sites ≡ s → IsNewSite job s new
    → ((k : ℕ) (v : SiteView) → slice_get sites k ≡ Some v → IsNewSite job k v) → (k : ℕ) (v : SiteView) → slice_get all k ≡ Some v → IsNewSite job k v
one_more job sites all s new is len here each =
    let P : List SiteView → Type 0 = λ xs. (k : ℕ) (v : SiteView) → slice_get xs k ≡ Some v → IsNewSite job k v in
    let Q : ℕ → Type 0 = λ n. IsNewSite job n new in
    subst P (sym is) (pushed (IsNewSite job) sites new (subst Q (sym len) here) each)
