-- The ends of a site, as the site goes on by one item.
use Rattle.std.proofs.Common.{◌≡◌, ◌≢◌, ℕ, zero, suc, ◌+◌, ◌-◌, ◌<◌, inl, inr, Bool, true, false, cond, filter, List, length, take, map, set, Some, count_by, refl, sym, ap, ◌∙◌, subst, arith}
use Rattle.std.specs.Prelude.{slice_get, slice_index, slice_set}
use Rattle.std.specs.List.{range_with_len}
use Rattle.std.specs.Option.{option_map}
use Rattle.std.specs.List.Sorted.{IsStrictlyIncreasing}
use Rattle.std.proofs.lemmas.List.Kept.{IsStrictlyIncreasing-filter}
use Rattle.std.proofs.lemmas.List.FromFn.{get_or-range_with_len, length-range_with_len}
use Rattle.std.proofs.lemmas.List.{map-set, set-get_or}
use Rattle.std.proofs.lemmas.Option.{slice_get_within, get_or_from_slice_get, slice_get-map}
use Rattle.std.proofs.lemmas.Bool.{cases_eq, cases_lt}
use Rattle.lusite_program.proofs.Written.{slice_get-set_same, slice_get-set_other}
use Rattle.luworld.specs.Systems.{Item}
use Rattle.luworld.specs.Jobs.{JobView, streams_of, script}
use Rattle.luworld.proofs.Counts.{count_yes, count_no}
use Rattle.lusite.specs.Sites.{SiteView}
use Rattle.lurun.specs.Items.{IsSameSite}

pub same_Some : {X : Type 0} (x y : X) → Some x ≡ Some y → x ≡ y
same_Some x y e = cc

-- ---- numbers in order

pub range_increasing : (n : ℕ) → IsStrictlyIncreasing (range_with_len 0 n)
range_increasing n k l =
    let len = length-range_with_len 0 n in
    let a : slice_index (range_with_len 0 n) k ≡ 0 + k = get_or-range_with_len 0 n k 0 (omega (arith, l, len)) in
    let b : slice_index (range_with_len 0 n) (k + 1) ≡ 0 + (k + 1) = get_or-range_with_len 0 n (k + 1) 0 (omega (arith, l, len)) in
    omega (arith, a, b)

pub below : (xs : List ℕ) → IsStrictlyIncreasing xs → (j d : ℕ) → j + suc d < length xs → slice_index xs j < slice_index xs (j + suc d)
below xs inc j zero l = let e : j + 1 ≡ j + suc zero = omega arith in subst (λ k. slice_index xs j < slice_index xs k) e (inc j (omega (arith, l)))
below xs inc j (suc d) l =
    let h = below xs inc j d (omega (arith, l)) in
    let e : (j + suc d) + 1 ≡ j + suc (suc d) = omega arith in
    let n = inc (j + suc d) (omega (arith, l)) in
    let m : slice_index xs (j + suc d) < slice_index xs (j + suc (suc d)) = subst (λ k. slice_index xs (j + suc d) < slice_index xs k) e n in
    omega (arith, h, m)

-- a number stands once among numbers in order
pub once : (xs : List ℕ) → IsStrictlyIncreasing xs → (j k x : ℕ) → slice_get xs j ≡ Some x → slice_get xs k ≡ Some x → j ≡ k
once xs inc j k x ej ek = elim (cases_lt j k) [
  | inl lt ↦ absurd (apart j k lt ej ek)
  | inr ge ↦ elim (cases_lt k j) [ inl lt ↦ absurd (apart k j lt ek ej) | inr ge' ↦ omega (arith, ge, ge') ]
]
  where
    apart : (a b : ℕ) → a < b → slice_get xs a ≡ Some x → slice_get xs b ≡ Some x → ⊥
    apart a b lt ea eb =
        let within = slice_get_within xs b x eb in
        let e : a + suc (b - suc a) ≡ b = omega (arith, lt) in
        let h = below xs inc a (b - suc a) (omega (arith, e, within)) in
        let ya : slice_index xs a ≡ x = get_or_from_slice_get xs a x 0 ea in
        let yb : slice_index xs b ≡ x = get_or_from_slice_get xs b x 0 eb in
        let yc = ap (slice_index xs) e in
        omega (arith, h, ya, yb, yc)

abbrev number : Bool → ℕ
number b = cond b 1 0

as_number : (a b : Bool) → b ≡ a → number b ≡ number a
as_number a b e = ap number e

counted : {X : Type 0} (p : X → Bool) (xs : List X) (n : ℕ) (x : X) → slice_get xs n ≡ Some x → count_by p (take (n + 1) xs) ≡ count_by p (take n xs) + number (p x)
counted {X} p xs n x at = go (p x) refl
  where
    go : (b : Bool) → p x ≡ b → count_by p (take (n + 1) xs) ≡ count_by p (take n xs) + number b
    go true e = let h = count_yes p xs n x at e in let s : suc n ≡ n + 1 = omega arith in let y = ap (λ k. count_by p (take k xs)) s in omega (arith, h, y)
    go false e = let h = count_no p xs n x at e in let s : suc n ≡ n + 1 = omega arith in let y = ap (λ k. count_by p (take k xs)) s in omega (arith, h, y)

-- ---- ends of any kind, each with its job, link, and count of messages; p says which items move the end of a link

module _ {T : Type 0} (job : T → JobView) (link : T → ℕ) (len : T → ℕ) (p : ℕ → Item → Bool) where
  abbrev pub count : JobView → ℕ → ℕ → ℕ → ℕ
  count j l s n = count_by (p l) (take n (script j (streams_of j) s))

  abbrev pub Acts : SiteView → T → Type 0
  Acts v t = (job t ≡ v.job) × (len t ≡ count v.job (link t) v.site v.done)

  abbrev pub Each : SiteView → List T → Type 0
  Each v ts = (k : ℕ) (t : T) → slice_get ts k ≡ Some t → Acts v t

  pub acts_on : (v w : SiteView) (t u : T) (item : Item) → IsSameSite v w → w.done ≡ v.done + 1 → slice_get (script v.job (streams_of v.job) v.site) v.done ≡ Some item
      → Acts v t → job u ≡ job t → link u ≡ link t → len u ≡ len t + number (p (link t) item) → Acts w u
  acts_on v w t u item same more at acts ej el en = (
    ej ∙ acts.0 ∙ sym same.0,
    en ∙ ap (λ n. n + number (p (link t) item)) acts.1 ∙ sym (counted (p (link t)) (script v.job (streams_of v.job) v.site) v.done item at)
        ∙ ap (λ l. count v.job l v.site (v.done + 1)) (sym el)
        ∙ ap (λ j. count j (link u) v.site (v.done + 1)) (sym same.0)
        ∙ ap (λ s. count w.job (link u) s (v.done + 1)) (sym same.1)
        ∙ ap (λ n. count w.job (link u) w.site n) (sym more),
  )

  -- an item that moves none of them
  pub all_kept : (v w : SiteView) (ts : List T) (item : Item) → IsSameSite v w → w.done ≡ v.done + 1 → slice_get (script v.job (streams_of v.job) v.site) v.done ≡ Some item
      → ((l : ℕ) → p l item ≡ false) → Each v ts → Each w ts
  all_kept v w ts item same more at none each k t e =
      acts_on v w t t item same more at (each k t e) refl refl (let z = as_number false (p (link t) item) (none (link t)) in omega (arith, z))

  -- one of them is another now, which has moved as the site has
  pub one_moved : (v w : SiteView) (ts : List T) (item : Item) (i : ℕ) (t u : T) → IsSameSite v w → w.done ≡ v.done + 1 → slice_get (script v.job (streams_of v.job) v.site) v.done ≡ Some item
      → slice_get ts i ≡ Some t → job u ≡ job t → link u ≡ link t → len u ≡ len t + 1 → p (link t) item ≡ true
      → ((k : ℕ) (x : T) → slice_get ts k ≡ Some x → k ≢ i → p (link x) item ≡ false) → Each v ts → Each w (slice_set ts i u)
  one_moved v w ts item i t u same more at here ej el en moves rest each k x e = elim (cases_eq k i) [
    | inl is ↦
        let x_is : u ≡ x = same_Some u x (sym (ap (slice_get (set ts i u)) is ∙ slice_get-set_same ts i u (slice_get_within ts i t here)) ∙ e) in
        subst (Acts w) x_is (acts_on v w t u item same more at (each i t here) ej el (let z = as_number true (p (link t) item) moves in omega (arith, en, z)))
    | inr other ↦
        let old : slice_get ts k ≡ Some x = sym (slice_get-set_other ts i k u other) ∙ e in
        acts_on v w x x item same more at (each k x old) refl refl (let z = as_number false (p (link x) item) (rest k x old other) in omega (arith, z))
  ]

  -- one of them is another now, which hasn't moved
  pub one_kept : (v : SiteView) (ts : List T) (i : ℕ) (t u : T) → slice_get ts i ≡ Some t → job u ≡ job t → link u ≡ link t → len u ≡ len t → Each v ts → Each v (slice_set ts i u)
  one_kept v ts i t u here ej el en each k x e = elim (cases_eq k i) [
    | inl is ↦
        let x_is : u ≡ x = same_Some u x (sym (ap (slice_get (set ts i u)) is ∙ slice_get-set_same ts i u (slice_get_within ts i t here)) ∙ e) in
        let old = each i t here in
        subst (Acts v) x_is (ej ∙ old.0, en ∙ old.1 ∙ ap (λ l. count v.job l v.site v.done) (sym el))
    | inr other ↦ each k x (sym (slice_get-set_other ts i k u other) ∙ e)
  ]

  pub links_kept : (ts : List T) (i : ℕ) (t u : T) → slice_get ts i ≡ Some t → link u ≡ link t → map link (slice_set ts i u) ≡ map link ts
  links_kept ts i t u here el =
      map-set link ts i u ∙ ap (λ l. set (map link ts) i l) (el ∙ sym (get_or_from_slice_get (map link ts) i (link t) 0 (slice_get-map link ts i ∙ ap (option_map link) here))) ∙ set-get_or (map link ts) i 0

  -- two ends of one link are one
  pub one_end : (q : ℕ → Bool) (n : ℕ) (ts : List T) → map link ts ≡ filter q (range_with_len 0 n) → (j k : ℕ) (x y : T) → slice_get ts j ≡ Some x → slice_get ts k ≡ Some y → link x ≡ link y → j ≡ k
  one_end q n ts is j k x y ej ek e =
      let xs = filter q (range_with_len 0 n) in
      let inc = IsStrictlyIncreasing-filter q (range_with_len 0 n) (range_increasing n) in
      let at : (i : ℕ) (z : T) → slice_get ts i ≡ Some z → slice_get xs i ≡ Some (link z) = λ i z h. ap (λ ys. slice_get ys i) (sym is) ∙ slice_get-map link ts i ∙ ap (option_map link) h in
      once xs inc j k (link x) (at j x ej) (at k y ek ∙ ap Some (sym e))
