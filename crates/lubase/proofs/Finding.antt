-- The first place of a name.
use Rattle.std.proofs.Common.{◌≡◌, ◌∙◌, ◌↔◌, ℕ, zero, suc, ◌+◌, ◌<◌, Bool, true, false, List, [], ◌∷◌, map, length, get_or, drop, Option, Some, None, cond, refl, sym, ap, subst, arith, add-one, drop-cons, IsTrue, Bor, ◌≤◌, ◌-◌, ◌++◌, ◌⊎◌, inl, inr, take}
use Rattle.std.proofs.lemmas.Bool.{cases_lt}
use Rattle.std.specs.Prelude.{slice_get, IsSome, Contains}
use Rattle.std.specs.Str.{bytes_eq}
use Rattle.std.specs.Option.{is_some}
use Rattle.std.proofs.lemmas.Slice.Eq.{bytes_eq-Decides}
use Rattle.std.proofs.lemmas.Option.{slice_get_within, slice_get-get_or, get_or_from_slice_get}
use Rattle.lubase.specs.Places.{place_from, first_place}

abbrev pub texts : List (Bor (List ℕ)) → List (List ℕ)
texts = map (λ n. n.now)

-- one name more, from the end
pub first_step : (names : List (Bor (List ℕ))) (i : ℕ) (z : Bor (List ℕ)) (x : List ℕ) → i < length names →
    place_from i (texts (drop i names)) x ≡ cond (bytes_eq ((get_or names i z).now) x) (Some i) (place_from (i + 1) (texts (drop (i + 1) names)) x)
first_step names i z x lt =
    let d : drop i names ≡ get_or names i z ∷ drop (suc i) names = drop-cons names i z lt in
    ap (λ ns. place_from i (texts ns) x) d
    ∙ ap (λ k. cond (bytes_eq ((get_or names i z).now) x) (Some i) (place_from (i + 1) (texts (drop k names)) x)) (sym (add-one i))

-- a place that is found has the name
there_step : (a : ℕ) (y : List ℕ) (ys : List (List ℕ)) (x : List ℕ) (k : ℕ) (b : Bool) → bytes_eq y x ≡ b
    → (place_from (a + 1) ys x ≡ Some k → (j : ℕ) × (k ≡ a + 1 + j) × (slice_get ys j ≡ Some x))
    → cond b (Some a) (place_from (a + 1) ys x) ≡ Some k → (j : ℕ) × (k ≡ a + j) × (slice_get (y ∷ ys) j ≡ Some x)
there_step a y ys x k true same_ ih e =
    let same : a ≡ k = cc in
    (0, omega arith, ap Some ((bytes_eq-Decides y x).0 same_))
there_step a y ys x k false other ih e =
    let r = ih e in
    (suc r.0, (let z = r.1 in omega arith), r.2)

first_there : (a : ℕ) (ys : List (List ℕ)) (x : List ℕ) (k : ℕ) → place_from a ys x ≡ Some k → (j : ℕ) × (k ≡ a + j) × (slice_get ys j ≡ Some x)
first_there a [] x k e = absurd (cc)
first_there a (y ∷ ys) x k e = there_step a y ys x k (bytes_eq y x) refl (λ h. first_there (a + 1) ys x k h) e

pub there : (ys : List (List ℕ)) (x : List ℕ) (k : ℕ) → first_place ys x ≡ Some k → slice_get ys k ≡ Some x
there ys x k e =
    let r = first_there 0 ys x k e in
    let same : r.0 ≡ k = (let z = r.1 in omega arith) in
    subst (λ j. slice_get ys j ≡ Some x) same r.2

-- a name of the list has a place
found_step : (a : ℕ) (y : List ℕ) (ys : List (List ℕ)) (x : List ℕ) (i : ℕ) (b : Bool) → bytes_eq y x ≡ b
    → ((i : ℕ) → slice_get ys i ≡ Some x → (k : ℕ) × (place_from (a + 1) ys x ≡ Some k))
    → slice_get (y ∷ ys) i ≡ Some x → (k : ℕ) × (cond b (Some a) (place_from (a + 1) ys x) ≡ Some k)
found_step a y ys x i true same_ ih e = (a, refl)
found_step a y ys x zero false other ih e =
    let same : y ≡ x = cc in
    let never : false ≡ true = sym other ∙ (bytes_eq-Decides y x).1 same in
    absurd (cc)
found_step a y ys x (suc i) false other ih e = ih i e

first_found : (a : ℕ) (ys : List (List ℕ)) (x : List ℕ) (i : ℕ) → slice_get ys i ≡ Some x → (k : ℕ) × (place_from a ys x ≡ Some k)
first_found a [] x i e = absurd (cc)
first_found a (y ∷ ys) x i e = found_step a y ys x i (bytes_eq y x) refl (λ i h. first_found (a + 1) ys x i h) e

pub found : (ys : List (List ℕ)) (x : List ℕ) (i : ℕ) → slice_get ys i ≡ Some x → (k : ℕ) × (first_place ys x ≡ Some k)
found ys x i e = first_found 0 ys x i e

pub contains_at : (ys : List (List ℕ)) (x : List ℕ) (k : ℕ) → slice_get ys k ≡ Some x → Contains ys x
contains_at ys x k e = (k, slice_get_within ys k x e, get_or_from_slice_get ys k x x e)

pub contains_found : (ys : List (List ℕ)) (x : List ℕ) (o : Option ℕ) → first_place ys x ≡ o → IsSome o → Contains ys x
contains_found ys x None e h = absurd (cc)
contains_found ys x (Some k) e h = contains_at ys x k (there ys x k e)

pub found_contains : (ys : List (List ℕ)) (x : List ℕ) → Contains ys x → IsSome (first_place ys x)
found_contains ys x c =
    let r = found ys x c.0 (slice_get-get_or ys c.0 x c.1 ∙ ap Some c.2) in
    ap is_some r.1

pub has_by_place : (ys : List (List ℕ)) (x : List ℕ) (b : Bool) → b ≡ is_some (first_place ys x) → IsTrue b ↔ Contains ys x
has_by_place ys x b e = (
  λ h. contains_found ys x (first_place ys x) refl (sym e ∙ h),
  λ h. e ∙ found_contains ys x h,
)

-- no place before the first has the name
before_step : (a : ℕ) (y : List ℕ) (ys : List (List ℕ)) (x : List ℕ) (k j : ℕ) (b : Bool) → bytes_eq y x ≡ b
    → (place_from (a + 1) ys x ≡ Some k → (j : ℕ) → slice_get ys j ≡ Some x → k ≤ a + 1 + j)
    → cond b (Some a) (place_from (a + 1) ys x) ≡ Some k → slice_get (y ∷ ys) j ≡ Some x → k ≤ a + j
before_step a y ys x k j true same_ ih e h =
    let same : a ≡ k = cc in
    omega (arith, same)
before_step a y ys x k zero false other ih e h =
    let same : y ≡ x = cc in
    let never : false ≡ true = sym other ∙ (bytes_eq-Decides y x).1 same in
    absurd (cc)
before_step a y ys x k (suc j) false other ih e h = let le = ih e j h in omega (arith, le)

first_before : (a : ℕ) (ys : List (List ℕ)) (x : List ℕ) (k j : ℕ) → place_from a ys x ≡ Some k → slice_get ys j ≡ Some x → k ≤ a + j
first_before a [] x k j e h = absurd (cc)
first_before a (y ∷ ys) x k j e h = before_step a y ys x k j (bytes_eq y x) refl (λ e j h. first_before (a + 1) ys x k j e h) e h

pub least_place : (ys : List (List ℕ)) (x : List ℕ) (k j : ℕ) → first_place ys x ≡ Some k → slice_get ys j ≡ Some x → k ≤ j
least_place ys x k j e h = let le = first_before 0 ys x k j e h in omega (arith, le)

-- an item of the front
pub in_take : (ys : List (List ℕ)) (n k : ℕ) (x : List ℕ) → slice_get ys k ≡ Some x → k < n → Contains (take n ys) x
in_take [] n k x h lt = absurd (cc)
in_take (y ∷ ys) zero k x h lt = absurd (omega arith)
in_take (y ∷ ys) (suc n) zero x h lt = contains_at (y ∷ take n ys) x 0 h
in_take (y ∷ ys) (suc n) (suc k) x h lt =
    let c = in_take ys n k x h (omega arith) in
    contains_at (y ∷ take n ys) x (suc c.0) (slice_get-get_or (take n ys) c.0 x c.1 ∙ ap Some c.2)

take_item : (ys : List (List ℕ)) (n k : ℕ) (x : List ℕ) → slice_get (take n ys) k ≡ Some x → (slice_get ys k ≡ Some x) × (k < n)
take_item [] zero k x h = absurd (cc)
take_item [] (suc n) k x h = absurd (cc)
take_item (y ∷ ys) zero k x h = absurd (cc)
take_item (y ∷ ys) (suc n) zero x h = (h, omega arith)
take_item (y ∷ ys) (suc n) (suc k) x h = let r = take_item ys n k x h in (r.0, (let lt = r.1 in omega (arith, lt)))

pub of_take : (ys : List (List ℕ)) (n : ℕ) (x : List ℕ) → Contains (take n ys) x → (k : ℕ) × (slice_get ys k ≡ Some x) × (k < n)
of_take ys n x c =
    let r = take_item ys n c.0 x (slice_get-get_or (take n ys) c.0 x c.1 ∙ ap Some c.2) in
    (c.0, r.0, r.1)

-- a name stands first where it is new
pub first_is_new : (ys : List (List ℕ)) (x : List ℕ) (k : ℕ) → first_place ys x ≡ Some k → ¬ Contains (take k ys) x
first_is_new ys x k e c =
    let r = of_take ys k x c in
    let le = least_place ys x k r.0 e r.1 in
    (let lt = r.2 in omega (arith, lt, le))

pub new_is_first : (ys : List (List ℕ)) (x : List ℕ) (k : ℕ) → slice_get ys k ≡ Some x → (¬ Contains (take k ys) x) → first_place ys x ≡ Some k
new_is_first ys x k at new =
    let r = found ys x k at in
    let le = least_place ys x r.0 k r.1 at in
    go r.0 r.1 le (cases_lt r.0 k)
  where
    go : (r : ℕ) → first_place ys x ≡ Some r → r ≤ k → (r < k) ⊎ (k ≤ r) → first_place ys x ≡ Some k
    go r e le (inl lt) = absurd (new (in_take ys k r x (there ys x r e) lt))
    go r e le (inr ge) = e ∙ ap Some (let same : r ≡ k = omega arith in same)

-- in three lists, a name of the middle one stands first where neither the first list nor the front of its own has it
pub first_in_middle : (a l b : List (List ℕ)) (x : List ℕ) (j : ℕ) → slice_get l j ≡ Some x
    → (first_place (a ++ (l ++ b)) x ≡ Some (length a + j)) ↔ ((¬ Contains a x) × (¬ Contains (take j l) x))
first_in_middle a l b x j stands = (
  λ e.
      let new = first_is_new (a ++ (l ++ b)) x (length a + j) e in (
        λ c. new (in_take (a ++ (l ++ b)) (length a + j) c.0 x (left_item a (l ++ b) c.0 x (slice_get-get_or a c.0 x c.1 ∙ ap Some c.2)) (let lt = c.1 in omega (arith, lt))),
        λ c.
            let r = of_take l j x c in
            new (in_take (a ++ (l ++ b)) (length a + j) (length a + r.0) x (right_item a (l ++ b) r.0 x (left_item l b r.0 x r.1)) (let lt = r.2 in omega (arith, lt))),
      ),
  λ h. new_is_first (a ++ (l ++ b)) x (length a + j) (right_item a (l ++ b) j x (left_item l b j x stands)) (λ c.
      let r = of_take (a ++ (l ++ b)) (length a + j) x c in
      split h r.0 r.1 r.2 (cases_lt r.0 (length a))),
)
  where
    left_item : (a b : List (List ℕ)) (k : ℕ) (x : List ℕ) → slice_get a k ≡ Some x → slice_get (a ++ b) k ≡ Some x
    left_item [] b k x h = absurd (cc)
    left_item (y ∷ a) b zero x h = h
    left_item (y ∷ a) b (suc k) x h = left_item a b k x h

    right_item : (a b : List (List ℕ)) (k : ℕ) (x : List ℕ) → slice_get b k ≡ Some x → slice_get (a ++ b) (length a + k) ≡ Some x
    right_item [] b k x h = ap (slice_get b) (let z : 0 + k ≡ k = omega arith in z) ∙ h
    right_item (y ∷ a) b k x h = ap (slice_get (y ∷ (a ++ b))) (let z : suc (length a) + k ≡ suc (length a + k) = omega arith in z) ∙ right_item a b k x h

    item_left : (a b : List (List ℕ)) (k : ℕ) (x : List ℕ) → k < length a → slice_get (a ++ b) k ≡ Some x → slice_get a k ≡ Some x
    item_left [] b k x lt h = absurd (omega arith)
    item_left (y ∷ a) b zero x lt h = h
    item_left (y ∷ a) b (suc k) x lt h = item_left a b k x (omega arith) h

    item_right : (a b : List (List ℕ)) (k : ℕ) (x : List ℕ) → slice_get (a ++ b) (length a + k) ≡ Some x → slice_get b k ≡ Some x
    item_right [] b k x h = ap (slice_get b) (let z : k ≡ 0 + k = omega arith in z) ∙ h
    item_right (y ∷ a) b k x h = item_right a b k x (ap (slice_get (y ∷ (a ++ b))) (let z : suc (length a + k) ≡ suc (length a) + k = omega arith in z) ∙ h)

    split : (¬ Contains a x) × (¬ Contains (take j l) x) → (k : ℕ) → slice_get (a ++ (l ++ b)) k ≡ Some x → k < length a + j → (k < length a) ⊎ (length a ≤ k) → ⊥
    split h k at lt (inl less) = h.0 (contains_at a x k (item_left a (l ++ b) k x less at))
    split h k at lt (inr le) =
        let m = k - length a in
        let same : k ≡ length a + m = omega arith in
        let here = item_right a (l ++ b) m x (ap (slice_get (a ++ (l ++ b))) (sym same) ∙ at) in
        let less : m < j = omega arith in
        let inside : m < length l = (let w = slice_get_within l j x stands in omega (arith, w, less)) in
        h.1 (in_take l j m x (item_left l b m x inside here) less)

-- a name of a row stands first where it is new
pub stands_first : (ys : List (List ℕ)) (x : List ℕ) (k : ℕ) → slice_get ys k ≡ Some x → (first_place ys x ≡ Some k) ↔ (¬ Contains (take k ys) x)
stands_first ys x k at = (first_is_new ys x k, new_is_first ys x k at)
