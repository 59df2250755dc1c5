-- How often a number stands in a list.
use Rattle.std.proofs.Common.{◌≡◌, ◌≢◌, ℕ, zero, suc, ◌+◌, ◌-◌, ◌<◌, ◌≤◌, inl, inr, cond, eqb, List, [], ◌∷◌, ◌++◌, length, get_or, set, take, refl, sym, ap, ◌∙◌, subst, arith, length-set}
use Rattle.std.specs.Prelude.{All, IsPermutation}
use Rattle.std.proofs.lemmas.Bool.{cases_lt}
use Rattle.std.proofs.lemmas.List.{get_or-set_same, get_or-set_other, get_or_past, get_or_read, take_more, take_all}
use Rattle.std.proofs.lemmas.List.Elements.{All-tail}
use Rattle.std.proofs.lemmas.List.Sums.{sum_by-cons, sum_by-append, sum_by_more, sum_by_more_le}
use Rattle.std.proofs.lemmas.List.Sorted.{sum_by_popped, sum_by_pushed}
use Rattle.lucore_laws.specs.Search.{times, done, IsReleased}
use Rattle.lucore_laws.proofs.Deciding.{same_or_not, test_from_same, test_from_apart}

-- 1 where a number is the one that is counted
abbrev pub hit : ℕ → ℕ → ℕ
hit v y = cond (eqb y v) 1 0

pub hit_same : (v : ℕ) → hit v v ≡ 1
hit_same v = ap (λ b. cond b 1 0) (test_from_same v v refl)

pub hit_other : (v y : ℕ) → y ≢ v → hit v y ≡ 0
hit_other v y ne = ap (λ b. cond b 1 0) (test_from_apart y v ne)

pub times-cons : (v y : ℕ) (ys : List ℕ) → times v (y ∷ ys) ≡ hit v y + times v ys
times-cons v y ys = sum_by-cons (hit v) y ys

pub times-append : (v : ℕ) (xs ys : List ℕ) → times v (xs ++ ys) ≡ times v xs + times v ys
times-append v xs ys = sum_by-append (hit v) xs ys

pub times-one : (v y : ℕ) → times v (y ∷ []) ≡ hit v y
times-one v y = omega (arith, times-cons v y [])

pub times_more : (v : ℕ) (xs : List ℕ) (i : ℕ) → i < length xs → times v (take (i + 1) xs) ≡ times v (take i xs) + hit v (get_or xs i 0)
times_more v xs i lt = sum_by_more (hit v) xs i 0 lt

pub times_more_le : (v : ℕ) (xs : List ℕ) (i : ℕ) → i < length xs → times v (take i xs) + hit v (get_or xs i 0) ≤ times v xs
times_more_le v xs i lt = sum_by_more_le (hit v) xs i 0 lt

pub times_popped : (v x : ℕ) (xs ys : List ℕ) → IsPermutation xs (x ∷ ys) → times v ys + hit v x ≡ times v xs
times_popped v x xs ys p = sum_by_popped (hit v) x xs ys p

pub times_pushed : (v x : ℕ) (xs ys : List ℕ) → IsPermutation (x ∷ xs) ys → times v ys ≡ hit v x + times v xs
times_pushed v x xs ys p = sum_by_pushed (hit v) x xs ys p

-- what is below all that stand in a list doesn't stand in it
pub none_below : (x y : ℕ) (xs : List ℕ) → All (λ z. x ≤ z) xs → y < x → times y xs ≡ 0
none_below x y [] all lt = refl
none_below x y (z ∷ xs) all lt =
    let here : x ≤ z = all 0 0 (omega arith) in
    let ne : z ≢ y = λ e. absurd (omega (arith, e)) in
    omega (arith, times-cons y z xs, hit_other y z ne, none_below x y xs (All-tail (λ z. x ≤ z) z xs all) lt)

-- WHAT IS RELEASED

pub released_none : (missing ready : List ℕ) → IsReleased [] missing missing ready ready
released_none missing ready = record { long = refl; fewer = λ v. omega arith; freed = λ v. refl }

pub released_more : (xs ys missing left last ready after behind : List ℕ) → IsReleased xs missing left ready after → IsReleased ys left last after behind → IsReleased (xs ++ ys) missing last ready behind
released_more xs ys missing left last ready after behind a b =
    record {
      long = b.long ∙ a.long;
      fewer = λ v. omega (arith, a.fewer v, b.fewer v, times-append v xs ys);
      freed = λ v. omega (arith, a.freed v, b.freed v);
    }

module _ (missing ready : List ℕ) (x : ℕ) (some : 0 < get_or missing x 0) (lt : x < length missing) where
  left : List ℕ
  left = set missing x (get_or missing x 0 - 1)

  fewer_one : (v : ℕ) → get_or (set missing x (get_or missing x 0 - 1)) v 0 + times v (x ∷ []) ≡ get_or missing v 0
  fewer_one v =
      elim (same_or_not v x) [
        | inl e ↦ subst (λ v. get_or (set missing x (get_or missing x 0 - 1)) v 0 + times v (x ∷ []) ≡ get_or missing v 0) (sym e)
            (omega (arith, get_or-set_same missing x (get_or missing x 0 - 1) 0 lt, times-one x x, hit_same x))
        | inr ne ↦ omega (arith, get_or-set_other missing x v (get_or missing x 0 - 1) 0 ne, times-one v x, hit_other v x (λ e. ne (sym e)))
      ]

  done_some : done (get_or missing x 0) ≡ 0
  done_some = go (get_or missing x 0) some
    where
      go : (n : ℕ) → 0 < n → done n ≡ 0
      go zero h = absurd (omega arith)
      go (suc n) h = refl

  -- that was the last one
  pub released_last : (after : List ℕ) → get_or missing x 0 - 1 ≡ 0 → IsPermutation (x ∷ ready) after → IsReleased (x ∷ []) missing (set missing x (get_or missing x 0 - 1)) ready after
  released_last after nil p =
      record {
        long = length-set missing x (get_or missing x 0 - 1);
        fewer = fewer_one;
        freed = λ v.
            elim (same_or_not v x) [
              | inl e ↦ subst (λ v. times v after + done (get_or missing v 0) ≡ times v ready + done (get_or (set missing x (get_or missing x 0 - 1)) v 0)) (sym e)
                  (omega (arith, times_pushed x x ready after p, hit_same x, done_some, ap done (get_or-set_same missing x (get_or missing x 0 - 1) 0 lt ∙ nil)))
              | inr ne ↦ omega (arith, times_pushed v x ready after p, hit_other v x (λ e. ne (sym e)), ap done (get_or-set_other missing x v (get_or missing x 0 - 1) 0 ne))
            ];
      }

  -- others are missing
  pub released_one : get_or missing x 0 - 1 ≢ 0 → IsReleased (x ∷ []) missing (set missing x (get_or missing x 0 - 1)) ready ready
  released_one others =
      record {
        long = length-set missing x (get_or missing x 0 - 1);
        fewer = fewer_one;
        freed = λ v.
            elim (same_or_not v x) [
              | inl e ↦ subst (λ v. times v ready + done (get_or missing v 0) ≡ times v ready + done (get_or (set missing x (get_or missing x 0 - 1)) v 0)) (sym e)
                  (omega (arith, done_some, ap done (get_or-set_same missing x (get_or missing x 0 - 1) 0 lt), still (get_or missing x 0 - 1) others))
              | inr ne ↦ omega (arith, ap done (get_or-set_other missing x v (get_or missing x 0 - 1) 0 ne))
            ];
      }
    where
      still : (n : ℕ) → n ≢ 0 → done n ≡ 0
      still zero h = absurd (h refl)
      still (suc n) h = refl

pub within : (xs : List ℕ) (i : ℕ) → 0 < get_or xs i 0 → i < length xs
within xs i some = elim (cases_lt i (length xs)) [ inl lt ↦ lt | inr le ↦ absurd (omega (arith, get_or_past xs i 0 le)) ]

-- what was read is what stands there
pub released_last_at : (missing ready after : List ℕ) (x was : ℕ) → 0 < get_or missing x 0 → was ≡ get_or missing x was → was - 1 ≡ 0 → IsPermutation (x ∷ ready) after → IsReleased (x ∷ []) missing (set missing x (was - 1)) ready after
released_last_at missing ready after x was some read nil p =
    let lt = within missing x some in
    let e : was ≡ get_or missing x 0 = get_or_read missing x was lt read 0 in
    subst (λ n. IsReleased (x ∷ []) missing (set missing x (n - 1)) ready after) (sym e) (released_last missing ready x some lt after (omega (arith, e, nil)) p)

pub released_one_at : (missing ready : List ℕ) (x was : ℕ) → 0 < get_or missing x 0 → was ≡ get_or missing x was → was - 1 ≢ 0 → IsReleased (x ∷ []) missing (set missing x (was - 1)) ready ready
released_one_at missing ready x was some read others =
    let lt = within missing x some in
    let e : was ≡ get_or missing x 0 = get_or_read missing x was lt read 0 in
    subst (λ n. IsReleased (x ∷ []) missing (set missing x (n - 1)) ready ready) (sym e) (released_one missing ready x some lt (λ h. others (ap (λ n. n - 1) e ∙ h)))

-- one more of a list
pub released_next : (readers missing left last ready after behind : List ℕ) (i : ℕ) → i < length readers → IsReleased (take i readers) missing left ready after → IsReleased (get_or readers i 0 ∷ []) left last after behind → IsReleased (take (i + 1) readers) missing last ready behind
released_next readers missing left last ready after behind i lt a b =
    subst (λ xs. IsReleased xs missing last ready behind) (sym (take_more readers i 0 lt)) (released_more (take i readers) (get_or readers i 0 ∷ []) missing left last ready after behind a b)

pub released_all : (readers missing left ready after : List ℕ) (i : ℕ) → length readers ≤ i → IsReleased (take i readers) missing left ready after → IsReleased readers missing left ready after
released_all readers missing left ready after i le a = subst (λ xs. IsReleased xs missing left ready after) (take_all i readers le) a
