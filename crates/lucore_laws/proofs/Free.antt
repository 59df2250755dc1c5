-- The places that read nothing, one by one.
use Rattle.std.proofs.Common.{◌≡◌, ◌≢◌, ℕ, zero, suc, ◌+◌, ◌<◌, ◌≤◌, inl, inr, cond, ltb, List, [], ◌∷◌, ◌++◌, length, get_or, take, refl, sym, ap, ◌∙◌, subst, arith, length-append}
use Rattle.std.specs.Prelude.{IsPermutation}
use Rattle.std.proofs.Math.Seq.{get_or-append_seam}
use Rattle.std.proofs.lemmas.Bool.{cases_lt}
use Rattle.std.proofs.lemmas.List.{get_or_append_left, take_more, take_all, length-take}
use Rattle.lucore_laws.specs.Search.{times, done, AreFree}
use Rattle.lucore_laws.proofs.Deciding.{same_or_not, test_from_below, test_from_above}
use Rattle.lucore_laws.proofs.Counts.{hit_same, hit_other, times_pushed}

pub free_none : (missing : List ℕ) → AreFree (take 0 missing) []
free_none missing v = sym (ap (λ b. cond b (done (get_or (take 0 missing) v 0)) 0) (test_from_above v 0 (omega arith)))

module _ (xs ready after : List ℕ) (c : ℕ) (free : AreFree xs ready) (here : times (length xs) after ≡ times (length xs) ready + done c) (others : (v : ℕ) → v ≢ length xs → times v after ≡ times v ready) where
  count_is : (ys : List ℕ) (v : ℕ) → v < length ys → cond (ltb v (length ys)) (done (get_or ys v 0)) 0 ≡ done (get_or ys v 0)
  count_is ys v lt = ap (λ b. cond b (done (get_or ys v 0)) 0) (test_from_below v (length ys) lt)

  count_none : (ys : List ℕ) (v : ℕ) → length ys ≤ v → cond (ltb v (length ys)) (done (get_or ys v 0)) 0 ≡ 0
  count_none ys v le = ap (λ b. cond b (done (get_or ys v 0)) 0) (test_from_above v (length ys) le)

  last : (v : ℕ) → v ≡ length xs → times v after ≡ cond (ltb v (length (xs ++ c ∷ []))) (done (get_or (xs ++ c ∷ []) v 0)) 0
  last v e =
      subst (λ v. times v after ≡ cond (ltb v (length (xs ++ c ∷ []))) (done (get_or (xs ++ c ∷ []) v 0)) 0) (sym e)
      (omega (arith, here, free (length xs), count_none xs (length xs) (omega arith), count_is (xs ++ c ∷ []) (length xs) (omega (arith, length-append xs (c ∷ []))), ap done (get_or-append_seam xs c [] 0)))

  pub free_more : AreFree (xs ++ c ∷ []) after
  free_more v =
      elim (same_or_not v (length xs)) [
        | inl e ↦ last v e
        | inr ne ↦
            elim (cases_lt v (length xs)) [
              | inl lt ↦ omega (arith, others v ne, free v, count_is xs v lt, count_is (xs ++ c ∷ []) v (omega (arith, lt, length-append xs (c ∷ []))), ap done (get_or_append_left xs (c ∷ []) 0 v lt))
              | inr le ↦ omega (arith, others v ne, free v, count_none xs v le, count_none (xs ++ c ∷ []) v (omega (arith, le, ne, length-append xs (c ∷ []))))
            ]
      ]

module _ (missing ready : List ℕ) (k : ℕ) (lt : k < length missing) (free : AreFree (take k missing) ready) where
  long : length (take k missing) ≡ k
  long = omega (arith, length-take k missing, lt)

  more_of : (after : List ℕ) → times k after ≡ times k ready + done (get_or missing k 0) → ((v : ℕ) → v ≢ k → times v after ≡ times v ready) → AreFree (take (k + 1) missing) after
  more_of after here others =
      subst (λ xs. AreFree xs after) (sym (take_more missing k 0 lt))
      (free_more (take k missing) ready after (get_or missing k 0) free
      (subst (λ n. times n after ≡ times n ready + done (get_or missing k 0)) (sym long) here)
      (λ v ne. others v (λ e. ne (e ∙ sym long))))

  -- a place that reads nothing
  pub free_yes : (after : List ℕ) → get_or missing k 0 ≡ 0 → IsPermutation (k ∷ ready) after → AreFree (take (k + 1) missing) after
  free_yes after nil p =
      more_of after (omega (arith, times_pushed k k ready after p, hit_same k, ap done nil)) (λ v ne. omega (arith, times_pushed v k ready after p, hit_other v k (λ e. ne (sym e))))

  -- a place that reads
  pub free_no : get_or missing k 0 ≢ 0 → AreFree (take (k + 1) missing) ready
  free_no some = more_of ready (omega (arith, still (get_or missing k 0) some)) (λ v ne. refl)
    where
      still : (n : ℕ) → n ≢ 0 → done n ≡ 0
      still zero h = absurd (h refl)
      still (suc n) h = refl

pub free_all : (missing ready : List ℕ) (k : ℕ) → length missing ≤ k → AreFree (take k missing) ready → AreFree missing ready
free_all missing ready k le free = subst (λ xs. AreFree xs ready) (take_all k missing le) free
