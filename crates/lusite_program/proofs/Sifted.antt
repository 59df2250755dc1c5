-- What a filtered range has: its numbers rise, and between two that follow one another there is none.
use Rattle.std.proofs.Common.{◌≡◌, ◌≢◌, ℕ, zero, suc, ◌+◌, ◌<◌, ◌≤◌, inl, inr, Bool, true, false, cond, List, ◌∷◌, filter, Option, Some, None, refl, sym, ap, ◌∙◌, subst, arith}
use Rattle.std.specs.Prelude.{slice_get, unwrap_or}
use Rattle.std.specs.List.{range_with_len}
use Rattle.std.proofs.lemmas.Bool.{cases_eq, false≢true}

-- where the number of this place stands, and behind the last the end
abbrev pub or_end : List ℕ → ℕ → ℕ → ℕ
or_end xs k end = unwrap_or (slice_get xs k) end

pub or_there : (xs : List ℕ) (k end x : ℕ) → x ≡ or_end xs k end → x < end → slice_get xs k ≡ Some x
or_there xs k end x e lt = go (slice_get xs k) e
  where
    go : (o : Option ℕ) → x ≡ unwrap_or o end → o ≡ Some x
    go None e = absurd (omega (arith, e, lt))
    go (Some y) e = ap Some (sym e)

module _ (p : ℕ → Bool) where
  abbrev sifted : ℕ → ℕ → List ℕ
  sifted a n = filter p (range_with_len a n)

  shifted : (a n : ℕ) → a + 1 + n ≡ a + suc n
  shifted a n = omega arith

  -- a number of it lies in the range and is wanted
  pub sifted_in : (a n k x : ℕ) → slice_get (sifted a n) k ≡ Some x → (a ≤ x) × (x < a + n) × (p x ≡ true)
  sifted_in a zero k x e = absurd cc
  sifted_in a (suc n) k x e = go (p a) refl k e (λ j h. let w = sifted_in (a + 1) n j x h in let low = w.0 in let high = w.1 in (omega (arith, low), omega (arith, high), w.2))
    where
      go : (b : Bool) → p a ≡ b → (k : ℕ) → slice_get (cond b (a ∷ sifted (a + 1) n) (sifted (a + 1) n)) k ≡ Some x → ((j : ℕ) → slice_get (sifted (a + 1) n) j ≡ Some x → (a ≤ x) × (x < a + suc n) × (p x ≡ true)) → (a ≤ x) × (x < a + suc n) × (p x ≡ true)
      go true is zero e later = let same : a ≡ x = cc in (omega (arith, same), omega (arith, same), ap p (sym same) ∙ is)
      go true is (suc k) e later = later k e
      go false is k e later = later k e

  -- before the first there is none
  pub before_first : (a n r : ℕ) → a ≤ r → r < or_end (sifted a n) 0 (a + n) → p r ≡ false
  before_first a zero r le lt = absurd (omega (arith, le, lt))
  before_first a (suc n) r le lt = go (p a) refl lt (λ other l. before_first (a + 1) n r (omega (arith, le, other)) (subst (λ (end : ℕ). r < or_end (sifted (a + 1) n) 0 end) (sym (shifted a n)) l))
    where
      go : (b : Bool) → p a ≡ b → r < or_end (cond b (a ∷ sifted (a + 1) n) (sifted (a + 1) n)) 0 (a + suc n) → (r ≢ a → r < or_end (sifted (a + 1) n) 0 (a + suc n) → p r ≡ false) → p r ≡ false
      go true is lt later = absurd (omega (arith, le, lt))
      go false is lt later = elim (cases_eq r a) [ inl same ↦ ap p same ∙ is | inr other ↦ later other lt ]

  -- between one and the next there is none
  pub between : (a n k x r : ℕ) → slice_get (sifted a n) k ≡ Some x → x < r → r < or_end (sifted a n) (suc k) (a + n) → p r ≡ false
  between a zero k x r e gt lt = absurd cc
  between a (suc n) k x r e gt lt = go (p a) refl k e lt (λ j h l. between (a + 1) n j x r h gt (subst (λ (end : ℕ). r < or_end (sifted (a + 1) n) (suc j) end) (sym (shifted a n)) l))
    where
      go : (b : Bool) → p a ≡ b → (k : ℕ) → slice_get (cond b (a ∷ sifted (a + 1) n) (sifted (a + 1) n)) k ≡ Some x → r < or_end (cond b (a ∷ sifted (a + 1) n) (sifted (a + 1) n)) (suc k) (a + suc n) → ((j : ℕ) → slice_get (sifted (a + 1) n) j ≡ Some x → r < or_end (sifted (a + 1) n) (suc j) (a + suc n) → p r ≡ false) → p r ≡ false
      go true is zero e lt later = let same : a ≡ x = cc in before_first (a + 1) n r (omega (arith, same, gt)) (subst (λ (end : ℕ). r < or_end (sifted (a + 1) n) 0 end) (sym (shifted a n)) lt)
      go true is (suc k) e lt later = later k e lt
      go false is k e lt later = later k e lt

  -- they rise
  pub rising : (a n j k x y : ℕ) → j < k → slice_get (sifted a n) j ≡ Some x → slice_get (sifted a n) k ≡ Some y → x < y
  rising a zero j k x y l ex ey = absurd cc
  rising a (suc n) j k x y l ex ey = go (p a) refl j k l ex ey (λ i m h. rising (a + 1) n i m x y h)
    where
      go : (b : Bool) → p a ≡ b → (j k : ℕ) → j < k → slice_get (cond b (a ∷ sifted (a + 1) n) (sifted (a + 1) n)) j ≡ Some x → slice_get (cond b (a ∷ sifted (a + 1) n) (sifted (a + 1) n)) k ≡ Some y → ((i m : ℕ) → i < m → slice_get (sifted (a + 1) n) i ≡ Some x → slice_get (sifted (a + 1) n) m ≡ Some y → x < y) → x < y
      go true is j zero l ex ey later = absurd (omega (arith, l))
      go true is zero (suc k) l ex ey later = let same : a ≡ x = cc in let low = (sifted_in (a + 1) n k y ey).0 in omega (arith, same, low)
      go true is (suc j) (suc k) l ex ey later = later j k (omega (arith, l)) ex ey
      go false is j k l ex ey later = later j k l ex ey

  -- the next is greater, and the end is
  pub next_greater : (a n k x : ℕ) → slice_get (sifted a n) k ≡ Some x → x < or_end (sifted a n) (suc k) (a + n)
  next_greater a n k x e = go (slice_get (sifted a n) (suc k)) refl
    where
      go : (o : Option ℕ) → slice_get (sifted a n) (suc k) ≡ o → x < unwrap_or o (a + n)
      go None is = (sifted_in a n k x e).1
      go (Some y) is = rising a n k (suc k) x y (omega arith) e is

  pub or_end_in : (a n k : ℕ) → or_end (sifted a n) k (a + n) ≤ a + n
  or_end_in a n k = go (slice_get (sifted a n) k) refl
    where
      go : (o : Option ℕ) → slice_get (sifted a n) k ≡ o → unwrap_or o (a + n) ≤ a + n
      go None is = omega arith
      go (Some y) is = let w = (sifted_in a n k y is).1 in omega (arith, w)

  -- each that is wanted is there
  pub sifted_has : (a n x : ℕ) → a ≤ x → x < a + n → p x ≡ true → (k : ℕ) × (slice_get (sifted a n) k ≡ Some x)
  sifted_has a zero x le lt is = absurd (omega (arith, le, lt))
  sifted_has a (suc n) x le lt is = go (p a) refl (λ other. sifted_has (a + 1) n x (omega (arith, le, other)) (omega (arith, lt)) is)
    where
      go : (b : Bool) → p a ≡ b → (x ≢ a → (k : ℕ) × (slice_get (sifted (a + 1) n) k ≡ Some x)) → (k : ℕ) × (slice_get (cond b (a ∷ sifted (a + 1) n) (sifted (a + 1) n)) k ≡ Some x)
      go true is_a later = elim (cases_eq x a) [
        | inl same ↦ (0, ap Some (sym same))
        | inr other ↦ let w = later other in (suc w.0, w.1)
      ]
      go false is_a later = elim (cases_eq x a) [
        | inl same ↦ absurd (false≢true (sym is_a ∙ ap p (sym same) ∙ is))
        | inr other ↦ later other
      ]
