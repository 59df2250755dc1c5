-- A quotient and its rest are known by where they lie.
use Rattle.std.proofs.Common.{◌≡◌, true, false, ℕ, zero, suc, ◌+◌, ◌-◌, ◌*◌, ◌/◌, ◌<◌, ◌≤◌, ℤ, pos, negsuc, neg_ℤ, ◌-ℤ◌, ◌*ℤ◌, refl, sym, subst, ◌∙◌, ap, arith}
use Rattle.std.specs.Prelude.{int_le, unsigned_abs}
use Rattle.std.proofs.lemmas.Nat.{div-mul-add}
use Rattle.std.proofs.Math.Dec.{leb-zero}
use Rattle.std.proofs.Math.Nat.{mul_comm, mul-zero}
use Rattle.std.proofs.Math.IntN.{pos-*ℤ-pos, pos-*ℤ-negsuc, pos-+ℤ-pos, +ℤ-neg_ℤ_cancel, neg_ℤ-+ℤ}
use Rattle.luflow.specs.declared.form.Outcome.{Outcome}
use Rattle.luflow.specs.Operators.{int_of, quotient_of, rest_of}

-- m is in a so often, where so many m are at most a and one more is more
pub often : (a k q p : ℕ) → p ≡ q * suc k → p ≤ a → a < p + suc k → a / suc k ≡ q
often a k q p product below above =
    let whole : a ≡ q * suc k + (a - p) = omega (arith, product, below) in
    ap (λ (n : ℕ). n / suc k) whole ∙ div-mul-add q (suc k) (a - p) (omega (arith, below, above))

module _ (a k q p : ℕ) (product : p ≡ q * suc k) (below : p ≤ a) (above : a < p + suc k) where
  quotient_up : quotient_of (pos a) (pos (suc k)) ≡ int_of (pos q)
  quotient_up = ap (λ (n : ℕ). int_of (pos n)) (often a k q p product below above)

  times : pos (suc k) *ℤ pos q ≡ pos p
  times = pos-*ℤ-pos (suc k) q ∙ ap pos (mul_comm (suc k) q ∙ sym product)

  rest_up : rest_of (pos a) (pos (suc k)) ≡ int_of (pos a -ℤ pos p)
  rest_up = ap (λ (n : ℕ). int_of (pos a -ℤ pos (suc k) *ℤ pos n)) (often a k q p product below above) ∙ ap (λ (z : ℤ). int_of (pos a -ℤ z)) times

pub times_down : (k q : ℕ) → pos (suc k) *ℤ neg_ℤ (pos q) ≡ neg_ℤ (pos (suc k * q))
times_down k zero =
    let none : suc k * 0 ≡ 0 = mul-zero (suc k) in
    pos-*ℤ-pos (suc k) 0 ∙ ap pos none ∙ ap (λ (n : ℕ). neg_ℤ (pos n)) (sym none)
times_down k (suc n) = pos-*ℤ-negsuc (suc k) n

module _ (b k q p : ℕ) (product : p ≡ q * suc k) (below : p ≤ suc b) (above : suc b < p + suc k) where
  quotient_down : quotient_of (negsuc b) (pos (suc k)) ≡ int_of (neg_ℤ (pos q))
  quotient_down = ap (λ (n : ℕ). int_of (neg_ℤ (pos n))) (often (suc b) k q p product below above)

  times_back : pos (suc k) *ℤ neg_ℤ (pos q) ≡ neg_ℤ (pos p)
  times_back = times_down k q ∙ ap (λ (n : ℕ). neg_ℤ (pos n)) (mul_comm (suc k) q ∙ sym product)

  rest_down : rest_of (negsuc b) (pos (suc k)) ≡ int_of (negsuc b -ℤ neg_ℤ (pos p))
  rest_down =
      ap (λ (n : ℕ). int_of (negsuc b -ℤ pos (suc k) *ℤ neg_ℤ (pos n))) (often (suc b) k q p product below above)
      ∙ ap (λ (z : ℤ). int_of (negsuc b -ℤ z)) times_back

-- for a number that isn't below 0, and one that is
pub quotient_above : (x : ℤ) (m q p : ℕ) → int_le (pos 0) x ≡ true → 0 < m → p ≡ q * m → p ≤ unsigned_abs x → unsigned_abs x < p + m → quotient_of x (pos m) ≡ int_of (pos q)
quotient_above (negsuc b) m q p up some product below above = absurd cc
quotient_above (pos a) zero q p up some product below above = absurd (omega (arith, some))
quotient_above (pos a) (suc k) q p up some product below above = quotient_up a k q p product below above

pub rest_above : (x : ℤ) (m q p : ℕ) → int_le (pos 0) x ≡ true → 0 < m → p ≡ q * m → p ≤ unsigned_abs x → unsigned_abs x < p + m → rest_of x (pos m) ≡ int_of (x -ℤ pos p)
rest_above (negsuc b) m q p up some product below above = absurd cc
rest_above (pos a) zero q p up some product below above = absurd (omega (arith, some))
rest_above (pos a) (suc k) q p up some product below above = rest_up a k q p product below above

pub quotient_below : (x : ℤ) (m q p : ℕ) → int_le (pos 0) x ≡ false → 0 < m → p ≡ q * m → p ≤ unsigned_abs x → unsigned_abs x < p + m → quotient_of x (pos m) ≡ int_of (neg_ℤ (pos q))
quotient_below (pos a) m q p down some product below above = absurd (let e : true ≡ false = sym (leb-zero a) ∙ down in cc)
quotient_below (negsuc b) zero q p down some product below above = absurd (omega (arith, some))
quotient_below (negsuc b) (suc k) q p down some product below above = quotient_down b k q p product below above

pub rest_below : (x : ℤ) (m q p : ℕ) → int_le (pos 0) x ≡ false → 0 < m → p ≡ q * m → p ≤ unsigned_abs x → unsigned_abs x < p + m → rest_of x (pos m) ≡ int_of (x -ℤ neg_ℤ (pos p))
rest_below (pos a) m q p down some product below above = absurd (let e : true ≡ false = sym (leb-zero a) ∙ down in cc)
rest_below (negsuc b) zero q p down some product below above = absurd (omega (arith, some))
rest_below (negsuc b) (suc k) q p down some product below above = rest_down b k q p product below above

-- with the sign of the number
pub rest_with : (x s : ℤ) (m q p a : ℕ) → a ≡ unsigned_abs x → (int_le (pos 0) x ≡ true → s ≡ pos p) → (int_le (pos 0) x ≡ false → s ≡ neg_ℤ (pos p)) → 0 < m → p ≡ q * m → p ≤ a → a < p + m → rest_of x (pos m) ≡ int_of (x -ℤ s)
rest_with (pos n) s m q p a is up down some product below above =
    rest_above (pos n) m q p (leb-zero n) some product (subst (λ (k : ℕ). p ≤ k) is below) (subst (λ (k : ℕ). k < p + m) is above) ∙ ap (λ (z : ℤ). int_of (pos n -ℤ z)) (sym (up (leb-zero n)))
rest_with (negsuc b) s m q p a is up down some product below above =
    rest_below (negsuc b) m q p refl some product (subst (λ (k : ℕ). p ≤ k) is below) (subst (λ (k : ℕ). k < p + m) is above) ∙ ap (λ (z : ℤ). int_of (negsuc b -ℤ z)) (sym (down refl))

pub quotient_with : (x s : ℤ) (m q p a : ℕ) → a ≡ unsigned_abs x → (int_le (pos 0) x ≡ true → s ≡ pos q) → (int_le (pos 0) x ≡ false → s ≡ neg_ℤ (pos q)) → 0 < m → p ≡ q * m → p ≤ a → a < p + m → quotient_of x (pos m) ≡ int_of s
quotient_with (pos n) s m q p a is up down some product below above =
    quotient_above (pos n) m q p (leb-zero n) some product (subst (λ (k : ℕ). p ≤ k) is below) (subst (λ (k : ℕ). k < p + m) is above) ∙ ap int_of (sym (up (leb-zero n)))
quotient_with (negsuc b) s m q p a is up down some product below above =
    quotient_below (negsuc b) m q p refl some product (subst (λ (k : ℕ). p ≤ k) is below) (subst (λ (k : ℕ). k < p + m) is above) ∙ ap int_of (sym (down refl))

minus : (a p r : ℕ) → r + p ≡ a → pos a -ℤ pos p ≡ pos r
minus a p r e = ap (λ (n : ℕ). pos n -ℤ pos p) (sym e) ∙ ap (λ (z : ℤ). z -ℤ pos p) (sym (pos-+ℤ-pos r p)) ∙ +ℤ-neg_ℤ_cancel (pos r) (pos p)

minus_down : (a p r : ℕ) → r + p ≡ a → neg_ℤ (pos a) -ℤ neg_ℤ (pos p) ≡ neg_ℤ (pos r)
minus_down a p r e =
    ap (λ (n : ℕ). neg_ℤ (pos n) -ℤ neg_ℤ (pos p)) (sym e)
    ∙ ap (λ (z : ℤ). neg_ℤ z -ℤ neg_ℤ (pos p)) (sym (pos-+ℤ-pos r p))
    ∙ ap (λ (z : ℤ). z -ℤ neg_ℤ (pos p)) (neg_ℤ-+ℤ (pos r) (pos p))
    ∙ +ℤ-neg_ℤ_cancel (neg_ℤ (pos r)) (neg_ℤ (pos p))

-- what is left of a number, with its sign, is the rest
pub rest_left : (x : ℤ) (m q p a r : ℕ) (v : Outcome) → a ≡ unsigned_abs x → 0 < m → p ≡ q * m → p ≤ a → a < p + m → r + p ≡ a → (int_le (pos 0) x ≡ true → int_of (pos r) ≡ v) → (int_le (pos 0) x ≡ false → int_of (neg_ℤ (pos r)) ≡ v) → rest_of x (pos m) ≡ v
rest_left (pos n) m q p a r v is some product below above left up down =
    rest_above (pos n) m q p (leb-zero n) some product (subst (λ (k : ℕ). p ≤ k) is below) (subst (λ (k : ℕ). k < p + m) is above) ∙ ap int_of (minus n p r (left ∙ is)) ∙ up (leb-zero n)
rest_left (negsuc b) m q p a r v is some product below above left up down =
    rest_below (negsuc b) m q p refl some product (subst (λ (k : ℕ). p ≤ k) is below) (subst (λ (k : ℕ). k < p + m) is above) ∙ ap int_of (minus_down (suc b) p r (left ∙ is)) ∙ down refl

-- and how often, with its sign, the quotient
pub quotient_found : (x : ℤ) (m q p a : ℕ) (v : Outcome) → a ≡ unsigned_abs x → 0 < m → p ≡ q * m → p ≤ a → a < p + m → (int_le (pos 0) x ≡ true → int_of (pos q) ≡ v) → (int_le (pos 0) x ≡ false → int_of (neg_ℤ (pos q)) ≡ v) → quotient_of x (pos m) ≡ v
quotient_found (pos n) m q p a v is some product below above up down =
    quotient_above (pos n) m q p (leb-zero n) some product (subst (λ (k : ℕ). p ≤ k) is below) (subst (λ (k : ℕ). k < p + m) is above) ∙ up (leb-zero n)
quotient_found (negsuc b) m q p a v is some product below above up down =
    quotient_below (negsuc b) m q p refl some product (subst (λ (k : ℕ). p ≤ k) is below) (subst (λ (k : ℕ). k < p + m) is above) ∙ down refl

part_below : (a p r : ℕ) → a ≡ p + r → p ≤ a
part_below a p r e = omega (arith, e)

part_above : (a p r m : ℕ) → a ≡ p + r → r < m → a < p + m
part_above a p r m e l = omega (arith, e, l)

part_left : (a p r : ℕ) → a ≡ p + r → r + p ≡ a
part_left a p r e = omega (arith, e)

-- a quotient and a rest, each with the sign of the number
pub rest_known : (x : ℤ) (m q a r : ℕ) (v : Outcome) → a ≡ unsigned_abs x → 0 < m → a ≡ q * m + r → r < m → (int_le (pos 0) x ≡ true → int_of (pos r) ≡ v) → (int_le (pos 0) x ≡ false → int_of (neg_ℤ (pos r)) ≡ v) → rest_of x (pos m) ≡ v
rest_known x m q a r v is some whole less up down = rest_left x m q (q * m) a r v is some refl (part_below a (q * m) r whole) (part_above a (q * m) r m whole less) (part_left a (q * m) r whole) up down

pub quotient_known : (x : ℤ) (m q a r : ℕ) (v : Outcome) → a ≡ unsigned_abs x → 0 < m → a ≡ q * m + r → r < m → (int_le (pos 0) x ≡ true → int_of (pos q) ≡ v) → (int_le (pos 0) x ≡ false → int_of (neg_ℤ (pos q)) ≡ v) → quotient_of x (pos m) ≡ v
quotient_known x m q a r v is some whole less up down = quotient_found x m q (q * m) a v is some refl (part_below a (q * m) r whole) (part_above a (q * m) r m whole less) up down
