-- Numbers up to 4,097.
use Rattle.std.proofs.Common.{◌≡◌, ◌<◌, ◌≤◌, ◌⊎◌, ◌+◌, ℕ, inl, inr, sym, ap, ◌∙◌, arith}
use Rattle.std.proofs.Math.Nat.{min-eq_left, min-eq_right}
use Rattle.std.proofs.lemmas.Bool.{cases_lt}
use Rattle.lucore_build.specs.Counted.{capped}

pub small : (n : ℕ) → n < 4097 → capped n ≡ n
small n lt = let le : n ≤ 4097 = omega (arith, lt) in min-eq_left le

pub great : (n : ℕ) → 4097 ≤ n → capped n ≡ 4097
great n le = min-eq_right le

pub split : (n : ℕ) → (n < 4097) ⊎ (4097 ≤ n)
split n = cases_lt n 4097

pub capped_left : (a b : ℕ) → capped (capped a + b) ≡ capped (a + b)
capped_left a b = go (split a) where
  go : (a < 4097) ⊎ (4097 ≤ a) → capped (capped a + b) ≡ capped (a + b)
  go (inl lt) = ap (λ x. capped (x + b)) (small a lt)
  go (inr ge) =
      let one : 4097 ≤ 4097 + b = omega arith in
      let two : 4097 ≤ a + b = omega (arith, ge) in
      ap (λ x. capped (x + b)) (great a ge) ∙ great (4097 + b) one ∙ sym (great (a + b) two)

pub capped_right : (a b : ℕ) → capped (a + capped b) ≡ capped (a + b)
capped_right a b =
    let one : a + capped b ≡ capped b + a = omega arith in
    let two : b + a ≡ a + b = omega arith in
    ap capped one ∙ capped_left b a ∙ ap capped two

-- a sum of counts
pub capped_both : (a b : ℕ) → capped (capped a + capped b) ≡ capped (a + b)
capped_both a b = capped_left a (capped b) ∙ capped_right a b

pub capped_twice : (a : ℕ) → capped (capped a) ≡ capped a
capped_twice a =
    let one : capped a ≡ capped a + 0 = omega arith in
    let two : a + 0 ≡ a = omega arith in
    ap capped one ∙ capped_left a 0 ∙ ap capped two

-- sums of numbers that have the same counts
pub sum_alike : (a b c d : ℕ) → capped a ≡ capped c → capped b ≡ capped d → capped (a + b) ≡ capped (c + d)
sum_alike a b c d e f = sym (capped_both a b) ∙ ap (λ x. capped (x + capped b)) e ∙ ap (λ x. capped (capped c + x)) f ∙ capped_both c d

-- a sum of counts, as it is made
pub summed : (x y z a b : ℕ) → x ≡ capped a → y ≡ capped b → z ≡ capped (x + y) → z ≡ capped (a + b)
summed x y z a b e f g = g ∙ ap (λ x. capped (x + y)) e ∙ ap (λ y. capped (capped a + y)) f ∙ capped_both a b

-- the count says whether the number is more than 4,096
pub large_to : (n : ℕ) → 4096 < capped n → 4096 < n
large_to n h = go (split n) where
  go : (n < 4097) ⊎ (4097 ≤ n) → 4096 < n
  go (inl lt) = omega (arith, h, small n lt)
  go (inr ge) = omega (arith, ge)

pub large_from : (n : ℕ) → 4096 < n → 4096 < capped n
large_from n h = let ge : 4097 ≤ n = omega (arith, h) in omega (arith, great n ge)
