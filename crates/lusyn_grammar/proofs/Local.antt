-- Reading looks at no token after the one that it refuses: two token lists that agree up to and with a token are read alike
-- until something behind that token is read.
use Rattle.std.proofs.Common.{◌≡◌, ◌≤◌, ◌<◌, ◌⊎◌, ℕ, zero, suc, Bool, true, false, cond, List, [], ◌∷◌, ◌++◌, length, Result, Ok, Err, refl, ap, sym, subst, ◌∙◌, inl, inr, arith}
use Rattle.lusyn_grammar.specs.declared.token.Fixed.{Fixed}
use Rattle.lusyn_grammar.specs.Tokens.{Tok, identifier, number, fixed}
use Rattle.lusyn_grammar.specs.Reading.{Read, ◌>>=◌, same, after, many}
use Rattle.lusyn_grammar.proofs.CompletePieces.{goes_on}

abbrev pub left_of : {A : Type 0} → Read A → List Tok
left_of (Ok y) = y.1
left_of (Err ts) = ts

-- one token is taken, or it is refused, whatever follows it
after_by : (b : Bool) (h : Fixed) (g : Fixed) → same g h ≡ b → ((ts : List Tok) → after g (fixed h ∷ ts) ≡ Ok ts) ⊎ ((ts : List Tok) → after g (fixed h ∷ ts) ≡ Err (fixed h ∷ ts))
after_by true h g e = inl (λ ts. ap (λ (b : Bool). let r : Result (List Tok) (List Tok) = cond b (Ok ts) (Err (fixed h ∷ ts)) in r) e)
after_by false h g e = inr (λ ts. ap (λ (b : Bool). let r : Result (List Tok) (List Tok) = cond b (Ok ts) (Err (fixed h ∷ ts)) in r) e)

pub after_head : (g : Fixed) (y : Tok) → ((ts : List Tok) → after g (y ∷ ts) ≡ Ok ts) ⊎ ((ts : List Tok) → after g (y ∷ ts) ≡ Err (y ∷ ts))
after_head g (identifier v) = inr (λ ts. refl)
after_head g (number n) = inr (λ ts. refl)
after_head g (fixed h) = after_by (same g h) h g refl

module _ (x : Tok) (rest us : List Tok) where
  abbrev pub IsFar : {A : Type 0} → Read A → Type 0
  IsFar r = length (left_of r) ≤ length rest

  pub data Same {A : Type 0} (k : ℕ) (r s : Read A) : Type 0 where
    read : (v : A) (q : List Tok) → length q < k → r ≡ Ok (v, q ++ x ∷ rest) → s ≡ Ok (v, q ++ x ∷ us) → Same k r s
    refused : (q : List Tok) → r ≡ Err (q ++ x ∷ rest) → s ≡ Err (q ++ x ∷ us) → Same k r s
    beyond : length (left_of r) ≤ length rest → Same k r s

  pub same_more : {A : Type 0} {r s : Read A} (k j : ℕ) → k ≤ j → Same k r s → Same j r s
  same_more k j low (read v q b e h) = read v q (omega arith) e h
  same_more k j low (refused q e h) = refused q e h
  same_more k j low (beyond b) = beyond b

  pub same_along : {A : Type 0} (k : ℕ) (r s r' s' : Read A) → r ≡ r' → s ≡ s' → Same k r' s' → Same k r s
  same_along k r s r' s' e h (read v q b i j) = read v q b (e ∙ i) (h ∙ j)
  same_along k r s r' s' e h (refused q i j) = refused q (e ∙ i) (h ∙ j)
  same_along {A = A} k r s r' s' e h (beyond b) = beyond (subst (λ (z : Read A). length (left_of z) ≤ length rest) (sym e) b)

  pub far_bind : {A B : Type 0} (r : Read A) (c : A → List Tok → Read B) → length (left_of r) ≤ length rest
      → ((v : A) (ts : List Tok) → length ts ≤ length rest → length (left_of (c v ts)) ≤ length rest) → length (left_of (r >>= λ y. c y.0 y.1)) ≤ length rest
  far_bind (Ok y) c h go = go y.0 y.1 h
  far_bind (Err ts) c h go = h

  pub same_bind : {A B : Type 0} (k j : ℕ) (r s : Read A) (c d : A → List Tok → Read B) → Same k r s
      → ((v : A) (q : List Tok) → length q < k → Same j (c v (q ++ x ∷ rest)) (d v (q ++ x ∷ us)))
      → ((v : A) (ts : List Tok) → length ts ≤ length rest → length (left_of (c v ts)) ≤ length rest)
      → Same j (r >>= λ y. c y.0 y.1) (s >>= λ y. d y.0 y.1)
  same_bind k j r s c d (read v q b e h) near far =
      same_along j (r >>= λ y. c y.0 y.1) (s >>= λ y. d y.0 y.1) (c v (q ++ x ∷ rest)) (d v (q ++ x ∷ us))
      (goes_on r (v, q ++ x ∷ rest) (λ y. c y.0 y.1) e) (goes_on s (v, q ++ x ∷ us) (λ y. d y.0 y.1) h) (near v q b)
  same_bind {A = A} k j r s c d (refused q e h) near far = refused q (ap (λ (z : Read A). z >>= λ y. c y.0 y.1) e) (ap (λ (z : Read A). z >>= λ y. d y.0 y.1) h)
  same_bind k j r s c d (beyond b) near far = beyond (far_bind r c b far)

  -- Two readers that read alike what is shorter than k before the token, and never give back tokens; a strict one takes one at least.
  pub record Local {A : Type 0} (k : ℕ) (f g : List Tok → Read A) : Type 0 where
    pub near : (q : List Tok) → length q < k → Same (suc (length q)) (f (q ++ x ∷ rest)) (g (q ++ x ∷ us))
    pub far : (ts : List Tok) → length ts ≤ length rest → length (left_of (f ts)) ≤ length rest

  pub record Strict {A : Type 0} (k : ℕ) (f g : List Tok → Read A) : Type 0 where
    pub near : (q : List Tok) → length q < k → Same (length q) (f (q ++ x ∷ rest)) (g (q ++ x ∷ us))
    pub far : (ts : List Tok) → length ts ≤ length rest → length (left_of (f ts)) ≤ length rest

  pub local_of : {A : Type 0} {f g : List Tok → Read A} (k : ℕ) → Strict k f g → Local k f g
  local_of k h = record { near = λ q b. same_more (length q) (suc (length q)) (omega arith) (h.near q b); far = h.far }

  pub local_less : {A : Type 0} {f g : List Tok → Read A} (k j : ℕ) → j ≤ k → Local k f g → Local j f g
  local_less k j low h = record { near = λ q b. h.near q (omega arith); far = h.far }

  pub strict_less : {A : Type 0} {f g : List Tok → Read A} (k j : ℕ) → j ≤ k → Strict k f g → Strict j f g
  strict_less k j low h = record { near = λ q b. h.near q (omega arith); far = h.far }

  pub local_along : {A : Type 0} (k : ℕ) (f g f' g' : List Tok → Read A) → ((ts : List Tok) → f ts ≡ f' ts) → ((ts : List Tok) → g ts ≡ g' ts) → Local k f' g' → Local k f g
  local_along {A = A} k f g f' g' e h l = record {
    near = λ q b. same_along (suc (length q)) (f (q ++ x ∷ rest)) (g (q ++ x ∷ us)) (f' (q ++ x ∷ rest)) (g' (q ++ x ∷ us)) (e (q ++ x ∷ rest)) (h (q ++ x ∷ us)) (l.near q b);
    far = λ ts b. subst (λ (z : Read A). length (left_of z) ≤ length rest) (sym (e ts)) (l.far ts b);
  }

  pub strict_along : {A : Type 0} (k : ℕ) (f g f' g' : List Tok → Read A) → ((ts : List Tok) → f ts ≡ f' ts) → ((ts : List Tok) → g ts ≡ g' ts) → Strict k f' g' → Strict k f g
  strict_along {A = A} k f g f' g' e h l = record {
    near = λ q b. same_along (length q) (f (q ++ x ∷ rest)) (g (q ++ x ∷ us)) (f' (q ++ x ∷ rest)) (g' (q ++ x ∷ us)) (e (q ++ x ∷ rest)) (h (q ++ x ∷ us)) (l.near q b);
    far = λ ts b. subst (λ (z : Read A). length (left_of z) ≤ length rest) (sym (e ts)) (l.far ts b);
  }

  pub local_ok : {A : Type 0} (k : ℕ) (v : A) → Local k (λ ts. Ok (v, ts)) (λ ts. Ok (v, ts))
  local_ok k v = record { near = λ q b. read v q (omega arith) refl refl; far = λ ts b. b }

  pub local_bind : {A B : Type 0} (k : ℕ) (p o : List Tok → Read A) (c d : A → List Tok → Read B) → Local k p o → ((v : A) → Local k (c v) (d v))
      → Local k (λ ts. p ts >>= λ y. c y.0 y.1) (λ ts. o ts >>= λ y. d y.0 y.1)
  local_bind k p o c d l go = record {
    near = λ q b. same_bind (suc (length q)) (suc (length q)) (p (q ++ x ∷ rest)) (o (q ++ x ∷ us)) c d (l.near q b)
        (λ v u h. same_more (suc (length u)) (suc (length q)) (omega arith) ((go v).near u (omega arith))) (λ v ts h. (go v).far ts h);
    far = λ ts b. far_bind (p ts) c (l.far ts b) (λ v us h. (go v).far us h);
  }

  pub strict_bind : {A B : Type 0} (k : ℕ) (p o : List Tok → Read A) (c d : A → List Tok → Read B) → Strict (suc k) p o → ((v : A) → Local k (c v) (d v))
      → Strict (suc k) (λ ts. p ts >>= λ y. c y.0 y.1) (λ ts. o ts >>= λ y. d y.0 y.1)
  strict_bind k p o c d l go = record {
    near = λ q b. same_bind (length q) (length q) (p (q ++ x ∷ rest)) (o (q ++ x ∷ us)) c d (l.near q b)
        (λ v u h. same_more (suc (length u)) (length q) (omega arith) ((go v).near u (omega arith))) (λ v ts h. (go v).far ts h);
    far = λ ts b. far_bind (p ts) c (l.far ts b) (λ v us h. (go v).far us h);
  }

  -- what a reader does with one token: it goes on behind it, or it refuses it
  pub data Step {A : Type 0} (k : ℕ) (f g : List Tok → Read A) (y : Tok) : Type 0 where
    takes : (c d : List Tok → Read A) → Local k c d → ((ts : List Tok) → f (y ∷ ts) ≡ c ts) → ((ts : List Tok) → g (y ∷ ts) ≡ d ts) → Step k f g y
    refuses : ((ts : List Tok) → f (y ∷ ts) ≡ Err (y ∷ ts)) → ((ts : List Tok) → g (y ∷ ts) ≡ Err (y ∷ ts)) → Step k f g y

  step_near : {A : Type 0} (k : ℕ) (f g : List Tok → Read A) (q : List Tok) → ((y : Tok) → Step k f g y) → length q ≤ k → Same (length q) (f (q ++ x ∷ rest)) (g (q ++ x ∷ us))
  step_near {A = A} k f g [] steps b = by_step (steps x)
    where
      by_step : Step k f g x → Same 0 (f (x ∷ rest)) (g (x ∷ us))
      by_step (takes c d l e h) = beyond (subst (λ (z : Read A). length (left_of z) ≤ length rest) (sym (e rest)) (l.far rest (omega arith)))
      by_step (refuses e h) = refused [] (e rest) (h us)
  step_near k f g (y ∷ q) steps b = by_step (steps y)
    where
      by_step : Step k f g y → Same (suc (length q)) (f (y ∷ q ++ x ∷ rest)) (g (y ∷ q ++ x ∷ us))
      by_step (takes c d l e h) =
          same_along (suc (length q)) (f (y ∷ q ++ x ∷ rest)) (g (y ∷ q ++ x ∷ us)) (c (q ++ x ∷ rest)) (d (q ++ x ∷ us)) (e (q ++ x ∷ rest)) (h (q ++ x ∷ us)) (l.near q (omega arith))
      by_step (refuses e h) = refused (y ∷ q) (e (q ++ x ∷ rest)) (h (q ++ x ∷ us))

  step_far : {A : Type 0} (k : ℕ) (f g : List Tok → Read A) (ts : List Tok) → f [] ≡ Err [] → ((y : Tok) → Step k f g y) → length ts ≤ length rest → length (left_of (f ts)) ≤ length rest
  step_far {A = A} k f g [] none steps b = subst (λ (z : Read A). length (left_of z) ≤ length rest) (sym none) b
  step_far {A = A} k f g (y ∷ ts) none steps b = by_step (steps y)
    where
      by_step : Step k f g y → length (left_of (f (y ∷ ts))) ≤ length rest
      by_step (takes c d l e h) = subst (λ (z : Read A). length (left_of z) ≤ length rest) (sym (e ts)) (l.far ts (omega arith))
      by_step (refuses e h) = subst (λ (z : Read A). length (left_of z) ≤ length rest) (sym (e ts)) b

  pub strict_step : {A : Type 0} (k : ℕ) (f g : List Tok → Read A) → f [] ≡ Err [] → ((y : Tok) → Step k f g y) → Strict (suc k) f g
  strict_step k f g none steps = record { near = λ q b. step_near k f g q steps (omega arith); far = λ ts b. step_far k f g ts none steps b }

  -- after a keyword or a sign
  pub strict_after : {A : Type 0} (k : ℕ) (g : Fixed) (c d : List Tok → Read A) → Local k c d → Strict (suc k) (λ ts. after g ts >>= c) (λ ts. after g ts >>= d)
  strict_after k g c d l = strict_step k (λ ts. after g ts >>= c) (λ ts. after g ts >>= d) refl by_head
    where
      by_head : (y : Tok) → Step k (λ ts. after g ts >>= c) (λ ts. after g ts >>= d) y
      by_head y = elim (after_head g y) [
        | inl taken ↦ takes c d l (λ ts. ap (λ (r : Result (List Tok) (List Tok)). r >>= c) (taken ts)) (λ ts. ap (λ (r : Result (List Tok) (List Tok)). r >>= d) (taken ts))
        | inr over ↦ refuses (λ ts. ap (λ (r : Result (List Tok) (List Tok)). r >>= c) (over ts)) (λ ts. ap (λ (r : Result (List Tok) (List Tok)). r >>= d) (over ts))
      ]

  pub local_after : {A : Type 0} (k : ℕ) (g : Fixed) (c d : List Tok → Read A) → Local k c d → Local k (λ ts. after g ts >>= c) (λ ts. after g ts >>= d)
  local_after k g c d l = local_less (suc k) k (omega arith) (local_of (suc k) (strict_after k g c d l))

  -- by whether a keyword or a sign stands here
  module _ {A : Type 0} (k : ℕ) (g : Fixed) (h o : List Tok → Result (List Tok) (List Tok) → Read A) (c d c' d' : List Tok → Read A)
      (h_ok : (ts vs : List Tok) → h ts (Ok vs) ≡ c vs) (h_err : (ts vs : List Tok) → h ts (Err vs) ≡ d ts)
      (o_ok : (ts vs : List Tok) → o ts (Ok vs) ≡ c' vs) (o_err : (ts vs : List Tok) → o ts (Err vs) ≡ d' ts)
      (taken_local : Local k c c') (over_local : Local k d d') where
    case_near : (q : List Tok) → length q < k → Same (suc (length q)) (h (q ++ x ∷ rest) (after g (q ++ x ∷ rest))) (o (q ++ x ∷ us) (after g (q ++ x ∷ us)))
    case_near [] b = elim (after_head g x) [
      | inl taken ↦ beyond (subst (λ (z : Read A). length (left_of z) ≤ length rest) (sym (ap (h (x ∷ rest)) (taken rest) ∙ h_ok (x ∷ rest) rest)) (taken_local.far rest (omega arith)))
      | inr over ↦ same_along 1 (h (x ∷ rest) (after g (x ∷ rest))) (o (x ∷ us) (after g (x ∷ us))) (d (x ∷ rest)) (d' (x ∷ us))
          (ap (h (x ∷ rest)) (over rest) ∙ h_err (x ∷ rest) (x ∷ rest)) (ap (o (x ∷ us)) (over us) ∙ o_err (x ∷ us) (x ∷ us)) (over_local.near [] b)
    ]
    case_near (y ∷ q) b =
        let ts : List Tok = q ++ x ∷ rest in
        let vs : List Tok = q ++ x ∷ us in
        elim (after_head g y) [
          | inl taken ↦ same_along (suc (suc (length q))) (h (y ∷ ts) (after g (y ∷ ts))) (o (y ∷ vs) (after g (y ∷ vs))) (c ts) (c' vs)
              (ap (h (y ∷ ts)) (taken ts) ∙ h_ok (y ∷ ts) ts) (ap (o (y ∷ vs)) (taken vs) ∙ o_ok (y ∷ vs) vs) (same_more (suc (length q)) (suc (suc (length q))) (omega arith) (taken_local.near q (omega arith)))
          | inr over ↦ same_along (suc (suc (length q))) (h (y ∷ ts) (after g (y ∷ ts))) (o (y ∷ vs) (after g (y ∷ vs))) (d (y ∷ ts)) (d' (y ∷ vs))
              (ap (h (y ∷ ts)) (over ts) ∙ h_err (y ∷ ts) (y ∷ ts)) (ap (o (y ∷ vs)) (over vs) ∙ o_err (y ∷ vs) (y ∷ vs)) (over_local.near (y ∷ q) b)
        ]

    case_far : (ts : List Tok) → length ts ≤ length rest → length (left_of (h ts (after g ts))) ≤ length rest
    case_far [] b = subst (λ (z : Read A). length (left_of z) ≤ length rest) (sym (h_err [] [])) (over_local.far [] b)
    case_far (y ∷ ts) b = elim (after_head g y) [
      | inl taken ↦ subst (λ (z : Read A). length (left_of z) ≤ length rest) (sym (ap (h (y ∷ ts)) (taken ts) ∙ h_ok (y ∷ ts) ts)) (taken_local.far ts (omega arith))
      | inr over ↦ subst (λ (z : Read A). length (left_of z) ≤ length rest) (sym (ap (h (y ∷ ts)) (over ts) ∙ h_err (y ∷ ts) (y ∷ ts))) (over_local.far (y ∷ ts) b)
    ]

    pub local_case : Local k (λ ts. h ts (after g ts)) (λ ts. o ts (after g ts))
    local_case = record { near = case_near; far = case_far }

  -- a test of the first token
  abbrev pub IsFirst : (List Tok → Bool) → Type 0
  IsFirst test = (y : Tok) (ts vs : List Tok) → test (y ∷ ts) ≡ test (y ∷ vs)

  first_near : (test : List Tok → Bool) → IsFirst test → (q : List Tok) → test (q ++ x ∷ us) ≡ test (q ++ x ∷ rest)
  first_near test first [] = first x us rest
  first_near test first (y ∷ q) = first y (q ++ x ∷ us) (q ++ x ∷ rest)

  pub same_if : {A : Type 0} (k : ℕ) (b e : Bool) (r s r' s' : Read A) → e ≡ b → Same k r r' → Same k s s' → Same k (cond b r s) (cond e r' s')
  same_if k true true r s r' s' h l n = l
  same_if k false false r s r' s' h l n = n
  same_if k true false r s r' s' h l n = absurd cc
  same_if k false true r s r' s' h l n = absurd cc

  pub far_if : {A : Type 0} (b : Bool) (r s : Read A) → length (left_of r) ≤ length rest → length (left_of s) ≤ length rest → length (left_of (cond b r s)) ≤ length rest
  far_if true r s h l = h
  far_if false r s h l = l

  pub local_if : {A : Type 0} (k : ℕ) (test : List Tok → Bool) (c d c' d' : List Tok → Read A) → IsFirst test → Local k c c' → Local k d d'
      → Local k (λ ts. cond (test ts) (c ts) (d ts)) (λ ts. cond (test ts) (c' ts) (d' ts))
  local_if k test c d c' d' first l n = record {
    near = λ q b. same_if (suc (length q)) (test (q ++ x ∷ rest)) (test (q ++ x ∷ us)) (c (q ++ x ∷ rest)) (d (q ++ x ∷ rest)) (c' (q ++ x ∷ us)) (d' (q ++ x ∷ us)) (first_near test first q) (l.near q b) (n.near q b);
    far = λ ts b. far_if (test ts) (c ts) (d ts) (l.far ts b) (n.far ts b);
  }

  -- repeated pieces
  module _ {A : Type 0} (most : ℕ) (test : List Tok → Bool) (piece other : List A → List Tok → Read (List A)) (first : IsFirst test)
      (strict : (found : List A) → Strict (suc most) (piece found) (other found)) where
    many_far : (n : ℕ) (found : List A) (ts : List Tok) → length ts ≤ length rest → length (left_of (many test piece n found ts)) ≤ length rest
    unfolding many
    many_far zero found ts b = b
    many_far (suc n) found ts b =
        far_if (test ts) (piece found ts >>= λ y. many test piece n y.0 y.1) (Ok (found, ts)) (far_bind (piece found ts) (many test piece n) ((strict found).far ts b) (many_far n)) b

    many_near : (n m : ℕ) (found : List A) (q : List Tok) → length q < n → n ≤ m → length q ≤ most
        → Same (suc (length q)) (many test piece n found (q ++ x ∷ rest)) (many test other m found (q ++ x ∷ us))
    unfolding many
    many_near zero m found q b low h = absurd (omega arith)
    many_near (suc n) zero found q b low h = absurd (omega arith)
    many_near (suc n) (suc m) found q b low h =
        same_if (suc (length q)) (test (q ++ x ∷ rest)) (test (q ++ x ∷ us)) (piece found (q ++ x ∷ rest) >>= λ y. many test piece n y.0 y.1) (Ok (found, q ++ x ∷ rest))
        (other found (q ++ x ∷ us) >>= λ y. many test other m y.0 y.1) (Ok (found, q ++ x ∷ us)) (first_near test first q)
        (same_bind (length q) (suc (length q)) (piece found (q ++ x ∷ rest)) (other found (q ++ x ∷ us)) (many test piece n) (many test other m) ((strict found).near q (omega arith))
        (λ v u k. same_more (suc (length u)) (suc (length q)) (omega arith) (many_near n m v u (omega arith) (omega arith) (omega arith))) (many_far n))
        (read found q (omega arith) refl refl)

    pub local_many : (n m k : ℕ) (found : List A) → k ≤ n → n ≤ m → k ≤ suc most → Local k (many test piece n found) (many test other m found)
    local_many n m k found low up h = record { near = λ q b. many_near n m found q (omega arith) up (omega arith); far = many_far n found }

  -- the same of readers that take something in both cases
  module _ {A : Type 0} (k : ℕ) (g : Fixed) (h o : List Tok → Result (List Tok) (List Tok) → Read A) (c d c' d' : List Tok → Read A)
      (h_ok : (ts vs : List Tok) → h ts (Ok vs) ≡ c vs) (h_err : (ts vs : List Tok) → h ts (Err vs) ≡ d ts)
      (o_ok : (ts vs : List Tok) → o ts (Ok vs) ≡ c' vs) (o_err : (ts vs : List Tok) → o ts (Err vs) ≡ d' ts)
      (taken_local : Local k c c') (over_strict : Strict (suc k) d d') where
    strict_case_near : (q : List Tok) → length q < suc k → Same (length q) (h (q ++ x ∷ rest) (after g (q ++ x ∷ rest))) (o (q ++ x ∷ us) (after g (q ++ x ∷ us)))
    strict_case_near [] b = elim (after_head g x) [
      | inl taken ↦ beyond (subst (λ (z : Read A). length (left_of z) ≤ length rest) (sym (ap (h (x ∷ rest)) (taken rest) ∙ h_ok (x ∷ rest) rest)) (taken_local.far rest (omega arith)))
      | inr over ↦ same_along 0 (h (x ∷ rest) (after g (x ∷ rest))) (o (x ∷ us) (after g (x ∷ us))) (d (x ∷ rest)) (d' (x ∷ us))
          (ap (h (x ∷ rest)) (over rest) ∙ h_err (x ∷ rest) (x ∷ rest)) (ap (o (x ∷ us)) (over us) ∙ o_err (x ∷ us) (x ∷ us)) (over_strict.near [] b)
    ]
    strict_case_near (y ∷ q) b =
        let ts : List Tok = q ++ x ∷ rest in
        let vs : List Tok = q ++ x ∷ us in
        elim (after_head g y) [
          | inl taken ↦ same_along (suc (length q)) (h (y ∷ ts) (after g (y ∷ ts))) (o (y ∷ vs) (after g (y ∷ vs))) (c ts) (c' vs)
              (ap (h (y ∷ ts)) (taken ts) ∙ h_ok (y ∷ ts) ts) (ap (o (y ∷ vs)) (taken vs) ∙ o_ok (y ∷ vs) vs) (taken_local.near q (omega arith))
          | inr over ↦ same_along (suc (length q)) (h (y ∷ ts) (after g (y ∷ ts))) (o (y ∷ vs) (after g (y ∷ vs))) (d (y ∷ ts)) (d' (y ∷ vs))
              (ap (h (y ∷ ts)) (over ts) ∙ h_err (y ∷ ts) (y ∷ ts)) (ap (o (y ∷ vs)) (over vs) ∙ o_err (y ∷ vs) (y ∷ vs)) (over_strict.near (y ∷ q) b)
        ]

    pub strict_case : Strict (suc k) (λ ts. h ts (after g ts)) (λ ts. o ts (after g ts))
    strict_case = record { near = strict_case_near; far = case_far k g h o c d c' d' h_ok h_err o_ok o_err taken_local (local_less (suc k) k (omega arith) (local_of (suc k) over_strict)) }
