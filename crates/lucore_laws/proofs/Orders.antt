-- Orders of ranks: what stands in them, that there is one at most, and how they grow.
use Rattle.std.proofs.Common.{◌≡◌, ◌≢◌, ℕ, zero, suc, ◌+◌, ◌<◌, ◌≤◌, inl, inr, Bool, true, false, eqb, List, [], ◌∷◌, ◌++◌, length, get_or, take, Some, refl, sym, ap, ◌∙◌, subst, arith, length-append}
use Rattle.std.specs.Prelude.{slice_get, not, ◌||◌, Contains}
use Rattle.std.specs.List.{list_any, list_all, IsDistinct}
use Rattle.std.proofs.Math.Seq.{take-suc}
use Rattle.std.proofs.lemmas.Bool.{cases_lt}
use Rattle.std.proofs.lemmas.List.{take_all}
use Rattle.std.proofs.lemmas.Option.{slice_get_within, slice_get-get_or, get_or_from_slice_get}
use Rattle.std.proofs.lemmas.List.Folds.{list_any-append}
use Rattle.std.proofs.lemmas.Cmp.{nat_eq_equiv}
use Rattle.std.proofs.lemmas.Map.Keys.{IsDistinct-push}
use Rattle.std.proofs.lemmas.Map.Steps.{length-le_from_distinct_below, le-length_from_below}
use Rattle.luflow.specs.Rank.{has, row, is_ready, IsNext, IsRankOrder, Chain}
use Rattle.luflow.specs.Rank.{one, more}
use Rattle.lucore_laws.specs.RankLaws.{HasEachOnce}
use Rattle.lucore_laws.proofs.Deciding.{yes_no, same_from_test, test_from_same, test_from_apart, eqb_comm, and_left, and_right, or_cases, or_right, not_true, true_not_false}
use Rattle.lucore_laws.proofs.Reading.{row_past}

pub has-eqb : (x : ℕ) (xs : List ℕ) → list_any (eqb x) xs ≡ has xs x
has-eqb x [] = refl
has-eqb x (y ∷ xs) = ap (λ b. b || list_any (eqb x) xs) (eqb_comm x y) ∙ ap (λ b. eqb y x || b) (has-eqb x xs)

pub no_rank_yet : (rows : List (List ℕ)) (order : List ℕ) (x : ℕ) → is_ready rows order x ≡ true → has order x ≡ false
no_rank_yet rows order x h = not_true (has order x) (and_left (not (has order x)) _ h)

pub reads_ranked : (rows : List (List ℕ)) (order : List ℕ) (x : ℕ) → is_ready rows order x ≡ true → list_all (λ y. has order y) (row rows x) ≡ true
reads_ranked rows order x h = and_right (not (has order x)) _ h

-- each of a list passes
pub passes : (p : ℕ → Bool) (xs : List ℕ) (y : ℕ) → list_all p xs ≡ true → has xs y ≡ true → p y ≡ true
passes p [] y all h = cc
passes p (x ∷ xs) y all h =
    elim (or_cases (eqb x y) (has xs y) h) [
      | inl e ↦ subst (λ z. p z ≡ true) (same_from_test x y e) (and_left (p x) (list_all p xs) all)
      | inr there ↦ passes p xs y (and_right (p x) (list_all p xs) all) there
    ]

-- WHAT STANDS IN A LIST

pub has_take : (xs : List ℕ) (p q x : ℕ) → slice_get xs p ≡ Some x → p < q → has (take q xs) x ≡ true
has_take [] p q x e lt = cc
has_take (y ∷ ys) p zero x e lt = absurd (omega arith)
has_take (y ∷ ys) zero (suc q) x e lt =
    let same : y ≡ x = cc in
    ap (λ b. b || has (take q ys) x) (test_from_same y x same)
has_take (y ∷ ys) (suc p) (suc q) x e lt = or_right (eqb y x) (has (take q ys) x) (has_take ys p q x e (omega arith))

-- a place of the list before another
abbrev pub Before : List ℕ → ℕ → ℕ → Type 0
Before xs p x = (q : ℕ) × (q < p) × (slice_get xs q ≡ Some x)

later : (xs : List ℕ) (p y x : ℕ) → Before xs p x → Before (y ∷ xs) (suc p) x
later xs p y x (q, lt, e) = (suc q, omega (arith, lt), e)

pub before_from_has : (xs : List ℕ) (p x : ℕ) → has (take p xs) x ≡ true → Before xs p x
before_from_has [] zero x h = cc
before_from_has [] (suc p) x h = cc
before_from_has (y ∷ xs) zero x h = cc
before_from_has (y ∷ xs) (suc p) x h =
    elim (or_cases (eqb y x) (has (take p xs) x) h) [
      | inl e ↦ (0, omega arith, ap (λ z. Some z) (same_from_test y x e))
      | inr there ↦ later xs p y x (before_from_has xs p x there)
    ]

pub place_from_has : (xs : List ℕ) (x : ℕ) → has xs x ≡ true → Before xs (length xs) x
place_from_has xs x h = before_from_has xs (length xs) x (subst (λ ys. has ys x ≡ true) (sym (take_all (length xs) xs (omega arith))) h)

pub contains_from_has : (xs : List ℕ) (x : ℕ) → has xs x ≡ true → Contains xs x
contains_from_has xs x h = let b = place_from_has xs x h in (b.0, b.1, get_or_from_slice_get xs b.0 x x b.2)

pub has_from_contains : (xs : List ℕ) (x : ℕ) → Contains xs x → has xs x ≡ true
has_from_contains xs x (k, lt, e) =
    subst (λ ys. has ys x ≡ true) (take_all (length xs) xs (omega arith)) (has_take xs k (length xs) x (slice_get-get_or xs k x lt ∙ ap (λ z. Some z) e) lt)

pub has-push : (order : List ℕ) (x y : ℕ) → has (order ++ x ∷ []) y ≡ (has order y || (eqb x y || false))
has-push order x y = list_any-append (λ z. eqb z y) order (x ∷ [])

pub has_push_same : (order : List ℕ) (x : ℕ) → has (order ++ x ∷ []) x ≡ true
has_push_same order x = has-push order x x ∙ or_right (has order x) (eqb x x || false) (ap (λ b. b || false) (test_from_same x x refl))

pub has_push_other : (order : List ℕ) (x y : ℕ) → x ≢ y → has (order ++ x ∷ []) y ≡ has order y
has_push_other order x y ne = has-push order x y ∙ ap (λ b. has order y || (b || false)) (test_from_apart x y ne) ∙ nothing (has order y)
  where
    nothing : (b : Bool) → (b || (false || false)) ≡ b
    nothing true = refl
    nothing false = refl

-- WHAT HOLDS OF EVERY ORDER OF RANKS

module _ (rows : List (List ℕ)) (order : List ℕ) (ranked : IsRankOrder rows order) where
  next_at : (p : ℕ) (d : ℕ) → p < length order → IsNext rows (take p order) (get_or order p d)
  next_at p d lt = ranked.each p (get_or order p d) (slice_get-get_or order p d lt)

  distinct : (p : ℕ) → p ≤ length order → IsDistinct eqb (take p order)
  unfolding IsDistinct
  distinct zero le = tt
  distinct (suc p) le =
      let lt : p < length order = omega arith in
      let next = next_at p 0 lt in
      subst (IsDistinct eqb) (sym (take-suc order p 0 lt))
      (IsDistinct-push nat_eq_equiv (take p order) (get_or order p 0) (distinct p (omega arith))
      (has-eqb (get_or order p 0) (take p order) ∙ no_rank_yet rows (take p order) (get_or order p 0) next.ready))

  all_distinct : IsDistinct eqb order
  all_distinct = subst (IsDistinct eqb) (take_all (length order) order (omega arith)) (distinct (length order) (omega arith))

  pub inside : (q : ℕ) → has order q ≡ true → q < length rows
  inside q h = let b = place_from_has order q h in (ranked.each b.0 q b.2).inside

  pub has_all : (i : ℕ) → i < length rows → has order i ≡ true
  has_all i lt = elim (yes_no (has order i)) [ inl e ↦ e | inr e ↦ absurd (too_long e) ]
    where
      last : (q : ℕ) → list_any (eqb q) (i ∷ []) ≡ true → q < length rows
      last q h = elim (or_cases (eqb q i) false h) [ inl e ↦ (let same = same_from_test q i e in omega arith) | inr e ↦ cc ]

      too_long : has order i ≡ false → ⊥
      too_long e =
          let d = IsDistinct-push nat_eq_equiv order i all_distinct (has-eqb i order ∙ e) in
          let b : (q : ℕ) → list_any (eqb q) (order ++ i ∷ []) ≡ true → q < length rows = λ q h.
          elim (or_cases _ _ (sym (list_any-append (eqb q) order (i ∷ [])) ∙ h)) [
            | inl a ↦ inside q (sym (has-eqb q order) ∙ a)
            | inr a ↦ last q a
          ] in
          let l = length-le_from_distinct_below (order ++ i ∷ []) (length rows) d b in
          absurd (omega (arith, ranked.count, l, length-append order (i ∷ [])))

  not_later : (p q : ℕ) → p < q → q < length order → get_or order p 0 ≡ get_or order q 0 → ⊥
  not_later p q lt lq same =
      true_not_false (has (take q order) (get_or order q 0))
      (subst (λ x. has (take q order) x ≡ true) same (has_take order p q (get_or order p 0) (slice_get-get_or order p 0 (omega arith)) lt))
      (no_rank_yet rows (take q order) (get_or order q 0) ((next_at q 0 lq).ready))

  pub once : (p q : ℕ) → p < length order → q < length order → get_or order p 0 ≡ get_or order q 0 → p ≡ q
  once p q lp lq same =
      elim (cases_lt p q) [
        | inl a ↦ absurd (not_later p q a lq same)
        | inr b ↦ elim (cases_lt q p) [ inl a ↦ absurd (not_later q p a lp (sym same)) | inr c ↦ omega arith ]
      ]

  pub each_once : HasEachOnce (length rows) order
  each_once =
      record {
        each = λ x lt. contains_from_has order x (has_all x lt);
        only = λ x c. inside x (has_from_contains order x c);
        once = once;
      }

  pub reads_first : (p x y : ℕ) → slice_get order p ≡ Some x → has (row rows x) y ≡ true → has (take p order) y ≡ true
  reads_first p x y at h = passes (λ z. has (take p order) z) (row rows x) y (reads_ranked rows (take p order) x ((ranked.each p x at).ready)) h

  -- what a chain leads to stands before where it begins
  chain_before : (x y : ℕ) → Chain rows x y → (p : ℕ) → slice_get order p ≡ Some x → Before order p y
  chain_before x y (one _ _ h) p at = before_from_has order p y (reads_first p x y at h)
  chain_before x z (more _ y _ c h) p at =
      let b = chain_before x y c p at in
      let b' = before_from_has order b.0 z (reads_first b.0 y z b.2 h) in
      (b'.0, omega (arith, b.1, b'.1), b'.2)

  source_inside : (x y : ℕ) → Chain rows x y → x < length rows
  source_inside x y (one _ _ h) = elim (cases_lt x (length rows)) [ inl lt ↦ lt | inr le ↦ (let e = ap (λ xs. has xs y) (row_past rows x le) in cc) ]
  source_inside x z (more _ y _ c h) = source_inside x y c

  -- no place reads itself through a chain
  pub straight : (x : ℕ) → Chain rows x x → ⊥
  straight x c =
      let at = place_from_has order x (has_all x (source_inside x x c)) in
      let b = chain_before x x c at.0 at.2 in
      true_not_false (has (take at.0 order) x) (has_take order b.0 at.0 x b.2 b.1) (no_rank_yet rows (take at.0 order) x ((ranked.each at.0 x at.2).ready))

-- THERE IS ONE AT MOST

one_next : (rows : List (List ℕ)) (order : List ℕ) (x y : ℕ) → IsNext rows order x → IsNext rows order y → x ≡ y
one_next rows order x y a b =
    elim (cases_lt x y) [
      | inl lt ↦ absurd (true_not_false (is_ready rows order x) a.ready (b.least x lt))
      | inr le ↦ elim (cases_lt y x) [ inl lt ↦ absurd (true_not_false (is_ready rows order y) b.ready (a.least y lt)) | inr le' ↦ omega arith ]
    ]

module _ (rows : List (List ℕ)) (a b : List ℕ) (first : IsRankOrder rows a) (second : IsRankOrder rows b) where
  same_front : (p : ℕ) → p ≤ length rows → take p a ≡ take p b
  same_front zero le = refl
  same_front (suc p) le =
      let la : p < length a = omega (arith, first.count) in
      let lb : p < length b = omega (arith, second.count) in
      let before = same_front p (omega arith) in
      let next = one_next rows (take p a) (get_or a p 0) (get_or b p 0) (next_at rows a first p 0 la) (subst (λ xs. IsNext rows xs (get_or b p 0)) (sym before) (next_at rows b second p 0 lb)) in
      take-suc a p 0 la ∙ ap (λ xs. xs ++ get_or a p 0 ∷ []) before ∙ ap (λ x. take p b ++ x ∷ []) next ∙ sym (take-suc b p 0 lb)

  pub one_order : a ≡ b
  one_order =
      let n = length rows in
      sym (take_all n a (omega (arith, first.count))) ∙ same_front n (omega arith) ∙ take_all n b (omega (arith, second.count))

-- HOW AN ORDER GROWS

pub record RankSoFar (rows : List (List ℕ)) (order : List ℕ) (i : ℕ) : Type 0 where
  pub count : length order ≡ i
  pub each : (j x : ℕ) → slice_get order j ≡ Some x → IsNext rows (take j order) x

get_front : (c d : List ℕ) (w : ℕ) → w < length c → slice_get (c ++ d) w ≡ slice_get c w
get_front [] d w lt = absurd (omega arith)
get_front (x ∷ c) d zero lt = refl
get_front (x ∷ c) d (suc w) lt = get_front c d w (omega arith)

get_last : (c : List ℕ) (x : ℕ) → slice_get (c ++ x ∷ []) (length c) ≡ Some x
get_last [] x = refl
get_last (y ∷ c) x = get_last c x

take_front : (j : ℕ) (c d : List ℕ) → j ≤ length c → take j (c ++ d) ≡ take j c
take_front zero c d le = refl
take_front (suc j) [] d le = absurd (omega arith)
take_front (suc j) (x ∷ c) d le = ap (λ l. x ∷ l) (take_front j c d (omega arith))

pub rank_none : (rows : List (List ℕ)) → RankSoFar rows [] 0
rank_none rows = record { count = refl; each = λ j x e. cc }

pub rank_more : (rows : List (List ℕ)) (order : List ℕ) (i x : ℕ) → RankSoFar rows order i → IsNext rows order x → RankSoFar rows (order ++ x ∷ []) (i + 1)
rank_more rows order i x r next =
    record {
      count = let c = r.count in omega (arith, length-append order (x ∷ []));
      each = λ j y e.
          let lt = slice_get_within (order ++ x ∷ []) j y e in
          elim (cases_lt j (length order)) [
            | inl a ↦ subst (λ l. IsNext rows l y) (sym (take_front j order (x ∷ []) (omega arith))) (r.each j y (sym (get_front order (x ∷ []) j a) ∙ e))
            | inr b ↦ last_one j y e lt b
          ];
    }
  where
    last_one : (j y : ℕ) → slice_get (order ++ x ∷ []) j ≡ Some y → j < length (order ++ x ∷ []) → length order ≤ j → IsNext rows (take j (order ++ x ∷ [])) y
    last_one j y e lt b =
        let same : j ≡ length order = omega (arith, length-append order (x ∷ [])) in
        let xy : Some x ≡ Some y = sym (get_last order x) ∙ ap (slice_get (order ++ x ∷ [])) (sym same) ∙ e in
        let xy' : x ≡ y = cc in
        subst (λ l. IsNext rows l y) (sym (take_front j order (x ∷ []) (omega arith) ∙ take_all j order (omega (arith, same)))) (subst (IsNext rows order) xy' next)

pub rank_all : (rows : List (List ℕ)) (order : List ℕ) (i : ℕ) → RankSoFar rows order i → i ≡ length rows → IsRankOrder rows order
rank_all rows order i r e = record { count = r.count ∙ e; each = r.each }

-- where every place has a rank, the order is long enough
pub full : (order : List ℕ) (n : ℕ) → ((y : ℕ) → y < n → has order y ≡ true) → n ≤ length order
full order n h = le-length_from_below order n (λ q lt. has-eqb q order ∙ h q lt)
