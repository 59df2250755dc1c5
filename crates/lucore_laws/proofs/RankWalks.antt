-- Where no place is ready and some have no rank, one of them reads itself through a chain.
use Rattle.std.proofs.Common.{◌≡◌, ℕ, zero, suc, ◌+◌, ◌<◌, ◌≤◌, ◌⊎◌, inl, inr, true, false, eqb, List, [], ◌∷◌, ◌++◌, length, refl, sym, ap, ◌∙◌, subst, arith, length-append}
use Rattle.std.specs.Prelude.{not, ◌&&◌, ◌||◌}
use Rattle.std.specs.List.{list_any, list_all, IsDistinct}
use Rattle.std.proofs.lemmas.Bool.{cases_lt}
use Rattle.std.proofs.lemmas.List.Elements.{All-contains}
use Rattle.std.proofs.lemmas.List.Folds.{list_any-append}
use Rattle.std.proofs.lemmas.Cmp.{nat_eq_equiv}
use Rattle.std.proofs.lemmas.Map.Keys.{IsDistinct-push}
use Rattle.std.proofs.lemmas.Map.Steps.{length-le_from_distinct_below}
use Rattle.luflow.specs.Rank.{has, row, is_ready, IsNext, IsRankOrder, Chain}
use Rattle.luflow.specs.Rank.{one, more}
use Rattle.lucore_laws.specs.Rank.{AreClosed}
use Rattle.lucore_laws.proofs.Deciding.{yes_no, same_from_test, test_from_same, or_cases, or_right}
use Rattle.lucore_laws.proofs.Orders.{has-eqb, contains_from_has, RankSoFar, rank_none, rank_more, rank_all, full}

pub closed_at : (rows : List (List ℕ)) (x y : ℕ) → AreClosed rows → has (row rows x) y ≡ true → y < length rows
closed_at rows x y closed h = All-contains (λ z. z < length rows) (row rows x) y (closed x) (contains_from_has (row rows x) y h)

-- a read that has no rank
pub missing_read : (order reads : List ℕ) → list_all (λ y. has order y) reads ≡ false → (y : ℕ) × (has reads y ≡ true) × (has order y ≡ false)
missing_read order [] h = cc
missing_read order (x ∷ reads) h =
    elim (yes_no (has order x)) [
      | inl e ↦
          let rest = missing_read order reads (sym (ap (λ b. b && list_all (λ y. has order y) reads) e) ∙ h) in
          (rest.0, or_right (eqb x rest.0) (has reads rest.0) rest.1, rest.2)
      | inr e ↦ (x, ap (λ b. b || has reads x) (test_from_same x x refl), e)
    ]

-- what isn't ready and has no rank has a read without a rank
pub unready_read : (rows : List (List ℕ)) (order : List ℕ) (x : ℕ) → is_ready rows order x ≡ false → has order x ≡ false → (y : ℕ) × (has (row rows x) y ≡ true) × (has order y ≡ false)
unready_read rows order x unready new = missing_read order (row rows x) (sym (ap (λ b. not b && list_all (λ y. has order y) (row rows x)) new) ∙ unready)

-- a walk along reads of places without a rank
pub record Walk (rows : List (List ℕ)) (order seen : List ℕ) (at i : ℕ) : Type 0 where
  pub inside : at < length rows
  pub no_rank : has order at ≡ false
  pub count : length seen ≡ i
  pub distinct : IsDistinct eqb seen
  pub below : (q : ℕ) → has seen q ≡ true → q < length rows
  pub chain : (x : ℕ) → has seen x ≡ true → Chain rows x at

pub walk_start : (rows : List (List ℕ)) (order : List ℕ) (at : ℕ) → at < length rows → has order at ≡ false → Walk rows order [] at 0
unfolding IsDistinct
walk_start rows order at lt n = record { inside = lt; no_rank = n; count = refl; distinct = tt; below = λ q h. cc; chain = λ x h. cc }

split_push : (seen : List ℕ) (at q : ℕ) → has (seen ++ at ∷ []) q ≡ true → (has seen q ≡ true) ⊎ (at ≡ q)
split_push seen at q h =
    elim (or_cases _ _ (sym (list_any-append (λ y. eqb y q) seen (at ∷ [])) ∙ h)) [
      | inl a ↦ inl a
      | inr b ↦ elim (or_cases (eqb at q) false b) [ inl e ↦ inr (same_from_test at q e) | inr never ↦ inl (let no : false ≡ true = never in cc) ]
    ]

pub walk_more : (rows : List (List ℕ)) (order seen : List ℕ) (at i y : ℕ) → AreClosed rows → Walk rows order seen at i → has seen at ≡ false → has (row rows at) y ≡ true → has order y ≡ false → Walk rows order (seen ++ at ∷ []) y (i + 1)
walk_more rows order seen at i y closed w new r n =
    record {
      inside = closed_at rows at y closed r;
      no_rank = n;
      count = let c = w.count in omega (arith, length-append seen (at ∷ []));
      distinct = IsDistinct-push nat_eq_equiv seen at w.distinct (has-eqb at seen ∙ new);
      below = λ q h. elim (split_push seen at q h) [ inl a ↦ w.below q a | inr e ↦ subst (λ q. q < length rows) e w.inside ];
      chain = λ x h. elim (split_push seen at x h) [ inl a ↦ more x at y (w.chain x a) r | inr e ↦ subst (λ x. Chain rows x y) e (one at y r) ];
    }

-- more places than there are don't stand on a walk
walk_short : (rows : List (List ℕ)) (order seen : List ℕ) (at i : ℕ) → Walk rows order seen at i → has seen at ≡ false → length rows ≤ i → ⊥
walk_short rows order seen at i w e le =
    let d = IsDistinct-push nat_eq_equiv seen at w.distinct (has-eqb at seen ∙ e) in
    let b : (q : ℕ) → list_any (eqb q) (seen ++ at ∷ []) ≡ true → q < length rows = λ q h.
    elim (split_push seen at q (sym (has-eqb q (seen ++ at ∷ [])) ∙ h)) [ inl a ↦ w.below q a | inr same ↦ subst (λ q. q < length rows) same w.inside ] in
    let l = length-le_from_distinct_below (seen ++ at ∷ []) (length rows) d b in
    let c = w.count in
    absurd (omega (arith, length-append seen (at ∷ [])))

abbrev pub SomeCycle : List (List ℕ) → Type 0
SomeCycle rows = (x : ℕ) × Chain rows x x

-- no place is ready
abbrev pub IsStuck : List (List ℕ) → List ℕ → Type 0
IsStuck rows order = (y : ℕ) → y < length rows → is_ready rows order y ≡ false

walk_on : (rows : List (List ℕ)) (order seen : List ℕ) (at i left : ℕ) → AreClosed rows → IsStuck rows order → Walk rows order seen at i → length rows ≤ i + left → SomeCycle rows
walk_on rows order seen at i zero closed stuck w le =
    elim (yes_no (has seen at)) [
      | inl e ↦ (at, w.chain at e)
      | inr e ↦ absurd (walk_short rows order seen at i w e (omega arith))
    ]
walk_on rows order seen at i (suc left) closed stuck w le =
    elim (yes_no (has seen at)) [
      | inl e ↦ (at, w.chain at e)
      | inr e ↦
          let next = unready_read rows order at (stuck at w.inside) w.no_rank in
          walk_on rows order (seen ++ at ∷ []) next.0 (i + 1) left closed stuck (walk_more rows order seen at i next.0 closed w e next.1 next.2) (omega arith)
    ]

-- a place without a rank
unranked_below : (order : List ℕ) (n : ℕ) → ((y : ℕ) → y < n → has order y ≡ true) ⊎ ((y : ℕ) × (y < n) × (has order y ≡ false))
unranked_below order zero = inl (λ y lt. absurd (omega (arith, lt)))
unranked_below order (suc n) =
    elim (unranked_below order n) [
      | inr found ↦ inr (found.0, omega (arith, found.1), found.2)
      | inl all ↦
          elim (yes_no (has order n)) [
            | inr e ↦ inr (n, omega arith, e)
            | inl e ↦ inl (λ y lt. elim (cases_lt y n) [ inl less ↦ all y less | inr le ↦ subst (λ z. has order z ≡ true) (let same : n ≡ y = omega (arith, lt, le) in same) e ])
          ]
    ]

pub stuck_cycle : (rows : List (List ℕ)) (order : List ℕ) → AreClosed rows → IsStuck rows order → length order < length rows → SomeCycle rows
stuck_cycle rows order closed stuck short =
    elim (unranked_below order (length rows)) [
      | inl all ↦ absurd (omega (arith, full order (length rows) all, short))
      | inr found ↦ walk_on rows order [] found.0 0 (length rows) closed stuck (walk_start rows order found.0 found.1 found.2) (omega arith)
    ]

-- WITHOUT A CYCLE THERE IS AN ORDER

-- the least place that is ready below a bound, or none is
least_ready : (rows : List (List ℕ)) (order : List ℕ) (n : ℕ) → n ≤ length rows → ((x : ℕ) × IsNext rows order x) ⊎ ((y : ℕ) → y < n → is_ready rows order y ≡ false)
least_ready rows order zero le = inr (λ y lt. absurd (omega (arith, lt)))
least_ready rows order (suc n) le =
    elim (least_ready rows order n (omega arith)) [
      | inl found ↦ inl found
      | inr none ↦
          elim (yes_no (is_ready rows order n)) [
            | inl e ↦ inl (n, record { inside = omega arith; ready = e; least = none })
            | inr e ↦ inr (λ y lt. elim (cases_lt y n) [ inl less ↦ none y less | inr up ↦ subst (λ z. is_ready rows order z ≡ false) (let same : n ≡ y = omega (arith, lt, up) in same) e ])
          ]
    ]

grow : (rows : List (List ℕ)) (order : List ℕ) (i left : ℕ) → AreClosed rows → ((x : ℕ) → ¬ Chain rows x x) → RankSoFar rows order i → i + left ≡ length rows → (order : List ℕ) × IsRankOrder rows order
grow rows order i zero closed none r e = (order, rank_all rows order i r (omega arith))
grow rows order i (suc left) closed none r e =
    elim (least_ready rows order (length rows) (omega arith)) [
      | inl found ↦ grow rows (order ++ found.0 ∷ []) (i + 1) left closed none (rank_more rows order i found.0 r found.1) (omega arith)
      | inr stuck ↦ let cycle = stuck_cycle rows order closed stuck (let c = r.count in omega arith) in absurd (none cycle.0 cycle.1)
    ]

pub order_from_none : (rows : List (List ℕ)) → AreClosed rows → ((x : ℕ) → ¬ Chain rows x x) → (order : List ℕ) × IsRankOrder rows order
order_from_none rows closed none = grow rows [] 0 (length rows) closed none (rank_none rows) (omega arith)
