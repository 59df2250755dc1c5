-- A place gets the next rank.
use Rattle.std.proofs.Common.{◌≡◌, ◌≢◌, ℕ, zero, suc, ◌+◌, ◌<◌, ◌≤◌, inl, inr, Bool, true, false, cond, ltb, List, [], ◌∷◌, ◌++◌, length, get_or, map, refl, sym, ap, ◌∙◌, subst, arith}
use Rattle.std.specs.Prelude.{not, ◌&&◌, All, IsPermutation}
use Rattle.std.specs.List.{list_all, count_by}
use Rattle.std.proofs.lemmas.Bool.{cases_lt}
use Rattle.std.proofs.lemmas.List.{get_or_past, length-map}
use Rattle.std.proofs.lemmas.List.Sums.{sum_by-cons}
use Rattle.luflow.specs.Rank.{has, row, is_ready, IsNext}
use Rattle.lucore_laws.specs.Search.{times, done, AreFree, AreReaders, IsReleased}
use Rattle.lucore_laws.proofs.Deciding.{yes_no, same_or_not, test_from_below, below_from_test, and_left, and_right, and_no, and_both, true_not_false}
use Rattle.lucore_laws.proofs.Counts.{hit, hit_same, hit_other, times-cons, times_popped, none_below}
use Rattle.lucore_laws.proofs.Orders.{has_push_same, has_push_other, no_rank_yet, RankSoFar, rank_none, rank_more}
use Rattle.lucore_laws.proofs.RankWalks.{IsStuck}

-- how many of a list's places have no rank
abbrev pub lacking : List ℕ → List ℕ → ℕ
lacking order l = count_by (λ y. not (has order y)) l

abbrev lack : List ℕ → ℕ → ℕ
lack order y = cond (not (has order y)) 1 0

lacking-cons : (order : List ℕ) (y : ℕ) (l : List ℕ) → lacking order (y ∷ l) ≡ lack order y + lacking order l
lacking-cons order y l = sum_by-cons (lack order) y l

lacking_first : (l : List ℕ) → lacking [] l ≡ length l
lacking_first [] = refl
lacking_first (y ∷ l) = omega (arith, lacking-cons [] y l, lacking_first l)

lack_none : (order : List ℕ) (y : ℕ) → has order y ≡ true → lack order y ≡ 0
lack_none order y h = go (has order y) h
  where
    go : (b : Bool) → b ≡ true → cond {A = ℕ} (not b) 1 0 ≡ 0
    go true e = refl
    go false e = cc

lack_one : (order : List ℕ) (y : ℕ) → has order y ≡ false → lack order y ≡ 1
lack_one order y h = go (has order y) h
  where
    go : (b : Bool) → b ≡ false → cond {A = ℕ} (not b) 1 0 ≡ 1
    go true e = cc
    go false e = refl

lack_same : (a b : List ℕ) (y : ℕ) → has a y ≡ has b y → lack a y ≡ lack b y
lack_same a b y e = elim (yes_no (has b y)) [ inl h ↦ lack_none a y (e ∙ h) ∙ sym (lack_none b y h) | inr h ↦ lack_one a y (e ∙ h) ∙ sym (lack_one b y h) ]

lack_more : (order : List ℕ) (x y : ℕ) → has order x ≡ false → lack (order ++ x ∷ []) y + hit x y ≡ lack order y
lack_more order x y new =
    elim (same_or_not x y) [
      | inl e ↦ subst (λ y. lack (order ++ x ∷ []) y + hit x y ≡ lack order y) e
          (omega (arith, lack_none (order ++ x ∷ []) x (has_push_same order x), hit_same x, lack_one order x new))
      | inr ne ↦ omega (arith, lack_same (order ++ x ∷ []) order y (has_push_other order x y ne), hit_other x y (λ e. ne (sym e)))
    ]

lacking_more : (order : List ℕ) (x : ℕ) (l : List ℕ) → has order x ≡ false → lacking (order ++ x ∷ []) l + times x l ≡ lacking order l
lacking_more order x [] new = refl
lacking_more order x (y ∷ l) new =
    omega (arith, lacking-cons (order ++ x ∷ []) y l, lacking-cons order y l, times-cons x y l, lack_more order x y new, lacking_more order x l new)

-- none is lacking exactly where all have a rank
none_lacks : (order l : List ℕ) → lacking order l ≡ 0 → list_all (λ y. has order y) l ≡ true
none_lacks order [] e = refl
none_lacks order (y ∷ l) e =
    elim (yes_no (has order y)) [
      | inl h ↦ and_both (has order y) (list_all (λ z. has order z) l) h (none_lacks order l (omega (arith, lacking-cons order y l, e)))
      | inr h ↦ absurd (omega (arith, lacking-cons order y l, e, lack_one order y h))
    ]

all_have : (order l : List ℕ) → list_all (λ y. has order y) l ≡ true → lacking order l ≡ 0
all_have order [] h = refl
all_have order (y ∷ l) h =
    omega (arith, lacking-cons order y l, lack_none order y (and_left (has order y) _ h), all_have order l (and_right (has order y) _ h))

some_lacks : (order l : List ℕ) → lacking order l ≢ 0 → list_all (λ y. has order y) l ≡ false
some_lacks order l ne = elim (yes_no (list_all (λ y. has order y) l)) [ inl h ↦ absurd (ne (all_have order l h)) | inr h ↦ h ]

-- the counts of missing reads, and the places that are ready, after so many ranks
pub record IsSearching (rows : List (List ℕ)) (missing ready order : List ℕ) (i : ℕ) : Type 0 where
  pub so_far : RankSoFar rows order i
  pub long : length missing ≡ length rows
  pub counts : (v : ℕ) → get_or missing v 0 ≡ lacking order (row rows v)
  pub waits : (v : ℕ) → times v ready ≡ cond (ltb v (length rows) && not (has order v)) (done (get_or missing v 0)) 0
  pub settled : (v : ℕ) → has order v ≡ true → get_or missing v 0 ≡ 0

get_or_length : (rows : List (List ℕ)) (v : ℕ) → get_or (map (λ (l : List ℕ). length l) rows) v 0 ≡ length (row rows v)
get_or_length [] v = refl
get_or_length (l ∷ rows) zero = refl
get_or_length (l ∷ rows) (suc v) = get_or_length rows v

plain_and : (b : Bool) → (b && true) ≡ b
plain_and true = refl
plain_and false = refl

pub begun : (rows : List (List ℕ)) (missing ready : List ℕ) → missing ≡ map (λ (l : List ℕ). length l) rows → AreFree missing ready → IsSearching rows missing ready [] 0
begun rows missing ready e free =
    let long : length missing ≡ length rows = ap length e ∙ length-map rows (λ (l : List ℕ). length l) in
    record {
      so_far = rank_none rows;
      long = long;
      counts = λ v. ap (λ xs. get_or xs v 0) e ∙ get_or_length rows v ∙ sym (lacking_first (row rows v));
      waits = λ v. free v ∙ ap (λ n. cond (ltb v n) (done (get_or missing v 0)) 0) long ∙ ap (λ b. cond b (done (get_or missing v 0)) 0) (sym (plain_and (ltb v (length rows))));
      settled = λ v h. cc;
    }

waiting_cases : (b : Bool) (n m : ℕ) → m ≡ cond b (done n) 0 → 0 < m → (b ≡ true) × (n ≡ 0)
waiting_cases true zero m e lt = (refl, refl)
waiting_cases true (suc n) m e lt = absurd (omega (arith, e, lt))
waiting_cases false n m e lt = absurd (omega (arith, e, lt))

idle_cases : (n : ℕ) → done n ≡ 0 → n ≢ 0
idle_cases zero e = λ z. absurd (omega (arith, e))
idle_cases (suc n) e = λ z. absurd (omega (arith, z))

module _ (rows : List (List ℕ)) (missing ready order : List ℕ) (i : ℕ) (s : IsSearching rows missing ready order i) where
  -- a place that doesn't wait in the heap isn't ready
  pub not_waiting : (y : ℕ) → y < length rows → times y ready ≡ 0 → is_ready rows order y ≡ false
  not_waiting y lt none =
      elim (yes_no (has order y)) [
        | inl e ↦ ap (λ b. not b && list_all (λ z. has order z) (row rows y)) e
        | inr e ↦
            let open_test : (ltb y (length rows) && not (has order y)) ≡ true = and_both _ _ (test_from_below y (length rows) lt) (ap not e) in
            let nil : done (get_or missing y 0) ≡ 0 = sym (s.waits y ∙ ap (λ b. cond b (done (get_or missing y 0)) 0) open_test) ∙ none in
            let others = idle_cases (get_or missing y 0) nil in
            and_no (not (has order y)) _ (some_lacks order (row rows y) (λ z. others (s.counts y ∙ z)))
      ]

  pub stuck : ready ≡ [] → IsStuck rows order
  stuck e y lt = not_waiting y lt (ap (times y) e)

  module _ (x : ℕ) (rest : List ℕ) (taken : IsPermutation ready (x ∷ rest)) (least : All (λ y. x ≤ y) ready) where
    facts : ((ltb x (length rows) && not (has order x)) ≡ true) × (get_or missing x 0 ≡ 0)
    facts = waiting_cases _ (get_or missing x 0) (times x ready) (s.waits x) (omega (arith, times_popped x x ready rest taken, hit_same x))

    -- the least one that waits is the next
    pub next : IsNext rows order x
    next =
        let lt : x < length rows = below_from_test x (length rows) (and_left _ _ (facts.0)) in
        record {
          inside = lt;
          ready = and_both (not (has order x)) _ (and_right (ltb x (length rows)) _ (facts.0)) (none_lacks order (row rows x) (sym (s.counts x) ∙ facts.1));
          least = λ y less. not_waiting y (omega (arith, lt, less)) (none_below x y ready least less);
        }

    new : has order x ≡ false
    new = no_rank_yet rows order x (next.ready)

    module _ (readers : List (List ℕ)) (all : AreReaders rows readers) where
      -- each reader has a missing read for each time that it reads the place
      pub covered : (v : ℕ) → times v (row readers x) ≤ get_or missing v 0
      covered v = omega (arith, all.exact x v, s.counts v, lacking_more order x (row rows v) new)

      module _ (left after : List ℕ) (r : IsReleased (row readers x) missing left rest after) where
        left_counts : (v : ℕ) → get_or left v 0 ≡ lacking (order ++ x ∷ []) (row rows v)
        left_counts v = omega (arith, r.fewer v, all.exact x v, s.counts v, lacking_more order x (row rows v) new)

        left_nil : (v : ℕ) → get_or missing v 0 ≡ 0 → get_or left v 0 ≡ 0
        left_nil v e = omega (arith, r.fewer v, e)

        same_wait : (v : ℕ) → get_or missing v 0 ≡ 0 → times v after ≡ times v rest
        same_wait v e = omega (arith, r.freed v, ap done e, ap done (left_nil v e))

        waits_same : times x after ≡ cond (ltb x (length rows) && not (has (order ++ x ∷ []) x)) (done (get_or left x 0)) 0
        waits_same =
            let was : times x ready ≡ 1 = s.waits x ∙ ap (λ b. cond b (done (get_or missing x 0)) 0) facts.0 ∙ ap done facts.1 in
            let now : (ltb x (length rows) && not (has (order ++ x ∷ []) x)) ≡ false = and_no (ltb x (length rows)) _ (ap not (has_push_same order x)) in
            omega (arith, same_wait x facts.1, times_popped x x ready rest taken, hit_same x, was) ∙ sym (ap (λ b. cond b (done (get_or left x 0)) 0) now)

        no_change : (v : ℕ) → x ≢ v → (b : Bool) → (ltb v (length rows) && not (has order v)) ≡ b → times v after ≡ cond b (done (get_or left v 0)) 0
        no_change v ne true e =
            let was : times v ready ≡ done (get_or missing v 0) = s.waits v ∙ ap (λ b. cond b (done (get_or missing v 0)) 0) e in
            omega (arith, was, r.freed v, times_popped v x ready rest taken, hit_other v x ne)
        no_change v ne false e =
            let was : times v ready ≡ 0 = s.waits v ∙ ap (λ b. cond b (done (get_or missing v 0)) 0) e in
            omega (arith, was, same_wait v (nil e), times_popped v x ready rest taken, hit_other v x ne)
          where
            nil : (ltb v (length rows) && not (has order v)) ≡ false → get_or missing v 0 ≡ 0
            nil e =
                elim (yes_no (has order v)) [
                  | inl h ↦ s.settled v h
                  | inr h ↦
                      elim (cases_lt v (length rows)) [
                        | inl lt ↦ absurd (true_not_false _ (and_both _ _ (test_from_below v (length rows) lt) (ap not h)) e)
                        | inr le ↦ get_or_past missing v 0 (omega (arith, s.long, le))
                      ]
                ]

        pub stepped : IsSearching rows left after (order ++ x ∷ []) (i + 1)
        stepped =
            record {
              so_far = rank_more rows order i x s.so_far next;
              long = r.long ∙ s.long;
              counts = left_counts;
              waits = λ v.
                  elim (same_or_not x v) [
                    | inl e ↦ subst (λ v. times v after ≡ cond (ltb v (length rows) && not (has (order ++ x ∷ []) v)) (done (get_or left v 0)) 0) e waits_same
                    | inr ne ↦ no_change v ne _ refl ∙ ap (λ b. cond (ltb v (length rows) && not b) (done (get_or left v 0)) 0) (sym (has_push_other order x v ne))
                  ];
              settled = λ v h.
                  elim (same_or_not x v) [
                    | inl e ↦ subst (λ v. get_or left v 0 ≡ 0) e (left_nil x facts.1)
                    | inr ne ↦ left_nil v (s.settled v (sym (has_push_other order x v ne) ∙ h))
                  ];
            }
