-- Which statuses a site has passed, by where it stands.
use Rattle.std.proofs.Common.{◌≡◌, ℕ, zero, suc, ◌+◌, ◌-◌, ◌<◌, ◌≤◌, ◌⊎◌, inl, inr, Bool, true, false, cond, List, [], ◌∷◌, ◌++◌, length, take, refl, sym, ap, ◌∙◌, subst, arith}
use Rattle.std.specs.Prelude.{slice_index, ◌&&◌, nat_lt, not}
use Rattle.std.proofs.lemmas.List.{take_all}
use Rattle.std.proofs.lemmas.Bool.{cases_lt, lt-ltb, ltb-true, false≢true}
use Rattle.luflow.specs.Program.{flow_at}
use Rattle.luflow.specs.Solution.{clock_of_flow}
use Rattle.luworld.specs.Systems.{Item, Compute}
use Rattle.luworld.specs.Needs.{stands}
use Rattle.luworld.specs.Outline.{Outline, cut, stops, NoStop}
use Rattle.luworld.specs.Jobs.{JobView, IsJob, streams_of, outline, cell, endless, script, items_before, is_open, IsFree, HasNoStop}
use Rattle.luworld.proofs.Cuts.{cut_take}
use Rattle.luworld.proofs.Outlines.{bool_cases, cell_is}
use Rattle.luworld.proofs.Cursor.{before_next_flow, before_next_instant}
use Rattle.lusite.specs.declared.state.SiteState.{SiteState}
use Rattle.lusite.specs.Machine.{is_faulted, IsSet, StandsAt, IsReadyAt, Ready, Over, done_of}
use Rattle.lusite.specs.Logs.{passed_to}
use Rattle.lusite_program.specs.Logs.{add_if}
use Rattle.luworld.specs.WorldViews.{lead, IsPassed}
use Rattle.lusite.proofs.Machine.{there}
use Rattle.lusite.proofs.Reported.{and_parts}
use Rattle.lusite_program.proofs.SiteFlows.{both}

-- ---- items without a stop

-- a prefix of items without a stop has none
front_free : (plan : Outline) (before xs : List Item) (n k : ℕ) → k ≤ n → NoStop plan before (take n xs) → NoStop plan before (take k xs)
front_free plan before [] n zero le h = tt
front_free plan before [] n (suc k) le h = tt
front_free plan before (x ∷ xs) n zero le h = tt
front_free plan before (x ∷ xs) zero (suc k) le h = absurd (omega (arith, le))
front_free plan before (x ∷ xs) (suc n) (suc k) le h = (h.0, front_free plan (before ++ x ∷ []) xs n k (omega (arith, le)) h.1)

-- the items before the last of a script hold no stop
script_free : (plan : Outline) (before xs : List Item) (k : ℕ) → k < length (cut plan before xs) → NoStop plan before (take k xs)
script_free plan before [] k l = absurd (omega (arith, l))
script_free plan before (x ∷ xs) zero l = tt
script_free plan before (x ∷ xs) (suc k) l = go (stops plan before x) refl l (script_free plan (before ++ x ∷ []) xs k)
  where
    go : (b : Bool) → stops plan before x ≡ b → suc k < length (x ∷ cond b [] (cut plan (before ++ x ∷ []) xs)) → (k < length (cut plan (before ++ x ∷ []) xs) → NoStop plan (before ++ x ∷ []) (take k xs)) → NoStop plan before (x ∷ take k xs)
    go true e l rest = absurd (omega (arith, l))
    go false e l rest = (e, rest (omega (arith, l)))

-- ---- a flow of the site's own has items exactly where it is present, and its computation is one of them

own_items : (early open' own : Bool) (x : Item) (ps cs : List Item) → cs ≡ cond early (cond open' (cond own (x ∷ []) [] ++ ps) []) ps → early ≡ true → own ≡ true → (cond open' 1 0 ≤ length cs) × (0 < length cs → open' ≡ true)
own_items true true true x ps cs e _ _ = let n = ap length e in (omega (arith, n), λ _. refl)
own_items true false true x ps cs e _ _ = let n = ap length e in (omega (arith, n), λ l. absurd (omega (arith, n, l)))
own_items true open' false x ps cs e _ is_not = absurd (false≢true is_not)
own_items false open' own x ps cs e is_not _ = absurd (false≢true is_not)

less_cases : (u t : ℕ) (b : Bool) → u < t + add_if b → (u < t) ⊎ ((u ≡ t) × (b ≡ true))
less_cases u t true l = elim (cases_lt u t) [ inl lt ↦ inl lt | inr ge ↦ inr (omega (arith, l, ge), refl) ]
less_cases u t false l = inl (omega (arith, l))

more_cases : (u t : ℕ) (b : Bool) → t + add_if b ≤ u → (t < u) ⊎ ((u ≡ t) × (b ≡ false))
more_cases u t true l = inl (omega (arith, l))
more_cases u t false l = elim (cases_lt t u) [ inl lt ↦ inl lt | inr ge ↦ inr (omega (arith, l, ge), refl) ]

add_none : (b : Bool) (n : ℕ) → n + add_if b ≤ n → b ≡ false
add_none true n l = absurd (omega (arith, l))
add_none false n l = refl

pub lt_no : (m n : ℕ) → nat_lt m n ≡ false → n ≤ m
lt_no m n e = elim (cases_lt m n) [ inl lt ↦ absurd (false≢true (sym e ∙ lt-ltb m n lt)) | inr ge ↦ ge ]

module _ (job : JobView) (s : ℕ) (ij : IsJob job) where
  abbrev at : ℕ → ℕ → ℕ → ℕ
  at t p j = items_before job (streams_of job) s t p j

  abbrev ranks : ℕ
  ranks = length job.plan.flat.order

  -- how many items the flow of rank p has at t
  abbrev size : ℕ → ℕ → ℕ
  size t p = length (cell job (streams_of job) s t (slice_index job.plan.flat.order p))

  pub steps : (t p j : ℕ) → at t p j ≡ at t p 0 + j
  unfolding items_before
  steps t p j = omega arith

  flows_up : (t p d : ℕ) → p + d ≤ ranks → at t p 0 ≤ at t (p + d) 0
  flows_up t p zero l = let e : p + 0 ≡ p = omega arith in omega (arith, ap (λ q. at t q 0) e)
  flows_up t p (suc d) l =
      let e : p + d + 1 ≡ p + suc d = omega arith in
      omega (arith, flows_up t p d (omega (arith, l)), before_next_flow job (streams_of job) s t (p + d) (omega (arith, l)), steps t (p + d) (size t (p + d)), ap (λ q. at t q 0) e)

  flows_to : (t p q : ℕ) → p ≤ q → q ≤ ranks → at t p 0 ≤ at t q 0
  flows_to t p q l lq = let e : p + (q - p) ≡ q = omega (arith, l) in omega (arith, flows_up t p (q - p) (omega (arith, e, lq)), ap (λ r. at t r 0) e)

  instants_up : (t d : ℕ) → at t 0 0 ≤ at (t + d) 0 0
  instants_up t zero = let e : t + 0 ≡ t = omega arith in omega (arith, ap (λ u. at u 0 0) e)
  instants_up t (suc d) =
      let e : t + d + 1 ≡ t + suc d = omega arith in
      omega (arith, instants_up t d, flows_to (t + d) 0 ranks (omega arith) (omega arith), before_next_instant job (streams_of job) s (t + d), ap (λ u. at u 0 0) e)

  -- a flow's items come before those of later flows and instants
  flow_then : (t p q : ℕ) → p < q → q ≤ ranks → at t p (size t p) ≤ at t q 0
  flow_then t p q l lq = omega (arith, before_next_flow job (streams_of job) s t p (omega (arith, l, lq)), flows_to t (p + 1) q (omega (arith, l)) lq)

  pub instant_then : (t p u q : ℕ) → t < u → p < ranks → q ≤ ranks → at t p (size t p) ≤ at u q 0
  instant_then t p u q l lp lq =
      let e : t + 1 + (u - (t + 1)) ≡ u = omega (arith, l) in
      omega (arith, before_next_flow job (streams_of job) s t p lp, flows_to t (p + 1) ranks (omega (arith, lp)) (omega arith), before_next_instant job (streams_of job) s t, instants_up (t + 1) (u - (t + 1)), ap (λ v. at v 0 0) e, flows_to u 0 q (omega arith) lq)

  -- an own flow's computation is one of its items, and it has items only where it is present
  pub own_size : (t p : ℕ) → p < ranks → stands job.plan (slice_index job.plan.flat.order p) s ≡ true → t < job.inputs.instants → (lead job p t ≤ size t p) × (0 < size t p → lead job p t ≡ 1)
  own_size t p lp own lt =
      let i = slice_index job.plan.flat.order p in
      let open' = is_open (clock_of_flow job.inputs (streams_of job) (flow_at job.plan.flat i) t) in
      let w = own_items (nat_lt t job.inputs.instants) open' (stands job.plan i s) (Compute i t) _ (cell job (streams_of job) s t i) (cell_is job (streams_of job) ij.is_plan s t i (there job s ij p lp).2) (lt-ltb t job.inputs.instants lt) own in
      (w.0, λ l. ap (λ (b : Bool). cond b 1 0) (w.1 l))

  lead_one : (p t : ℕ) → lead job p t ≤ 1
  lead_one p t = go (is_open (clock_of_flow job.inputs (streams_of job) (flow_at job.plan.flat (slice_index job.plan.flat.order p)) t))
    where
      go : (b : Bool) → cond b 1 0 ≤ 1
      go true = omega arith
      go false = omega arith

  pub free_front : (n k : ℕ) → k ≤ n → IsFree job (take n (endless job (streams_of job) s)) → IsFree job (take k (endless job (streams_of job) s))
  free_front n k le h = front_free (outline job (streams_of job)) [] (endless job (streams_of job) s) n k le h

  free_before : (k : ℕ) → k < length (script job (streams_of job) s) → IsFree job (take k (endless job (streams_of job) s))
  unfolding endless
  free_before k l = script_free (outline job (streams_of job)) [] (endless job (streams_of job) s) k l

  -- a stopped script's items hold a stop
  not_free : (n : ℕ) → n ≡ length (script job (streams_of job) s) → (HasNoStop job s → ⊥) → IsFree job (take n (endless job (streams_of job) s)) → ⊥
  unfolding endless
  not_free n e stop free =
      let xs = script job (streams_of job) s in
      let same : take n xs ≡ take n (endless job (streams_of job) s) = cut_take (outline job (streams_of job)) [] (endless job (streams_of job) s) n free in
      stop (subst (IsFree job) (sym same ∙ take_all n xs (omega (arith, e))) free)

module _ (a : SiteState) (set : IsSet a) (st : StandsAt a) (ready : is_faulted a ≡ false → IsReadyAt a) (q : ℕ) where
  abbrev job : JobView
  job = a.inputs.job

  abbrev s : ℕ
  s = a.inputs.site

  -- as many statuses as the flow of rank q has in its log
  abbrev pub reported : ℕ
  reported = a.instant + add_if (nat_lt a.instant job.inputs.instants && nat_lt q (passed_to a))

  module _ (lq : q < length job.plan.flat.order) (own : stands job.plan (slice_index job.plan.flat.order q) s ≡ true) (u : ℕ) (lu : u < job.inputs.instants) where
    abbrev k : ℕ
    k = at job s set.is_job u q (lead job q u)

    here : at job s set.is_job u q 0 ≤ k
    here = omega (arith, steps job s set.is_job u q (lead job q u))

    within : k ≤ at job s set.is_job u q (size job s set.is_job u q)
    within = let w = own_size job s set.is_job u q lq own lu in omega (arith, steps job s set.is_job u q (lead job q u), steps job s set.is_job u q (size job s set.is_job u q), w.0)

    -- what stands before the flow at hand is passed
    behind : k ≤ at job s set.is_job a.instant a.place.value 0 → IsPassed job s (done_of a) q u
    behind le =
        let n = steps job s set.is_job a.instant a.place.value a.step in
        record {
          done = omega (arith, le, n);
          free = elim (bool_cases (is_faulted a)) [
            | inl bad ↦ free_before job s set.is_job k (omega (arith, le, n, st.stopped_at bad, (st.stopped bad).0))
            | inr goes ↦ free_front job s set.is_job (done_of a) k (omega (arith, le, n)) (st.no_stop goes)
          ];
        }

    -- so is the flow at hand, once its computation is done and is no stop
    at_hand : u ≡ a.instant → q ≡ a.place.value → 0 < a.step → is_faulted a ≡ false → IsPassed job s (done_of a) q u
    at_hand eu eq l goes =
        let n = steps job s set.is_job a.instant a.place.value a.step in
        let m = steps job s set.is_job u q (lead job q u) in
        let x = ap (λ (t : ℕ). at job s set.is_job t q 0) eu ∙ ap (λ (r : ℕ). at job s set.is_job a.instant r 0) eq in
        let le : k ≤ done_of a = omega (arith, n, m, x, lead_one job s set.is_job q u, l) in
        record { done = le; free = free_front job s set.is_job (done_of a) k le (st.no_stop goes) }

    at_now : u ≡ a.instant → q < passed_to a → IsPassed job s (done_of a) q u
    at_now eu l = elim (cases_lt q a.place.value) [
      | inl lp ↦ behind (let f = flow_then job s set.is_job u q a.place.value lp st.place_le in let x = ap (λ (t : ℕ). at job s set.is_job t a.place.value 0) eu in omega (arith, f, within, x))
      | inr ge ↦
          let w = less_cases q a.place.value (nat_lt 0 a.step && not (is_faulted a)) l in
          elim w [
            | inl lt ↦ absurd (omega (arith, lt, ge))
            | inr e ↦ let parts = and_parts (nat_lt 0 a.step) (not (is_faulted a)) e.1 in at_hand eu e.0 (ltb-true 0 a.step parts.0) (not_so (is_faulted a) parts.1)
          ]
    ]
      where
        not_so : (b : Bool) → not b ≡ true → b ≡ false
        not_so true e = absurd (false≢true e)
        not_so false e = refl

    pub reported_passed : u < reported → IsPassed job s (done_of a) q u
    reported_passed l = elim (less_cases u a.instant (nat_lt a.instant job.inputs.instants && nat_lt q (passed_to a)) l) [
      | inl lt ↦ behind (let f = instant_then job s set.is_job u q a.instant a.place.value lt lq st.place_le in omega (arith, f, within))
      | inr e ↦ at_now e.0 (let parts = and_parts (nat_lt a.instant job.inputs.instants) (nat_lt q (passed_to a)) e.1 in ltb-true q (passed_to a) parts.1)
    ]

    -- what stands at the flow at hand or behind it isn't passed
    past_instant : a.place.value < length job.plan.flat.order → a.instant < u → at job s set.is_job a.instant a.place.value (size job s set.is_job a.instant a.place.value) ≤ k
    past_instant lp l = let f = instant_then job s set.is_job a.instant a.place.value u q l lp (omega (arith, lq)) in omega (arith, f, here)

    past_flow : u ≡ a.instant → a.place.value < q → at job s set.is_job a.instant a.place.value (size job s set.is_job a.instant a.place.value) ≤ k
    past_flow eu l =
        let f = flow_then job s set.is_job a.instant a.place.value q l (omega (arith, lq)) in
        let x = ap (λ (t : ℕ). at job s set.is_job t q 0) eu in
        omega (arith, f, here, x)

    same_flow : u ≡ a.instant → q ≡ a.place.value → 0 < size job s set.is_job a.instant a.place.value → k ≡ at job s set.is_job a.instant a.place.value 0 + 1
    same_flow eu eq some =
        let z = ap (λ (t : ℕ). size job s set.is_job t q) eu ∙ ap (λ (r : ℕ). size job s set.is_job a.instant r) eq in
        let one = (own_size job s set.is_job u q lq own lu).1 (omega (arith, z, some)) in
        let m = steps job s set.is_job u q (lead job q u) in
        let x = ap (λ (t : ℕ). at job s set.is_job t q 0) eu ∙ ap (λ (r : ℕ). at job s set.is_job a.instant r 0) eq in
        omega (arith, m, x, one)

    -- it stands behind the flow at hand, or is that flow with nothing passed
    abbrev Beyond : Type 0
    Beyond = (a.instant < u) ⊎ ((u ≡ a.instant) × (passed_to a ≤ q))

    beyond : reported ≤ u → Beyond
    beyond l = elim (more_cases u a.instant (nat_lt a.instant job.inputs.instants && nat_lt q (passed_to a)) l) [
      | inl lt ↦ inl lt
      | inr e ↦ inr (e.0, lt_no q (passed_to a) (second (nat_lt a.instant job.inputs.instants) (nat_lt q (passed_to a)) e.1 (let same : a.instant < job.inputs.instants = omega (arith, lu, e.0) in lt-ltb a.instant job.inputs.instants same)))
    ]
      where
        second : (b c : Bool) → (b && c) ≡ false → b ≡ true → c ≡ false
        second true c e _ = e
        second false c e is_not = absurd (false≢true is_not)

    going_not : is_faulted a ≡ false → IsReadyAt a → Beyond → k ≤ done_of a → ⊥
    going_not goes (Over et ep ej) (inl lt) le = omega (arith, lt, lu, et)
    going_not goes (Over et ep ej) (inr w) le = let e = w.0 in omega (arith, e, lu, et)
    going_not goes (Ready lp lj) (inl lt) le =
        omega (arith, past_instant lp lt, steps job s set.is_job a.instant a.place.value a.step, steps job s set.is_job a.instant a.place.value (size job s set.is_job a.instant a.place.value), lj, le)
    going_not goes (Ready lp lj) (inr w) le = elim (cases_lt a.place.value q) [
      | inl lt ↦ omega (arith, past_flow w.0 lt, steps job s set.is_job a.instant a.place.value a.step, steps job s set.is_job a.instant a.place.value (size job s set.is_job a.instant a.place.value), lj, le)
      | inr ge ↦
          let g = w.1 in
          let eq : q ≡ a.place.value = omega (arith, g, ge) in
          let none = add_none (nat_lt 0 a.step && not (is_faulted a)) a.place.value (omega (arith, g, ge)) in
          let z : a.step ≤ 0 = no_step none in
          omega (arith, same_flow w.0 eq (omega (arith, lj)), steps job s set.is_job a.instant a.place.value a.step, z, le)
    ]
      where
        no_step : (nat_lt 0 a.step && not (is_faulted a)) ≡ false → a.step ≤ 0
        no_step e = elim (cases_lt 0 a.step) [
          | inl l ↦ absurd (false≢true (sym e ∙ both (nat_lt 0 a.step) (not (is_faulted a)) (lt-ltb 0 a.step l) (ap not goes)))
          | inr g ↦ g
        ]

    stopped_far : is_faulted a ≡ true → Beyond → done_of a ≤ k
    stopped_far bad (inl lt) =
        let one = st.stopped_at bad in
        let w = st.step_le (omega (arith, one)) in
        omega (arith, past_instant w.0 lt, steps job s set.is_job a.instant a.place.value a.step, steps job s set.is_job a.instant a.place.value (size job s set.is_job a.instant a.place.value), w.1)
    stopped_far bad (inr e) =
        let one = st.stopped_at bad in
        let w = st.step_le (omega (arith, one)) in
        elim (cases_lt a.place.value q) [
          | inl lt ↦ omega (arith, past_flow e.0 lt, steps job s set.is_job a.instant a.place.value a.step, steps job s set.is_job a.instant a.place.value (size job s set.is_job a.instant a.place.value), w.1)
          | inr ge ↦
              let g = e.1 in
              let eq : q ≡ a.place.value = omega (arith, g, ge) in
              omega (arith, same_flow e.0 eq (omega (arith, w.1, one)), steps job s set.is_job a.instant a.place.value a.step, one)
        ]

    pub passed_reported : IsPassed job s (done_of a) q u → u < reported
    passed_reported passed = elim (cases_lt u reported) [
      | inl l ↦ l
      | inr ge ↦ elim (bool_cases (is_faulted a)) [
        | inl bad ↦ absurd (not_free job s set.is_job (done_of a) (st.stopped bad).0 (st.stopped bad).1 (free_front job s set.is_job k (done_of a) (stopped_far bad (beyond ge)) passed.free))
        | inr goes ↦ absurd (going_not goes (ready goes) (beyond ge) passed.done)
      ]
    ]
