-- What marks say after more places are marked.
use Rattle.std.proofs.Common.{◌≡◌, ℕ, zero, suc, ◌+◌, ◌<◌, ◌≤◌, ◌⊎◌, inl, inr, Bool, true, false, cond, List, [], ◌∷◌, ◌++◌, length, get_or, take, Some, refl, sym, ap, ◌∙◌, subst, arith}
use Rattle.std.specs.Prelude.{slice_set, slice_index, All, Contains, replicate}
use Rattle.std.proofs.Math.ListN.{length-set}
use Rattle.std.proofs.lemmas.Bool.{cases_lt, cases_eq, true≢false}
use Rattle.std.proofs.lemmas.List.{get_or-take, length-take}
use Rattle.std.proofs.lemmas.Option.{same_Some, slice_get_within}
use Rattle.luflow.specs.declared.form.Flow.{Flow}
use Rattle.luflow.specs.Program.{flow_at, flows_of, places, clock_reads, form_reads}
use Rattle.luflow.specs.Flats.{IsFlat}
use Rattle.luflow.proofs.Solutions.{some_at, place_in}
use Rattle.luworld.specs.Needs.{PlanView, stands, IsNeeded, read_there, clock_there, clock_needed}
use Rattle.luplace.specs.Marks.{is_marked, marked_all, clock_at, AreOwnMarks, AreClosedMarks, AreMarks}

bool_cases : (b : Bool) → (b ≡ true) ⊎ (b ≡ false)
bool_cases true = inl refl
bool_cases false = inr refl

set_kept : (marks : List Bool) (x r : ℕ) → is_marked marks r ≡ true → is_marked (slice_set marks x true) r ≡ true
set_kept [] x r h = h
set_kept (m ∷ marks) zero zero h = refl
set_kept (m ∷ marks) zero (suc r) h = h
set_kept (m ∷ marks) (suc x) zero h = h
set_kept (m ∷ marks) (suc x) (suc r) h = set_kept marks x r h

set_there : (marks : List Bool) (x : ℕ) → x < length marks → is_marked (slice_set marks x true) x ≡ true
set_there [] x l = absurd (omega arith)
set_there (m ∷ marks) zero l = refl
set_there (m ∷ marks) (suc x) l = set_there marks x (omega arith)

set_back : (marks : List Bool) (x r : ℕ) → is_marked (slice_set marks x true) r ≡ true → (r ≡ x) ⊎ (is_marked marks r ≡ true)
set_back [] x r h = inr h
set_back (m ∷ marks) zero zero h = inl refl
set_back (m ∷ marks) zero (suc r) h = inr h
set_back (m ∷ marks) (suc x) zero h = inr h
set_back (m ∷ marks) (suc x) (suc r) h = go (set_back marks x r h)
  where
    go : (r ≡ x) ⊎ (is_marked marks r ≡ true) → (suc r ≡ suc x) ⊎ (is_marked marks r ≡ true)
    go (inl e) = inl (ap suc e)
    go (inr h) = inr h

all_long : (xs : List ℕ) (marks : List Bool) → length (marked_all xs marks) ≡ length marks
all_long [] marks = refl
all_long (x ∷ xs) marks = all_long xs (slice_set marks x true) ∙ length-set marks x true

-- one place more
pub all_push : (xs : List ℕ) (x : ℕ) (marks : List Bool) → marked_all (xs ++ x ∷ []) marks ≡ slice_set (marked_all xs marks) x true
all_push [] x marks = refl
all_push (y ∷ ys) x marks = all_push ys x (slice_set marks y true)

all_kept : (xs : List ℕ) (marks : List Bool) (r : ℕ) → is_marked marks r ≡ true → is_marked (marked_all xs marks) r ≡ true
all_kept [] marks r h = h
all_kept (x ∷ xs) marks r h = all_kept xs (slice_set marks x true) r (set_kept marks x r h)

all_tail : {X : Type 0} (P : X → Type 0) (x : X) (xs : List X) → All P (x ∷ xs) → All P xs
all_tail P x xs h k d l = h (suc k) d (omega arith)

all_there : (xs : List ℕ) (marks : List Bool) → All (λ r. r < length marks) xs → All (λ r. is_marked (marked_all xs marks) r ≡ true) xs
all_there [] marks h k d l = absurd (omega arith)
all_there (x ∷ xs) marks h zero d l = all_kept xs (slice_set marks x true) x (set_there marks x (h 0 d (omega arith)))
all_there (x ∷ xs) marks h (suc k) d l =
    let n = length-set marks x true in
    all_there xs (slice_set marks x true) (λ j e lj. let w = h (suc j) e (omega arith) in omega (arith, n, w)) k d (omega arith)

all_back : (xs : List ℕ) (marks : List Bool) (r : ℕ) → is_marked (marked_all xs marks) r ≡ true → Contains xs r ⊎ (is_marked marks r ≡ true)
all_back [] marks r h = inr h
all_back (x ∷ xs) marks r h = go (all_back xs (slice_set marks x true) r h)
  where
    first : (r ≡ x) ⊎ (is_marked marks r ≡ true) → Contains (x ∷ xs) r ⊎ (is_marked marks r ≡ true)
    first (inl e) = inl (0, omega arith, sym e)
    first (inr h) = inr h

    go : Contains xs r ⊎ (is_marked (slice_set marks x true) r ≡ true) → Contains (x ∷ xs) r ⊎ (is_marked marks r ≡ true)
    go (inl c) = let b = c.1 in inl (suc c.0, omega (arith, b), c.2)
    go (inr h) = first (set_back marks x r h)

none_marked : (n r : ℕ) → is_marked (replicate n false) r ≡ false
none_marked zero r = refl
none_marked (suc n) zero = refl
none_marked (suc n) (suc r) = none_marked n r

all_last : {X : Type 0} (P : X → Type 0) (xs ys : List X) → All P (xs ++ ys) → All P ys
all_last P [] ys h = h
all_last P (x ∷ xs) ys h = all_last P xs ys (λ j e lj. h (suc j) e (omega arith))

all_at : {X : Type 0} (P : X → Type 0) (xs : List X) (x : X) → All P xs → Contains xs x → P x
all_at P xs x h c = subst P c.2 (h c.0 x c.1)

module _ (plan : PlanView) (s : ℕ) (flat : IsFlat plan.flat) where
  pub own_start : (marks : List Bool) → marks ≡ replicate (flows_of plan.flat) false → length marks ≡ flows_of plan.flat → AreOwnMarks plan s 0 marks
  own_start marks e n =
      record {
        long = n;
        sound = λ r h. absurd (true≢false (sym h ∙ ap (λ ms. is_marked ms r) e ∙ none_marked (flows_of plan.flat) r));
        operands = λ j flow l. absurd (omega arith);
        clocks = λ j flow l. absurd (omega arith);
      }

  -- more marks keep what is kept, and name nothing else than what is needed
  own_more : (i : ℕ) (xs : List ℕ) (marks : List Bool) → ((r : ℕ) → Contains xs r → IsNeeded plan s r) → AreOwnMarks plan s i marks → AreOwnMarks plan s i (marked_all xs marks)
  own_more i xs marks needed before =
      record {
        long = all_long xs marks ∙ before.long;
        sound = λ r h. go r (all_back xs marks r h);
        operands = λ j flow l on at k d lk. all_kept xs marks (get_or (places flow.form) k d) (before.operands j flow l on at k d lk);
        clocks = λ j flow l on at k d lk. all_kept xs marks (get_or (clock_reads flow.clock) k d) (before.clocks j flow l on at k d lk);
      }
    where
      go : (r : ℕ) → Contains xs r ⊎ (is_marked marks r ≡ true) → IsNeeded plan s r
      go r (inl c) = needed r c
      go r (inr h) = before.sound r h

  same_flow : (j i : ℕ) (flow other : Flow) → j ≡ i → flow_at plan.flat i ≡ Some flow → flow_at plan.flat j ≡ Some other → flow ≡ other
  same_flow j i flow other e here at = same_Some flow other (sym here ∙ sym (ap (flow_at plan.flat) e) ∙ at)

  below_next : (j i : ℕ) → j < i + 1 → (j < i) ⊎ (j ≡ i)
  below_next j i l = elim (cases_lt j i) [ inl lt ↦ inl lt | inr g ↦ inr (omega arith) ]

  own_skip : (i : ℕ) (marks : List Bool) → stands plan i s ≡ false → AreOwnMarks plan s i marks → AreOwnMarks plan s (i + 1) marks
  own_skip i marks off before =
      record {
        long = before.long;
        sound = before.sound;
        operands = λ j flow l on at. elim (below_next j i l) [
          | inl lt ↦ before.operands j flow lt on at
          | inr e ↦ absurd (true≢false (sym on ∙ ap (λ x. stands plan x s) e ∙ off))
        ];
        clocks = λ j flow l on at. elim (below_next j i l) [
          | inl lt ↦ before.clocks j flow lt on at
          | inr e ↦ absurd (true≢false (sym on ∙ ap (λ x. stands plan x s) e ∙ off))
        ];
      }

  own_next : (i : ℕ) (flow : Flow) (marks : List Bool) → flow_at plan.flat i ≡ Some flow → stands plan i s ≡ true → AreOwnMarks plan s i marks → AreOwnMarks plan s (i + 1) (marked_all (clock_reads flow.clock) (marked_all (places flow.form) marks))
  own_next i flow marks here on before =
      let ps = places flow.form in
      let cs = clock_reads flow.clock in
      let one = own_more i ps marks (λ r c. read_there i r flow on here c) before in
      let two = own_more i cs (marked_all ps marks) (λ r c. clock_there i r flow on here c) one in
      let n : length marks ≡ flows_of plan.flat = before.long in
      let m : length (marked_all ps marks) ≡ flows_of plan.flat = one.long in
      let p_in : All (λ r. r < length marks) ps = subst (λ (w : ℕ). All (λ r. r < w) ps) (sym n) (flat.ordered.places_in i flow here) in
      let c_in : All (λ r. r < length (marked_all ps marks)) cs = subst (λ (w : ℕ). All (λ r. r < w) cs) (sym m) (flat.ordered.clocks_in i flow here) in
      let p_there : All (λ r. is_marked (marked_all cs (marked_all ps marks)) r ≡ true) ps = λ k d l. all_kept cs (marked_all ps marks) (get_or ps k d) (all_there ps marks p_in k d l) in
      let c_there : All (λ r. is_marked (marked_all cs (marked_all ps marks)) r ≡ true) cs = all_there cs (marked_all ps marks) c_in in
      record {
        long = two.long;
        sound = two.sound;
        operands = λ j other l standing at. elim (below_next j i l) [
          | inl lt ↦ two.operands j other lt standing at
          | inr e ↦ subst (λ (f : Flow). All (λ r. is_marked (marked_all cs (marked_all ps marks)) r ≡ true) (places f.form)) (same_flow j i flow other e here at) p_there
        ];
        clocks = λ j other l standing at. elim (below_next j i l) [
          | inl lt ↦ two.clocks j other lt standing at
          | inr e ↦ subst (λ (f : Flow). All (λ r. is_marked (marked_all cs (marked_all ps marks)) r ≡ true) (clock_reads f.clock)) (same_flow j i flow other e here at) c_there
        ];
      }

  pub own_step : (i : ℕ) (flow : Flow) (marks next : List Bool) → flow_at plan.flat i ≡ Some flow → next ≡ cond (stands plan i s) (marked_all (clock_reads flow.clock) (marked_all (places flow.form) marks)) marks → AreOwnMarks plan s i marks → AreOwnMarks plan s (i + 1) next
  own_step i flow marks next here e before = elim (bool_cases (stands plan i s)) [
    | inl on ↦ subst (AreOwnMarks plan s (i + 1)) (sym (e ∙ ap (λ b. cond b (marked_all (clock_reads flow.clock) (marked_all (places flow.form) marks)) marks) on)) (own_next i flow marks here on before)
    | inr off ↦ subst (AreOwnMarks plan s (i + 1)) (sym (e ∙ ap (λ b. cond b (marked_all (clock_reads flow.clock) (marked_all (places flow.form) marks)) marks) off)) (own_skip i marks off before)
  ]

  pub closed_start : (p : ℕ) (marks : List Bool) → length plan.flat.order ≤ p → AreOwnMarks plan s (flows_of plan.flat) marks → AreClosedMarks plan s p marks
  closed_start p marks l own = record { own = own; closed = λ q flow le lt. absurd (omega arith) }

  -- a clock variable has a lower rank than the flows on its clock
  not_clock : (p q : ℕ) (flow : Flow) → p < length plan.flat.order → p ≤ q → q < length plan.flat.order → flow_at plan.flat (slice_index plan.flat.order p) ≡ Some flow → Contains (clock_reads flow.clock) (slice_index plan.flat.order q) → ⊥
  not_clock p q flow lp le lq here c =
      let x = slice_index plan.flat.order q in
      let reads_are = all_last (Contains (take p plan.flat.order)) (form_reads flow.form) (clock_reads flow.clock) (flat.ordered.reads_first p flow lp here) in
      let early = all_at (Contains (take p plan.flat.order)) (clock_reads flow.clock) x reads_are c in
      let k = place_in (take p plan.flat.order) x early in
      let short = length-take p plan.flat.order in
      let before : k.0 < p = omega (arith, short, k.1) in
      let same = sym (get_or-take p plan.flat.order k.0 0 before) ∙ k.2 in
      let e = flat.ordered.once k.0 q (omega arith) lq same in
      omega (arith, e)

  closed_next : (p : ℕ) (flow : Flow) (marks : List Bool) → p < length plan.flat.order → flow_at plan.flat (slice_index plan.flat.order p) ≡ Some flow → is_marked marks (slice_index plan.flat.order p) ≡ true → AreClosedMarks plan s (p + 1) marks → AreClosedMarks plan s p (marked_all (clock_reads flow.clock) marks)
  closed_next p flow marks lp here on before =
      let cs = clock_reads flow.clock in
      let x = slice_index plan.flat.order p in
      let n : length marks ≡ flows_of plan.flat = before.own.long in
      let c_in : All (λ r. r < length marks) cs = subst (λ (w : ℕ). All (λ r. r < w) cs) (sym n) (flat.ordered.clocks_in x flow here) in
      record {
        own = own_more (flows_of plan.flat) cs marks (λ r c. clock_needed x r flow (before.own.sound x on) here c) before.own;
        closed = λ q other le lq marked at. elim (cases_eq p q) [
          | inl e ↦ subst (λ (f : Flow). All (λ r. is_marked (marked_all cs marks) r ≡ true) (clock_reads f.clock)) (same_flow (slice_index plan.flat.order q) x flow other (ap (slice_index plan.flat.order) (sym e)) here at) (all_there cs marks c_in)
          | inr ne ↦ λ k d l. all_kept cs marks (get_or (clock_reads other.clock) k d) (before.closed q other (omega arith) lq (was q le lq (all_back cs marks (slice_index plan.flat.order q) marked)) at k d l)
        ];
      }
    where
      was : (q : ℕ) → p ≤ q → q < length plan.flat.order → Contains (clock_reads flow.clock) (slice_index plan.flat.order q) ⊎ (is_marked marks (slice_index plan.flat.order q) ≡ true) → is_marked marks (slice_index plan.flat.order q) ≡ true
      was q le lq (inl c) = absurd (not_clock p q flow lp le lq here c)
      was q le lq (inr h) = h

  closed_skip : (p : ℕ) (marks : List Bool) → is_marked marks (slice_index plan.flat.order p) ≡ false → AreClosedMarks plan s (p + 1) marks → AreClosedMarks plan s p marks
  closed_skip p marks off before =
      record {
        own = before.own;
        closed = λ q other le lq marked at. elim (cases_eq p q) [
          | inl e ↦ absurd (true≢false (sym marked ∙ ap (λ j. is_marked marks (slice_index plan.flat.order j)) (sym e) ∙ off))
          | inr ne ↦ before.closed q other (omega arith) lq marked at
        ];
      }

  pub closed_step : (p : ℕ) (marks next : List Bool) → p < length plan.flat.order → next ≡ cond (is_marked marks (slice_index plan.flat.order p)) (marked_all (clock_at (flow_at plan.flat (slice_index plan.flat.order p))) marks) marks → AreClosedMarks plan s (p + 1) marks → AreClosedMarks plan s p next
  closed_step p marks next lp e before =
      let x = slice_index plan.flat.order p in
      let inside : x < flows_of plan.flat = flat.ordered.only_flows p 0 lp in
      let f = some_at plan.flat.flows x inside in
      let into : next ≡ cond (is_marked marks x) (marked_all (clock_reads f.0.clock) marks) marks = e ∙ ap (λ o. cond (is_marked marks x) (marked_all (clock_at o) marks) marks) f.1 in
      elim (bool_cases (is_marked marks x)) [
        | inl on ↦ subst (AreClosedMarks plan s p) (sym (into ∙ ap (λ b. cond b (marked_all (clock_reads f.0.clock) marks) marks) on)) (closed_next p f.0 marks lp f.1 on before)
        | inr off ↦ subst (AreClosedMarks plan s p) (sym (into ∙ ap (λ b. cond b (marked_all (clock_reads f.0.clock) marks) marks) off)) (closed_skip p marks off before)
      ]

  module _ (marks : List Bool) (done : AreClosedMarks plan s 0 marks) where
    needed_marked : (r : ℕ) → IsNeeded plan s r → is_marked marks r ≡ true
    needed_marked x (read_there i r flow on here c) = all_at (λ y. is_marked marks y ≡ true) (places flow.form) r (done.own.operands i flow (slice_get_within plan.flat.flows i flow here) on here) c
    needed_marked x (clock_there i r flow on here c) = all_at (λ y. is_marked marks y ≡ true) (clock_reads flow.clock) r (done.own.clocks i flow (slice_get_within plan.flat.flows i flow here) on here) c
    needed_marked x (clock_needed i r flow need here c) = all_at (λ y. is_marked marks y ≡ true) (clock_reads flow.clock) r (by_clock i flow here (needed_marked i need)) c
      where
        by_clock : (i : ℕ) (flow : Flow) → flow_at plan.flat i ≡ Some flow → is_marked marks i ≡ true → All (λ x. is_marked marks x ≡ true) (clock_reads flow.clock)
        by_clock i flow here h =
            let q = place_in plan.flat.order i (flat.ordered.all_flows i (slice_get_within plan.flat.flows i flow here)) in
            done.closed q.0 flow (omega arith) q.1 (ap (is_marked marks) q.2 ∙ h) (ap (flow_at plan.flat) q.2 ∙ here)

    pub are_marks : AreMarks plan s marks
    are_marks = record { long = done.own.long; are = λ r. (done.own.sound r, needed_marked r) }
