-- Each link of a plan has a cause.
use Rattle.std.proofs.Common.{◌≡◌, ℕ, zero, suc, ◌+◌, ◌<◌, ◌≤◌, ◌⊎◌, inl, inr, Bool, true, false, cond, List, [], ◌∷◌, ◌++◌, length, map, get_or, filter, flat_map, Option, Some, None, refl, sym, ap, ◌∙◌, subst, arith}
use Rattle.std.specs.Prelude.{All, Contains, not, find, ◌||◌, ◌&&◌, ◌==◌}
use Rattle.std.specs.List.{range_with_len}
use Rattle.std.proofs.lemmas.Bool.{cases_eq, true≢false, false≢true, eqb-true, eq-eqb}
use Rattle.std.proofs.lemmas.List.Folds.{list_any_at}
use Rattle.std.proofs.lemmas.List.Elements.{Contains-append_left, Contains-append_right}
use Rattle.std.proofs.lemmas.Option.{slice_get_within, slice_get-get_or}
use Rattle.luflow.specs.declared.form.Flow.{Flow}
use Rattle.luflow.specs.Program.{flow_at, flows_of, places, clock_reads}
use Rattle.luflow.specs.Flats.{IsWithin}
use Rattle.luflow.specs.Rank.{row}
use Rattle.luworld.specs.declared.link.Link.{Link}
use Rattle.luworld.specs.Needs.{PlanView, sites_of, is_in, stands, home, IsNeeded, read_there, clock_there, clock_needed, is_linked, links_of_variable, IsPlan}
use Rattle.luworld.proofs.Wired.{Each, each_append, each_at}
use Rattle.luplace_report.specs.declared.cause.Cause.{Cause}
use Rattle.luplace_report.specs.declared.cause.Cause.TheVariants.{Reader, Clock}
use Rattle.luplace_report.specs.Cause.{names_place, names_at, is_clock_on, clocks_at, is_reader, is_clocked, reader, clocked, first_cause, cause_of, IsReadBy, IsClockOf, IsCause, CauseLaw}

-- TESTS

and_first : (b c : Bool) → (b && c) ≡ true → b ≡ true
and_first true c e = refl
and_first false c e = e

pub and_second : (b c : Bool) → (b && c) ≡ true → c ≡ true
and_second true c e = e
and_second false c e = absurd (false≢true e)

or_cases : (b c : Bool) → (b || c) ≡ true → (b ≡ true) ⊎ (c ≡ true)
or_cases true c e = inl refl
or_cases false c e = inr e

or_second : (b c : Bool) → c ≡ true → (b || c) ≡ true
or_second true c e = refl
or_second false c e = e

pub not_true : (b : Bool) → not b ≡ true → b ≡ false
not_true true e = absurd (false≢true e)
not_true false e = refl

contains_in : (x : ℕ) (xs : List ℕ) → Contains xs x → is_in x xs ≡ true
contains_in x xs c = list_any_at (λ y. y == x) xs c.0 x c.1 (eq-eqb (get_or xs c.0 x) x c.2)

in_contains : (x : ℕ) (xs : List ℕ) → is_in x xs ≡ true → Contains xs x
in_contains x [] h = absurd (false≢true h)
in_contains x (y ∷ xs) h = go (y == x) refl h (in_contains x xs)
  where
    go : (b : Bool) → (y == x) ≡ b → (b || is_in x xs) ≡ true → (is_in x xs ≡ true → Contains xs x) → Contains (y ∷ xs) x
    go true e h rest = (0, omega arith, eqb-true y x e)
    go false e h rest = let c = rest h in (suc c.0, omega (arith, c.1), c.2)

all_at : (P : ℕ → Type 0) (xs : List ℕ) (x : ℕ) → All P xs → Contains xs x → P x
all_at P xs x all c = subst P c.2 (all c.0 x c.1)

-- SEARCHES

-- where some number passes, the search finds one
find_some : (p : ℕ → Bool) (a n i : ℕ) → a ≤ i → i < a + n → p i ≡ true → (j : ℕ) × (find p (range_with_len a n) ≡ Some j)
find_some p a zero i le lt e = absurd (omega arith)
find_some p a (suc n) i le lt e = go (p a) refl (λ le' lt'. find_some p (a + 1) n i le' lt' e)
  where
    go : (b : Bool) → p a ≡ b → (a + 1 ≤ i → i < a + 1 + n → (j : ℕ) × (find p (range_with_len (a + 1) n) ≡ Some j)) → (j : ℕ) × (cond b (Some a) (find p (range_with_len (a + 1) n)) ≡ Some j)
    go true is later = (a, refl)
    go false is later = elim (cases_eq a i) [
      | inl same ↦ absurd (true≢false (sym e ∙ ap p (sym same) ∙ is))
      | inr ne ↦ later (omega arith) (omega arith)
    ]

-- what it finds passes
find_passes : (p : ℕ → Bool) (xs : List ℕ) (j : ℕ) → find p xs ≡ Some j → p j ≡ true
find_passes p [] j e = absurd (cc)
find_passes p (x ∷ xs) j e = go (p x) refl e (find_passes p xs j)
  where
    go : (b : Bool) → p x ≡ b → cond b (Some x) (find p xs) ≡ Some j → (find p xs ≡ Some j → p j ≡ true) → p j ≡ true
    go true is e later = let same : x ≡ j = cc in ap p (sym same) ∙ is
    go false is e later = later e

-- LINKS

module _ (plan : PlanView) where
  abbrev pub IsSent : ℕ → Link → Type 0
  IsSent n link = (link.flow < n) × (link.to < sites_of plan) × (is_linked plan link.flow link.to ≡ true) × (link.from ≡ home plan link.flow)

  abbrev link : ℕ → ℕ → Link
  link v s = record { flow = v; from = home plan v; to = s }

  some_sent : (n v a m : ℕ) → v < n → a + m ≤ sites_of plan → Each (IsSent n) (map (link v) (filter (is_linked plan v) (range_with_len a m)))
  some_sent n v a zero lv le = tt
  some_sent n v a (suc m) lv le = go (is_linked plan v a) refl (some_sent n v (a + 1) m lv (omega arith))
    where
      go : (b : Bool) → is_linked plan v a ≡ b → Each (IsSent n) (map (link v) (filter (is_linked plan v) (range_with_len (a + 1) m))) → Each (IsSent n) (map (link v) (cond b (a ∷ filter (is_linked plan v) (range_with_len (a + 1) m)) (filter (is_linked plan v) (range_with_len (a + 1) m))))
      go true e rest = ((lv, omega arith, e, refl), rest)
      go false e rest = rest

  all_sent : (n a m : ℕ) → a + m ≤ n → Each (IsSent n) (flat_map (links_of_variable plan) (range_with_len a m))
  all_sent n a zero le = tt
  all_sent n a (suc m) le = each_append (IsSent n) (links_of_variable plan a) (flat_map (links_of_variable plan) (range_with_len (a + 1) m)) (some_sent n a 0 (sites_of plan) (omega arith) (omega arith)) (all_sent n (a + 1) m (omega arith))

module _ (plan : PlanView) (ok : IsPlan plan) where
  abbrev pub main : ℕ
  main = length plan.flat.variables

  pub sent : (k : Link) → Contains plan.links k → IsSent plan main k
  sent k c =
      let each : Each (IsSent plan main) plan.links = subst (Each (IsSent plan main)) (sym ok.links_are) (all_sent plan main 0 main (omega arith)) in
      each_at (IsSent plan main) plan.links each c.0 k (slice_get-get_or plan.links c.0 k c.1 ∙ ap Some c.2)

  needed_there : (k : Link) → IsSent plan main k → IsNeeded plan k.to k.flow
  needed_there k is =
      let there : is_in k.flow (row plan.needs k.to) ≡ true = and_first (is_in k.flow (row plan.needs k.to)) (not (stands plan k.flow k.to)) is.2 in
      (ok.needs_are k.to k.flow is.1).0 (in_contains k.flow (row plan.needs k.to) there)

  -- what a flow of a site names, and doesn't stand there, is a main variable
  within_main : (s i r : ℕ) → stands plan i s ≡ true → stands plan r s ≡ false → IsWithin plan.flat i r → r < main
  within_main s i r on off (inl l) = l
  within_main s i r on off (inr same) = absurd (true≢false (sym on ∙ ap (λ v. is_in s (row plan.placed v)) (sym same) ∙ off))

  needed_main : (s r : ℕ) → IsNeeded plan s r → stands plan r s ≡ false → r < main
  needed_main s x (read_there i r flow on at c) off =
      within_main s i r on off (all_at (IsWithin plan.flat i) (places flow.form ++ clock_reads flow.clock) r (ok.flat_is.inner i flow at) (Contains-append_left (places flow.form) (clock_reads flow.clock) r c))
  needed_main s x (clock_there i r flow on at c) off =
      within_main s i r on off (all_at (IsWithin plan.flat i) (places flow.form ++ clock_reads flow.clock) r (ok.flat_is.inner i flow at) (Contains-append_right (places flow.form) (clock_reads flow.clock) r c))
  needed_main s x (clock_needed i r flow need at c) off = go (stands plan i s) refl (needed_main s i need)
    where
      go : (b : Bool) → stands plan i s ≡ b → (stands plan i s ≡ false → i < main) → r < main
      go true on before = within_main s i r on off (all_at (IsWithin plan.flat i) (places flow.form ++ clock_reads flow.clock) r (ok.flat_is.inner i flow at) (Contains-append_right (places flow.form) (clock_reads flow.clock) r c))
      go false away before = all_at (λ v. v < main) (clock_reads flow.clock) r (ok.flat_is.main_clocks i flow (before away) at) c

  -- FINDING A CAUSE

  module _ (s x : ℕ) (inside : s < sites_of plan) where
    abbrev count : ℕ
    count = flows_of plan.flat

    at_place : (i : ℕ) (flow : Flow) → flow_at plan.flat i ≡ Some flow → i < 0 + count
    at_place i flow at = omega (arith, slice_get_within plan.flat.flows i flow at)

    reader_some : (i : ℕ) (flow : Flow) → stands plan i s ≡ true → flow_at plan.flat i ≡ Some flow → (is_in x (places flow.form) || is_in x (clock_reads flow.clock)) ≡ true → (j : ℕ) × (reader plan s x ≡ Some j)
    reader_some i flow on at named =
        find_some (is_reader plan s x) 0 count i (omega arith) (at_place i flow at) (ap (λ b. b && names_at plan.flat i x) on ∙ ap (λ o. names_place o x) at ∙ named)

    clocked_some : (i : ℕ) (flow : Flow) → IsNeeded plan s i → flow_at plan.flat i ≡ Some flow → is_in x (clock_reads flow.clock) ≡ true → (j : ℕ) × (clocked plan s x ≡ Some j)
    clocked_some i flow need at on =
        let there : is_in i (row plan.needs s) ≡ true = contains_in i (row plan.needs s) ((ok.needs_are s i inside).1 need) in
        find_some (is_clocked plan s x) 0 count i (omega arith) (at_place i flow at) (ap (λ b. b && is_in i (row plan.needs s)) (ap (λ o. is_clock_on o x) at ∙ on) ∙ there)

    read_by : (i : ℕ) → reader plan s x ≡ Some i → IsReadBy plan s x i
    read_by i e =
        let passes : is_reader plan s x i ≡ true = find_passes (is_reader plan s x) (range_with_len 0 count) i e in
        let names : names_at plan.flat i x ≡ true = and_second (stands plan i s) (names_at plan.flat i x) passes in
        go (flow_at plan.flat i) refl names (and_first (stands plan i s) (names_at plan.flat i x) passes)
      where
        go : (o : Option Flow) → flow_at plan.flat i ≡ o → names_place o x ≡ true → stands plan i s ≡ true → IsReadBy plan s x i
        go None at names on = absurd (false≢true names)
        go (Some flow) at names on = record {
          stands_there = on;
          flow = flow;
          at = at;
          named = elim (or_cases (is_in x (places flow.form)) (is_in x (clock_reads flow.clock)) names) [
            | inl h ↦ inl (in_contains x (places flow.form) h)
            | inr h ↦ inr (in_contains x (clock_reads flow.clock) h)
          ];
        }

    clock_of : (i : ℕ) → reader plan s x ≡ None → clocked plan s x ≡ Some i → IsClockOf plan s x i
    clock_of i unread e =
        let passes : is_clocked plan s x i ≡ true = find_passes (is_clocked plan s x) (range_with_len 0 count) i e in
        let need : IsNeeded plan s i = (ok.needs_are s i inside).0 (in_contains i (row plan.needs s) (and_second (clocks_at plan.flat i x) (is_in i (row plan.needs s)) passes)) in
        go (flow_at plan.flat i) refl need (and_first (clocks_at plan.flat i x) (is_in i (row plan.needs s)) passes)
      where
        away : (flow : Flow) → flow_at plan.flat i ≡ Some flow → is_in x (clock_reads flow.clock) ≡ true → (b : Bool) → stands plan i s ≡ b → b ≡ false
        away flow at on false is = refl
        away flow at on true is =
            let found = reader_some i flow is at (or_second (is_in x (places flow.form)) (is_in x (clock_reads flow.clock)) on) in
            let never : None ≡ Some found.0 = sym unread ∙ found.1 in
            cc

        go : (o : Option Flow) → flow_at plan.flat i ≡ o → IsNeeded plan s i → is_clock_on o x ≡ true → IsClockOf plan s x i
        go None at need on = absurd (false≢true on)
        go (Some flow) at need on =
            let off : stands plan i s ≡ false = away flow at on (stands plan i s) refl in
            record {
              needed = need;
              main = needed_main s i need off;
              elsewhere = off;
              flow = flow;
              at = at;
              on = in_contains x (clock_reads flow.clock) on;
            }

  -- what is needed at a site has a reader there, or is the clock of what is needed
  needed_found : (s x : ℕ) → s < sites_of plan → IsNeeded plan s x → ((j : ℕ) × (reader plan s x ≡ Some j)) ⊎ ((j : ℕ) × (clocked plan s x ≡ Some j))
  needed_found s y inside (read_there i x flow on at c) =
      inl (reader_some s x inside i flow on at (ap (λ b. b || is_in x (clock_reads flow.clock)) (contains_in x (places flow.form) c)))
  needed_found s y inside (clock_there i x flow on at c) =
      inl (reader_some s x inside i flow on at (or_second (is_in x (places flow.form)) (is_in x (clock_reads flow.clock)) (contains_in x (clock_reads flow.clock) c)))
  needed_found s y inside (clock_needed i x flow need at c) =
      inr (clocked_some s x inside i flow need at (contains_in x (clock_reads flow.clock) c))

  cause_is : (k : Link) → IsSent plan main k → (cause : Cause) × (cause_of plan k ≡ Some cause) × IsCause plan k cause
  cause_is k is = go (reader plan k.to k.flow) refl (clocked plan k.to k.flow) refl (needed_found k.to k.flow is.1 (needed_there k is))
    where
      go : (o : Option ℕ) → reader plan k.to k.flow ≡ o → (q : Option ℕ) → clocked plan k.to k.flow ≡ q → ((j : ℕ) × (reader plan k.to k.flow ≡ Some j)) ⊎ ((j : ℕ) × (clocked plan k.to k.flow ≡ Some j)) → (cause : Cause) × (cause_of plan k ≡ Some cause) × IsCause plan k cause
      go (Some i) e q f found = (Reader i, ap (λ o. first_cause o (clocked plan k.to k.flow)) e, read_by k.to k.flow is.1 i e)
      go None e (Some i) f found = (Clock i, ap (λ o. first_cause o (clocked plan k.to k.flow)) e ∙ ap (first_cause None) f, clock_of k.to k.flow is.1 i e f)
      go None e None f (inl found) = let never : None ≡ Some found.0 = sym e ∙ found.1 in absurd (cc)
      go None e None f (inr found) = let never : None ≡ Some found.0 = sym f ∙ found.1 in absurd (cc)

pub cause_law : CauseLaw
cause_law plan k ok c = cause_is plan ok k (sent plan ok k c)
