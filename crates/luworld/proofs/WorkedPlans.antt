-- The plans of the worked runs are plans.
use Rattle.std.proofs.Common.{◌≡◌, ℕ, zero, suc, ◌<◌, ◌≤◌, Bool, true, nat_eq, List, [], ◌∷◌, ◌++◌, length, get_or, Option, Some, None, ⊎_elim, refl, ap, arith}
use Rattle.std.specs.Prelude.{All, slice_index, Contains, not, ◌&&◌, ◌||◌, ◌↔◌, nat_lt}
use Rattle.std.specs.List.{range_with_len, list_any, list_all}
use Rattle.std.proofs.lemmas.Bool.{and_parts, false≢true, ltb-true, eqb-true, eq-eqb}
use Rattle.std.proofs.lemmas.List.Folds.{list_any_at, Any-from_list_any}
use Rattle.std.proofs.lemmas.List.Elements.{All-from_recursion, All-contains, Contains-append_left, Contains-append_right, Contains-append_cases}
use Rattle.luflow.specs.declared.form.Flow.{Flow}
use Rattle.luflow.specs.declared.form.Form.TheVariants.{When}
use Rattle.luflow.specs.Vectors.{sampled_flow}
use Rattle.luflow.specs.Program.{flow_at, flows_of, places, clock_reads}
use Rattle.luflow.specs.Rank.{has, row}
use Rattle.luflow.proofs.Worked.{passes, pass_at, on_flow, flow_passes, all_where, contains_from_has, implied}
use Rattle.luflow.proofs.Vectors.{counters_worked, sum_worked, division_worked, quotient_worked, held_worked}
use Rattle.luworld.specs.Needs.{PlanView, flow_sites, stands, IsNeeded, read_there, clock_there, clock_needed, IsPlacedAt}
use Rattle.luworld.specs.Jobs.{IsJobView}
use Rattle.luworld.specs.RunVectors.{counters_run, sampled_run, shared_run, spread_run, division_run, quotient_run, returned_run, held_run}

-- at least one site, in order
abbrev are_sites : ℕ → List ℕ → Bool
are_sites sites xs = nat_lt 0 (length xs) && (passes (λ k. nat_lt (slice_index xs k) sites) (length xs) && passes (λ k. passes (λ j. nat_lt (slice_index xs j) (slice_index xs k)) k) (length xs))

pub sites_are : (sites : ℕ) (xs : List ℕ) → are_sites sites xs ≡ true → IsPlacedAt sites xs
sites_are sites xs h =
    let a = and_parts (nat_lt 0 (length xs)) _ h in
    let b = and_parts (passes (λ k. nat_lt (slice_index xs k) sites) (length xs)) _ a.1 in
    record {
      some = ltb-true 0 (length xs) a.0;
      inside = λ k l. ltb-true (slice_index xs k) sites (pass_at (λ k. nat_lt (slice_index xs k) sites) (length xs) k b.0 l);
      in_order = λ j k l lk.
          let row = pass_at (λ k. passes (λ j. nat_lt (slice_index xs j) (slice_index xs k)) k) (length xs) k b.1 lk in
          ltb-true (slice_index xs j) (slice_index xs k) (pass_at (λ j. nat_lt (slice_index xs j) (slice_index xs k)) k j row l);
    }

has_from_contains : (xs : List ℕ) (x : ℕ) → Contains xs x → has xs x ≡ true
has_from_contains xs x c = list_any_at (λ y. nat_eq y x) xs c.0 x c.1 (eq-eqb (get_or xs c.0 x) x c.2)

-- what a flow names, its clock's variable among it
abbrev named_by : Option Flow → List ℕ
named_by None = []
named_by (Some flow) = places flow.form ++ clock_reads flow.clock

module _ (plan : PlanView) where
  pub placed_at : (sites n : ℕ) → passes (λ v. are_sites sites (row plan.placed v)) n ≡ true → (v : ℕ) → v < n → IsPlacedAt sites (row plan.placed v)
  placed_at sites n h v l = sites_are sites (row plan.placed v) (pass_at (λ v. are_sites sites (row plan.placed v)) n v h l)

  pub together : (n : ℕ) → passes (λ v. nat_eq (slice_index plan.flat.owners v) v) n ≡ true → (v : ℕ) → v < n → flow_sites plan v ≡ row plan.placed v
  together n h v l = ap (row plan.placed) (eqb-true (slice_index plan.flat.owners v) v (pass_at (λ v. nat_eq (slice_index plan.flat.owners v) v) n v h l))

  module _ (s : ℕ) where
    -- whether all of some flows are among the needs
    abbrev are_named : List ℕ → Bool
    are_named xs = list_all (has (row plan.needs s)) xs

    abbrev reads_named : ℕ → Flow → Bool
    reads_named i flow = are_named (places flow.form ++ clock_reads flow.clock) || not (stands plan i s)

    abbrev clocks_named : ℕ → Flow → Bool
    clocks_named i flow = are_named (clock_reads flow.clock) || not (has (row plan.needs s) i)

    named : (xs : List ℕ) (r : ℕ) → are_named xs ≡ true → Contains xs r → Contains (row plan.needs s) r
    named xs r h c = All-contains (Contains (row plan.needs s)) xs r (all_where (has (row plan.needs s)) (Contains (row plan.needs s)) xs (contains_from_has (row plan.needs s)) h) c

    -- the needs hold what flows of the site name, and the clocks of what they hold
    closed : passes (λ i. on_flow (reads_named i) (flow_at plan.flat i)) (flows_of plan.flat) ≡ true → passes (λ i. on_flow (clocks_named i) (flow_at plan.flat i)) (flows_of plan.flat) ≡ true → (r : ℕ) → IsNeeded plan s r → Contains (row plan.needs s) r
    closed own clocks x (read_there i r flow on here c) =
        named (places flow.form ++ clock_reads flow.clock) r
        (implied (are_named (places flow.form ++ clock_reads flow.clock)) (stands plan i s) (flow_passes plan.flat reads_named own i flow here) on)
        (Contains-append_left (places flow.form) (clock_reads flow.clock) r c)
    closed own clocks x (clock_there i r flow on here c) =
        named (places flow.form ++ clock_reads flow.clock) r
        (implied (are_named (places flow.form ++ clock_reads flow.clock)) (stands plan i s) (flow_passes plan.flat reads_named own i flow here) on)
        (Contains-append_right (places flow.form) (clock_reads flow.clock) r c)
    closed own clocks x (clock_needed i r flow need here c) =
        named (clock_reads flow.clock) r
        (implied (are_named (clock_reads flow.clock)) (has (row plan.needs s) i) (flow_passes plan.flat clocks_named clocks i flow here) (has_from_contains (row plan.needs s) i (closed own clocks i need)))
        c

    -- each of the needs is named by a flow of the site, or is the variable of its clock
    abbrev names : ℕ → ℕ → Bool
    names r i = stands plan i s && has (named_by (flow_at plan.flat i)) r

    named_there : (r i : ℕ) → names r i ≡ true → IsNeeded plan s r
    named_there r i h = go (flow_at plan.flat i) refl (and_parts (stands plan i s) _ h).1
      where
        go : (o : Option Flow) → flow_at plan.flat i ≡ o → has (named_by o) r ≡ true → IsNeeded plan s r
        go None e n = absurd (false≢true n)
        go (Some flow) e n = ⊎_elim
            (λ (c : Contains (places flow.form) r). read_there i r flow (and_parts (stands plan i s) _ h).0 e c)
            (λ (c : Contains (clock_reads flow.clock) r). clock_there i r flow (and_parts (stands plan i s) _ h).0 e c)
            (Contains-append_cases (places flow.form) (clock_reads flow.clock) r (contains_from_has (places flow.form ++ clock_reads flow.clock) r n))

    pub some_name : (r : ℕ) → list_any (names r) (range_with_len 0 (flows_of plan.flat)) ≡ true → IsNeeded plan s r
    some_name r h = let w = Any-from_list_any (names r) (range_with_len 0 (flows_of plan.flat)) h in named_there r w.1 w.4

    pub all_named : list_all (λ r. list_any (names r) (range_with_len 0 (flows_of plan.flat))) (row plan.needs s) ≡ true → All (IsNeeded plan s) (row plan.needs s)
    all_named h = all_where (λ r. list_any (names r) (range_with_len 0 (flows_of plan.flat))) (IsNeeded plan s) (row plan.needs s) some_name h

    pub needs_are :
        All (IsNeeded plan s) (row plan.needs s)
        → passes (λ i. on_flow (reads_named i) (flow_at plan.flat i)) (flows_of plan.flat) ≡ true
        → passes (λ i. on_flow (clocks_named i) (flow_at plan.flat i)) (flows_of plan.flat) ≡ true
        → (r : ℕ) → Contains (row plan.needs s) r ↔ IsNeeded plan s r
    needs_are each own clocks r = ((λ c. All-contains (IsNeeded plan s) (row plan.needs s) r each c), closed own clocks r)

counters_needs : (s r : ℕ) → s < 2 → Contains (row counters_run.plan.needs s) r ↔ IsNeeded counters_run.plan s r
counters_needs zero r l = needs_are counters_run.plan 0 (all_named counters_run.plan 0 refl) refl refl r
counters_needs (suc zero) r l = needs_are counters_run.plan 1 (all_named counters_run.plan 1 refl) refl refl r
counters_needs (suc (suc s)) r l = absurd (omega arith)

pub counters_is_run : IsJobView counters_run
counters_is_run =
    record {
      plan_is =
          record {
            flat_is = counters_worked.flat_is;
            some_sites = omega arith;
            few_sites = omega arith;
            room = omega arith;
            small = omega arith;
            placed_len = refl;
            placed_is = placed_at counters_run.plan 2 2 refl;
            together = together counters_run.plan 2 refl;
            needs_len = refl;
            needs_are = counters_needs;
            links_are = refl;
          };
      table_is = counters_worked.table_is;
      fit = counters_worked.fit;
    }

sum_needs : (capacity s r : ℕ) → s < 2 → Contains (row (sampled_run capacity).plan.needs s) r ↔ IsNeeded (sampled_run capacity).plan s r
sum_needs capacity zero r l = needs_are (sampled_run capacity).plan 0 (all_named (sampled_run capacity).plan 0 refl) refl refl r
sum_needs capacity (suc zero) r l = needs_are (sampled_run capacity).plan 1 (all_named (sampled_run capacity).plan 1 refl) refl refl r
sum_needs capacity (suc (suc s)) r l = absurd (omega arith)

pub sum_is_run : (capacity : ℕ) → 1 ≤ capacity → capacity ≤ 1024 → IsJobView (sampled_run capacity)
sum_is_run capacity room small =
    record {
      plan_is =
          record {
            flat_is = sum_worked.flat_is;
            some_sites = omega arith;
            few_sites = omega arith;
            room = room;
            small = small;
            placed_len = refl;
            placed_is = placed_at (sampled_run capacity).plan 2 5 refl;
            together = together (sampled_run capacity).plan 5 refl;
            needs_len = refl;
            needs_are = sum_needs capacity;
            links_are = refl;
          };
      table_is = sum_worked.table_is;
      fit = sum_worked.fit;
    }

shared_needs : (s r : ℕ) → s < 2 → Contains (row shared_run.plan.needs s) r ↔ IsNeeded shared_run.plan s r
shared_needs zero r l = needs_are shared_run.plan 0 (all_named shared_run.plan 0 refl) refl refl r
shared_needs (suc zero) r l = needs_are shared_run.plan 1 (all_named shared_run.plan 1 refl) refl refl r
shared_needs (suc (suc s)) r l = absurd (omega arith)

pub shared_is_run : IsJobView shared_run
shared_is_run =
    record {
      plan_is =
          record {
            flat_is = sum_worked.flat_is;
            some_sites = omega arith;
            few_sites = omega arith;
            room = omega arith;
            small = omega arith;
            placed_len = refl;
            placed_is = placed_at shared_run.plan 2 5 refl;
            together = together shared_run.plan 5 refl;
            needs_len = refl;
            needs_are = shared_needs;
            links_are = refl;
          };
      table_is = sum_worked.table_is;
      fit = sum_worked.fit;
    }

spread_needs : (s r : ℕ) → s < 3 → Contains (row spread_run.plan.needs s) r ↔ IsNeeded spread_run.plan s r
spread_needs zero r l = needs_are spread_run.plan 0 (all_named spread_run.plan 0 refl) refl refl r
spread_needs (suc zero) r l = needs_are spread_run.plan 1 (all_named spread_run.plan 1 refl) refl refl r
spread_needs (suc (suc zero)) r l = needs_are spread_run.plan 2 (all_named spread_run.plan 2 refl) refl refl r
spread_needs (suc (suc (suc s))) r l = absurd (omega arith)

pub spread_is_run : IsJobView spread_run
spread_is_run =
    record {
      plan_is =
          record {
            flat_is = sum_worked.flat_is;
            some_sites = omega arith;
            few_sites = omega arith;
            room = omega arith;
            small = omega arith;
            placed_len = refl;
            placed_is = placed_at spread_run.plan 3 5 refl;
            together = together spread_run.plan 5 refl;
            needs_len = refl;
            needs_are = spread_needs;
            links_are = refl;
          };
      table_is = sum_worked.table_is;
      fit = sum_worked.fit;
    }

division_needs : (capacity s r : ℕ) → s < 2 → Contains (row (division_run capacity).plan.needs s) r ↔ IsNeeded (division_run capacity).plan s r
division_needs capacity zero r l = needs_are (division_run capacity).plan 0 (all_named (division_run capacity).plan 0 refl) refl refl r
division_needs capacity (suc zero) r l = needs_are (division_run capacity).plan 1 (all_named (division_run capacity).plan 1 refl) refl refl r
division_needs capacity (suc (suc s)) r l = absurd (omega arith)

pub division_is_run : (capacity : ℕ) → 1 ≤ capacity → capacity ≤ 1024 → IsJobView (division_run capacity)
division_is_run capacity room small =
    record {
      plan_is =
          record {
            flat_is = division_worked.flat_is;
            some_sites = omega arith;
            few_sites = omega arith;
            room = room;
            small = small;
            placed_len = refl;
            placed_is = placed_at (division_run capacity).plan 2 4 refl;
            together = together (division_run capacity).plan 4 refl;
            needs_len = refl;
            needs_are = division_needs capacity;
            links_are = refl;
          };
      table_is = division_worked.table_is;
      fit = division_worked.fit;
    }

quotient_needs : (s r : ℕ) → s < 2 → Contains (row quotient_run.plan.needs s) r ↔ IsNeeded quotient_run.plan s r
quotient_needs zero r l = needs_are quotient_run.plan 0 (all_named quotient_run.plan 0 refl) refl refl r
quotient_needs (suc zero) r l = needs_are quotient_run.plan 1 (all_named quotient_run.plan 1 refl) refl refl r
quotient_needs (suc (suc s)) r l = absurd (omega arith)

pub quotient_is_run : IsJobView quotient_run
quotient_is_run =
    record {
      plan_is =
          record {
            flat_is = division_worked.flat_is;
            some_sites = omega arith;
            few_sites = omega arith;
            room = omega arith;
            small = omega arith;
            placed_len = refl;
            placed_is = placed_at quotient_run.plan 2 4 refl;
            together = together quotient_run.plan 4 refl;
            needs_len = refl;
            needs_are = quotient_needs;
            links_are = refl;
          };
      table_is = division_worked.table_is;
      fit = division_worked.fit;
    }

returned_needs : (s r : ℕ) → s < 2 → Contains (row returned_run.plan.needs s) r ↔ IsNeeded returned_run.plan s r
returned_needs zero r l = needs_are returned_run.plan 0 (all_named returned_run.plan 0 refl) refl refl r
returned_needs (suc zero) r l = needs_are returned_run.plan 1 (all_named returned_run.plan 1 refl) refl refl r
returned_needs (suc (suc s)) r l = absurd (omega arith)

pub returned_is_run : IsJobView returned_run
returned_is_run =
    record {
      plan_is =
          record {
            flat_is = quotient_worked.flat_is;
            some_sites = omega arith;
            few_sites = omega arith;
            room = omega arith;
            small = omega arith;
            placed_len = refl;
            placed_is = placed_at returned_run.plan 2 4 refl;
            together = together returned_run.plan 4 refl;
            needs_len = refl;
            needs_are = returned_needs;
            links_are = refl;
          };
      table_is = quotient_worked.table_is;
      fit = quotient_worked.fit;
    }

-- the clock is needed because the sample is
held_at_b : All (IsNeeded held_run.plan 1) (3 ∷ 4 ∷ [])
held_at_b =
    let sample = some_name held_run.plan 1 4 refl in
    All-from_recursion (IsNeeded held_run.plan 1) (3 ∷ 4 ∷ []) (clock_needed 4 3 (sampled_flow 3 (When 0)) sample refl (contains_from_has (3 ∷ []) 3 refl), (sample, tt))

held_needs : (s r : ℕ) → s < 2 → Contains (row held_run.plan.needs s) r ↔ IsNeeded held_run.plan s r
held_needs zero r l = needs_are held_run.plan 0 (all_named held_run.plan 0 refl) refl refl r
held_needs (suc zero) r l = needs_are held_run.plan 1 held_at_b refl refl r
held_needs (suc (suc s)) r l = absurd (omega arith)

pub held_is_run : IsJobView held_run
held_is_run =
    record {
      plan_is =
          record {
            flat_is = held_worked.flat_is;
            some_sites = omega arith;
            few_sites = omega arith;
            room = omega arith;
            small = omega arith;
            placed_len = refl;
            placed_is = placed_at held_run.plan 2 5 refl;
            together = together held_run.plan 5 refl;
            needs_len = refl;
            needs_are = held_needs;
            links_are = refl;
          };
      table_is = held_worked.table_is;
      fit = held_worked.fit;
    }
