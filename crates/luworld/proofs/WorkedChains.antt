-- The plans that are worked in full are plans.
use Rattle.std.proofs.Common.{ℕ, zero, suc, ◌<◌, ◌≤◌, [], ◌∷◌, refl, arith}
use Rattle.std.specs.Prelude.{All, Contains, ◌↔◌}
use Rattle.std.proofs.lemmas.List.Elements.{All-from_recursion}
use Rattle.luflow.specs.declared.form.Form.TheVariants.{When}
use Rattle.luflow.specs.Rank.{row}
use Rattle.luflow.specs.Vectors.{sampled_flow, slow_truths}
use Rattle.luflow.proofs.Worked.{contains_from_has}
use Rattle.luflow.proofs.Vectors.{counters_worked, held_worked, chained_worked, idle_worked}
use Rattle.luworld.specs.Needs.{IsNeeded, clock_needed}
use Rattle.luworld.specs.Jobs.{IsJobView}
use Rattle.luworld.specs.PlanVectors.{handed_run, chained_run, idle_run, lonely_run}
use Rattle.luworld.proofs.WorkedPlans.{placed_at, together, some_name, all_named, needs_are, sum_is_run}

-- at C, the clock is needed because the sample is
handed_at_c : (capacity : ℕ) → All (IsNeeded (handed_run capacity).plan 2) (3 ∷ 4 ∷ [])
handed_at_c capacity =
    let sample = some_name (handed_run capacity).plan 2 4 refl in
    All-from_recursion (IsNeeded (handed_run capacity).plan 2) (3 ∷ 4 ∷ []) (clock_needed 4 3 (sampled_flow 3 (When 0)) sample refl (contains_from_has (3 ∷ []) 3 refl), (sample, tt))

handed_needs : (capacity s r : ℕ) → s < 3 → Contains (row (handed_run capacity).plan.needs s) r ↔ IsNeeded (handed_run capacity).plan s r
handed_needs capacity zero r l = needs_are (handed_run capacity).plan 0 (all_named (handed_run capacity).plan 0 refl) refl refl r
handed_needs capacity (suc zero) r l = needs_are (handed_run capacity).plan 1 (all_named (handed_run capacity).plan 1 refl) refl refl r
handed_needs capacity (suc (suc zero)) r l = needs_are (handed_run capacity).plan 2 (handed_at_c capacity) refl refl r
handed_needs capacity (suc (suc (suc s))) r l = absurd (omega arith)

pub handed_is_run : (capacity : ℕ) → 1 ≤ capacity → capacity ≤ 1024 → IsJobView (handed_run capacity)
handed_is_run capacity room small =
    record {
      plan_is =
          record {
            flat_is = held_worked.flat_is;
            some_sites = omega arith;
            few_sites = omega arith;
            room = room;
            small = small;
            placed_len = refl;
            placed_is = placed_at (handed_run capacity).plan 3 5 refl;
            together = together (handed_run capacity).plan 5 refl;
            needs_len = refl;
            needs_are = handed_needs capacity;
            links_are = refl;
          };
      table_is = held_worked.table_is;
      fit = held_worked.fit;
    }

-- at C, b is needed because c is, which is the clock of z
chained_at_c : All (IsNeeded chained_run.plan 2) (1 ∷ 3 ∷ 5 ∷ [])
chained_at_c =
    let clock = some_name chained_run.plan 2 3 refl in
    let sample = some_name chained_run.plan 2 5 refl in
    All-from_recursion (IsNeeded chained_run.plan 2) (1 ∷ 3 ∷ 5 ∷ [])
    (clock_needed 3 1 (slow_truths 1 (When 2)) clock refl (contains_from_has (1 ∷ []) 1 refl), (clock, (sample, tt)))

chained_needs : (s r : ℕ) → s < 3 → Contains (row chained_run.plan.needs s) r ↔ IsNeeded chained_run.plan s r
chained_needs zero r l = needs_are chained_run.plan 0 (all_named chained_run.plan 0 refl) refl refl r
chained_needs (suc zero) r l = needs_are chained_run.plan 1 (all_named chained_run.plan 1 refl) refl refl r
chained_needs (suc (suc zero)) r l = needs_are chained_run.plan 2 chained_at_c refl refl r
chained_needs (suc (suc (suc s))) r l = absurd (omega arith)

pub chained_is_run : IsJobView chained_run
chained_is_run =
    record {
      plan_is =
          record {
            flat_is = chained_worked.flat_is;
            some_sites = omega arith;
            few_sites = omega arith;
            room = omega arith;
            small = omega arith;
            placed_len = refl;
            placed_is = placed_at chained_run.plan 3 6 refl;
            together = together chained_run.plan 6 refl;
            needs_len = refl;
            needs_are = chained_needs;
            links_are = refl;
          };
      table_is = chained_worked.table_is;
      fit = chained_worked.fit;
    }

pub idle_is_run : (capacity : ℕ) → 1 ≤ capacity → capacity ≤ 1024 → IsJobView (idle_run capacity)
idle_is_run capacity room small =
    record {
      plan_is = (sum_is_run capacity room small).plan_is;
      table_is = idle_worked.table_is;
      fit = idle_worked.fit;
    }

lonely_needs : (s r : ℕ) → s < 2 → Contains (row lonely_run.plan.needs s) r ↔ IsNeeded lonely_run.plan s r
lonely_needs zero r l = needs_are lonely_run.plan 0 (all_named lonely_run.plan 0 refl) refl refl r
lonely_needs (suc zero) r l = needs_are lonely_run.plan 1 (all_named lonely_run.plan 1 refl) refl refl r
lonely_needs (suc (suc s)) r l = absurd (omega arith)

pub lonely_is_run : IsJobView lonely_run
lonely_is_run =
    record {
      plan_is =
          record {
            flat_is = counters_worked.flat_is;
            some_sites = omega arith;
            few_sites = omega arith;
            room = omega arith;
            small = omega arith;
            placed_len = refl;
            placed_is = placed_at lonely_run.plan 2 2 refl;
            together = together lonely_run.plan 2 refl;
            needs_len = refl;
            needs_are = lonely_needs;
            links_are = refl;
          };
      table_is = counters_worked.table_is;
      fit = counters_worked.fit;
    }
