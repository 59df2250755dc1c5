-- Worked plans in full: three sites with a slow clock, a clock on a clock, runs without instants, a
-- site without items, and what is left where something never comes. Worked out by hand from what is
-- said of needs, links, messages and scripts.
use Rattle.std.specs.Prelude.{◌≡◌, ◌≤◌, ℕ, true, false, List, [], ◌∷◌, ◌++◌, map, pos, codes, replicate, Some}
use Rattle.std.specs.Prelude.{None}
use Rattle.std.specs.List.{range_with_len}
use Rattle.luflow.specs.declared.data.Datum.TheVariants.{Int, Bool as Truth}
use Rattle.luflow.specs.declared.message.Msg.{Msg}
use Rattle.luflow.specs.Program.{InputsView}
use Rattle.luflow.specs.Vectors.{two_counters, three, held_sample, three_samples, chained, four_rows}
use Rattle.luflow.specs.FormVectors.{no_samples}
use Rattle.luworld.specs.declared.turn.Turn.TheVariants.{Moved, Blocked, Over}
use Rattle.luworld.specs.Systems.{Compute, Puts, Takes, turn, reached, moved_turns, item_count, enabled_below}
use Rattle.luworld.specs.Outline.{has_faulted, left, list_length, status_count, stand_count, system}
use Rattle.luworld.specs.Outline as abstract
use Rattle.luworld.specs.Needs.{all_links, home, IsPlacedAt, IsPlan}
use Rattle.luworld.specs.Jobs.{JobView, IsJobView, system_of, outputs_of}
use Rattle.luworld.specs.Vectors.{example, shared, faulty}
use Rattle.luworld.specs.RunVectors.{link_of, value_no, close_no, outline_of, script_of, list_of, by_turns}
use Rattle.luworld.specs.RunVectors.{a_and_b, sampled_run, sampled, quotient_run}

abbrev pub three_names : List (List ℕ)
three_names = codes "A" ∷ codes "B" ∷ codes "C" ∷ []

-- THREE SITES AND A SLOW CLOCK

-- node main(x: int) returns (y: int; z: int); var c: bool; s: int when c;
-- let c = true -> not pre c; s = x when c; y = current s;
-- z = merge c (true -> s) (false -> 0 when not c); tel: x and c at A, s and z at B, y at C.
-- C reads s alone, which is B's, and needs c, which is A's, since s is on it.
abbrev pub handed_run : ℕ → JobView
handed_run capacity =
    record {
      plan =
          record {
            flat = held_sample;
            names = three_names;
            placed = (0 ∷ []) ∷ (2 ∷ []) ∷ (1 ∷ []) ∷ (0 ∷ []) ∷ (1 ∷ []) ∷ [];
            needs = (3 ∷ 5 ∷ 6 ∷ 7 ∷ []) ∷ (0 ∷ 3 ∷ 4 ∷ 8 ∷ 9 ∷ []) ∷ (3 ∷ 4 ∷ []) ∷ [];
            links = link_of 0 0 1 ∷ link_of 3 0 1 ∷ link_of 3 0 2 ∷ link_of 4 1 2 ∷ [];
            capacity = capacity;
          };
      inputs = three_samples;
    }

abbrev pub handed : JobView
handed = handed_run 16

abbrev pub narrow_handed : JobView
narrow_handed = handed_run 1

-- c is true, false, true
abbrev pub three_ticks : List Msg
three_ticks =
    value_no 0 (Truth true) ∷ value_no 1 (Truth false) ∷ value_no 2 (Truth true) ∷ close_no 3 ∷ []

-- The lists are those of x, of c twice, and of s. There are 27 present statuses and 15 messages, each
-- of which is put and taken: 57 items.
pub record HandedRun : Type 0 where
  pub is_run : (capacity : ℕ) → 1 ≤ capacity → capacity ≤ 1024 → IsJobView (handed_run capacity)
  pub links : all_links handed.plan ≡
      link_of 0 0 1 ∷ link_of 3 0 1 ∷ link_of 3 0 2 ∷ link_of 4 1 2 ∷ []
  pub outputs : outputs_of handed.plan ≡ 1 ∷ 2 ∷ []
  pub homes : map (home handed.plan) (range_with_len 0 10) ≡
      0 ∷ 2 ∷ 1 ∷ 0 ∷ 1 ∷ 0 ∷ 0 ∷ 0 ∷ 1 ∷ 1 ∷ []
  pub first_script : script_of handed 0 ≡
      Compute 0 0 ∷ Puts 0 ∷ Compute 5 0 ∷ Compute 6 0 ∷ Compute 7 0 ∷ Compute 3 0 ∷ Puts 1 ∷ Puts 2
      ∷ Compute 0 1 ∷ Puts 0 ∷ Compute 5 1 ∷ Compute 6 1 ∷ Compute 7 1 ∷ Compute 3 1 ∷ Puts 1 ∷ Puts 2
      ∷ Compute 0 2 ∷ Puts 0 ∷ Compute 5 2 ∷ Compute 6 2 ∷ Compute 7 2 ∷ Compute 3 2 ∷ Puts 1 ∷ Puts 2
      ∷ Puts 0 ∷ Puts 1 ∷ Puts 2 ∷ []
  pub second_script : script_of handed 1 ≡
      Takes 0 ∷ Takes 1 ∷ Compute 4 0 ∷ Puts 3 ∷ Compute 8 0 ∷ Compute 2 0
      ∷ Takes 0 ∷ Takes 1 ∷ Compute 8 1 ∷ Compute 9 1 ∷ Compute 2 1
      ∷ Takes 0 ∷ Takes 1 ∷ Compute 4 2 ∷ Puts 3 ∷ Compute 8 2 ∷ Compute 2 2
      ∷ Takes 0 ∷ Takes 1 ∷ Puts 3 ∷ []
  pub third_script : script_of handed 2 ≡
      Takes 2 ∷ Takes 3 ∷ Compute 1 0
      ∷ Takes 2 ∷ Compute 1 1
      ∷ Takes 2 ∷ Takes 3 ∷ Compute 1 2
      ∷ Takes 2 ∷ Takes 3 ∷ []
  pub first_list : list_of handed 0 ≡
      value_no 0 (Int (pos 1)) ∷ value_no 1 (Int (pos 2)) ∷ value_no 2 (Int (pos 3)) ∷ close_no 3 ∷ []
  pub second_list : list_of handed 1 ≡ three_ticks
  pub third_list : list_of handed 2 ≡ three_ticks
  pub fourth_list : list_of handed 3 ≡
      value_no 0 (Int (pos 1)) ∷ value_no 1 (Int (pos 3)) ∷ close_no 2 ∷ []
  pub items : item_count (system_of handed) ≡ 57
  pub statuses : status_count (outline_of handed) ≡ 27
  -- if s and `0 when not c` were always present: 27, 24 and 11 items
  pub left_new : left (outline_of handed) (0 ∷ 0 ∷ 0 ∷ []) ≡ 62
  -- B and C have taken the c that is false, so s is passed there: of their second instant 3 items
  -- are left, and one
  pub left_before : left (outline_of handed) (24 ∷ 7 ∷ 3 ∷ []) ≡ 27
  pub left_after : left (outline_of handed) (24 ∷ 8 ∷ 4 ∷ []) ≡ 22
  pub left_at_end : left (outline_of handed) (27 ∷ 20 ∷ 10 ∷ []) ≡ 0
  pub end : reached (system_of narrow_handed) (by_turns (0 ∷ 1 ∷ 2 ∷ []) 30) ≡ 27 ∷ 20 ∷ 10 ∷ []
  pub alone : reached (system_of narrow_handed) (replicate 20 0) ≡ 9 ∷ 0 ∷ 0 ∷ []
  pub no_site : turn (system_of handed) (0 ∷ 0 ∷ 0 ∷ []) 3 ≡ Over
  pub waiting : turn (system_of handed) (0 ∷ 0 ∷ 0 ∷ []) 2 ≡ Blocked

-- PLANS

-- the sites of a variable: one at least, in order, each of the two that there are; and a link holds 1 to
-- 1,024 messages
pub record PlansAre : Type 0 where
  pub at_one : IsPlacedAt 2 (1 ∷ [])
  pub at_both : IsPlacedAt 2 (0 ∷ 1 ∷ [])
  pub at_none : ¬ IsPlacedAt 2 []
  pub at_no_site : ¬ IsPlacedAt 2 (0 ∷ 2 ∷ [])
  pub turned : ¬ IsPlacedAt 2 (1 ∷ 0 ∷ [])
  pub twice : ¬ IsPlacedAt 2 (1 ∷ 1 ∷ [])
  pub no_room : ¬ IsPlan (handed_run 0).plan
  pub too_much_room : ¬ IsPlan (handed_run 1025).plan

-- A CLOCK ON A CLOCK

-- c = d when b, s = (x when b) when c and z = s: the inputs and c at A, s at B, z at C.
-- C reads s, its own clock is c, and it needs b since c is on it.
abbrev pub chained_run : JobView
chained_run =
    record {
      plan =
          record {
            flat = chained;
            names = three_names;
            placed = (0 ∷ []) ∷ (0 ∷ []) ∷ (0 ∷ []) ∷ (0 ∷ []) ∷ (2 ∷ []) ∷ (1 ∷ []) ∷ [];
            needs = (1 ∷ 2 ∷ []) ∷ (0 ∷ 1 ∷ 3 ∷ 6 ∷ []) ∷ (1 ∷ 3 ∷ 5 ∷ []) ∷ [];
            links =
                link_of 0 0 1 ∷ link_of 1 0 1 ∷ link_of 1 0 2 ∷ link_of 3 0 1 ∷ link_of 3 0 2
                ∷ link_of 5 1 2 ∷ [];
            capacity = 1;
          };
      inputs = four_rows;
    }

-- where b is false nothing but b passes to C, and where c is false s doesn't
pub record ChainedRun : Type 0 where
  pub is_run : IsJobView chained_run
  pub first_script : script_of chained_run 0 ≡
      Compute 0 0 ∷ Puts 0 ∷ Compute 1 0 ∷ Puts 1 ∷ Puts 2 ∷ Compute 2 0 ∷ Compute 3 0 ∷ Puts 3 ∷ Puts 4
      ∷ Compute 0 1 ∷ Puts 0 ∷ Compute 1 1 ∷ Puts 1 ∷ Puts 2 ∷ Compute 2 1
      ∷ Compute 0 2 ∷ Puts 0 ∷ Compute 1 2 ∷ Puts 1 ∷ Puts 2 ∷ Compute 2 2 ∷ Compute 3 2 ∷ Puts 3 ∷ Puts 4
      ∷ Compute 0 3 ∷ Puts 0 ∷ Compute 1 3 ∷ Puts 1 ∷ Puts 2 ∷ Compute 2 3 ∷ Compute 3 3 ∷ Puts 3 ∷ Puts 4
      ∷ Puts 0 ∷ Puts 1 ∷ Puts 2 ∷ Puts 3 ∷ Puts 4 ∷ []
  pub second_script : script_of chained_run 1 ≡
      Takes 0 ∷ Takes 1 ∷ Takes 3 ∷ Compute 6 0 ∷ Compute 5 0 ∷ Puts 5
      ∷ Takes 0 ∷ Takes 1
      ∷ Takes 0 ∷ Takes 1 ∷ Takes 3 ∷ Compute 6 2
      ∷ Takes 0 ∷ Takes 1 ∷ Takes 3 ∷ Compute 6 3 ∷ Compute 5 3 ∷ Puts 5
      ∷ Takes 0 ∷ Takes 1 ∷ Takes 3 ∷ Puts 5 ∷ []
  pub third_script : script_of chained_run 2 ≡
      Takes 2 ∷ Takes 4 ∷ Takes 5 ∷ Compute 4 0
      ∷ Takes 2
      ∷ Takes 2 ∷ Takes 4
      ∷ Takes 2 ∷ Takes 4 ∷ Takes 5 ∷ Compute 4 3
      ∷ Takes 2 ∷ Takes 4 ∷ Takes 5 ∷ []
  pub clock_list : list_of chained_run 4 ≡
      value_no 0 (Truth true) ∷ value_no 1 (Truth false) ∷ value_no 2 (Truth true) ∷ close_no 3 ∷ []
  pub sample_list : list_of chained_run 5 ≡
      value_no 0 (Int (pos 1)) ∷ value_no 1 (Int (pos 4)) ∷ close_no 2 ∷ []
  pub items : item_count (system_of chained_run) ≡ 74
  pub statuses : status_count (outline_of chained_run) ≡ 22

-- WITHOUT INSTANTS, AND WITHOUT ITEMS

-- the sampler, whose links carry c and s to B, without instants
abbrev pub idle_run : ℕ → JobView
idle_run capacity = record { plan = (sampled_run capacity).plan; inputs = no_samples }

abbrev pub idle : JobView
idle = idle_run 1

-- three sites without instants
abbrev pub no_rows : InputsView
no_rows = record { instants = 0; columns = record { name = codes "x"; values = [] } ∷ [] }

abbrev pub idle_handed : JobView
idle_handed = record { plan = handed.plan; inputs = no_rows }

-- two counters, both at A
abbrev pub lonely_run : JobView
lonely_run =
    record {
      plan =
          record {
            flat = two_counters;
            names = a_and_b;
            placed = (0 ∷ []) ∷ (0 ∷ []) ∷ [];
            needs = (0 ∷ 1 ∷ 2 ∷ 3 ∷ 4 ∷ 5 ∷ 6 ∷ 7 ∷ 8 ∷ 9 ∷ []) ∷ [] ∷ [];
            links = [];
            capacity = 1;
          };
      inputs = three;
    }

-- each link's close is put and taken, in order of rank, and nothing else
pub record IdleRun : Type 0 where
  pub is_run : (capacity : ℕ) → 1 ≤ capacity → capacity ≤ 1024 → IsJobView (idle_run capacity)
  pub outputs : outputs_of idle.plan ≡ 2 ∷ 3 ∷ []
  pub first_script : script_of idle 0 ≡ Puts 0 ∷ Puts 1 ∷ []
  pub second_script : script_of idle 1 ≡ Takes 0 ∷ Takes 1 ∷ []
  pub first_list : list_of idle 0 ≡ close_no 0 ∷ []
  pub second_list : list_of idle 1 ≡ close_no 0 ∷ []
  pub items : item_count (system_of idle) ≡ 4
  pub statuses : status_count (outline_of idle) ≡ 0
  pub left_new : left (outline_of idle) (0 ∷ 0 ∷ []) ≡ 4
  pub left_half_way : left (outline_of idle) (2 ∷ 1 ∷ []) ≡ 1
  pub left_at_end : left (outline_of idle) (2 ∷ 2 ∷ []) ≡ 0
  pub end : reached (system_of idle) (by_turns (0 ∷ 1 ∷ []) 3) ≡ 2 ∷ 2 ∷ []
  pub moves : moved_turns (system_of idle) (by_turns (0 ∷ 1 ∷ []) 9) ≡ 4
  pub handed_first : script_of idle_handed 0 ≡ Puts 0 ∷ Puts 1 ∷ Puts 2 ∷ []
  pub handed_second : script_of idle_handed 1 ≡ Takes 0 ∷ Takes 1 ∷ Puts 3 ∷ []
  pub handed_third : script_of idle_handed 2 ≡ Takes 2 ∷ Takes 3 ∷ []
  pub handed_left : left (outline_of idle_handed) (0 ∷ 0 ∷ 0 ∷ []) ≡ 8

-- B has nothing to do, so it is over from the start, and has not faulted
pub record LonelyRun : Type 0 where
  pub is_run : IsJobView lonely_run
  pub links : all_links lonely_run.plan ≡ []
  pub second_script : script_of lonely_run 1 ≡ []
  pub items : item_count (system_of lonely_run) ≡ 30
  pub left_new : left (outline_of lonely_run) (0 ∷ 0 ∷ []) ≡ 30
  pub over : turn (system_of lonely_run) (0 ∷ 0 ∷ []) 1 ≡ Over
  pub moved : turn (system_of lonely_run) (0 ∷ 0 ∷ []) 0 ≡ Moved
  pub not_faulted : has_faulted (outline_of lonely_run) (0 ∷ 0 ∷ []) 1 ≡ false
  pub enabled : enabled_below (system_of lonely_run) (0 ∷ 0 ∷ []) 2 ≡ Some 0
  pub end : reached (system_of lonely_run) (replicate 31 0) ≡ 30 ∷ 0 ∷ []
  pub enabled_at_end : enabled_below (system_of lonely_run) (30 ∷ 0 ∷ []) 2 ≡ None

-- WHAT IS LEFT

pub record LeftAre : Type 0 where
  -- A faults at its seventh item and has none left. B waits for a quotient that never comes, at the
  -- last item of its script:
  -- it would still take that, compute 0 and z, which was never passed, and take the close
  pub quotient_new : left (outline_of quotient_run) (0 ∷ 0 ∷ []) ≡ 18
  pub quotient_before : left (outline_of quotient_run) (6 ∷ 5 ∷ []) ≡ 7
  pub quotient_faulted : left (outline_of quotient_run) (7 ∷ 5 ∷ []) ≡ 4
  -- A has computed the c that is false; s is passed as absent only once c has been put
  pub sampled_before : left (outline_of sampled) (10 ∷ 4 ∷ []) ≡ 38
  pub sampled_after : left (outline_of sampled) (11 ∷ 4 ∷ []) ≡ 35
  -- B takes the c that is false, and s, 2 and z are passed with it
  pub sampled_taken : left (outline_of sampled) (11 ∷ 5 ∷ []) ≡ 31
  pub sampled_reached : reached (system_of sampled) (replicate 11 0 ++ replicate 5 1) ≡ 11 ∷ 5 ∷ []
  pub sampled_closes : left (outline_of sampled) (31 ∷ 14 ∷ []) ≡ 2
  pub sampled_end : left (outline_of sampled) (32 ∷ 15 ∷ []) ≡ 0

-- IN THE ABSTRACT

pub record CountsAre : Type 0 where
  pub statuses : status_count (example 4 16) ≡ 29
  pub shared_statuses : status_count shared ≡ 33
  pub stand_counts : map (stand_count shared) (range_with_len 0 8) ≡
      1 ∷ 2 ∷ 1 ∷ 1 ∷ 1 ∷ 1 ∷ 1 ∷ 1 ∷ []
  pub lists : map (list_length (example 4 16)) (0 ∷ 1 ∷ []) ≡ 5 ∷ 4 ∷ []
  pub faulty_list : list_length faulty 0 ≡ 3
  -- without instants
  pub first_script : abstract.script (example 0 16) 0 ≡ Puts 0 ∷ Puts 1 ∷ []
  pub second_script : abstract.script (example 0 16) 1 ≡ Takes 0 ∷ Takes 1 ∷ []
  pub no_statuses : status_count (example 0 16) ≡ 0
  pub closes : map (list_length (example 0 16)) (0 ∷ 1 ∷ []) ≡ 1 ∷ 1 ∷ []
  pub items : item_count (system (example 0 16)) ≡ 4

pub record PlanVectors : Type 0 where
  pub handed_is : HandedRun
  pub plans : PlansAre
  pub chained_is : ChainedRun

pub record IdleVectors : Type 0 where
  pub idle_is : IdleRun
  pub lonely_is : LonelyRun
  pub left_is : LeftAre
  pub counts : CountsAre
