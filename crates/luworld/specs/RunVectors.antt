-- Worked runs: a program, its table, a plan, and what its sites then do, computed on the definitions.
use Rattle.std.specs.Prelude.{◌≡◌, ℕ, zero, suc, ◌≤◌, true, false, List, [], ◌∷◌, ◌++◌, length, pos, codes}
use Rattle.std.specs.Prelude.{replicate, Some, None, slice_get}
use Rattle.luflow.specs.declared.data.Datum.{Datum}
use Rattle.luflow.specs.declared.data.Datum.TheVariants.{Int, Bool as Truth, Nil}
use Rattle.luflow.specs.declared.message.Msg.{Msg}
use Rattle.luflow.specs.declared.message.Body.TheVariants.{Value, Close}
use Rattle.luflow.specs.Vectors.{two_counters, three, sampled_sum, four_samples, division, one_zero, one_two}
use Rattle.luflow.specs.Vectors.{held_sample, three_samples}
use Rattle.luworld.specs.declared.link.Link.{Link}
use Rattle.luworld.specs.declared.turn.Turn.TheVariants.{Blocked, Over}
use Rattle.luworld.specs.Systems.{Item, Compute, Puts, Takes, turn, next_item, reached, moved_turns}
use Rattle.luworld.specs.Systems.{item_count, enabled_below}
use Rattle.luworld.specs.Outline.{Outline, has_faulted, left}
use Rattle.luworld.specs.Outline as abstract
use Rattle.luworld.specs.Jobs.{JobView, IsJobView, streams_of, outline, system_of, script, link_list}
use Rattle.luworld.specs.Jobs.{outputs_of}
use Rattle.luworld.specs.Vectors.{example, shared, faulty, eight_four, ten_six}

abbrev pub value_no : ℕ → Datum → Msg
value_no n d = record { no = n; body = Value d }

abbrev pub close_no : ℕ → Msg
close_no n = record { no = n; body = Close }

-- 0, 1, 2 and the close
abbrev pub zero_to_two : List Msg
zero_to_two = value_no 0 (Int (pos 0)) ∷ value_no 1 (Int (pos 1)) ∷ value_no 2 (Int (pos 2)) ∷ close_no 3 ∷ []

-- the clock: true, false, true, true and the close
abbrev pub clock_messages : List Msg
clock_messages = value_no 0 (Truth true) ∷ value_no 1 (Truth false) ∷ value_no 2 (Truth true)
    ∷ value_no 3 (Truth true) ∷ close_no 4 ∷ []

-- the samples where the clock is true: 1, 3, 4 and the close
abbrev pub sample_messages : List Msg
sample_messages = value_no 0 (Int (pos 1)) ∷ value_no 1 (Int (pos 3)) ∷ value_no 2 (Int (pos 4)) ∷ close_no 3
    ∷ []

-- nil, 1 and the close
abbrev pub quotient_messages : List Msg
quotient_messages = value_no 0 Nil ∷ value_no 1 (Int (pos 1)) ∷ close_no 2 ∷ []

-- a link between two sites, of which 0 is A and 1 is B
abbrev pub link_of : ℕ → ℕ → ℕ → Link
link_of flow from to = record { flow = flow; from = from; to = to }

abbrev pub a_and_b : List (List ℕ)
a_and_b = codes "A" ∷ codes "B" ∷ []

-- two counters that feed each other, a at site A and b at site B, over links that hold one message
abbrev pub counters_run : JobView
counters_run =
    record {
      plan =
          record {
            flat = two_counters;
            names = a_and_b;
            placed = (0 ∷ []) ∷ (1 ∷ []) ∷ [];
            needs = (1 ∷ 2 ∷ 3 ∷ 4 ∷ 5 ∷ []) ∷ (0 ∷ 6 ∷ 7 ∷ 8 ∷ 9 ∷ []) ∷ [];
            links = link_of 0 0 1 ∷ link_of 1 1 0 ∷ [];
            capacity = 1;
          };
      inputs = three;
    }

-- a sum, and a doubled sample on a slow clock, which is at site B
abbrev pub sampled_run : ℕ → JobView
sampled_run capacity =
    record {
      plan =
          record {
            flat = sampled_sum;
            names = a_and_b;
            placed = (0 ∷ []) ∷ (0 ∷ []) ∷ (0 ∷ []) ∷ (1 ∷ []) ∷ (0 ∷ []) ∷ [];
            needs = (0 ∷ 1 ∷ 2 ∷ 6 ∷ 7 ∷ []) ∷ (1 ∷ 4 ∷ 5 ∷ []) ∷ [];
            links = link_of 1 0 1 ∷ link_of 4 0 1 ∷ [];
            capacity = capacity;
          };
      inputs = four_samples;
    }

-- the same with its clock at both sites, so that no link carries it
abbrev pub shared_run : JobView
shared_run =
    record {
      plan =
          record {
            flat = sampled_sum;
            names = a_and_b;
            placed = (0 ∷ []) ∷ (0 ∷ 1 ∷ []) ∷ (0 ∷ []) ∷ (1 ∷ []) ∷ (0 ∷ []) ∷ [];
            needs = (0 ∷ 1 ∷ 2 ∷ 6 ∷ 7 ∷ []) ∷ (1 ∷ 4 ∷ 5 ∷ []) ∷ [];
            links = link_of 4 0 1 ∷ [];
            capacity = 16;
          };
      inputs = four_samples;
    }

-- the same over three sites: the clock at A and B, y at B, and z at B and C
abbrev pub spread_run : JobView
spread_run =
    record {
      plan =
          record {
            flat = sampled_sum;
            names = codes "A" ∷ codes "B" ∷ codes "C" ∷ [];
            placed = (0 ∷ []) ∷ (0 ∷ 1 ∷ []) ∷ (1 ∷ []) ∷ (1 ∷ 2 ∷ []) ∷ (0 ∷ []) ∷ [];
            needs = (0 ∷ 1 ∷ []) ∷ (0 ∷ 1 ∷ 2 ∷ 4 ∷ 5 ∷ 6 ∷ 7 ∷ []) ∷ (1 ∷ 4 ∷ 5 ∷ []) ∷ [];
            links = link_of 0 0 1 ∷ link_of 1 0 2 ∷ link_of 4 0 1 ∷ link_of 4 0 2 ∷ [];
            capacity = 1;
          };
      inputs = four_samples;
    }

-- one divided by the input, one instant later at site B
abbrev pub division_run : ℕ → JobView
division_run capacity =
    record {
      plan =
          record {
            flat = division;
            names = a_and_b;
            placed = (0 ∷ []) ∷ (1 ∷ []) ∷ (0 ∷ []) ∷ (0 ∷ []) ∷ [];
            needs = (0 ∷ 2 ∷ 4 ∷ []) ∷ (3 ∷ 5 ∷ []) ∷ [];
            links = link_of 3 0 1 ∷ [];
            capacity = capacity;
          };
      inputs = one_zero;
    }

-- the same with the delay at site B too, so that the quotient itself passes the link
abbrev pub quotient_run : JobView
quotient_run =
    record {
      plan =
          record {
            flat = division;
            names = a_and_b;
            placed = (0 ∷ []) ∷ (1 ∷ []) ∷ (0 ∷ []) ∷ (1 ∷ []) ∷ [];
            needs = (0 ∷ 4 ∷ []) ∷ (2 ∷ 3 ∷ 5 ∷ []) ∷ [];
            links = link_of 2 0 1 ∷ [];
            capacity = 16;
          };
      inputs = one_zero;
    }

-- the division at site B and its delay at site A, so that the quotient goes there and back
abbrev pub returned_run : JobView
returned_run =
    record {
      plan =
          record {
            flat = division;
            names = a_and_b;
            placed = (0 ∷ []) ∷ (1 ∷ []) ∷ (1 ∷ []) ∷ (0 ∷ []) ∷ [];
            needs = (2 ∷ []) ∷ (0 ∷ 3 ∷ 4 ∷ 5 ∷ []) ∷ [];
            links = link_of 0 0 1 ∷ link_of 2 1 0 ∷ link_of 3 0 1 ∷ [];
            capacity = 1;
          };
      inputs = one_two;
    }

-- a sample that site B holds, which needs the sample and so its clock
abbrev pub held_run : JobView
held_run =
    record {
      plan =
          record {
            flat = held_sample;
            names = a_and_b;
            placed = (0 ∷ []) ∷ (1 ∷ []) ∷ (0 ∷ []) ∷ (0 ∷ []) ∷ (0 ∷ []) ∷ [];
            needs = (0 ∷ 3 ∷ 4 ∷ 5 ∷ 6 ∷ 7 ∷ 8 ∷ 9 ∷ []) ∷ (3 ∷ 4 ∷ []) ∷ [];
            links = link_of 3 0 1 ∷ link_of 4 0 1 ∷ [];
            capacity = 16;
          };
      inputs = three_samples;
    }

-- two of them at the usual capacity, and over links that hold one message
abbrev pub sampled : JobView
sampled = sampled_run 16

abbrev pub narrow_sampled : JobView
narrow_sampled = sampled_run 1

abbrev pub divided : JobView
divided = division_run 16

abbrev pub narrow_divided : JobView
narrow_divided = division_run 1

-- by the run's own solution: where its flows are present and broken, what a site does, and what a link
-- carries
abbrev pub outline_of : JobView → Outline
outline_of job = outline job (streams_of job)

abbrev pub script_of : JobView → ℕ → List Item
script_of job s = script job (streams_of job) s

abbrev pub list_of : JobView → ℕ → List Msg
list_of job l = link_list job (streams_of job) l

-- n turns of each of some sites, one site after the other
abbrev pub by_turns : List ℕ → ℕ → List ℕ
by_turns sites zero = []
by_turns sites (suc n) = sites ++ by_turns sites n

-- In each record `is_run` says among the rest that the flows' order is that of their ranks, and that the
-- needs and the links listed above are exactly those that are defined.

-- Each site does 23 items, and both links carry 0, 1, 2 and the close. Alone, site A gets no further than its
-- first take.
pub record CountersRun : Type 0 where
  pub is_run : IsJobView counters_run
  pub outputs : outputs_of counters_run.plan ≡ 0 ∷ 1 ∷ []
  pub items : item_count (system_of counters_run) ≡ 46
  pub first_script : length (script_of counters_run 0) ≡ 23
  pub second_script : length (script_of counters_run 1) ≡ 23
  pub first_list : list_of counters_run 0 ≡ zero_to_two
  pub second_list : list_of counters_run 1 ≡ zero_to_two
  pub alone : reached (system_of counters_run) (replicate 20 0) ≡ 6 ∷ 0 ∷ []
  pub waits_for : next_item (system_of counters_run) (6 ∷ 0 ∷ []) 0 ≡ Some (Takes 1)
  pub waits : turn (system_of counters_run) (6 ∷ 0 ∷ []) 0 ≡ Blocked
  pub end : reached (system_of counters_run) (by_turns (0 ∷ 1 ∷ []) 42) ≡ 23 ∷ 23 ∷ []
  pub moves : moved_turns (system_of counters_run) (by_turns (0 ∷ 1 ∷ []) 42) ≡ 46
  pub over : turn (system_of counters_run) (23 ∷ 23 ∷ []) 0 ≡ Over

-- The scripts are those of the plan in the abstract; at capacity 1, site A alone gets no further than the
-- second put of c.
pub record SampledRun : Type 0 where
  pub is_run : (capacity : ℕ) → 1 ≤ capacity → capacity ≤ 1024 → IsJobView (sampled_run capacity)
  pub outputs : outputs_of sampled.plan ≡ 2 ∷ 3 ∷ []
  pub items : item_count (system_of sampled) ≡ 47
  pub first_script : length (script_of sampled 0) ≡ 32
  pub second_script : length (script_of sampled 1) ≡ 15
  pub first_same : script_of sampled 0 ≡ abstract.script (example 4 16) 0
  pub second_same : script_of sampled 1 ≡ abstract.script (example 4 16) 1
  pub first_list : list_of sampled 0 ≡ clock_messages
  pub second_list : list_of sampled 1 ≡ sample_messages
  pub left_new : left (outline_of sampled) (0 ∷ 0 ∷ []) ≡ 52
  pub half_way : reached (system_of sampled) eight_four ≡ 8 ∷ 4 ∷ []
  pub left_half_way : left (outline_of sampled) (8 ∷ 4 ∷ []) ≡ 40
  pub end : reached (system_of sampled) (by_turns (0 ∷ 1 ∷ []) 40) ≡ 32 ∷ 15 ∷ []
  pub alone : reached (system_of narrow_sampled) (replicate 40 0) ≡ 10 ∷ 0 ∷ []
  pub waits_for : next_item (system_of narrow_sampled) (10 ∷ 0 ∷ []) 0 ≡ Some (Puts 0)
  pub waits : turn (system_of narrow_sampled) (10 ∷ 0 ∷ []) 0 ≡ Blocked

-- The clock is computed at both sites, and only s passes a link.
pub record SharedRun : Type 0 where
  pub is_run : IsJobView shared_run
  pub items : item_count (system_of shared_run) ≡ 41
  pub first_same : script_of shared_run 0 ≡ abstract.script shared 0
  pub second_same : script_of shared_run 1 ≡ abstract.script shared 1
  pub list : list_of shared_run 0 ≡ sample_messages

-- The clock is sent by A, which is the least of its sites, and the sample goes to both sites that need it, in
-- order.
pub record SpreadRun : Type 0 where
  pub is_run : IsJobView spread_run
  pub items : item_count (system_of spread_run) ≡ 75
  pub first_script : length (script_of spread_run 0) ≡ 29
  pub second_script : length (script_of spread_run 1) ≡ 31
  pub third_script : length (script_of spread_run 2) ≡ 15
  pub first_list : list_of spread_run 0 ≡ value_no 0 (Int (pos 1)) ∷ value_no 1 (Int (pos 2))
      ∷ value_no 2 (Int (pos 3)) ∷ value_no 3 (Int (pos 4)) ∷ close_no 4 ∷ []
  pub second_list : list_of spread_run 1 ≡ clock_messages
  pub third_list : list_of spread_run 2 ≡ sample_messages
  pub fourth_list : list_of spread_run 3 ≡ sample_messages
  pub alone : reached (system_of spread_run) (replicate 20 0) ≡ 8 ∷ 0 ∷ 0 ∷ []
  pub waits_for : next_item (system_of spread_run) (8 ∷ 0 ∷ 0 ∷ []) 0 ≡ Some (Puts 0)
  pub waits : turn (system_of spread_run) (8 ∷ 0 ∷ 0 ∷ []) 0 ≡ Blocked
  pub end : reached (system_of spread_run) (by_turns (0 ∷ 1 ∷ 2 ∷ []) 34) ≡ 29 ∷ 31 ∷ 15 ∷ []

-- Site A faults at its tenth item, and site B then waits for the close of p, which never comes; at capacity
-- 1, site A alone gets no further than the second put of p.
pub record DivisionRun : Type 0 where
  pub is_run : (capacity : ℕ) → 1 ≤ capacity → capacity ≤ 1024 → IsJobView (division_run capacity)
  pub outputs : outputs_of divided.plan ≡ 1 ∷ []
  pub items : item_count (system_of divided) ≡ 17
  pub first_script : length (script_of divided 0) ≡ 10
  pub second_script : length (script_of divided 1) ≡ 7
  pub first_same : script_of divided 0 ≡ abstract.script faulty 0
  pub second_same : script_of divided 1 ≡ abstract.script faulty 1
  pub list : list_of divided 0 ≡ quotient_messages
  pub left_new : left (outline_of divided) (0 ∷ 0 ∷ []) ≡ 18
  pub faulting : slice_get (script_of divided 0) 9 ≡ Some (Compute 2 1)
  pub end : reached (system_of divided) ten_six ≡ 10 ∷ 6 ∷ []
  pub end_waits_for : next_item (system_of divided) (10 ∷ 6 ∷ []) 1 ≡ Some (Takes 0)
  pub end_waits : enabled_below (system_of divided) (10 ∷ 6 ∷ []) 2 ≡ None
  pub end_left : left (outline_of divided) (10 ∷ 6 ∷ []) ≡ 1
  pub first_faulted : has_faulted (outline_of divided) (10 ∷ 6 ∷ []) 0 ≡ true
  pub second_not : has_faulted (outline_of divided) (10 ∷ 6 ∷ []) 1 ≡ false
  pub alone : reached (system_of narrow_divided) (replicate 20 0) ≡ 7 ∷ 0 ∷ []
  pub waits_for : next_item (system_of narrow_divided) (7 ∷ 0 ∷ []) 0 ≡ Some (Puts 0)
  pub waits : turn (system_of narrow_divided) (7 ∷ 0 ∷ []) 0 ≡ Blocked

-- The quotient's list ends at its fault, without a close, and site B's script ends at the take of what never
-- comes.
pub record QuotientRun : Type 0 where
  pub is_run : IsJobView quotient_run
  pub items : item_count (system_of quotient_run) ≡ 13
  pub first_script : script_of quotient_run 0 ≡ Compute 0 0 ∷ Compute 4 0 ∷ Compute 2 0 ∷ Puts 0 ∷ Compute 0 1
      ∷ Compute 4 1 ∷ Compute 2 1 ∷ []
  pub second_script : script_of quotient_run 1 ≡ Compute 3 0 ∷ Takes 0 ∷ Compute 5 0 ∷ Compute 1 0
      ∷ Compute 3 1 ∷ Takes 0 ∷ []
  pub list : list_of quotient_run 0 ≡ value_no 0 (Int (pos 1)) ∷ []
  pub end : reached (system_of quotient_run) ten_six ≡ 7 ∷ 5 ∷ []
  pub end_waits : turn (system_of quotient_run) (7 ∷ 5 ∷ []) 1 ≡ Blocked
  pub first_faulted : has_faulted (outline_of quotient_run) (7 ∷ 5 ∷ []) 0 ≡ true
  pub second_not : has_faulted (outline_of quotient_run) (7 ∷ 5 ∷ []) 1 ≡ false

-- Messages pass in order of rank at each instant and at the close: p, which is one instant behind y, before
-- y.
pub record ReturnedRun : Type 0 where
  pub is_run : IsJobView returned_run
  pub items : item_count (system_of returned_run) ≡ 30
  pub first_script : script_of returned_run 0 ≡
      Compute 0 0 ∷ Puts 0 ∷ Compute 3 0 ∷ Puts 2 ∷ Takes 1
      ∷ Compute 0 1 ∷ Puts 0 ∷ Compute 3 1 ∷ Puts 2 ∷ Takes 1
      ∷ Puts 0 ∷ Puts 2 ∷ Takes 1 ∷ []
  pub second_script : script_of returned_run 1 ≡
      Takes 0 ∷ Takes 2 ∷ Compute 4 0 ∷ Compute 2 0 ∷ Puts 1 ∷ Compute 5 0 ∷ Compute 1 0
      ∷ Takes 0 ∷ Takes 2 ∷ Compute 4 1 ∷ Compute 2 1 ∷ Puts 1 ∷ Compute 5 1 ∷ Compute 1 1
      ∷ Takes 0 ∷ Takes 2 ∷ Puts 1 ∷ []
  pub quotient_list : list_of returned_run 1 ≡ value_no 0 (Int (pos 1)) ∷ value_no 1 (Int (pos 0))
      ∷ close_no 2 ∷ []
  pub delayed_list : list_of returned_run 2 ≡ quotient_messages
  pub end : reached (system_of returned_run) (by_turns (0 ∷ 1 ∷ []) 30) ≡ 13 ∷ 17 ∷ []

-- Site B takes the clock at each instant and the sample where it is true.
pub record HeldRun : Type 0 where
  pub is_run : IsJobView held_run
  pub outputs : outputs_of held_run.plan ≡ 1 ∷ 2 ∷ []
  pub items : item_count (system_of held_run) ≡ 41
  pub first_script : length (script_of held_run 0) ≡ 31
  pub second_script : script_of held_run 1 ≡ Takes 0 ∷ Takes 1 ∷ Compute 1 0 ∷ Takes 0 ∷ Compute 1 1 ∷ Takes 0
      ∷ Takes 1 ∷ Compute 1 2 ∷ Takes 0 ∷ Takes 1 ∷ []
  pub first_list : list_of held_run 0 ≡ value_no 0 (Truth true) ∷ value_no 1 (Truth false)
      ∷ value_no 2 (Truth true) ∷ close_no 3 ∷ []
  pub second_list : list_of held_run 1 ≡ value_no 0 (Int (pos 1)) ∷ value_no 1 (Int (pos 3)) ∷ close_no 2 ∷ []
  pub end : reached (system_of held_run) (by_turns (0 ∷ 1 ∷ []) 41) ≡ 31 ∷ 10 ∷ []

pub record RunVectors : Type 0 where
  pub counters : CountersRun
  pub samples : SampledRun
  pub shared : SharedRun
  pub spread : SpreadRun
  pub divisions : DivisionRun
  pub quotients : QuotientRun
  pub returned : ReturnedRun
  pub held : HeldRun
