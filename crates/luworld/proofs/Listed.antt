-- The links of all events are links of the plan.
use Rattle.std.proofs.Common.{ℕ, zero, suc, ◌+◌, ◌<◌, ◌≤◌, Bool, true, false, cond, [], ◌∷◌, map, nat_eq, filter, flat_map, arith}
use Rattle.std.specs.List.{range_with_len}
use Rattle.luworld.specs.Outline.{Outline, Event, Computed, Passed, message_events, events_at, events}
use Rattle.luworld.proofs.Wired.{Each, each_append, each_flat_map}

module _ (plan : Outline) where
  abbrev pub Listed : Event → Type 0
  Listed (Computed flow instant) = Unit {0}
  Listed (Passed link) = link < plan.links

  listed_links : (p : ℕ → Bool) (a n : ℕ) → a + n ≤ plan.links → Each Listed (map Passed (filter p (range_with_len a n)))
  listed_links p a zero le = tt
  listed_links p a (suc n) le = go (p a) (listed_links p (a + 1) n (omega (arith, le)))
    where
      go : (b : Bool) → Each Listed (map Passed (filter p (range_with_len (a + 1) n))) → Each Listed (map Passed (cond b (a ∷ filter p (range_with_len (a + 1) n)) (filter p (range_with_len (a + 1) n))))
      go true rest = (omega (arith, le), rest)
      go false rest = rest

  listed_messages : (flow : ℕ) → Each Listed (message_events plan flow)
  listed_messages flow = listed_links (λ link. nat_eq (plan.flow_of link) flow) 0 plan.links (omega arith)

  listed_at : (instant flow : ℕ) → Each Listed (events_at plan instant flow)
  listed_at instant flow = go (plan.present flow instant)
    where
      go : (b : Bool) → Each Listed (cond b (Computed flow instant ∷ message_events plan flow) [])
      go true = (tt, listed_messages flow)
      go false = tt

  pub all_listed : Each Listed (events plan)
  all_listed =
      each_append Listed (flat_map (λ instant. flat_map (events_at plan instant) plan.ranked) (range_with_len 0 plan.instants)) (flat_map (message_events plan) plan.ranked)
      (each_flat_map Listed (λ instant. flat_map (events_at plan instant) plan.ranked) (λ instant. each_flat_map Listed (events_at plan instant) (listed_at instant) plan.ranked) (range_with_len 0 plan.instants))
      (each_flat_map Listed (message_events plan) listed_messages plan.ranked)
