-- Exactly how many messages pass over a link.
use Rattle.std.proofs.Common.{◌≡◌, ℕ, zero, suc, ◌+◌, ◌<◌, ◌≤◌, Bool, true, false, cond, List, [], ◌∷◌, map, nat_eq, filter, flat_map, count_by, refl, sym, ap, ◌∙◌, arith, ⊎_elim, true≢false}
use Rattle.std.specs.List.{range_with_len}
use Rattle.std.proofs.lemmas.List.Sums.{sum_by-cons, sum_by-append}
use Rattle.std.proofs.lemmas.Bool.{eqb-true, eq-eqb, ne_eqb, cases_eq}
use Rattle.luworld.specs.Outline.{Outline, IsOutline, NoFault, Event, Computed, Passed, message_events, events_at, events, messages_from, list_length}
use Rattle.luworld.proofs.Passing.{passes, one_if, range_none, none_pass}

module _ (link : ℕ) where
  range_one : (a n : ℕ) → a ≤ link → link < a + n → count_by (λ l. nat_eq l link) (range_with_len a n) ≡ 1
  range_one a zero le lt = absurd (omega (arith, le, lt))
  range_one a (suc n) le lt =
      let s = sum_by-cons (λ l. one_if (nat_eq l link)) a (range_with_len (a + 1) n) in
      ⊎_elim
      (λ e. omega (arith, s, range_none link (a + 1) n (omega (arith, e)), ap one_if (eq-eqb a link e)))
      (λ ne. omega (arith, s, range_one (a + 1) n (omega (arith, le, ne)) (omega (arith, lt)), ap one_if (ne_eqb a link ne)))
      (cases_eq a link)

  all_pass : (p : ℕ → Bool) → p link ≡ true → (links : List ℕ) → count_by (passes link) (map Passed (filter p links)) ≡ count_by (λ l. nat_eq l link) links
  all_pass p is [] = refl
  all_pass p is (l ∷ links) = go (p l) refl (all_pass p is links)
    where
      s : count_by (λ l. nat_eq l link) (l ∷ links) ≡ one_if (nat_eq l link) + count_by (λ l. nat_eq l link) links
      s = sum_by-cons (λ l. one_if (nat_eq l link)) l links

      t : (events : List Event) → count_by (passes link) (Passed l ∷ events) ≡ one_if (nat_eq l link) + count_by (passes link) events
      t events = sum_by-cons (λ e. one_if (passes link e)) (Passed l) events

      go : (b : Bool) → p l ≡ b → count_by (passes link) (map Passed (filter p links)) ≡ count_by (λ l. nat_eq l link) links → count_by (passes link) (map Passed (cond b (l ∷ filter p links) (filter p links))) ≡ count_by (λ l. nat_eq l link) (l ∷ links)
      go true yields rest = omega (arith, s, t (map Passed (filter p links)), rest)
      go false fails rest = omega (arith, s, rest, ap one_if (ne_eqb l link (λ e. absurd (true≢false (sym is ∙ ap p (sym e) ∙ fails)))))

module _ (plan : Outline) (ok : IsOutline plan) (link : ℕ) (listed : link < plan.links) where
  message_exact : (flow : ℕ) → count_by (passes link) (message_events plan flow) ≡ one_if (nat_eq (plan.flow_of link) flow)
  message_exact flow = go (nat_eq (plan.flow_of link) flow) refl
    where
      go : (b : Bool) → nat_eq (plan.flow_of link) flow ≡ b → count_by (passes link) (message_events plan flow) ≡ one_if b
      go true is = all_pass link (λ l. nat_eq (plan.flow_of l) flow) is (range_with_len 0 plan.links) ∙ range_one link 0 plan.links (omega arith) (omega (arith, listed))
      go false isnt = none_pass link (λ l. nat_eq (plan.flow_of l) flow) isnt (range_with_len 0 plan.links)

  pub closes : (flows : List ℕ) → count_by (passes link) (flat_map (message_events plan) flows) ≡ count_by (nat_eq (plan.flow_of link)) flows
  closes [] = refl
  closes (flow ∷ flows) =
      omega (arith, sum_by-append (λ e. one_if (passes link e)) (message_events plan flow) (flat_map (message_events plan) flows), sum_by-cons (λ f. one_if (nat_eq (plan.flow_of link) f)) flow flows, message_exact flow, closes flows)

  event_exact : (instant flow : ℕ) → count_by (passes link) (events_at plan instant flow) ≡ cond (plan.present (plan.flow_of link) instant) (one_if (nat_eq (plan.flow_of link) flow)) 0
  event_exact instant flow = go (nat_eq (plan.flow_of link) flow) refl
    where
      m : count_by (passes link) (Computed flow instant ∷ message_events plan flow) ≡ 0 + count_by (passes link) (message_events plan flow)
      m = sum_by-cons (λ e. one_if (passes link e)) (Computed flow instant) (message_events plan flow)

      shown : (c : Bool) → count_by (passes link) (cond c (Computed flow instant ∷ message_events plan flow) []) ≡ cond c (one_if (nat_eq (plan.flow_of link) flow)) 0
      shown true = omega (arith, m, message_exact flow)
      shown false = refl

      small : (c : Bool) → nat_eq (plan.flow_of link) flow ≡ false → cond c (one_if (nat_eq (plan.flow_of link) flow)) 0 ≡ 0
      small true e = ap one_if e
      small false e = refl

      go : (b : Bool) → nat_eq (plan.flow_of link) flow ≡ b → count_by (passes link) (events_at plan instant flow) ≡ cond (plan.present (plan.flow_of link) instant) (one_if (nat_eq (plan.flow_of link) flow)) 0
      go true is =
          let e : plan.present flow instant ≡ plan.present (plan.flow_of link) instant = ap (λ (f : ℕ). plan.present f instant) (sym (eqb-true _ _ is)) in
          shown (plan.present flow instant) ∙ ap (λ (c : Bool). cond c (one_if (nat_eq (plan.flow_of link) flow)) 0) e
      go false isnt = shown (plan.present flow instant) ∙ small (plan.present flow instant) isnt ∙ sym (small (plan.present (plan.flow_of link) instant) isnt)

  pub values : (instant : ℕ) (flows : List ℕ) → count_by (passes link) (flat_map (events_at plan instant) flows) ≡ cond (plan.present (plan.flow_of link) instant) (count_by (nat_eq (plan.flow_of link)) flows) 0
  values instant [] = go (plan.present (plan.flow_of link) instant)
    where
      go : (c : Bool) → ◌≡◌ {A = ℕ} 0 (cond c 0 0)
      go true = refl
      go false = refl
  values instant (flow ∷ flows) =
      let s = sum_by-append (λ e. one_if (passes link e)) (events_at plan instant flow) (flat_map (events_at plan instant) flows) in
      omega (arith, s, event_exact instant flow, values instant flows, go (plan.present (plan.flow_of link) instant))
    where
      go : (c : Bool) → cond c (count_by (nat_eq (plan.flow_of link)) (flow ∷ flows)) 0 ≡ cond c (one_if (nat_eq (plan.flow_of link) flow)) 0 + cond c (count_by (nat_eq (plan.flow_of link)) flows) 0
      go true = sum_by-cons (λ f. one_if (nat_eq (plan.flow_of link) f)) flow flows
      go false = refl

  pub at_instant : (instant : ℕ) → count_by (passes link) (flat_map (events_at plan instant) plan.ranked) ≡ one_if (plan.present (plan.flow_of link) instant)
  at_instant instant = values instant plan.ranked ∙ go (plan.present (plan.flow_of link) instant)
    where
      go : (c : Bool) → cond c (count_by (nat_eq (plan.flow_of link)) plan.ranked) 0 ≡ one_if c
      go true = ok.linked_once link listed
      go false = refl

module _ (plan : Outline) (ok : IsOutline plan) (fine : NoFault plan) (link : ℕ) (listed : link < plan.links) where
  all_values : (a n : ℕ) → count_by (passes link) (flat_map (λ instant. flat_map (events_at plan instant) plan.ranked) (range_with_len a n)) + 1 ≡ messages_from plan (plan.flow_of link) a n
  all_values a zero = omega arith
  all_values a (suc n) =
      let s = sum_by-append (λ e. one_if (passes link e)) (flat_map (events_at plan a) plan.ranked) (flat_map (λ instant. flat_map (events_at plan instant) plan.ranked) (range_with_len (a + 1) n)) in
      let m : messages_from plan (plan.flow_of link) a (suc n) ≡ one_if (plan.present (plan.flow_of link) a) + messages_from plan (plan.flow_of link) (a + 1) n = ap (λ (b : Bool). cond b 0 (one_if (plan.present (plan.flow_of link) a) + messages_from plan (plan.flow_of link) (a + 1) n)) (fine (plan.flow_of link) a) in
      omega (arith, s, m, at_instant plan ok link listed a, all_values (a + 1) n)

  pub passed_exact : count_by (passes link) (events plan) ≡ list_length plan link
  passed_exact =
      let s = sum_by-append (λ e. one_if (passes link e)) (flat_map (λ instant. flat_map (events_at plan instant) plan.ranked) (range_with_len 0 plan.instants)) (flat_map (message_events plan) plan.ranked) in
      omega (arith, s, all_values 0 plan.instants, closes plan ok link listed plan.ranked, ok.linked_once link listed)
