-- How many messages pass over a link, by events and by items.
use Rattle.std.proofs.Common.{◌≡◌, ℕ, zero, suc, ◌+◌, ◌<◌, ◌≤◌, Bool, true, false, cond, List, [], ◌∷◌, map, nat_eq, filter, flat_map, count_by, refl, sym, ap, ap₂, ◌∙◌, subst, arith, ⊎_elim, zero-add, true≢false}
use Rattle.std.specs.List.{range_with_len}
use Rattle.std.proofs.lemmas.List.Sums.{sum_by-cons, sum_by-append}
use Rattle.std.proofs.lemmas.Bool.{eqb-true, eqb-false, eq-eqb, ne_eqb, cases_eq}
use Rattle.luworld.specs.Systems.{Compute, Puts, Takes, puts, takes}
use Rattle.luworld.specs.Outline.{Outline, IsOutline, NoFault, Event, Computed, Passed, part, message_events, events_at, events, messages_from, list_length}

abbrev pub passes : ℕ → Event → Bool
passes link (Computed flow instant) = false
passes link (Passed other) = nat_eq other link

abbrev pub one_if : Bool → ℕ
one_if b = cond b 1 0

module _ (plan : Outline) (ok : IsOutline plan) (link : ℕ) where
  sender_part : (event : Event) → count_by (puts link) (part plan (plan.home (plan.flow_of link)) event) ≡ one_if (passes link event)
  sender_part (Computed flow instant) = go (plan.stands flow (plan.home (plan.flow_of link)))
    where
      go : (b : Bool) → count_by (puts link) (cond b (Compute flow instant ∷ []) []) ≡ 0
      go true = refl
      go false = refl
  sender_part (Passed other) = go (nat_eq (plan.home (plan.flow_of other)) (plan.home (plan.flow_of link))) refl
    where
      ne : nat_eq (plan.home (plan.flow_of other)) (plan.home (plan.flow_of link)) ≡ false → nat_eq other link ≡ false
      ne e = ne_eqb other link (λ same. eqb-false _ _ e (ap (λ (l : ℕ). plan.home (plan.flow_of l)) same))

      taken : (b : Bool) → count_by (puts link) (cond b (Takes other ∷ []) []) ≡ 0
      taken true = refl
      taken false = refl

      go : (b : Bool) → nat_eq (plan.home (plan.flow_of other)) (plan.home (plan.flow_of link)) ≡ b → count_by (puts link) (cond b (Puts other ∷ []) (cond (nat_eq (plan.receiver other) (plan.home (plan.flow_of link))) (Takes other ∷ []) [])) ≡ one_if (nat_eq other link)
      go true e = zero-add _
      go false e = taken (nat_eq (plan.receiver other) (plan.home (plan.flow_of link))) ∙ ap one_if (sym (ne e))

  takes_one : (b : Bool) (flow instant : ℕ) → count_by (takes link) (cond b (Compute flow instant ∷ []) []) ≡ 0
  takes_one true flow instant = refl
  takes_one false flow instant = refl

  receiver_part : link < plan.links → (event : Event) → count_by (takes link) (part plan (plan.receiver link) event) ≡ one_if (passes link event)
  receiver_part listed (Computed flow instant) = takes_one (plan.stands flow (plan.receiver link)) flow instant
  receiver_part listed (Passed other) = go (nat_eq (plan.home (plan.flow_of other)) (plan.receiver link)) refl
    where
      not_sent : nat_eq (plan.home (plan.flow_of other)) (plan.receiver link) ≡ true → nat_eq other link ≡ false
      not_sent e = ne_eqb other link (λ same. ok.receiver_other link listed (sym (ap (λ (l : ℕ). plan.home (plan.flow_of l)) (sym same) ∙ eqb-true _ _ e)))

      ne : nat_eq (plan.receiver other) (plan.receiver link) ≡ false → nat_eq other link ≡ false
      ne e = ne_eqb other link (λ same. eqb-false _ _ e (ap plan.receiver same))

      taken : (b : Bool) → nat_eq (plan.receiver other) (plan.receiver link) ≡ b → count_by (takes link) (cond b (Takes other ∷ []) []) ≡ one_if (nat_eq other link)
      taken true e = zero-add _
      taken false e = ap one_if (sym (ne e))

      go : (b : Bool) → nat_eq (plan.home (plan.flow_of other)) (plan.receiver link) ≡ b → count_by (takes link) (cond b (Puts other ∷ []) (cond (nat_eq (plan.receiver other) (plan.receiver link)) (Takes other ∷ []) [])) ≡ one_if (nat_eq other link)
      go true e = ap one_if (sym (not_sent e))
      go false e = taken (nat_eq (plan.receiver other) (plan.receiver link)) refl

  -- no site takes more than pass
  any_part : (site : ℕ) (event : Event) → count_by (takes link) (part plan site event) ≤ one_if (passes link event)
  any_part site (Computed flow instant) = omega (arith, takes_one (plan.stands flow site) flow instant)
  any_part site (Passed other) = go (nat_eq (plan.home (plan.flow_of other)) site)
    where
      taken : (b : Bool) → count_by (takes link) (cond b (Takes other ∷ []) []) ≤ one_if (nat_eq other link)
      taken true = omega arith
      taken false = omega arith

      go : (b : Bool) → count_by (takes link) (cond b (Puts other ∷ []) (cond (nat_eq (plan.receiver other) site) (Takes other ∷ []) [])) ≤ one_if (nat_eq other link)
      go true = omega arith
      go false = taken (nat_eq (plan.receiver other) site)

  pub sent : (evs : List Event) → count_by (puts link) (flat_map (part plan (plan.home (plan.flow_of link))) evs) ≡ count_by (passes link) evs
  sent [] = refl
  sent (event ∷ evs) =
      let h = plan.home (plan.flow_of link) in
      let a = sum_by-append (λ item. one_if (puts link item)) (part plan h event) (flat_map (part plan h) evs) in
      let b = sum_by-cons (λ e. one_if (passes link e)) event evs in
      a ∙ ap₂ (λ (x : ℕ) (y : ℕ). x + y) (sender_part event) (sent evs) ∙ sym b

  pub received : link < plan.links → (evs : List Event) → count_by (takes link) (flat_map (part plan (plan.receiver link)) evs) ≡ count_by (passes link) evs
  received listed [] = refl
  received listed (event ∷ evs) =
      let h = plan.receiver link in
      let a = sum_by-append (λ item. one_if (takes link item)) (part plan h event) (flat_map (part plan h) evs) in
      let b = sum_by-cons (λ e. one_if (passes link e)) event evs in
      a ∙ ap₂ (λ (x : ℕ) (y : ℕ). x + y) (receiver_part listed event) (received listed evs) ∙ sym b

  pub any_received : (site : ℕ) (evs : List Event) → count_by (takes link) (flat_map (part plan site) evs) ≤ count_by (passes link) evs
  any_received site [] = omega arith
  any_received site (event ∷ evs) =
      let a = sum_by-append (λ item. one_if (takes link item)) (part plan site event) (flat_map (part plan site) evs) in
      let b = sum_by-cons (λ e. one_if (passes link e)) event evs in
      omega (arith, a, b, any_part site event, any_received site evs)

-- how often a link stands in the list of links, and in a part of it
module _ (link : ℕ) where
  pub range_none : (a n : ℕ) → link < a → count_by (λ l. nat_eq l link) (range_with_len a n) ≡ 0
  range_none a zero lt = refl
  range_none a (suc n) lt =
      sum_by-cons (λ l. one_if (nat_eq l link)) a (range_with_len (a + 1) n) ∙ omega (arith, range_none (a + 1) n (omega (arith, lt)), ap one_if (ne_eqb a link (λ e. omega (arith, e, lt))))

  pub range_once : (a n : ℕ) → count_by (λ l. nat_eq l link) (range_with_len a n) ≤ 1
  range_once a zero = omega arith
  range_once a (suc n) =
      let s = sum_by-cons (λ l. one_if (nat_eq l link)) a (range_with_len (a + 1) n) in
      ⊎_elim
      (λ e. omega (arith, s, range_none (a + 1) n (omega (arith, e)), ap one_if (eq-eqb a link e)))
      (λ ne. omega (arith, s, range_once (a + 1) n, ap one_if (ne_eqb a link ne)))
      (cases_eq a link)

  some_pass : (p : ℕ → Bool) (links : List ℕ) → count_by (passes link) (map Passed (filter p links)) ≤ count_by (λ l. nat_eq l link) links
  some_pass p [] = omega arith
  some_pass p (l ∷ links) = go (p l) (some_pass p links)
    where
      s : count_by (λ l. nat_eq l link) (l ∷ links) ≡ one_if (nat_eq l link) + count_by (λ l. nat_eq l link) links
      s = sum_by-cons (λ l. one_if (nat_eq l link)) l links

      t : (events : List Event) → count_by (passes link) (Passed l ∷ events) ≡ one_if (nat_eq l link) + count_by (passes link) events
      t events = sum_by-cons (λ e. one_if (passes link e)) (Passed l) events

      go : (b : Bool) → count_by (passes link) (map Passed (filter p links)) ≤ count_by (λ l. nat_eq l link) links → count_by (passes link) (map Passed (cond b (l ∷ filter p links) (filter p links))) ≤ count_by (λ l. nat_eq l link) (l ∷ links)
      go true rest = omega (arith, s, t (map Passed (filter p links)), rest)
      go false rest = omega (arith, s, rest)

  pub none_pass : (p : ℕ → Bool) → p link ≡ false → (links : List ℕ) → count_by (passes link) (map Passed (filter p links)) ≡ 0
  none_pass p not [] = refl
  none_pass p not (l ∷ links) = go (p l) refl (none_pass p not links)
    where
      t : (events : List Event) → count_by (passes link) (Passed l ∷ events) ≡ one_if (nat_eq l link) + count_by (passes link) events
      t events = sum_by-cons (λ e. one_if (passes link e)) (Passed l) events

      go : (b : Bool) → p l ≡ b → count_by (passes link) (map Passed (filter p links)) ≡ 0 → count_by (passes link) (map Passed (cond b (l ∷ filter p links) (filter p links))) ≡ 0
      go true is rest = omega (arith, t (map Passed (filter p links)), rest, ap one_if (ne_eqb l link (λ e. absurd (true≢false (sym is ∙ ap p e ∙ not)))))
      go false is rest = rest

module _ (plan : Outline) (ok : IsOutline plan) (fine : NoFault plan) (link : ℕ) where
  -- how often a message of a flow passes over the link, for each instant of the flow
  message_once : (flow : ℕ) → count_by (passes link) (message_events plan flow) ≤ one_if (nat_eq (plan.flow_of link) flow)
  message_once flow = go (nat_eq (plan.flow_of link) flow) refl
    where
      go : (b : Bool) → nat_eq (plan.flow_of link) flow ≡ b → count_by (passes link) (message_events plan flow) ≤ one_if b
      go true is = omega (arith, some_pass link (λ l. nat_eq (plan.flow_of l) flow) (range_with_len 0 plan.links), range_once link 0 plan.links)
      go false isnt = omega (arith, none_pass link (λ l. nat_eq (plan.flow_of l) flow) isnt (range_with_len 0 plan.links))

  closes : (flows : List ℕ) → count_by (passes link) (flat_map (message_events plan) flows) ≤ count_by (nat_eq (plan.flow_of link)) flows
  closes [] = omega arith
  closes (flow ∷ flows) =
      omega (arith, sum_by-append (λ e. one_if (passes link e)) (message_events plan flow) (flat_map (message_events plan) flows), sum_by-cons (λ f. one_if (nat_eq (plan.flow_of link) f)) flow flows, message_once flow, closes flows)

  event_once : (instant flow : ℕ) → count_by (passes link) (events_at plan instant flow) ≤ cond (plan.present (plan.flow_of link) instant) (one_if (nat_eq (plan.flow_of link) flow)) 0
  event_once instant flow = go (nat_eq (plan.flow_of link) flow) refl
    where
      m : count_by (passes link) (Computed flow instant ∷ message_events plan flow) ≡ 0 + count_by (passes link) (message_events plan flow)
      m = sum_by-cons (λ e. one_if (passes link e)) (Computed flow instant) (message_events plan flow)

      shown : (c : Bool) → count_by (passes link) (cond c (Computed flow instant ∷ message_events plan flow) []) ≤ cond c (one_if (nat_eq (plan.flow_of link) flow)) 0
      shown true = omega (arith, m, message_once flow)
      shown false = omega arith

      small : (c : Bool) → nat_eq (plan.flow_of link) flow ≡ false → cond c (one_if (nat_eq (plan.flow_of link) flow)) 0 ≡ 0
      small true e = ap one_if e
      small false e = refl

      go : (b : Bool) → nat_eq (plan.flow_of link) flow ≡ b → count_by (passes link) (events_at plan instant flow) ≤ cond (plan.present (plan.flow_of link) instant) (one_if (nat_eq (plan.flow_of link) flow)) 0
      go true is =
          let e : plan.present flow instant ≡ plan.present (plan.flow_of link) instant = ap (λ (f : ℕ). plan.present f instant) (sym (eqb-true _ _ is)) in
          subst (λ (c : Bool). count_by (passes link) (events_at plan instant flow) ≤ cond c (one_if (nat_eq (plan.flow_of link) flow)) 0) e (shown (plan.present flow instant))
      go false isnt = omega (arith, shown (plan.present flow instant), small (plan.present flow instant) isnt)

  values : (instant : ℕ) (flows : List ℕ) → count_by (passes link) (flat_map (events_at plan instant) flows) ≤ cond (plan.present (plan.flow_of link) instant) (count_by (nat_eq (plan.flow_of link)) flows) 0
  values instant [] = omega arith
  values instant (flow ∷ flows) =
      let s = sum_by-append (λ e. one_if (passes link e)) (events_at plan instant flow) (flat_map (events_at plan instant) flows) in
      omega (arith, s, event_once instant flow, values instant flows, go (plan.present (plan.flow_of link) instant))
    where
      go : (c : Bool) → cond c (count_by (nat_eq (plan.flow_of link)) (flow ∷ flows)) 0 ≡ cond c (one_if (nat_eq (plan.flow_of link) flow)) 0 + cond c (count_by (nat_eq (plan.flow_of link)) flows) 0
      go true = sum_by-cons (λ f. one_if (nat_eq (plan.flow_of link) f)) flow flows
      go false = refl

  at_instant : (instant : ℕ) → count_by (passes link) (flat_map (events_at plan instant) plan.ranked) ≤ one_if (plan.present (plan.flow_of link) instant)
  at_instant instant = omega (arith, values instant plan.ranked, go (plan.present (plan.flow_of link) instant))
    where
      go : (c : Bool) → cond c (count_by (nat_eq (plan.flow_of link)) plan.ranked) 0 ≤ one_if c
      go true = ok.ranked_once (plan.flow_of link)
      go false = omega arith

  all_values : (a n : ℕ) → count_by (passes link) (flat_map (λ instant. flat_map (events_at plan instant) plan.ranked) (range_with_len a n)) + 1 ≤ messages_from plan (plan.flow_of link) a n
  all_values a zero = omega arith
  all_values a (suc n) =
      let s = sum_by-append (λ e. one_if (passes link e)) (flat_map (events_at plan a) plan.ranked) (flat_map (λ instant. flat_map (events_at plan instant) plan.ranked) (range_with_len (a + 1) n)) in
      let m : messages_from plan (plan.flow_of link) a (suc n) ≡ one_if (plan.present (plan.flow_of link) a) + messages_from plan (plan.flow_of link) (a + 1) n = ap (λ (b : Bool). cond b 0 (one_if (plan.present (plan.flow_of link) a) + messages_from plan (plan.flow_of link) (a + 1) n)) (fine (plan.flow_of link) a) in
      omega (arith, s, m, at_instant a, all_values (a + 1) n)

  pub passed_le : count_by (passes link) (events plan) ≤ list_length plan link
  passed_le =
      let s = sum_by-append (λ e. one_if (passes link e)) (flat_map (λ instant. flat_map (events_at plan instant) plan.ranked) (range_with_len 0 plan.instants)) (flat_map (message_events plan) plan.ranked) in
      omega (arith, s, all_values 0 plan.instants, closes plan.ranked, ok.ranked_once (plan.flow_of link))
