-- How many items all scripts have.
use Rattle.std.proofs.Common.{◌≡◌, ℕ, zero, suc, ◌+◌, ◌*◌, ◌<◌, ◌≤◌, Bool, true, false, cond, List, [], ◌∷◌, map, length, nat_eq, flat_map, count_by, sum_by, refl, sym, ap, ◌∙◌, arith, ⊎_elim}
use Rattle.std.specs.List.{range_with_len}
use Rattle.std.proofs.lemmas.List.Sums.{sum_by-cons, sum_by-append}
use Rattle.std.proofs.lemmas.List.Concat.{length-flat_map}
use Rattle.std.proofs.lemmas.Bool.{eqb-true, eq-eqb, ne_eqb, cases_eq}
use Rattle.luworld.specs.Systems.{Item, Compute, Puts, Takes, item_count, total_below}
use Rattle.luworld.specs.Outline.{Outline, IsOutline, NoFault, links_of, script, system, part, Event, Computed, Passed, message_events, events_at, events, list_length, stand_count, status_count}
use Rattle.luworld.proofs.Parts.{script_parts}
use Rattle.luworld.proofs.Passing.{passes, one_if}
use Rattle.luworld.proofs.Exact.{passed_exact}
use Rattle.luworld.proofs.Whole.{not_cut}
use Rattle.luworld.proofs.Totals.{total_all}
use Rattle.luworld.proofs.Wired.{Each}
use Rattle.luworld.proofs.Listed.{Listed, all_listed}

total_plus : (f g : ℕ → ℕ) (n : ℕ) → total_below (λ i. f i + g i) n ≡ total_below f n + total_below g n
total_plus f g zero = refl
total_plus f g (suc n) = omega (arith, total_plus f g n)

total_zeros : (n : ℕ) → total_below (λ i. 0) n ≡ 0
total_zeros zero = refl
total_zeros (suc n) = omega (arith, total_zeros n)

total_point : (h n : ℕ) → (h < n → total_below (λ i. one_if (nat_eq h i)) n ≡ 1) × (n ≤ h → total_below (λ i. one_if (nat_eq h i)) n ≡ 0)
total_point h zero = (λ lt. absurd (omega (arith, lt)), λ le. refl)
total_point h (suc n) =
    let r = total_point h n in
    ⊎_elim
    (λ e. (λ lt. omega (arith, r.1 (omega (arith, e)), ap one_if (eq-eqb h n e)), λ le. absurd (omega (arith, le, e))))
    (λ ne. (λ lt. omega (arith, r.0 (omega (arith, lt, ne)), ap one_if (ne_eqb h n ne)), λ le. omega (arith, r.1 (omega (arith, le)), ap one_if (ne_eqb h n ne))))
    (cases_eq h n)

-- sums over sites and over events can be taken in either order
swap : (f : ℕ → Event → ℕ) (n : ℕ) (evs : List Event) → total_below (λ i. sum_by (f i) evs) n ≡ sum_by (λ e. total_below (λ i. f i e) n) evs
swap f n [] = total_zeros n
swap f n (event ∷ evs) =
    total_all (λ i. sum_by (f i) (event ∷ evs)) (λ i. f i event + sum_by (f i) evs) (λ i. sum_by-cons (f i) event evs) n
    ∙ total_plus (λ i. f i event) (λ i. sum_by (f i) evs) n
    ∙ ap (λ k. total_below (λ i. f i event) n + k) (swap f n evs)
    ∙ sym (sum_by-cons (λ e. total_below (λ i. f i e) n) event evs)

sum_same : {X : Type 0} (f g : X → ℕ) → ((x : X) → f x ≡ g x) → (xs : List X) → sum_by f xs ≡ sum_by g xs
sum_same f g e [] = refl
sum_same f g e (x ∷ xs) = omega (arith, sum_by-cons f x xs, sum_by-cons g x xs, e x, sum_same f g e xs)

sum_plus : {X : Type 0} (f g : X → ℕ) (xs : List X) → sum_by (λ x. f x + g x) xs ≡ sum_by f xs + sum_by g xs
sum_plus f g [] = refl
sum_plus f g (x ∷ xs) = omega (arith, sum_by-cons (λ x. f x + g x) x xs, sum_by-cons f x xs, sum_by-cons g x xs, sum_plus f g xs)

sum_flat : {X Y : Type 0} (g : Y → ℕ) (f : X → List Y) (xs : List X) → sum_by g (flat_map f xs) ≡ sum_by (λ x. sum_by g (f x)) xs
sum_flat g f [] = refl
sum_flat g f (x ∷ xs) = omega (arith, sum_by-append g (f x) (flat_map f xs), sum_by-cons (λ x. sum_by g (f x)) x xs, sum_flat g f xs)

module _ (plan : Outline) (ok : IsOutline plan) where
  abbrev computed : Event → ℕ
  computed (Computed flow instant) = stand_count plan flow
  computed (Passed link) = 0

  abbrev passed : Event → ℕ
  passed (Computed flow instant) = 0
  passed (Passed link) = 1

  part_size : (site : ℕ) (event : Event) → ℕ
  part_size site event = length (part plan site event)

  weight : (event : Event) → Listed plan event → total_below (λ site. length (part plan site event)) plan.sites ≡ computed event + (passed event + passed event)
  weight (Computed flow instant) listed =
      total_all (λ site. length (part plan site (Computed flow instant))) (λ site. one_if (plan.stands flow site)) (λ site. go (plan.stands flow site)) plan.sites ∙ omega arith
    where
      go : (b : Bool) → length (cond b (Compute flow instant ∷ []) []) ≡ one_if b
      go true = refl
      go false = refl
  weight (Passed link) listed =
      let h = plan.home (plan.flow_of link) in
      let a = total_all (λ site. length (part plan site (Passed link))) (λ site. one_if (nat_eq h site) + one_if (nat_eq (plan.receiver link) site)) (λ site. go site (nat_eq h site) refl (nat_eq (plan.receiver link) site) refl) plan.sites in
      omega (arith, a, total_plus (λ site. one_if (nat_eq h site)) (λ site. one_if (nat_eq (plan.receiver link) site)) plan.sites, (total_point h plan.sites).0 (ok.home_within (plan.flow_of link)), (total_point (plan.receiver link) plan.sites).0 (ok.receiver_within link))
    where
      go : (site : ℕ) (a : Bool) → nat_eq (plan.home (plan.flow_of link)) site ≡ a → (b : Bool) → nat_eq (plan.receiver link) site ≡ b → length (cond a (Puts link ∷ []) (cond b (Takes link ∷ []) [])) ≡ one_if a + one_if b
      go site true e true f = absurd (ok.receiver_other link listed (eqb-true _ _ f ∙ sym (eqb-true _ _ e)))
      go site true e false f = refl
      go site false e true f = refl
      go site false e false f = refl

  weights : (evs : List Event) → Each (Listed plan) evs → sum_by (λ event. total_below (λ site. length (part plan site event)) plan.sites) evs ≡ sum_by (λ event. computed event + (passed event + passed event)) evs
  weights [] listed = refl
  weights (event ∷ evs) listed =
      omega (arith, sum_by-cons (λ e. total_below (λ site. length (part plan site e)) plan.sites) event evs, sum_by-cons (λ e. computed e + (passed e + passed e)) event evs, weight event listed.0, weights evs listed.1)

  -- the computations
  no_compute : (links : List ℕ) → sum_by computed (map Passed links) ≡ 0
  no_compute [] = refl
  no_compute (link ∷ links) = omega (arith, sum_by-cons computed (Passed link) (map Passed links), no_compute links)

  flow_computed : (instant flow : ℕ) → sum_by computed (events_at plan instant flow) ≡ cond (plan.present flow instant) (stand_count plan flow) 0
  flow_computed instant flow = go (plan.present flow instant)
    where
      go : (b : Bool) → sum_by computed (cond b (Computed flow instant ∷ message_events plan flow) []) ≡ cond b (stand_count plan flow) 0
      go true = omega (arith, sum_by-cons computed (Computed flow instant) (message_events plan flow), no_compute (links_of plan flow))
      go false = refl

  no_closes : (flows : List ℕ) → sum_by computed (flat_map (message_events plan) flows) ≡ 0
  no_closes [] = refl
  no_closes (flow ∷ flows) = omega (arith, sum_by-append computed (message_events plan flow) (flat_map (message_events plan) flows), no_compute (links_of plan flow), no_closes flows)

  all_computed : sum_by computed (events plan) ≡ status_count plan
  all_computed =
      let at = λ (instant : ℕ). flat_map (events_at plan instant) plan.ranked in
      let r = range_with_len 0 plan.instants in
      let a = sum_by-append computed (flat_map at r) (flat_map (message_events plan) plan.ranked) in
      let b = sum_flat computed at r in
      let c = sum_same (λ (instant : ℕ). sum_by computed (at instant)) (λ (instant : ℕ). sum_by (λ (flow : ℕ). cond (plan.present flow instant) (stand_count plan flow) 0) plan.ranked)
      (λ instant. sum_flat computed (events_at plan instant) plan.ranked ∙ sum_same (λ (flow : ℕ). sum_by computed (events_at plan instant flow)) (λ (flow : ℕ). cond (plan.present flow instant) (stand_count plan flow) 0) (flow_computed instant) plan.ranked) r in
      omega (arith, a, b, c, no_closes plan.ranked)

  -- the messages
  one_event : (event : Event) → Listed plan event → passed event ≡ total_below (λ link. one_if (passes link event)) plan.links
  one_event (Computed flow instant) listed = sym (total_zeros plan.links)
  one_event (Passed link) listed = sym ((total_point link plan.links).0 listed)

  by_link : (evs : List Event) → Each (Listed plan) evs → sum_by passed evs ≡ sum_by (λ event. total_below (λ link. one_if (passes link event)) plan.links) evs
  by_link [] listed = refl
  by_link (event ∷ evs) listed = omega (arith, sum_by-cons passed event evs, sum_by-cons (λ e. total_below (λ link. one_if (passes link e)) plan.links) event evs, one_event event listed.0, by_link evs listed.1)

  module _ (fine : NoFault plan) where
    list_total : (n : ℕ) → n ≤ plan.links → total_below (λ link. count_by (passes link) (events plan)) n ≡ total_below (list_length plan) n
    list_total zero le = refl
    list_total (suc n) le = omega (arith, list_total n (omega (arith, le)), passed_exact plan ok fine n le)

    all_passed : sum_by passed (events plan) ≡ total_below (list_length plan) plan.links
    all_passed = by_link (events plan) (all_listed plan) ∙ sym (swap (λ link event. one_if (passes link event)) plan.links (events plan)) ∙ list_total plan.links (omega arith)

    script_size : (site : ℕ) → length (script plan site) ≡ sum_by (λ event. length (part plan site event)) (events plan)
    script_size site = ap (length {A = Item}) (not_cut plan ok fine site ∙ script_parts plan site) ∙ length-flat_map (part plan site) (events plan)

    pub items : item_count (system plan) ≡ status_count plan + 2 * total_below (list_length plan) plan.links
    items =
        let a = total_all (λ site. length (script plan site)) (λ site. sum_by (λ event. length (part plan site event)) (events plan)) script_size plan.sites in
        let b = swap (λ site event. length (part plan site event)) plan.sites (events plan) in
        let c = weights (events plan) (all_listed plan) in
        let d = sum_plus computed (λ event. passed event + passed event) (events plan) in
        let e = sum_plus passed passed (events plan) in
        omega (arith, a, b, c, d, e, all_computed, all_passed)
