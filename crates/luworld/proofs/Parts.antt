-- A script is a site's part in all events.
use Rattle.std.proofs.Common.{◌≡◌, ℕ, Bool, true, false, cond, List, [], ◌∷◌, ◌++◌, map, nat_eq, filter, flat_map, refl, sym, ap, ap₂, ◌∙◌}
use Rattle.std.proofs.lemmas.Grind.{flat_map-append}
use Rattle.std.proofs.lemmas.List.Folds.{flat_map-map}
use Rattle.std.proofs.lemmas.Bool.{eqb-true}
use Rattle.std.specs.List.{range_with_len}
use Rattle.luworld.specs.Systems.{Item, Puts, Takes}
use Rattle.luworld.specs.Outline.{Outline, links_of, message_items, compute_items, flow_items, shown_items, cell_at, close_cell, full_script, Computed, Passed, part, message_events, events_at, events}

pub flat_map_twice : {A B C : Type 0} (f : B → List C) (g : A → List B) (xs : List A) → flat_map f (flat_map g xs) ≡ flat_map (λ x. flat_map f (g x)) xs
flat_map_twice f g [] = refl
flat_map_twice f g (x ∷ xs) = flat_map-append f (g x) (flat_map g xs) ∙ ap (λ ys. flat_map f (g x) ++ ys) (flat_map_twice f g xs)

pub flat_map_same : {A B : Type 0} (f g : A → List B) → ((x : A) → f x ≡ g x) → (xs : List A) → flat_map f xs ≡ flat_map g xs
flat_map_same f g e [] = refl
flat_map_same f g e (x ∷ xs) = ap₂ (λ ys zs. ys ++ zs) (e x) (flat_map_same f g e xs)

module _ (plan : Outline) (site flow : ℕ) where
  abbrev of_flow : ℕ → Bool
  of_flow link = nat_eq (plan.flow_of link) flow

  abbrev to_site : ℕ → Bool
  to_site link = nat_eq (plan.receiver link) site

  -- what a list of the flow's links gives
  part_home : nat_eq (plan.home flow) site ≡ true → (link : ℕ) → of_flow link ≡ true → part plan site (Passed link) ≡ Puts link ∷ []
  part_home home link is =
      let e : plan.flow_of link ≡ flow = eqb-true _ _ is in
      let h : nat_eq (plan.home (plan.flow_of link)) site ≡ true = ap (λ (f : ℕ). nat_eq (plan.home f) site) e ∙ home in
      ap (λ (b : Bool). cond b (Puts link ∷ []) (cond (nat_eq (plan.receiver link) site) (Takes link ∷ []) [])) h

  part_away : nat_eq (plan.home flow) site ≡ false → (link : ℕ) → of_flow link ≡ true → part plan site (Passed link) ≡ cond (to_site link) (Takes link ∷ []) []
  part_away away link is =
      let e : plan.flow_of link ≡ flow = eqb-true _ _ is in
      let h : nat_eq (plan.home (plan.flow_of link)) site ≡ false = ap (λ (f : ℕ). nat_eq (plan.home f) site) e ∙ away in
      ap (λ (b : Bool). cond b (Puts link ∷ []) (cond (nat_eq (plan.receiver link) site) (Takes link ∷ []) [])) h

  home_links : nat_eq (plan.home flow) site ≡ true → (links : List ℕ) → flat_map (part plan site) (map Passed (filter of_flow links)) ≡ map Puts (filter of_flow links)
  home_links home [] = refl
  home_links home (link ∷ links) = go (of_flow link) refl (home_links home links)
    where
      go : (b : Bool) → of_flow link ≡ b → flat_map (part plan site) (map Passed (filter of_flow links)) ≡ map Puts (filter of_flow links) → flat_map (part plan site) (map Passed (cond b (link ∷ filter of_flow links) (filter of_flow links))) ≡ map Puts (cond b (link ∷ filter of_flow links) (filter of_flow links))
      go true is rest = ap₂ (λ (xs : List Item) (ys : List Item). xs ++ ys) (part_home home link is) rest
      go false isnt rest = rest

  away_links : nat_eq (plan.home flow) site ≡ false → (links : List ℕ) → flat_map (part plan site) (map Passed (filter of_flow links)) ≡ map Takes (filter to_site (filter of_flow links))
  away_links away [] = refl
  away_links away (link ∷ links) = go (of_flow link) refl (away_links away links)
    where
      taken : (b : Bool) → flat_map (part plan site) (map Passed (filter of_flow links)) ≡ map Takes (filter to_site (filter of_flow links)) → cond b (Takes link ∷ []) [] ++ flat_map (part plan site) (map Passed (filter of_flow links)) ≡ map Takes (cond b (link ∷ filter to_site (filter of_flow links)) (filter to_site (filter of_flow links)))
      taken true rest = ap (λ (xs : List Item). Takes link ∷ xs) rest
      taken false rest = rest

      go : (b : Bool) → of_flow link ≡ b → flat_map (part plan site) (map Passed (filter of_flow links)) ≡ map Takes (filter to_site (filter of_flow links)) → flat_map (part plan site) (map Passed (cond b (link ∷ filter of_flow links) (filter of_flow links))) ≡ map Takes (filter to_site (cond b (link ∷ filter of_flow links) (filter of_flow links)))
      go true is rest = ap (λ (xs : List Item). xs ++ flat_map (part plan site) (map Passed (filter of_flow links))) (part_away away link is) ∙ taken (to_site link) rest
      go false isnt rest = rest

  pub message_parts : flat_map (part plan site) (message_events plan flow) ≡ message_items plan site flow
  message_parts = go (nat_eq (plan.home flow) site) refl
    where
      go : (b : Bool) → nat_eq (plan.home flow) site ≡ b → flat_map (part plan site) (message_events plan flow) ≡ cond b (map Puts (links_of plan flow)) (map Takes (filter to_site (links_of plan flow)))
      go true home = home_links home (range_with_len 0 plan.links)
      go false away = away_links away (range_with_len 0 plan.links)

  pub event_parts : (instant : ℕ) → flat_map (part plan site) (events_at plan instant flow) ≡ shown_items (cell_at plan site instant flow)
  event_parts instant = go (plan.present flow instant)
    where
      go : (b : Bool) → flat_map (part plan site) (cond b (Computed flow instant ∷ message_events plan flow) []) ≡ cond b (flow_items plan site flow instant) []
      go true = ap (λ (xs : List Item). compute_items plan site flow instant ++ xs) message_parts
      go false = refl

pub script_parts : (plan : Outline) (site : ℕ) → full_script plan site ≡ flat_map (part plan site) (events plan)
script_parts plan site =
    let r = range_with_len 0 plan.instants in
    let a = flat_map-append shown_items (flat_map (λ instant. map (cell_at plan site instant) plan.ranked) r) (map (close_cell plan site) plan.ranked) in
    let b = flat_map_twice shown_items (λ instant. map (cell_at plan site instant) plan.ranked) r in
    let c = flat_map_same (λ instant. flat_map shown_items (map (cell_at plan site instant) plan.ranked)) (λ instant. flat_map (part plan site) (flat_map (events_at plan instant) plan.ranked))
    (λ instant. flat_map-map shown_items (cell_at plan site instant) plan.ranked
    ∙ flat_map_same (λ flow. shown_items (cell_at plan site instant flow)) (λ flow. flat_map (part plan site) (events_at plan instant flow)) (λ flow. sym (event_parts plan site flow instant)) plan.ranked
    ∙ sym (flat_map_twice (part plan site) (events_at plan instant) plan.ranked)) r in
    let d = flat_map_twice (part plan site) (λ instant. flat_map (events_at plan instant) plan.ranked) r in
    let e = flat_map-map shown_items (close_cell plan site) plan.ranked
    ∙ flat_map_same (λ flow. message_items plan site flow) (λ flow. flat_map (part plan site) (message_events plan flow)) (λ flow. sym (message_parts plan site flow)) plan.ranked
    ∙ sym (flat_map_twice (part plan site) (message_events plan) plan.ranked) in
    let f = flat_map-append (part plan site) (flat_map (λ instant. flat_map (events_at plan instant) plan.ranked) r) (flat_map (message_events plan) plan.ranked) in
    a ∙ ap₂ (λ (xs : List Item) (ys : List Item). xs ++ ys) (b ∙ c ∙ sym d) e ∙ sym f
