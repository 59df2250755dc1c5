-- Without a fault every item is reachable.
use Rattle.std.proofs.Common.{◌≡◌, ℕ, ◌+◌, ◌-◌, ◌<◌, ◌≤◌, Bool, true, false, cond, List, [], ◌∷◌, ◌++◌, length, take, nat_eq, flat_map, count_by, slice_get, Some, refl, sym, ap, ap₂, ◌∙◌, subst, arith, ⊎_elim, append_assoc, append-nil, length-append}
use Rattle.std.proofs.lemmas.List.{take_at}
use Rattle.std.proofs.lemmas.List.Sums.{sum_by-cons, sum_by-append}
use Rattle.std.proofs.lemmas.Grind.{flat_map-append}
use Rattle.std.proofs.lemmas.Bool.{eqb-true, eq-eqb, ne_eqb, cases_lt, lt-leb}
use Rattle.luworld.specs.Systems.{Item, Compute, Puts, Takes, puts, takes, puts_before, takes_before}
use Rattle.luworld.specs.Reach.{IsReachable, reach_compute, reach_early_put, reach_late_put, reach_take}
use Rattle.luworld.specs.Outline.{Outline, IsOutline, NoFault, full_script, script, cut, stops, system, Event, Computed, Passed, part, events, list_length}
use Rattle.luworld.proofs.Counts.{nth}
use Rattle.luworld.proofs.Steps.{takes_true, takes_self}
use Rattle.luworld.proofs.Parts.{script_parts}
use Rattle.luworld.proofs.Wired.{Each}
use Rattle.luworld.proofs.Listed.{Listed, all_listed}
use Rattle.luworld.proofs.Passing.{passes, one_if, sent, received, any_received, passed_le}

module _ (plan : Outline) (ok : IsOutline plan) (fine : NoFault plan) where
  uncut : (before items : List Item) → ((link : ℕ) → count_by (takes link) (before ++ items) ≤ list_length plan link) → cut plan before items ≡ items
  uncut before [] few = refl
  uncut before (item ∷ items) few =
      let rest = uncut (before ++ item ∷ []) items (λ link. subst (λ (s : List Item). count_by (takes link) s ≤ list_length plan link) (sym (append_assoc before (item ∷ []) items)) (few link)) in
      let no = go item few in
      ap (λ (b : Bool). item ∷ cond b [] (cut plan (before ++ item ∷ []) items)) no ∙ ap (λ (s : List Item). item ∷ s) rest
    where
      go : (item : Item) → ((link : ℕ) → count_by (takes link) (before ++ item ∷ items) ≤ list_length plan link) → stops plan before item ≡ false
      go (Compute flow instant) few = fine flow instant
      go (Puts link) few = refl
      go (Takes link) few =
          let s = sum_by-append (λ i. one_if (takes link i)) before (Takes link ∷ items) in
          let t = sum_by-cons (λ i. one_if (takes link i)) (Takes link) items in
          lt-leb _ _ (omega (arith, s, t, few link, ap one_if (takes_self link)))

  pub not_cut : (site : ℕ) → script plan site ≡ full_script plan site
  not_cut site = uncut [] (full_script plan site) (λ link. subst (λ (s : List Item). count_by (takes link) s ≤ list_length plan link) (sym (script_parts plan site)) (omega (arith, any_received plan ok link site (events plan), passed_le plan ok fine link)))

slice_get_seam : {X : Type 0} (xs : List X) (x : X) (ys : List X) → slice_get (xs ++ x ∷ ys) (length xs) ≡ Some x
slice_get_seam [] x ys = refl
slice_get_seam (y ∷ xs) x ys = slice_get_seam xs x ys

-- a site's part in a list of events
abbrev parts : Outline → ℕ → List Event → List Item
parts plan site evs = flat_map (part plan site) evs

abbrev AllReached : Outline → List Event → Type 0
AllReached plan evs = (site place : ℕ) → place < length (parts plan site evs) → IsReachable (system plan) site place

module _ (plan : Outline) (ok : IsOutline plan) (fine : NoFault plan) (before after : List Event) (event : Event) (is : events plan ≡ before ++ event ∷ after) (reached : AllReached plan before) where
  script_at : (site : ℕ) → script plan site ≡ parts plan site before ++ (part plan site event ++ parts plan site after)
  script_at site = not_cut plan ok fine site ∙ script_parts plan site ∙ ap (parts plan site) is ∙ flat_map-append (part plan site) before (event ∷ after)

  item_at : (site : ℕ) (item : Item) → part plan site event ≡ item ∷ [] → slice_get (script plan site) (length (parts plan site before)) ≡ Some item
  item_at site item e =
      ap (λ (s : List Item). slice_get s (length (parts plan site before))) (script_at site ∙ ap (λ (p : List Item). parts plan site before ++ (p ++ parts plan site after)) e)
      ∙ slice_get_seam (parts plan site before) item (parts plan site after)

  count_at : (p : Item → Bool) (site : ℕ) → count_by p (take (length (parts plan site before)) (script plan site)) ≡ count_by p (parts plan site before)
  count_at p site =
      ap (count_by p) (ap (take (length (parts plan site before))) (script_at site) ∙ take_at (parts plan site before) (part plan site event ++ parts plan site after) (length (parts plan site before)) refl)

  compute_reached : (site flow instant : ℕ) → part plan site event ≡ Compute flow instant ∷ [] → IsReachable (system plan) site (length (parts plan site before))
  compute_reached site flow instant e = reach_compute flow instant (item_at site (Compute flow instant) e) (reached site)

  put_number : (link : ℕ) → puts_before (system plan) link (plan.home (plan.flow_of link)) (length (parts plan (plan.home (plan.flow_of link)) before)) ≡ count_by (passes link) before
  put_number link = count_at (puts link) (plan.home (plan.flow_of link)) ∙ sent plan ok link before

  take_number : (link : ℕ) → link < plan.links → takes_before (system plan) link (plan.receiver link) (length (parts plan (plan.receiver link) before)) ≡ count_by (passes link) before
  take_number link listed = count_at (takes link) (plan.receiver link) ∙ received plan ok link listed before

  module _ (link : ℕ) (here : event ≡ Passed link) (listed : link < plan.links) where
    put_part : part plan (plan.home (plan.flow_of link)) event ≡ Puts link ∷ []
    put_part =
        ap (part plan (plan.home (plan.flow_of link))) here
        ∙ ap (λ (b : Bool). cond b (Puts link ∷ []) (cond (nat_eq (plan.receiver link) (plan.home (plan.flow_of link))) (Takes link ∷ []) [])) (eq-eqb (plan.home (plan.flow_of link)) (plan.home (plan.flow_of link)) refl)

    take_part : part plan (plan.receiver link) event ≡ Takes link ∷ []
    take_part =
        ap (part plan (plan.receiver link)) here
        ∙ ap₂ (λ (a : Bool) (b : Bool). cond a (Puts link ∷ []) (cond b (Takes link ∷ []) [])) (ne_eqb (plan.home (plan.flow_of link)) (plan.receiver link) (λ e. ok.receiver_other link listed (sym e))) (eq-eqb (plan.receiver link) (plan.receiver link) refl)

    put_reached : IsReachable (system plan) (plan.home (plan.flow_of link)) (length (parts plan (plan.home (plan.flow_of link)) before))
    put_reached =
        let home = plan.home (plan.flow_of link) in
        let recv = plan.receiver link in
        let n = put_number link in
        let m = take_number link listed in
        ⊎_elim
        (λ early. reach_early_put link (item_at home (Puts link) put_part) early (reached home))
        (λ late.
        let lt : count_by (passes link) before - plan.capacity < takes_before (system plan) link recv (length (parts plan recv before)) = omega (arith, n, m, late, ok.room) in
        let r = nth (takes link) (script plan recv) (length (parts plan recv before)) (count_by (passes link) before - plan.capacity) lt in
        reach_late_put link (item_at home (Puts link) put_part) r.0 (r.3 ∙ ap Some (takes_true link r.1 r.4)) (omega (arith, r.5, late, n)) (reached recv r.0 r.2) (reached home))
        (cases_lt (puts_before (system plan) link home (length (parts plan home before))) plan.capacity)

    take_reached : IsReachable (system plan) (plan.receiver link) (length (parts plan (plan.receiver link) before))
    take_reached =
        let home = plan.home (plan.flow_of link) in
        reach_take link (item_at (plan.receiver link) (Takes link) take_part) (length (parts plan home before)) (item_at home (Puts link) put_part) (put_number link ∙ sym (take_number link listed)) put_reached (reached (plan.receiver link))

  -- the event's own items
  own_reached : (event' : Event) → event ≡ event' → Listed plan event' → (site : ℕ) → 0 < length (part plan site event') → (length (part plan site event') ≡ 1) × IsReachable (system plan) site (length (parts plan site before))
  own_reached (Computed flow instant) here listed site some = go (plan.stands flow site) refl some
    where
      go : (b : Bool) → plan.stands flow site ≡ b → 0 < length (cond b (Compute flow instant ∷ []) []) → (length (cond b (Compute flow instant ∷ []) []) ≡ 1) × IsReachable (system plan) site (length (parts plan site before))
      go true e some = (refl, compute_reached site flow instant (ap (part plan site) here ∙ ap (λ (b : Bool). cond b (Compute flow instant ∷ []) []) e))
      go false e some = absurd (omega (arith, some))
  own_reached (Passed link) here listed site some = go (nat_eq (plan.home (plan.flow_of link)) site) refl some
    where
      taken : (b : Bool) → nat_eq (plan.receiver link) site ≡ b → 0 < length (cond b (Takes link ∷ []) []) → (length (cond b (Takes link ∷ []) []) ≡ 1) × IsReachable (system plan) site (length (parts plan site before))
      taken true e some = (refl, subst (λ (s : ℕ). IsReachable (system plan) s (length (parts plan s before))) (eqb-true _ _ e) (take_reached link here listed))
      taken false e some = absurd (omega (arith, some))

      go : (b : Bool) → nat_eq (plan.home (plan.flow_of link)) site ≡ b → 0 < length (cond b (Puts link ∷ []) (cond (nat_eq (plan.receiver link) site) (Takes link ∷ []) [])) → (length (cond b (Puts link ∷ []) (cond (nat_eq (plan.receiver link) site) (Takes link ∷ []) [])) ≡ 1) × IsReachable (system plan) site (length (parts plan site before))
      go true e some = (refl, subst (λ (s : ℕ). IsReachable (system plan) s (length (parts plan s before))) (eqb-true _ _ e) (put_reached link here listed))
      go false e some = taken (nat_eq (plan.receiver link) site) refl some

  more_reached : Listed plan event → AllReached plan (before ++ event ∷ [])
  more_reached listed site place lt =
      ⊎_elim
      (λ below. reached site place below)
      (λ above.
      let l : length (parts plan site (before ++ event ∷ [])) ≡ length (parts plan site before) + length (part plan site event) =
      ap (length {A = Item}) (flat_map-append (part plan site) before (event ∷ []) ∙ ap (λ (p : List Item). parts plan site before ++ p) (append-nil (part plan site event))) ∙ length-append (parts plan site before) (part plan site event) in
      let r = own_reached event refl listed site (omega (arith, l, lt, above)) in
      let e : length (parts plan site before) ≡ place = omega (arith, l, lt, above, r.0) in
      subst (IsReachable (system plan) site) e r.1)
      (cases_lt place (length (parts plan site before)))

module _ (plan : Outline) (ok : IsOutline plan) (fine : NoFault plan) where
  all_from : (after before : List Event) → Each (Listed plan) after → events plan ≡ before ++ after → AllReached plan before → AllReached plan (events plan)
  all_from [] before listed is reached = subst (AllReached plan) (sym (is ∙ append-nil before)) reached
  all_from (event ∷ after) before listed is reached =
      all_from after (before ++ event ∷ []) listed.1 (is ∙ sym (append_assoc before (event ∷ []) after)) (more_reached plan ok fine before after event is reached listed.0)

  pub all_reached : (site place : ℕ) → place < length (script plan site) → IsReachable (system plan) site place
  all_reached site place lt =
      all_from (events plan) [] (all_listed plan) refl (λ s p l. absurd (omega (arith, l))) site place
      (subst (λ (s : List Item). place < length s) (not_cut plan ok fine site ∙ script_parts plan site) lt)
