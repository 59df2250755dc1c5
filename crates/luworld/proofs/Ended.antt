-- What the end of a site says of faults.
use Rattle.std.proofs.Common.{◌≡◌, ℕ, ◌<◌, ◌≤◌, Bool, true, false, cond, List, [], ◌∷◌, ◌++◌, map, length, flat_map, count_by, slice_get, Some, refl, sym, ap, ◌∙◌, subst, arith, append_assoc}
use Rattle.std.specs.List.{range_with_len}
use Rattle.std.proofs.lemmas.List.FromFn.{get_or-range_with_len, length-range_with_len}
use Rattle.std.proofs.lemmas.List.Sums.{sum_by-cons, sum_by-append}
use Rattle.std.proofs.lemmas.Option.{slice_get-get_or}
use Rattle.std.proofs.lemmas.Bool.{lt-leb}
use Rattle.luworld.specs.Systems.{Item, Compute, Puts, Takes, takes, ItemCounts, done}
use Rattle.luworld.specs.Outline.{Outline, IsOutline, NoFault, Cell, shown_items, cell_at, close_cell, cells, compute_items, message_items, full_script, script, cut, stops, NoStop, HasEnded, events, list_length}
use Rattle.luworld.proofs.Wired.{Each, each_at}
use Rattle.luworld.proofs.Steps.{takes_self}
use Rattle.luworld.proofs.Passing.{one_if, any_received, passed_le}
use Rattle.luworld.proofs.Parts.{script_parts}
use Rattle.luworld.proofs.Whole.{not_cut}

each_left : {X : Type 0} (P : X → Type 0) (xs ys : List X) → Each P (xs ++ ys) → Each P xs
each_left P [] ys each = tt
each_left P (x ∷ xs) ys each = (each.0, each_left P xs ys each.1)

each_right : {X : Type 0} (P : X → Type 0) (xs ys : List X) → Each P (xs ++ ys) → Each P ys
each_right P [] ys each = each
each_right P (x ∷ xs) ys each = each_right P xs ys each.1

each_flat : {X Y : Type 0} (P : Y → Type 0) (f : X → List Y) (xs : List X) → Each P (flat_map f xs) → Each (λ x. Each P (f x)) xs
each_flat P f [] each = tt
each_flat P f (x ∷ xs) each = (each_left P (f x) (flat_map f xs) each, each_flat P f xs (each_right P (f x) (flat_map f xs) each))

each_map : {X Y : Type 0} (P : Y → Type 0) (f : X → Y) (xs : List X) → Each P (map f xs) → Each (λ x. P (f x)) xs
each_map P f [] each = tt
each_map P f (x ∷ xs) each = (each.0, each_map P f xs each.1)

module _ (plan : Outline) where
  cut_whole : (before items : List Item) → NoStop plan before (cut plan before items) → cut plan before items ≡ items
  cut_whole before [] none = refl
  cut_whole before (item ∷ items) none = go (stops plan before item) none.0 none.1 (cut_whole (before ++ item ∷ []) items)
    where
      go : (b : Bool) → b ≡ false → NoStop plan (before ++ item ∷ []) (cond b [] (cut plan (before ++ item ∷ []) items)) → (NoStop plan (before ++ item ∷ []) (cut plan (before ++ item ∷ []) items) → cut plan (before ++ item ∷ []) items ≡ items) → item ∷ cond b [] (cut plan (before ++ item ∷ []) items) ≡ item ∷ items
      go true e rest next = cc
      go false e rest next = ap (λ (s : List Item). item ∷ s) (next rest)

  abbrev Sound : Item → Type 0
  Sound (Compute flow instant) = plan.broken flow instant ≡ false
  Sound (Puts link) = Unit {0}
  Sound (Takes link) = Unit {0}

  sound_item : (before : List Item) (item : Item) → stops plan before item ≡ false → Sound item
  sound_item before (Compute flow instant) e = e
  sound_item before (Puts link) e = tt
  sound_item before (Takes link) e = tt

  sound : (before items : List Item) → NoStop plan before items → Each Sound items
  sound before [] none = tt
  sound before (item ∷ items) none = (sound_item before item none.0, sound (before ++ item ∷ []) items none.1)

  module _ (world : ItemCounts) (site : ℕ) (ended : HasEnded plan world site) where
    pub ended_whole : script plan site ≡ full_script plan site
    ended_whole = cut_whole [] (full_script plan site) ended.no_stop

    pub ended_sound : (rank flow instant : ℕ) → slice_get plan.ranked rank ≡ Some flow → instant < plan.instants → plan.stands flow site ≡ true → plan.present flow instant ≡ true → plan.broken flow instant ≡ false
    ended_sound rank flow instant ranked lt stands present =
        let all = subst (Each Sound) ended_whole (sound [] (script plan site) ended.no_stop) in
        let r = range_with_len 0 plan.instants in
        let by_cell = each_flat Sound shown_items (cells plan site) all in
        let by_instant = each_flat (λ (c : Cell). Each Sound (shown_items c)) (λ instant. map (cell_at plan site instant) plan.ranked) r (each_left (λ (c : Cell). Each Sound (shown_items c)) (flat_map (λ instant. map (cell_at plan site instant) plan.ranked) r) (map (close_cell plan site) plan.ranked) by_cell) in
        let e : slice_get r instant ≡ Some instant =
        slice_get-get_or r instant 0 (omega (arith, lt, length-range_with_len 0 plan.instants)) ∙ ap Some (get_or-range_with_len 0 plan.instants instant 0 lt ∙ omega arith) in
        let at = each_at (λ (t : ℕ). Each (λ (c : Cell). Each Sound (shown_items c)) (map (cell_at plan site t) plan.ranked)) r by_instant instant instant e in
        let by_flow = each_map (λ (c : Cell). Each Sound (shown_items c)) (cell_at plan site instant) plan.ranked at in
        let here = each_at (λ (f : ℕ). Each Sound (shown_items (cell_at plan site instant f))) plan.ranked by_flow rank flow ranked in
        let shown = subst (λ (b : Bool). Each Sound (cond b (compute_items plan site flow instant ++ message_items plan site flow) [])) present here in
        (subst (λ (b : Bool). Each Sound (cond b (Compute flow instant ∷ []) [] ++ message_items plan site flow)) stands shown).0

module _ (plan : Outline) (ok : IsOutline plan) (fine : NoFault plan) where
  no_stop : (before items : List Item) → ((link : ℕ) → count_by (takes link) (before ++ items) ≤ list_length plan link) → NoStop plan before items
  no_stop before [] few = tt
  no_stop before (item ∷ items) few =
      (go item few, no_stop (before ++ item ∷ []) items (λ link. subst (λ (s : List Item). count_by (takes link) s ≤ list_length plan link) (sym (append_assoc before (item ∷ []) items)) (few link)))
    where
      go : (item : Item) → ((link : ℕ) → count_by (takes link) (before ++ item ∷ items) ≤ list_length plan link) → stops plan before item ≡ false
      go (Compute flow instant) few = fine flow instant
      go (Puts link) few = refl
      go (Takes link) few =
          let s = sum_by-append (λ i. one_if (takes link i)) before (Takes link ∷ items) in
          let t = sum_by-cons (λ i. one_if (takes link i)) (Takes link) items in
          lt-leb _ _ (omega (arith, s, t, few link, ap one_if (takes_self link)))

  pub done_ends : (world : ItemCounts) (site : ℕ) → done world site ≡ length (script plan site) → HasEnded plan world site
  done_ends world site e = record {
    whole = e;
    no_stop = no_stop [] (script plan site) (λ link. subst (λ (s : List Item). count_by (takes link) s ≤ list_length plan link) (sym (not_cut plan ok fine site ∙ script_parts plan site)) (omega (arith, any_received plan ok link site (events plan), passed_le plan ok fine link)));
  }
