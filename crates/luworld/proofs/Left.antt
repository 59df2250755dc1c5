-- The items left, if every flow not yet passed were present.
use Rattle.std.proofs.Common.{◌≡◌, ◌≢◌, ◌↔◌, ◌⊎◌, ℕ, zero, suc, ◌+◌, ◌-◌, ◌<◌, ◌≤◌, Bool, true, false, cond, List, [], ◌∷◌, ◌++◌, length, flat_map, nat_lt, refl, sym, ap, ap₂, ◌∙◌, subst, arith, inl, inr, ⊎_elim, length-append}
use Rattle.std.proofs.lemmas.List.Sums.{sum_by-cons}
use Rattle.std.proofs.lemmas.Bool.{cases_lt, cases_eq, lt-ltb, le-ltb, eqb-true, ne_eqb, and_left, and_parts}
use Rattle.luworld.specs.Systems.{Item, ItemCounts, done, turn, step, reached, moved_turns, item_count, IsAllDone, total_below}
use Rattle.luworld.specs.declared.turn.Turn.TheVariants.{Moved}
use Rattle.luworld.specs.OutlineLaws.{LeftIs}
use Rattle.luworld.proofs.Steps.{moved_item, site_within}
use Rattle.std.proofs.lemmas.Option.{slice_get_within}
use Rattle.luworld.proofs.Jobs.{good_reached}
use Rattle.luworld.proofs.Totals.{moved_total, total_le}
use Rattle.luworld.proofs.Turns.{turn_of}
use Rattle.luworld.specs.Reach.{IsGood}
use Rattle.luworld.proofs.Wired.{wired}
use Rattle.luworld.proofs.Whole.{not_cut}
use Rattle.luworld.specs.Outline.{Outline, IsOutline, NoFault, Cell, shown_items, cells, full_script, script, cut, stops, system, size, left_in, has_faulted, left_after, left_at, left}

abbrev shown : List Cell → ℕ
shown cs = length (flat_map shown_items cs)

module _ (cell : Cell) (cs : List Cell) where
  hidden : cell.shown ≡ false → (n : ℕ) → left_in (cell ∷ cs) n ≡ left_in cs n
  hidden e n = ap (λ (b : Bool). cond b (cond (nat_lt n (length cell.items)) ((length cell.items - n) + size cs) (left_in cs (n - length cell.items))) (left_in cs n)) e

  pub inside : cell.shown ≡ true → (n : ℕ) → n < length cell.items → left_in (cell ∷ cs) n ≡ (length cell.items - n) + size cs
  inside e n lt = ap₂ (λ (b : Bool) (c : Bool). cond b (cond c ((length cell.items - n) + size cs) (left_in cs (n - length cell.items))) (left_in cs n)) e (lt-ltb _ _ lt)

  beyond : cell.shown ≡ true → (n : ℕ) → length cell.items ≤ n → left_in (cell ∷ cs) n ≡ left_in cs (n - length cell.items)
  beyond e n le = ap₂ (λ (b : Bool) (c : Bool). cond b (cond c ((length cell.items - n) + size cs) (left_in cs (n - length cell.items))) (left_in cs n)) e (le-ltb _ _ le)

  hidden_length : cell.shown ≡ false → shown (cell ∷ cs) ≡ shown cs
  hidden_length e = ap (λ (b : Bool). length (cond b cell.items [] ++ flat_map shown_items cs)) e

  shown_length : cell.shown ≡ true → shown (cell ∷ cs) ≡ length cell.items + shown cs
  shown_length e = ap (λ (b : Bool). length (cond b cell.items [] ++ flat_map shown_items cs)) e ∙ length-append cell.items (flat_map shown_items cs)

  size_cons : size (cell ∷ cs) ≡ length cell.items + size cs
  size_cons = sum_by-cons (λ (c : Cell). length c.items) cell cs

cases_shown : (cell : Cell) → (cell.shown ≡ true) ⊎ (cell.shown ≡ false)
cases_shown cell = go cell.shown
  where
    go : (b : Bool) → (b ≡ true) ⊎ (b ≡ false)
    go true = inl refl
    go false = inr refl

-- cells whose items are all done
pub left_past : (cs rest : List Cell) (n : ℕ) → left_in (cs ++ rest) (length (flat_map shown_items cs) + n) ≡ left_in rest n
left_past [] rest n = let e : 0 + n ≡ n = omega arith in ap (left_in rest) e
left_past (cell ∷ cs) rest n =
    ⊎_elim
    (λ e.
    let m = shown_length cell cs e in
    let k : (shown (cell ∷ cs) + n) - length cell.items ≡ shown cs + n = omega (arith, m) in
    beyond cell (cs ++ rest) e (shown (cell ∷ cs) + n) (omega (arith, m)) ∙ ap (left_in (cs ++ rest)) k ∙ left_past cs rest n)
    (λ e. hidden cell (cs ++ rest) e (shown (cell ∷ cs) + n) ∙ ap (λ m. left_in (cs ++ rest) (m + n)) (hidden_length cell cs e) ∙ left_past cs rest n)
    (cases_shown cell)

shown_le : (cs : List Cell) → shown cs ≤ size cs
shown_le [] = omega arith
shown_le (cell ∷ cs) =
    ⊎_elim
    (λ e. omega (arith, shown_length cell cs e, size_cons cell cs, shown_le cs))
    (λ e. omega (arith, hidden_length cell cs e, size_cons cell cs, shown_le cs))
    (cases_shown cell)

left_le : (cs : List Cell) (n : ℕ) → left_in cs n ≤ size cs
left_le [] n = omega arith
left_le (cell ∷ cs) n =
    ⊎_elim
    (λ e. ⊎_elim
    (λ lt. omega (arith, inside cell cs e n lt, size_cons cell cs))
    (λ ge. omega (arith, beyond cell cs e n ge, size_cons cell cs, left_le cs (n - length cell.items)))
    (cases_lt n (length cell.items)))
    (λ e. omega (arith, hidden cell cs e n, size_cons cell cs, left_le cs n))
    (cases_shown cell)

left_enough : (cs : List Cell) (n : ℕ) → shown cs ≤ n + left_in cs n
left_enough [] n = omega arith
left_enough (cell ∷ cs) n =
    ⊎_elim
    (λ e. ⊎_elim
    (λ lt. omega (arith, shown_length cell cs e, inside cell cs e n lt, shown_le cs))
    (λ ge. omega (arith, shown_length cell cs e, beyond cell cs e n ge, left_enough cs (n - length cell.items)))
    (cases_lt n (length cell.items)))
    (λ e. omega (arith, hidden_length cell cs e, hidden cell cs e n, left_enough cs n))
    (cases_shown cell)

left_falls : (cs : List Cell) (n : ℕ) → n < shown cs → left_in cs (suc n) < left_in cs n
left_falls [] n lt = absurd (omega (arith, lt))
left_falls (cell ∷ cs) n lt =
    ⊎_elim
    (λ e. ⊎_elim
    (λ in_cell. ⊎_elim
    (λ more. omega (arith, inside cell cs e n in_cell, inside cell cs e (suc n) more))
    (λ last. omega (arith, inside cell cs e n in_cell, beyond cell cs e (suc n) last, left_le cs (suc n - length cell.items)))
    (cases_lt (suc n) (length cell.items)))
    (λ past.
    let s : suc n - length cell.items ≡ suc (n - length cell.items) = omega (arith, past) in
    let f = left_falls cs (n - length cell.items) (omega (arith, shown_length cell cs e, lt, past)) in
    let b = beyond cell cs e (suc n) (omega (arith, past)) ∙ ap (left_in cs) s in
    omega (arith, beyond cell cs e n past, b, f))
    (cases_lt n (length cell.items)))
    (λ e. omega (arith, hidden cell cs e n, hidden cell cs e (suc n), left_falls cs n (omega (arith, hidden_length cell cs e, lt))))
    (cases_shown cell)

left_none : (cs : List Cell) (n : ℕ) → shown cs ≤ n → left_in cs n ≡ 0
left_none [] n le = refl
left_none (cell ∷ cs) n le =
    ⊎_elim
    (λ e. let past : length cell.items ≤ n = omega (arith, shown_length cell cs e, le) in
    beyond cell cs e n past ∙ left_none cs (n - length cell.items) (omega (arith, shown_length cell cs e, le)))
    (λ e. hidden cell cs e n ∙ left_none cs n (omega (arith, hidden_length cell cs e, le)))
    (cases_shown cell)

cut_length : (plan : Outline) (before items : List Item) → length (cut plan before items) ≤ length items
cut_length plan before [] = omega arith
cut_length plan before (item ∷ items) = go (stops plan before item) (cut_length plan (before ++ item ∷ []) items)
  where
    go : (b : Bool) → length (cut plan (before ++ item ∷ []) items) ≤ length items → length (item ∷ cond b [] (cut plan (before ++ item ∷ []) items)) ≤ length (item ∷ items)
    go true le = omega arith
    go false le = omega (arith, le)

-- sums
total_add : (f g h : ℕ → ℕ) → ((i : ℕ) → f i ≤ g i + h i) → (n : ℕ) → total_below f n ≤ total_below g n + total_below h n
total_add f g h le zero = omega arith
total_add f g h le (suc n) = omega (arith, le n, total_add f g h le n)

total_less : (f g : ℕ → ℕ) (s : ℕ) → ((i : ℕ) → i ≢ s → f i ≡ g i) → f s < g s → (n : ℕ) → (total_below f n ≤ total_below g n) × (s < n → total_below f n < total_below g n)
total_less f g s same less zero = (omega arith, λ lt. absurd (omega (arith, lt)))
total_less f g s same less (suc n) =
    let r = total_less f g s same less n in
    ⊎_elim
    (λ e. let l : f n < g n = subst (λ (k : ℕ). f k < g k) (sym e) less in (omega (arith, r.0, l), λ lt. omega (arith, r.0, l)))
    (λ ne. let k = same n ne in (omega (arith, r.0, k), λ lt. let l = r.1 (omega (arith, lt, ne)) in omega (arith, l, k)))
    (cases_eq n s)

total_zero : (f : ℕ → ℕ) (n : ℕ) → total_below f n ≡ 0 → (i : ℕ) → i < n → f i ≡ 0
total_zero f zero e i lt = absurd (omega (arith, lt))
total_zero f (suc n) e i lt =
    ⊎_elim
    (λ below. total_zero f n (omega (arith, e)) i below)
    (λ above. let k : n ≡ i = omega (arith, above, lt) in let z : f n ≡ 0 = omega (arith, e) in subst (λ (j : ℕ). f j ≡ 0) k z)
    (cases_lt i n)

total_none : (f : ℕ → ℕ) → ((i : ℕ) → f i ≡ 0) → (n : ℕ) → total_below f n ≡ 0
total_none f z zero = refl
total_none f z (suc n) = omega (arith, z n, total_none f z n)

module _ (plan : Outline) (world : ItemCounts) (site : ℕ) where
  faulted_done : has_faulted plan world site ≡ true → done world site ≡ length (script plan site)
  faulted_done e = eqb-true _ _ (and_parts _ _ e).0

  not_faulted : done world site < length (script plan site) → has_faulted plan world site ≡ false
  not_faulted lt = and_left _ _ (ne_eqb (done world site) (length (script plan site)) (λ e. omega (arith, e, lt)))

  left_at_le : left_at plan world site ≤ left_in (cells plan site) (done world site)
  left_at_le = go (has_faulted plan world site)
    where
      go : (b : Bool) → cond b 0 (left_in (cells plan site) (done world site)) ≤ left_in (cells plan site) (done world site)
      go true = omega arith
      go false = omega arith

  enough_at : length (script plan site) ≤ done world site + left_at plan world site
  enough_at = go (has_faulted plan world site) refl
    where
      go : (b : Bool) → has_faulted plan world site ≡ b → length (script plan site) ≤ done world site + cond b 0 (left_in (cells plan site) (done world site))
      go true e = omega (arith, faulted_done e)
      go false e = omega (arith, cut_length plan [] (full_script plan site), left_enough (cells plan site) (done world site))

-- in every world that turns can make
module _ (plan : Outline) (ok : IsOutline plan) (world : ItemCounts) (good : IsGood (system plan) world) where
  pub left_step : (site : ℕ) → turn (system plan) world site ≡ Moved → left plan (step (system plan) world site) < left plan world
  left_step site e =
      let t = turn_of (system plan) (wired plan ok) world good site in
      let m = moved_item (system plan) world site e in
      let within = slice_get_within (script plan site) (done world site) m.0 m.1 in
      let next = (t.moved e).0 in
      let a = left_at_le plan (step (system plan) world site) site in
      let b : left_in (cells plan site) (done (step (system plan) world site) site) ≡ left_in (cells plan site) (suc (done world site)) = ap (left_in (cells plan site)) next in
      let c = left_falls (cells plan site) (done world site) (omega (arith, within, cut_length plan [] (full_script plan site))) in
      let d : left_at plan world site ≡ left_in (cells plan site) (done world site) = ap (λ (f : Bool). cond f 0 (left_in (cells plan site) (done world site))) (not_faulted plan world site within) in
      (total_less (left_at plan (step (system plan) world site)) (left_at plan world) site
      (λ other ne. ap (left_after plan other) (t.others other ne))
      (omega (arith, a, b, c, d)) plan.sites).1 (site_within (system plan) (wired plan ok) site (done world site) m.0 m.1)

  -- the items not done are at most those left
  pub left_covers : total_below (λ site. length (script plan site) - done world site) plan.sites ≤ left plan world
  left_covers = total_le (λ site. length (script plan site) - done world site) (left_at plan world) (λ site. let e = enough_at plan world site in omega (arith, e)) plan.sites

  pub left_zero : NoFault plan → (left plan world ≡ 0) ↔ IsAllDone (system plan) world
  left_zero fine = (all, none)
    where
      all : left plan world ≡ 0 → IsAllDone (system plan) world
      all z site =
          ⊎_elim
          (λ lt. omega (arith, total_zero (left_at plan world) plan.sites z site lt, enough_at plan world site, good.inside site))
          (λ ge. let n : length (script plan site) ≡ 0 = ap (length {A = Item}) ((wired plan ok).no_more_sites site ge) in omega (arith, n, good.inside site))
          (cases_lt site plan.sites)

      none : IsAllDone (system plan) world → left plan world ≡ 0
      none all = total_none (left_at plan world) (λ site.
          let e : length (script plan site) ≡ shown (cells plan site) = ap (length {A = Item}) (not_cut plan ok fine site) in
          let z = left_none (cells plan site) (done world site) (omega (arith, e, all site)) in
          omega (arith, z, left_at_le plan world site)) plan.sites

module _ (plan : Outline) (ok : IsOutline plan) (schedule : List ℕ) where
  enough_now : item_count (system plan) ≤ moved_turns (system plan) schedule + left plan (reached (system plan) schedule)
  enough_now =
      let now = reached (system plan) schedule in
      let m = moved_total (system plan) (wired plan ok) schedule in
      let t = total_add (λ site. length (script plan site)) (done now) (left_at plan now) (λ site. enough_at plan now site) plan.sites in
      omega (arith, m, t)

  pub left_is : LeftIs plan schedule
  left_is =
      let good = good_reached (system plan) (wired plan ok) schedule in
      let now = reached (system plan) schedule in
      record { enough = enough_now; falls = left_step plan ok now good; none_left = left_zero plan ok now good }
