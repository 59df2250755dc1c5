-- The number of moving turns.
use Rattle.std.proofs.Common.{◌≡◌, ◌≢◌, ℕ, zero, suc, ◌+◌, ◌<◌, ◌≤◌, List, [], ◌∷◌, length, get_or, take, set, replicate, sum, refl, sym, ap, ◌∙◌, subst, arith, add-one, take_all, ⊎_elim}
use Rattle.std.proofs.lemmas.Bool.{cases_lt}
use Rattle.std.proofs.lemmas.List.Sums.{sum_by_more, sum_by-set, sum_by-cons}
use Rattle.luworld.specs.Systems.{Item, System, IsWired, ItemCounts, done, new_world, turn, step, run, moves, moves_of, moved_turns, reached, total_below, item_count, IsAllDone}
use Rattle.luworld.specs.declared.turn.Turn.{Turn}
use Rattle.luworld.specs.declared.turn.Turn.TheVariants.{Moved, Blocked, Over}
use Rattle.luworld.proofs.Steps.{moved_item, step_stays, step_moved, cases_moved, site_within}
use Rattle.luworld.proofs.Jobs.{good_reached, good_step, good_new}
use Rattle.luworld.specs.Reach.{IsGood}

total_take : (world : ItemCounts) (n : ℕ) → n ≤ length world → sum (take n world) ≡ total_below (done world) n
total_take world zero le = refl
total_take world (suc n) le =
    let e : sum (take (n + 1) world) ≡ sum (take n world) + get_or world n 0 = sum_by_more (λ x. x) world n 0 le in
    (rw add-one at e) ∙ ap (λ k. k + get_or world n 0) (total_take world n (omega arith))

sum_total : (world : ItemCounts) → sum world ≡ total_below (done world) (length world)
sum_total world = ap sum (sym (take_all (length world) world (omega arith))) ∙ total_take world (length world) (omega arith)

pub total_le : (f g : ℕ → ℕ) → ((i : ℕ) → f i ≤ g i) → (n : ℕ) → total_below f n ≤ total_below g n
total_le f g le zero = omega arith
total_le f g le (suc n) = omega (arith, total_le f g le n, le n)

total_same : (f g : ℕ → ℕ) → ((i : ℕ) → f i ≤ g i) → (n : ℕ) → total_below f n ≡ total_below g n → (i : ℕ) → i < n → f i ≡ g i
total_same f g le zero e i lt = absurd (omega (arith, lt))
total_same f g le (suc n) e i lt =
    let r = total_le f g le n in
    let here : f n ≡ g n = omega (arith, le n, r, e) in
    let rest : total_below f n ≡ total_below g n = omega (arith, le n, r, e) in
    ⊎_elim
    (λ below. total_same f g le n rest i below)
    (λ above. let k : n ≡ i = omega (arith, above, lt) in subst (λ (j : ℕ). f j ≡ g j) k here)
    (cases_lt i n)

pub total_all : (f g : ℕ → ℕ) → ((i : ℕ) → f i ≡ g i) → (n : ℕ) → total_below f n ≡ total_below g n
total_all f g e zero = refl
total_all f g e (suc n) = omega (arith, total_all f g e n, e n)

sum_zeros : (n : ℕ) → sum (replicate n 0) ≡ 0
sum_zeros zero = refl
sum_zeros (suc n) = sum_by-cons (λ x. x) 0 (replicate n 0) ∙ omega (arith, sum_zeros n)

module _ (sys : System) (wired : IsWired sys) where
  step_sum : (world : ItemCounts) → IsGood sys world → (site : ℕ) → sum (step sys world site) ≡ moves_of (turn sys world site) + sum world
  step_sum world good site = ⊎_elim moved other (cases_moved sys world site)
    where
      moved : turn sys world site ≡ Moved → sum (step sys world site) ≡ moves_of (turn sys world site) + sum world
      moved e =
          let m = moved_item sys world site e in
          let within = site_within sys wired site (done world site) m.0 m.1 in
          let s = sum_by-set (λ x. x) world site (suc (done world site)) 0 (omega (arith, within, good.long)) in
          let n : sum (set world site (suc (done world site))) ≡ 1 + sum world = omega (arith, s) in
          ap sum (step_moved sys world site e) ∙ n ∙ ap (λ (t : Turn). moves_of t + sum world) (sym e)

      idle : (t : Turn) → t ≢ Moved → moves_of t ≡ 0
      idle Moved ne = absurd (ne refl)
      idle Blocked ne = refl
      idle Over ne = refl

      other : turn sys world site ≢ Moved → sum (step sys world site) ≡ moves_of (turn sys world site) + sum world
      other ne = ap sum (step_stays sys world site ne) ∙ omega (arith, idle (turn sys world site) ne)

  run_sum : (schedule : List ℕ) (world : ItemCounts) → IsGood sys world → sum (run sys world schedule) ≡ moves sys world schedule + sum world
  run_sum [] world good = omega arith
  run_sum (site ∷ schedule) world good =
      let r = run_sum schedule (step sys world site) (good_step sys wired world good site) in
      let s = step_sum world good site in
      omega (arith, r, s)

  pub moved_total : (schedule : List ℕ) → moved_turns sys schedule ≡ total_below (done (reached sys schedule)) sys.sites
  moved_total schedule =
      let r = run_sum schedule (new_world sys) (good_new sys) in
      let s = sum_total (reached sys schedule) in
      let l = (good_reached sys wired schedule).long in
      let z : sum (new_world sys) ≡ 0 = sum_zeros sys.sites in
      let t : total_below (done (reached sys schedule)) (length (reached sys schedule)) ≡ total_below (done (reached sys schedule)) sys.sites = ap (total_below (done (reached sys schedule))) l in
      omega (arith, r, s, z, t)

  scripts_le : (schedule : List ℕ) (site : ℕ) → done (reached sys schedule) site ≤ length (sys.script site)
  scripts_le schedule = (good_reached sys wired schedule).inside

  pub moved_le : (schedule : List ℕ) → moved_turns sys schedule ≤ item_count sys
  moved_le schedule = rw (moved_total schedule) (total_le (done (reached sys schedule)) (λ site. length (sys.script site)) (scripts_le schedule) sys.sites)

  pub moved_all : (schedule : List ℕ) → moved_turns sys schedule ≡ item_count sys → IsAllDone sys (reached sys schedule)
  moved_all schedule e site =
      ⊎_elim
      (λ lt. total_same (done (reached sys schedule)) (λ site. length (sys.script site)) (scripts_le schedule) sys.sites (sym (moved_total schedule) ∙ e) site lt)
      (λ ge. let n : length (sys.script site) ≡ 0 = ap (length {A = Item}) (wired.no_more_sites site ge) in omega (arith, n, scripts_le schedule site))
      (cases_lt site sys.sites)

  pub all_moved : (schedule : List ℕ) → IsAllDone sys (reached sys schedule) → moved_turns sys schedule ≡ item_count sys
  all_moved schedule all = moved_total schedule ∙ total_all (done (reached sys schedule)) (λ site. length (sys.script site)) all sys.sites
