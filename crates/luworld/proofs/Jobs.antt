-- What holds after every schedule.
use Rattle.std.proofs.Common.{◌≡◌, ◌≢◌, ℕ, zero, suc, ◌+◌, ◌-◌, ◌<◌, ◌≤◌, List, [], ◌∷◌, length, set, replicate, Some, refl, sym, ap, ◌∙◌, subst, arith, length-set, ⊎_elim}
use Rattle.std.proofs.lemmas.List.{length-replicate}
use Rattle.std.proofs.lemmas.Option.{slice_get_within}
use Rattle.std.proofs.lemmas.Bool.{cases_lt, cases_eq}
use Rattle.luworld.specs.Systems.{Item, Compute, Puts, Takes, puts, takes, System, IsWired, puts_before, takes_before, ItemCounts, done, new_world, put_count, taken_count, next_item, step, run, reached}
use Rattle.luworld.specs.Reach.{IsGood, IsReachable, reach_compute, reach_early_put, reach_late_put, reach_take}
use Rattle.luworld.proofs.Counts.{nth}
use Rattle.luworld.proofs.Steps.{puts_true, takes_true, MayGo, moved_item, step_stays, step_moved, cases_moved, done_same, done_other, put_change, take_change}

done_new : (n site : ℕ) → done (replicate n 0) site ≡ 0
done_new zero site = refl
done_new (suc n) zero = refl
done_new (suc n) (suc site) = done_new n site

pub good_new : (sys : System) → IsGood sys (new_world sys)
good_new sys = record {
  long = length-replicate sys.sites 0;
  inside = λ site. rw (done_new sys.sites site) (omega arith);
  taken_put = λ link. rw (done_new sys.sites (sys.receiver link)) (omega arith);
  bounded = λ link. rw (done_new sys.sites (sys.sender link)) (omega arith);
  reachable = λ site place lt. absurd (omega (arith, done_new sys.sites site, lt));
}

module _ (sys : System) (wired : IsWired sys) (world : ItemCounts) where
  pub takes_there : (link site : ℕ) → site ≡ sys.receiver link → taken_count sys world link ≡ takes_before sys link site (done world site)
  takes_there link site e = ap (λ (owner : ℕ). takes_before sys link owner (done world owner)) (sym e)

  pub puts_there : (link site : ℕ) → site ≡ sys.sender link → put_count sys world link ≡ puts_before sys link site (done world site)
  puts_there link site e = ap (λ (owner : ℕ). puts_before sys link owner (done world owner)) (sym e)

module _ (sys : System) (wired : IsWired sys) (world : ItemCounts) (good : IsGood sys world) where
  -- the next item of a site, where it may go, is reachable
  pub reach_next : (site : ℕ) (item : Item) → next_item sys world site ≡ Some item → MayGo sys world item → IsReachable sys site (done world site)
  reach_next site (Compute flow instant) here may = reach_compute flow instant here (good.reachable site)
  reach_next site (Puts link) here may =
      ⊎_elim
      (λ early. reach_early_put link here early (good.reachable site))
      (λ late.
      let e = puts_there sys wired world link site (wired.put_by_sender site (done world site) link here) in
      let lt : puts_before sys link site (done world site) - sys.capacity < taken_count sys world link = omega (arith, e, may, late) in
      let r = nth (takes link) (sys.script (sys.receiver link)) (done world (sys.receiver link)) (puts_before sys link site (done world site) - sys.capacity) lt in
      reach_late_put link here r.0 (r.3 ∙ ap Some (takes_true link r.1 r.4)) (omega (arith, r.5, late)) (good.reachable (sys.receiver link) r.0 r.2) (good.reachable site))
      (cases_lt (puts_before sys link site (done world site)) sys.capacity)
  reach_next site (Takes link) here may =
      let e = takes_there sys wired world link site (wired.taken_by_receiver site (done world site) link here) in
      let lt : takes_before sys link site (done world site) < put_count sys world link = omega (arith, e, may) in
      let r = nth (puts link) (sys.script (sys.sender link)) (done world (sys.sender link)) (takes_before sys link site (done world site)) lt in
      reach_take link here r.0 (r.3 ∙ ap Some (puts_true link r.1 r.4)) r.5 (good.reachable (sys.sender link) r.0 r.2) (good.reachable site)

  module _ (site : ℕ) (item : Item) (here : next_item sys world site ≡ Some item) (may : MayGo sys world item) where
    -- the world after the item
    abbrev next_world : ItemCounts
    next_world = set world site (suc (done world site))

    same : done next_world site ≡ suc (done world site)
    same = done_same sys wired world site item here good.long

    others : (other : ℕ) → other ≢ site → done next_world other ≡ done world other
    others = done_other sys wired world site item here good.long

    inside_next : (other : ℕ) → done next_world other ≤ length (sys.script other)
    inside_next other =
        ⊎_elim
        (λ e. let at : done next_world site ≤ length (sys.script site) = omega (arith, same, slice_get_within (sys.script site) (done world site) item here) in
        subst (λ (o : ℕ). done next_world o ≤ length (sys.script o)) (sym e) at)
        (λ ne. omega (arith, others other ne, good.inside other))
        (cases_eq other site)

    put_grows : (link : ℕ) → put_count sys world link ≤ put_count sys next_world link
    put_grows link = ⊎_elim (λ e. omega (arith, e)) (λ c. omega (arith, c.1)) (put_change sys wired world site item here good.long link)

    take_grows : (link : ℕ) → taken_count sys world link ≤ taken_count sys next_world link
    take_grows link = ⊎_elim (λ e. omega (arith, e)) (λ c. omega (arith, c.1)) (take_change sys wired world site item here good.long link)

    taken_put_next : (link : ℕ) → taken_count sys next_world link ≤ put_count sys next_world link
    taken_put_next link =
        ⊎_elim
        (λ e. omega (arith, e, good.taken_put link, put_grows link))
        (λ c. let m : MayGo sys world (Takes link) = subst (MayGo sys world) c.0 may in omega (arith, c.1, m, put_grows link))
        (take_change sys wired world site item here good.long link)

    bounded_next : (link : ℕ) → put_count sys next_world link ≤ taken_count sys next_world link + sys.capacity
    bounded_next link =
        ⊎_elim
        (λ e. omega (arith, e, good.bounded link, take_grows link))
        (λ c. let m : MayGo sys world (Puts link) = subst (MayGo sys world) c.0 may in omega (arith, c.1, m, take_grows link))
        (put_change sys wired world site item here good.long link)

    reachable_next : (other place : ℕ) → place < done next_world other → IsReachable sys other place
    reachable_next other place lt =
        ⊎_elim
        (λ e. subst (λ (o : ℕ). IsReachable sys o place) (sym e) (own (subst (λ (o : ℕ). place < done next_world o) e lt)))
        (λ ne. good.reachable other place (omega (arith, others other ne, lt)))
        (cases_eq other site)
      where
        own : place < done next_world site → IsReachable sys site place
        own below =
            ⊎_elim
            (λ before. good.reachable site place before)
            (λ after. let e : done world site ≡ place = omega (arith, same, below, after) in
            subst (IsReachable sys site) e (reach_next site item here may))
            (cases_lt place (done world site))

    pub good_next : IsGood sys next_world
    good_next = record {
      long = length-set world site (suc (done world site)) ∙ good.long;
      inside = inside_next;
      taken_put = taken_put_next;
      bounded = bounded_next;
      reachable = reachable_next;
    }

  pub good_step : (site : ℕ) → IsGood sys (step sys world site)
  good_step site =
      ⊎_elim
      (λ e. let m = moved_item sys world site e in
      subst (IsGood sys) (sym (step_moved sys world site e)) (good_next site m.0 m.1 m.2))
      (λ ne. subst (IsGood sys) (sym (step_stays sys world site ne)) good)
      (cases_moved sys world site)

pub good_run : (sys : System) → IsWired sys → (schedule : List ℕ) (world : ItemCounts) → IsGood sys world → IsGood sys (run sys world schedule)
good_run sys wired [] world good = good
good_run sys wired (site ∷ schedule) world good = good_run sys wired schedule (step sys world site) (good_step sys wired world good site)

pub good_reached : (sys : System) → IsWired sys → (schedule : List ℕ) → IsGood sys (reached sys schedule)
good_reached sys wired schedule = good_run sys wired schedule (new_world sys) (good_new sys)
