-- What one turn does to the counts.
use Rattle.std.proofs.Common.{◌≡◌, ◌≢◌, ℕ, suc, ◌+◌, ◌<◌, Bool, true, false, List, length, take, set, slice_get, Option, Some, None, count_by, refl, sym, ap, ◌∙◌, subst, arith, get_or-set_same, get_or-set_other, inl, inr, ⊎_elim, ◌⊎◌, cond}
use Rattle.std.proofs.lemmas.Option.{none-some}
use Rattle.std.proofs.lemmas.Bool.{cases_lt, cases_eq, eqb-true, eq-eqb, ltb-true, lt-ltb}
use Rattle.luworld.specs.Systems.{Item, Compute, Puts, Takes, puts, takes, System, IsWired, ItemCounts, done, put_count, taken_count, moved_if, turn_at, next_item, turn, world_after, step}
use Rattle.luworld.specs.declared.turn.Turn.{Turn}
use Rattle.luworld.specs.declared.turn.Turn.TheVariants.{Moved, Blocked, Over}
use Rattle.luworld.proofs.Counts.{count_yes, count_no}

pub puts_true : (link : ℕ) (item : Item) → puts link item ≡ true → item ≡ Puts link
puts_true link (Compute flow instant) e = cc
puts_true link (Puts other) e = ap Puts (eqb-true other link e)
puts_true link (Takes other) e = cc

pub takes_true : (link : ℕ) (item : Item) → takes link item ≡ true → item ≡ Takes link
takes_true link (Compute flow instant) e = cc
takes_true link (Puts other) e = cc
takes_true link (Takes other) e = ap Takes (eqb-true other link e)

pub puts_self : (link : ℕ) → puts link (Puts link) ≡ true
puts_self link = eq-eqb link link refl

pub takes_self : (link : ℕ) → takes link (Takes link) ≡ true
takes_self link = eq-eqb link link refl

-- what an item waits for
abbrev pub MayGo : System → ItemCounts → Item → Type 0
MayGo sys world (Compute flow instant) = Unit {0}
MayGo sys world (Puts link) = put_count sys world link < taken_count sys world link + sys.capacity
MayGo sys world (Takes link) = taken_count sys world link < put_count sys world link

moved_true : (b : Bool) → moved_if b ≡ Moved → b ≡ true
moved_true true e = refl
moved_true false e = cc

module _ (sys : System) (world : ItemCounts) where
  moved_at : (next : Option Item) → turn_at sys world next ≡ Moved → (item : Item) × (next ≡ Some item) × MayGo sys world item
  moved_at None e = cc
  moved_at (Some (Compute flow instant)) e = (Compute flow instant, refl, tt)
  moved_at (Some (Puts link)) e = (Puts link, refl, ltb-true _ _ (moved_true _ e))
  moved_at (Some (Takes link)) e = (Takes link, refl, ltb-true _ _ (moved_true _ e))

  -- the item that a turn did
  pub moved_item : (site : ℕ) → turn sys world site ≡ Moved → (item : Item) × (next_item sys world site ≡ Some item) × MayGo sys world item
  moved_item site e = moved_at (next_item sys world site) e

  moves_at : (item : Item) → MayGo sys world item → turn_at sys world (Some item) ≡ Moved
  moves_at (Compute flow instant) may = refl
  moves_at (Puts link) may = ap moved_if (lt-ltb _ _ may)
  moves_at (Takes link) may = ap moved_if (lt-ltb _ _ may)

  pub moves_item : (site : ℕ) (item : Item) → next_item sys world site ≡ Some item → MayGo sys world item → turn sys world site ≡ Moved
  moves_item site item here may = ap (turn_at sys world) here ∙ moves_at item may

  stays : (answer : Turn) (site : ℕ) → answer ≢ Moved → world_after answer world site ≡ world
  stays Moved site not = absurd (not refl)
  stays Blocked site not = refl
  stays Over site not = refl

  pub step_stays : (site : ℕ) → turn sys world site ≢ Moved → step sys world site ≡ world
  step_stays site not = stays (turn sys world site) site not

  pub step_moved : (site : ℕ) → turn sys world site ≡ Moved → step sys world site ≡ set world site (suc (done world site))
  step_moved site e = ap (λ (answer : Turn). world_after answer world site) e

  pub cases_moved : (site : ℕ) → (turn sys world site ≡ Moved) ⊎ (turn sys world site ≢ Moved)
  cases_moved site = at (turn sys world site)
    where
      at : (answer : Turn) → (answer ≡ Moved) ⊎ (answer ≢ Moved)
      at Moved = inl refl
      at Blocked = inr (λ e. cc)
      at Over = inr (λ e. cc)

-- the site of an item is one of the count
pub site_within : (sys : System) → IsWired sys → (site place : ℕ) (item : Item) → slice_get (sys.script site) place ≡ Some item → site < sys.sites
site_within sys wired site place item here =
    ⊎_elim
    (λ lt. lt)
    (λ past. absurd (none-some item (sym (ap (λ (s : List Item). slice_get s place) (wired.no_more_sites site past)) ∙ here)))
    (cases_lt site sys.sites)

module _ (sys : System) (wired : IsWired sys) (world : ItemCounts) (site : ℕ) (item : Item) (here : next_item sys world site ≡ Some item) (long : length world ≡ sys.sites) where
  within : site < length world
  within = let lt = site_within sys wired site (done world site) item here in omega arith

  pub done_same : done (set world site (suc (done world site))) site ≡ suc (done world site)
  done_same = get_or-set_same world site (suc (done world site)) 0 within

  pub done_other : (other : ℕ) → other ≢ site → done (set world site (suc (done world site))) other ≡ done world other
  done_other other ne = get_or-set_other world site other (suc (done world site)) 0 ne

  Changed : (Item → Bool) → ℕ → Type 0
  Changed p owner =
      (count_by p (take (done (set world site (suc (done world site))) owner) (sys.script owner)) ≡ count_by p (take (done world owner) (sys.script owner)))
      ⊎ ((p item ≡ true) × (count_by p (take (done (set world site (suc (done world site))) owner) (sys.script owner)) ≡ suc (count_by p (take (done world owner) (sys.script owner)))))

  change_own : (p : Item → Bool) (b : Bool) → p item ≡ b → Changed p site
  unfolding Changed
  change_own p true is = inr (is, ap (λ n. count_by p (take n (sys.script site))) done_same ∙ count_yes p (sys.script site) (done world site) item here is)
  change_own p false isnt = inl (ap (λ n. count_by p (take n (sys.script site))) done_same ∙ count_no p (sys.script site) (done world site) item here isnt)

  change : (p : Item → Bool) (owner : ℕ) → Changed p owner
  unfolding Changed
  change p owner =
      ⊎_elim
      (λ e. subst (Changed p) (sym e) (change_own p (p item) refl))
      (λ ne. inl (ap (λ n. count_by p (take n (sys.script owner))) (done_other owner ne)))
      (cases_eq owner site)

  pub put_change : (link : ℕ) → (put_count sys (set world site (suc (done world site))) link ≡ put_count sys world link) ⊎ ((item ≡ Puts link) × (put_count sys (set world site (suc (done world site))) link ≡ suc (put_count sys world link)))
  unfolding Changed
  put_change link = ⊎_elim inl (λ c. inr (puts_true link item c.0, c.1)) (change (puts link) (sys.sender link))

  pub take_change : (link : ℕ) → (taken_count sys (set world site (suc (done world site))) link ≡ taken_count sys world link) ⊎ ((item ≡ Takes link) × (taken_count sys (set world site (suc (done world site))) link ≡ suc (taken_count sys world link)))
  unfolding Changed
  take_change link = ⊎_elim inl (λ c. inr (takes_true link item c.0, c.1)) (change (takes link) (sys.receiver link))

  -- exactly, where each end of a link has one site
  exact : (p : Item → Bool) (owner : ℕ) → (p item ≡ true → site ≡ owner) → count_by p (take (done (set world site (suc (done world site))) owner) (sys.script owner)) ≡ count_by p (take (done world owner) (sys.script owner)) + cond (p item) 1 0
  exact p owner owns = go (p item) refl
    where
      own : (b : Bool) → p item ≡ b → (count_by p (take (suc (done world site)) (sys.script site)) ≡ count_by p (take (done world site) (sys.script site)) + cond b 1 0)
      own true is = count_yes p (sys.script site) (done world site) item here is ∙ omega arith
      own false isnt = count_no p (sys.script site) (done world site) item here isnt ∙ omega arith

      at_site : (b : Bool) → p item ≡ b → count_by p (take (done (set world site (suc (done world site))) site) (sys.script site)) ≡ count_by p (take (done world site) (sys.script site)) + cond b 1 0
      at_site b is = ap (λ n. count_by p (take n (sys.script site))) done_same ∙ own b is

      go : (b : Bool) → p item ≡ b → count_by p (take (done (set world site (suc (done world site))) owner) (sys.script owner)) ≡ count_by p (take (done world owner) (sys.script owner)) + cond b 1 0
      go true is = subst (λ (o : ℕ). count_by p (take (done (set world site (suc (done world site))) o) (sys.script o)) ≡ count_by p (take (done world o) (sys.script o)) + 1) (owns is) (at_site true is)
      go false isnt =
          ⊎_elim
          (λ e. subst (λ (o : ℕ). count_by p (take (done (set world site (suc (done world site))) o) (sys.script o)) ≡ count_by p (take (done world o) (sys.script o)) + 0) (sym e) (at_site false isnt))
          (λ ne. ap (λ n. count_by p (take n (sys.script owner))) (done_other owner ne) ∙ omega arith)
          (cases_eq owner site)

  pub put_exact : (link : ℕ) → put_count sys (set world site (suc (done world site))) link ≡ put_count sys world link + cond (puts link item) 1 0
  put_exact link = exact (puts link) (sys.sender link) (λ is. wired.put_by_sender site (done world site) link (here ∙ ap Some (puts_true link item is)))

  pub take_exact : (link : ℕ) → taken_count sys (set world site (suc (done world site))) link ≡ taken_count sys world link + cond (takes link item) 1 0
  take_exact link = exact (takes link) (sys.receiver link) (λ is. wired.taken_by_receiver site (done world site) link (here ∙ ap Some (takes_true link item is)))
