-- How many instants a site has behind it.
use Rattle.std.proofs.Common.{◌≡◌, ℕ, zero, suc, ◌+◌, ◌-◌, ◌<◌, ◌≤◌, inl, inr, Bool, true, false, cond, List, [], ◌∷◌, length, filter, flat_map, take, Option, Some, None, refl, sym, ap, ap₂, ◌∙◌, arith, length-append}
use Rattle.std.specs.Prelude.{is_some, min, slice_get, slice_index, nat_le}
use Rattle.std.specs.List.{range_with_len}
use Rattle.std.proofs.lemmas.Bool.Decides.{nat_tests}
use Rattle.std.proofs.lemmas.Option.{slice_get_within, slice_get-get_or}
use Rattle.luworld.specs.Systems.{Item, done}
use Rattle.luworld.specs.WorldViews.{WorldView}
use Rattle.lusite.specs.Sites.{SiteView}
use Rattle.luworld.specs.Jobs.{JobView, cell, items_before, script, streams_of}
use Rattle.luworld.proofs.Cursor.{before_next_instant, in_flat_map}
use Rattle.lusite.specs.Machine.{IsAtInstant, IsReady}
use Rattle.lusite.specs.Machine.IsReady.{Ready, Over}
use Rattle.lusite_program.proofs.Ranges.{filter_more}
use Rattle.luweave.specs.declared.link_queue.LinkQueue.{LinkQueue}
use Rattle.luweave.specs.Slowest.{instants_behind, instant_by, instant_at, slowest_of}
use Rattle.luweave.specs.Worlds.{IsWorld, dones_of}
use Rattle.luweave.proofs.Worlds.{done_at}

some_item : (o : Option Item) → is_some o ≡ true → (item : Item) × (o ≡ Some item)
some_item None e = absurd cc
some_item (Some item) e = (item, refl)

no_item : (o : Option Item) → is_some o ≡ false → o ≡ None
no_item None e = refl
no_item (Some item) e = absurd cc

-- of the numbers below one that pass a test, where those below t pass it and the others don't
module _ (p : ℕ → Bool) where
  size : (m : ℕ) (b : Bool) → length (cond b (m ∷ []) []) ≡ cond b 1 0
  size m true = refl
  size m false = refl

  one_more : (m : ℕ) (b : Bool) → p m ≡ b → length (filter p (range_with_len 0 (m + 1))) ≡ length (filter p (range_with_len 0 m)) + cond b 1 0
  one_more m b e =
      let all = ap length (filter_more p m) ∙ length-append (filter p (range_with_len 0 m)) (cond (p m) (m ∷ []) []) in
      let last = ap (λ (c : Bool). length (cond c (m ∷ []) [])) e ∙ size m b in
      omega (arith, all, last)

  pass_all : (m : ℕ) → ((u : ℕ) → u < m → p u ≡ true) → length (filter p (range_with_len 0 m)) ≡ m
  pass_all zero h = refl
  pass_all (suc m) h =
      let rest = pass_all m (λ u lt. h u (omega (arith, lt))) in
      let more = one_more m true (h m (omega arith)) in
      let same : suc m ≡ m + 1 = omega arith in
      let e = ap (λ (k : ℕ). length (filter p (range_with_len 0 k))) same in
      omega (arith, e, more, rest)

  pass_some : (t d : ℕ) → ((u : ℕ) → u < t → p u ≡ true) → ((u : ℕ) → t ≤ u → u < t + d → p u ≡ false) → length (filter p (range_with_len 0 (t + d))) ≡ t
  pass_some t zero below above =
      let same : t + 0 ≡ t = omega arith in
      ap (λ (k : ℕ). length (filter p (range_with_len 0 k))) same ∙ pass_all t below
  pass_some t (suc d) below above =
      let rest = pass_some t d below (λ u le lt. above u le (omega (arith, lt))) in
      let more = one_more (t + d) false (above (t + d) (omega arith) (omega arith)) in
      let same : t + suc d ≡ t + d + 1 = omega arith in
      let e = ap (λ (k : ℕ). length (filter p (range_with_len 0 k))) same in
      omega (arith, e, more, rest)

module _ (job : JobView) (s : ℕ) where
  abbrev starts : ℕ → ℕ
  starts t = items_before job (streams_of job) s t 0 0

  at_least : (t p j : ℕ) → starts t ≤ items_before job (streams_of job) s t p j
  unfolding items_before
  at_least t p j =
      let none : length (flat_map (cell job (streams_of job) s t) (take 0 job.plan.flat.order)) ≡ 0 = refl in
      omega (arith, none)

  grows : (t : ℕ) → starts t ≤ starts (t + 1)
  grows t =
      let e = before_next_instant job (streams_of job) s t in
      let le = at_least t (length job.plan.flat.order) 0 in
      omega (arith, e, le)

  starts_later : (t d : ℕ) → starts t ≤ starts (t + d)
  starts_later t zero =
      let same : t + 0 ≡ t = omega arith in
      let e = ap starts same in
      omega (arith, e)
  starts_later t (suc d) =
      let le = starts_later t d in
      let more = grows (t + d) in
      let same : t + suc d ≡ t + d + 1 = omega arith in
      let e = ap starts same in
      omega (arith, le, more, e)

  starts_by : (t u : ℕ) → t ≤ u → starts t ≤ starts u
  starts_by t u le =
      let same : t + (u - t) ≡ u = omega (arith, le) in
      let e = ap starts same in
      let h = starts_later t (u - t) in
      omega (arith, e, h)

  -- an item of an instant stands before the next instant
  before_next : (t p j : ℕ) → p < length job.plan.flat.order → j < length (cell job (streams_of job) s t (slice_index job.plan.flat.order p)) → items_before job (streams_of job) s t p j < starts (t + 1)
  unfolding items_before
  before_next t p j lp lj =
      let order = job.plan.flat.order in
      let e = before_next_instant job (streams_of job) s t in
      let within = in_flat_map (cell job (streams_of job) s t) order p j (slice_index order p) (slice_get-get_or order p 0 lp) lj in
      let whole = ap (λ (xs : List ℕ). length (flat_map (cell job (streams_of job) s t) xs)) (take_whole order) in
      omega (arith, e, within, whole)
    where
      take_whole : (xs : List ℕ) → take (length xs) xs ≡ xs
      take_whole [] = refl
      take_whole (x ∷ xs) = ap (λ (ys : List ℕ). x ∷ ys) (take_whole xs)

  is_behind : (n u : ℕ) → starts (u + 1) ≤ n → nat_le (starts (u + 1)) n ≡ true
  is_behind n u le = grind (arith, nat_tests)

  not_behind : (n u : ℕ) → n < starts (u + 1) → nat_le (starts (u + 1)) n ≡ false
  not_behind n u lt = grind (arith, nat_tests)

  behind_is : (n t p j : ℕ) → t ≤ job.inputs.instants → n ≡ items_before job (streams_of job) s t p j → IsReady job s t p j → instants_behind job s n ≡ t
  behind_is n t p j le is ready =
      let all = job.inputs.instants in
      let same : t + (all - t) ≡ all = omega (arith, le) in
      let from = at_least t p j in
      let below = λ (u : ℕ) (lt : u < t). is_behind n u (let h = starts_by (u + 1) t (omega (arith, lt)) in omega (arith, h, is, from)) in
      let above = λ (u : ℕ) (le2 : t ≤ u) (lt : u < t + (all - t)). not_behind n u (later u le2 (omega (arith, lt, same)) ready) in
      ap (λ (k : ℕ). length (filter (λ u. nat_le (starts (u + 1)) n) (range_with_len 0 k))) (sym same) ∙ pass_some (λ u. nat_le (starts (u + 1)) n) t (all - t) below above
    where
      later : (u : ℕ) → t ≤ u → u < job.inputs.instants → IsReady job s t p j → n < starts (u + 1)
      later u le2 lt (Ready lp lj) =
          let next = before_next t p j lp lj in
          let h = starts_by (t + 1) (u + 1) (omega (arith, le2)) in
          omega (arith, is, next, h)
      later u le2 lt (Over at_end last first) = absurd (omega (arith, at_end, le2, lt))

  -- a site that does something next stands at the instant that it says
  pub instant_is : (n t : ℕ) (item : Item) → slice_get (script job (streams_of job) s) n ≡ Some item → IsAtInstant job s n t → instants_behind job s n ≡ t
  instant_is n t item there at = elim at.here [
    | inl going ↦ behind_is n t at.place at.step at.inside at.is going.ready
    | inr stopped ↦
        let within = slice_get_within (script job (streams_of job) s) n item there in
        let end = stopped.done in
        absurd (omega (arith, within, end))
  ]

  pub instant_now : (n t : ℕ) → is_some (slice_get (script job (streams_of job) s) n) ≡ true → IsAtInstant job s n t → t ≡ instant_at job s n
  instant_now n t some at =
      let (item, there) = some_item (slice_get (script job (streams_of job) s) n) some in
      sym (instant_is n t item there at) ∙ ap (instant_by job s n) (sym there)

  pub no_more : (n : ℕ) → is_some (slice_get (script job (streams_of job) s) n) ≡ false → job.inputs.instants ≡ instant_at job s n
  no_more n none = ap (instant_by job s n) (sym (no_item (slice_get (script job (streams_of job) s) n) none))

pub no_site : (w : WorldView) → w.job.inputs.instants ≡ slowest_of w 0
unfolding slowest_of
no_site w = refl

-- the least of one site more
module _ (job : JobView) (sites : List SiteView) (link_queues : List LinkQueue) (capacity : ℕ) (world : IsWorld job sites link_queues capacity) where
  abbrev now : WorldView
  now = record { job = job; dones = dones_of sites }

  pub one_site_more : (s : ℕ) (v : SiteView) → slice_get sites s ≡ Some v → (least next : ℕ) → least ≡ slowest_of now s → next ≡ min least (instant_at v.job v.site v.done) → next ≡ slowest_of now (s + 1)
  unfolding slowest_of
  one_site_more s v at least next before is =
      let h = world.sites_are s v at in
      let same : instant_at v.job v.site v.done ≡ instant_at job s (done (dones_of sites) s) =
      ap (λ (j : JobView). instant_at j v.site v.done) h.0 ∙ ap (λ (r : ℕ). instant_at job r v.done) h.1 ∙ ap (instant_at job s) (sym (done_at sites s v at)) in
      let one : s + 1 ≡ suc s = omega arith in
      is ∙ ap₂ min before same ∙ ap (slowest_of now) (sym one)
