-- A turn keeps a world.
use Rattle.std.proofs.Common.{◌≡◌, ℕ, zero, suc, ◌+◌, ◌-◌, ◌<◌, ◌≤◌, inl, inr, Bool, true, false, cond, List, [], ◌∷◌, ◌++◌, length, take, drop, set, replicate, nat_eq, count_by, Option, Some, None, refl, sym, ap, ap₂, ◌∙◌, subst, arith, add-one, length-append}
use Rattle.std.specs.Prelude.{slice_get, nat_lt, vec_capacity}
use Rattle.std.specs.Option.{option_map}
use Rattle.std.proofs.lemmas.List.{length-set, length-map, take_more, map-set, length-take, length-drop, take-take, get_or-take}
use Rattle.std.proofs.lemmas.Option.{slice_get_within, slice_get-get_or, get_or_from_slice_get, slice_get-map, slice_get_past, same_Some}
use Rattle.std.proofs.lemmas.Bool.{cases_lt, cases_eq, eq-eqb, ne_eqb, ltb-true, lt-ltb}
use Rattle.luworld.specs.declared.turn.Turn.TheVariants.{Moved, Blocked, Over}
use Rattle.luworld.specs.Systems.{Item, Compute, Puts, Takes, puts, takes, ItemCounts, done, new_world, put_count, taken_count, puts_before, takes_before, next_item, turn, turn_at, step, moved_if, reached}
use Rattle.luworld.specs.Reach.{IsGood}
use Rattle.luworld.proofs.Steps.{MayGo, moves_item, step_moved, put_exact, take_exact}
use Rattle.luworld.proofs.Jobs.{good_next, good_new, good_reached, puts_there, takes_there}
use Rattle.luworld.proofs.Ends.{same_end}
use Rattle.luworld.proofs.Enabled.{never_stuck_at}
use Rattle.luworld.proofs.Ended.{done_ends}
use Rattle.luworld.specs.Jobs.{JobView, IsJob, IsFree, streams_of, script, link_list, system_of, outline}
use Rattle.luflow.specs.declared.message.Msg.{Msg}
use Rattle.luworld.specs.Needs.{PlanView, sites_of}
use Rattle.lusite.specs.declared.next.Next.{Next}
use Rattle.lusite.specs.declared.next.Next.TheVariants.{Take, Put, Ended}
use Rattle.luweave.specs.declared.link_queue.LinkQueue.{LinkQueue}
use Rattle.lusite.specs.Machine.{IsNext, IsTakeNext}
use Rattle.lusite.specs.Sites.{SiteView}
use Rattle.luweave.specs.Worlds.{IsLinkQueueAt, IsLinkQueue, IsWorld, dones_of, more, room_in, room_of, some_in, some_of, IsPutInto, IsTakeFrom, IsNewSite, IsNewLinkQueue, IsNewWorld, IsUnstuck, IsOnlyEnd}
use Rattle.luworld.specs.WorldViews.{IsPrefixOf, WorldView}
use Rattle.luflow.proofs.Solutions.{some_at}
use Rattle.lusite_program.proofs.Written.{slice_get-set_same, slice_get-set_other}
use Rattle.luworld.proofs.Outlines.{bool_cases, is_wired, is_outline, no_break}
use Rattle.lusite.proofs.Turns.{link_there}
use Rattle.luworld.proofs.Messages.{lists_short}

-- the numbers after an item of site s
pub dones_more : (sites : List SiteView) (s : ℕ) (v : SiteView) → dones_of (set sites s (more v)) ≡ set (dones_of sites) s (v.done + 1)
dones_more sites s v = map-set (λ (w : SiteView). w.done) sites s (more v)

pub done_at : (sites : List SiteView) (s : ℕ) (v : SiteView) → slice_get sites s ≡ Some v → done (dones_of sites) s ≡ v.done
done_at sites s v e = get_or_from_slice_get (dones_of sites) s v.done 0 (slice_get-map (λ (w : SiteView). w.done) sites s ∙ ap (option_map (λ (w : SiteView). w.done)) e)

sites_more : (job : JobView) (sites : List SiteView) (s : ℕ) (v : SiteView) → slice_get sites s ≡ Some v → ((r : ℕ) (w : SiteView) → slice_get sites r ≡ Some w → (w.job ≡ job) × (w.site ≡ r)) → (r : ℕ) (w : SiteView) → slice_get (set sites s (more v)) r ≡ Some w → (w.job ≡ job) × (w.site ≡ r)
sites_more job sites s v at all r w e = elim (cases_eq r s) [
  | inl same ↦
      let x : more v ≡ w = same_Some (more v) w (sym (ap (slice_get (set sites s (more v))) same ∙ slice_get-set_same sites s (more v) (slice_get_within sites s v at)) ∙ e) in
      let h = all s v at in
      (sym (ap (λ (u : SiteView). u.job) x) ∙ h.0, sym (ap (λ (u : SiteView). u.site) x) ∙ h.1 ∙ sym same)
  | inr other ↦ all r w (sym (slice_get-set_other sites s r (more v) other) ∙ e)
]

link_queue_put : (job : JobView) (l : ℕ) (link_queue link_queue' : LinkQueue) (p q : ℕ) (m : Msg) → IsLinkQueueAt job l link_queue p q → slice_get (link_list job (streams_of job) l) p ≡ Some m → link_queue'.put.items ≡ link_queue.put.items ++ m ∷ [] → link_queue'.taken ≡ link_queue.taken → vec_capacity link_queue'.put ≡ vec_capacity link_queue.put → IsLinkQueueAt job l link_queue' (p + 1) q
link_queue_put job l link_queue link_queue' p q m h at items taken cap =
    let xs = link_list job (streams_of job) l in
    let within = slice_get_within xs p m at in
    let more' = take_more xs p m within in
    let el = get_or_from_slice_get xs p m m at in
    record {
      put_is = items ∙ ap (λ ys. ys ++ m ∷ []) h.put_is ∙ sym (more' ∙ ap (λ x. take p xs ++ x ∷ []) el);
      put_len = ap length items ∙ length-append link_queue.put.items (m ∷ []) ∙ ap (λ n. n + 1) h.put_len;
      taken_is = taken ∙ h.taken_is;
      room = let e = h.room in omega arith;
    }

link_queue_take : (job : JobView) (l : ℕ) (link_queue link_queue' : LinkQueue) (p q : ℕ) → IsLinkQueueAt job l link_queue p q → link_queue'.put ≡ link_queue.put → link_queue'.taken ≡ link_queue.taken + 1 → IsLinkQueueAt job l link_queue' p (q + 1)
link_queue_take job l link_queue link_queue' p q h put taken =
    record {
      put_is = ap (λ v. v.items) put ∙ h.put_is;
      put_len = ap (λ v. length v.items) put ∙ h.put_len;
      taken_is = taken ∙ ap (λ n. n + 1) h.taken_is;
      room = let e = h.room in let f = ap (λ v. vec_capacity v) put in omega arith;
    }

front_get : (xs : List Msg) (p q : ℕ) (m : Msg) → slice_get (take p xs) q ≡ Some m → slice_get xs q ≡ Some m
front_get xs p q m e =
    let l = slice_get_within (take p xs) q m e in
    let n = length-take p xs in
    let lx : q < length xs = omega (arith, n) in
    let lp : q < p = omega (arith, n) in
    slice_get-get_or xs q m lx ∙ ap Some (sym (get_or-take p xs q m lp) ∙ get_or_from_slice_get (take p xs) q m m e)

link_queue_along : (job : JobView) (l : ℕ) (link_queue : LinkQueue) (p p2 q q2 : ℕ) → p ≡ p2 → q ≡ q2 → IsLinkQueueAt job l link_queue p q → IsLinkQueueAt job l link_queue p2 q2
link_queue_along job l link_queue p p2 q q2 ep eq h = subst (λ (n : ℕ). IsLinkQueueAt job l link_queue n q2) ep (subst (λ (n : ℕ). IsLinkQueueAt job l link_queue p n) eq h)

-- what a site of a world offers
pub next_is : (job : JobView) (sites : List SiteView) (link_queues : List LinkQueue) (capacity s : ℕ) (v : SiteView) (x : Next) → IsWorld job sites link_queues capacity → slice_get sites s ≡ Some v → IsNext v.job v.site v.done x → IsNext job s v.done x
next_is job sites link_queues capacity s v x w at h =
    let e = w.sites_are s v at in
    subst (λ (n : ℕ). IsNext job n v.done x) e.1 (subst (λ (j : JobView). IsNext j v.site v.done x) e.0 h)

-- a number that is no site's does nothing
pub none_beyond : (job : JobView) (sites : List SiteView) (link_queues : List LinkQueue) (capacity s : ℕ) → IsWorld job sites link_queues capacity → length sites ≤ s → IsNext job s (done (dones_of sites) s) Ended
none_beyond job sites link_queues capacity s w beyond =
    let long = w.good.long in
    let n = length-map sites (λ (v : SiteView). v.done) in
    let none : script job (streams_of job) s ≡ [] = (is_wired job w.is_job).no_more_sites s (omega (arith, long, n, beyond)) in
    let empty : length (script job (streams_of job) s) ≡ 0 = ap (length {A = Item}) none in
    let inside = w.good.inside s in
    (omega (arith, empty, inside), subst (IsFree job) (sym none) tt)

-- a site of a world, and what it offers
pub record Offer (job : JobView) (sites : List SiteView) (s : ℕ) (x : Next) : Type 0 where
  pub site : SiteView
  pub there : slice_get sites s ≡ Some site
  pub next : IsNext job s site.done x

pub offer : (job : JobView) (sites : List SiteView) (link_queues : List LinkQueue) (capacity s : ℕ) (x y : Next) → IsWorld job sites link_queues capacity → s < length sites → ((v : SiteView) → slice_get sites s ≡ Some v → IsNext v.job v.site v.done x) → x ≡ y → Offer job sites s y
offer job sites link_queues capacity s x y w l h e =
    let v = some_at sites s l in
    record { site = v.0; there = v.1; next = next_is job sites link_queues capacity s v.0 y w v.1 (subst (IsNext v.0.job v.0.site v.0.done) e (h v.0 v.1)) }

module _ (job : JobView) (sites : List SiteView) (link_queues : List LinkQueue) (capacity s : ℕ) (v : SiteView) (w : IsWorld job sites link_queues capacity) (at : slice_get sites s ≡ Some v) where
  -- the site's next item
  item_here : (o : Option Item) → slice_get (script job (streams_of job) s) v.done ≡ o → next_item (system_of job) (dones_of sites) s ≡ o
  item_here o h = ap (slice_get (script job (streams_of job) s)) (done_at sites s v at) ∙ h

  turn_item : (o : Option Item) → slice_get (script job (streams_of job) s) v.done ≡ o → turn (system_of job) (dones_of sites) s ≡ turn_at (system_of job) (dones_of sites) o
  turn_item o h = ap (turn_at (system_of job) (dones_of sites)) (item_here o h)

  pub turn_over : v.done ≡ length (script job (streams_of job) s) → turn (system_of job) (dones_of sites) s ≡ Over
  turn_over e = turn_item None (slice_get_past (script job (streams_of job) s) v.done (omega arith))

  module _ (item : Item) (here : slice_get (script job (streams_of job) s) v.done ≡ Some item) (may : MayGo (system_of job) (dones_of sites) item) where
    dones_is : dones_of (set sites s (more v)) ≡ set (dones_of sites) s (suc (done (dones_of sites) s))
    dones_is = dones_more sites s v ∙ ap (set (dones_of sites) s) (add-one v.done ∙ ap suc (sym (done_at sites s v at)))

    pub moved_is : turn (system_of job) (dones_of sites) s ≡ Moved
    moved_is = moves_item (system_of job) (dones_of sites) s item (item_here (Some item) here) may

    pub step_is : dones_of (set sites s (more v)) ≡ step (system_of job) (dones_of sites) s
    step_is = dones_is ∙ sym (step_moved (system_of job) (dones_of sites) s moved_is)

    -- the world after the item, by its queues
    world_with : (link_queues' : List LinkQueue) → length link_queues' ≡ length link_queues → ((l : ℕ) (link_queue : LinkQueue) → slice_get link_queues' l ≡ Some link_queue → IsLinkQueueAt job l link_queue (put_count (system_of job) (dones_of sites) l + cond (puts l item) 1 0) (taken_count (system_of job) (dones_of sites) l + cond (takes l item) 1 0)) → IsWorld job (set sites s (more v)) link_queues' capacity
    world_with link_queues' len all =
        let wired = is_wired job w.is_job in
        let h = item_here (Some item) here in
        record {
          is_job = w.is_job;
          capacity_is = w.capacity_is;
          sites_are = sites_more job sites s v at w.sites_are;
          link_queues_len = len ∙ w.link_queues_len;
          link_queues_are = λ l link_queue e.
              link_queue_along job l link_queue (put_count (system_of job) (dones_of sites) l + cond (puts l item) 1 0) (put_count (system_of job) (dones_of (set sites s (more v))) l) (taken_count (system_of job) (dones_of sites) l + cond (takes l item) 1 0) (taken_count (system_of job) (dones_of (set sites s (more v))) l)
              (sym (ap (λ (ds : ItemCounts). put_count (system_of job) ds l) dones_is ∙ put_exact (system_of job) wired (dones_of sites) s item h w.good.long l))
              (sym (ap (λ (ds : ItemCounts). taken_count (system_of job) ds l) dones_is ∙ take_exact (system_of job) wired (dones_of sites) s item h w.good.long l))
              (all l link_queue e);
          good = subst (IsGood (system_of job)) (sym dones_is) (good_next (system_of job) wired (dones_of sites) w.good s item h may);
        }

  no_more : (n : ℕ) → n ≡ n + 0
  no_more n = omega arith

  pub world_work : (i t : ℕ) → slice_get (script job (streams_of job) s) v.done ≡ Some (Compute i t) → IsWorld job (set sites s (more v)) link_queues capacity
  world_work i t here =
      world_with (Compute i t) here tt link_queues refl (λ l link_queue e. link_queue_along job l link_queue (put_count (system_of job) (dones_of sites) l) (put_count (system_of job) (dones_of sites) l + 0) (taken_count (system_of job) (dones_of sites) l) (taken_count (system_of job) (dones_of sites) l + 0) (no_more (put_count (system_of job) (dones_of sites) l)) (no_more (taken_count (system_of job) (dones_of sites) l)) (w.link_queues_are l link_queue e))

  -- the queue of a link, and whether it has room or a message
  pub link_queue_at : (l : ℕ) → l < length job.plan.links → (link_queue : LinkQueue) × (slice_get link_queues l ≡ Some link_queue) × IsLinkQueue job (dones_of sites) l link_queue
  link_queue_at l lt =
      let x = some_at link_queues l (omega (arith, w.link_queues_len)) in
      (x.0, x.1, w.link_queues_are l x.0 x.1)

  lt_shift : (p q c : ℕ) → q ≤ p → nat_lt (p - q) c ≡ nat_lt p (q + c)
  lt_shift p q c le = elim (cases_lt p (q + c)) [
    | inl l ↦ lt-ltb (p - q) c (omega arith) ∙ sym (lt-ltb p (q + c) l)
    | inr g ↦ no_lt (p - q) c (omega arith) ∙ sym (no_lt p (q + c) g)
  ]
    where
      no_lt : (m n : ℕ) → n ≤ m → nat_lt m n ≡ false
      no_lt m n le = elim (bool_cases (nat_lt m n)) [ inl e ↦ let h = ltb-true m n e in absurd (omega arith) | inr e ↦ e ]

  room_is : (l : ℕ) → l < length job.plan.links → room_in link_queues l capacity ≡ nat_lt (put_count (system_of job) (dones_of sites) l) (taken_count (system_of job) (dones_of sites) l + job.plan.capacity)
  room_is l lt =
      let k = link_queue_at l lt in
      ap (room_of capacity) k.1
      ∙ ap₂ (λ p q. nat_lt (p - q) capacity) k.2.put_len k.2.taken_is
      ∙ ap (nat_lt (put_count (system_of job) (dones_of sites) l - taken_count (system_of job) (dones_of sites) l)) w.capacity_is
      ∙ lt_shift (put_count (system_of job) (dones_of sites) l) (taken_count (system_of job) (dones_of sites) l) job.plan.capacity (w.good.taken_put l)

  some_is : (l : ℕ) → l < length job.plan.links → some_in link_queues l ≡ nat_lt (taken_count (system_of job) (dones_of sites) l) (put_count (system_of job) (dones_of sites) l)
  some_is l lt = let k = link_queue_at l lt in ap some_of k.1 ∙ ap₂ nat_lt k.2.taken_is k.2.put_len

  pub put_link : (l : ℕ) (m : Msg) → IsNext job s v.done (Put l m) → l < length job.plan.links
  put_link l m x = link_there job l (puts_before (system_of job) l s v.done) m x.1

  pub put_blocked : (l : ℕ) (m : Msg) → IsNext job s v.done (Put l m) → room_in link_queues l capacity ≡ false → turn (system_of job) (dones_of sites) s ≡ Blocked
  put_blocked l m x full = turn_item (Some (Puts l)) x.0 ∙ ap moved_if (sym (room_is l (put_link l m x)) ∙ full)

  pub take_blocked : (l : ℕ) → IsNext job s v.done (Take l) → some_in link_queues l ≡ false → turn (system_of job) (dones_of sites) s ≡ Blocked
  take_blocked l x empty = turn_item (Some (Takes l)) x.0 ∙ ap moved_if (sym (some_is l x.1) ∙ empty)

  pub may_put : (l : ℕ) (m : Msg) → IsNext job s v.done (Put l m) → room_in link_queues l capacity ≡ true → MayGo (system_of job) (dones_of sites) (Puts l)
  may_put l m x may = ltb-true (put_count (system_of job) (dones_of sites) l) (taken_count (system_of job) (dones_of sites) l + job.plan.capacity) (sym (room_is l (put_link l m x)) ∙ may)

  pub may_take : (l : ℕ) → IsNext job s v.done (Take l) → some_in link_queues l ≡ true → MayGo (system_of job) (dones_of sites) (Takes l)
  may_take l x may = ltb-true (taken_count (system_of job) (dones_of sites) l) (put_count (system_of job) (dones_of sites) l) (sym (some_is l x.1) ∙ may)

  -- the message to be put is the next of the list
  put_next : (l : ℕ) (m : Msg) → IsNext job s v.done (Put l m) → slice_get (link_list job (streams_of job) l) (put_count (system_of job) (dones_of sites) l) ≡ Some m
  put_next l m x =
      let wired = is_wired job w.is_job in
      ap (slice_get (link_list job (streams_of job) l)) (puts_there (system_of job) wired (dones_of sites) l s (wired.put_by_sender s v.done l x.0) ∙ ap (puts_before (system_of job) l s) (done_at sites s v at)) ∙ x.1

  pub put_room : (l : ℕ) (m : Msg) → IsNext job s v.done (Put l m) → (l < length link_queues) × ((x : LinkQueue) → slice_get link_queues l ≡ Some x → length x.put.items < vec_capacity x.put)
  put_room l m x =
      let in_list = slice_get_within (link_list job (streams_of job) l) (put_count (system_of job) (dones_of sites) l) m (put_next l m x) in
      (let lt = put_link l m x in omega (arith, lt, w.link_queues_len), λ y e. let k = w.link_queues_are l y e in let a = k.put_len in let b = k.room in omega (arith, a, b, in_list))

  pub world_put : (l : ℕ) (m : Msg) (link_queues' : List LinkQueue) (x : IsNext job s v.done (Put l m)) → room_in link_queues l capacity ≡ true → ((x : LinkQueue) → slice_get link_queues l ≡ Some x → IsPutInto link_queues l x m link_queues') → IsWorld job (set sites s (more v)) link_queues' capacity
  world_put l m link_queues' x may into =
      let k = link_queue_at l (put_link l m x) in
      let d = into k.0 k.1 in
      let p = put_count (system_of job) (dones_of sites) in
      let q = taken_count (system_of job) (dones_of sites) in
      subst (λ (ls : List LinkQueue). IsWorld job (set sites s (more v)) ls capacity) (sym d.is)
      (world_with (Puts l) x.0 (may_put l m x may) (set link_queues l d.link_queue) (length-set link_queues l d.link_queue) (λ l2 link_queue e. elim (cases_eq l2 l) [
        | inl same ↦
            let ln : d.link_queue ≡ link_queue = same_Some d.link_queue link_queue (sym (ap (slice_get (set link_queues l d.link_queue)) same ∙ slice_get-set_same link_queues l d.link_queue (slice_get_within link_queues l k.0 k.1)) ∙ e) in
            let new = link_queue_put job l k.0 d.link_queue (p l) (q l) m k.2 (put_next l m x) d.items d.taken d.capacity in
            let one : p l + 1 ≡ p l2 + cond (nat_eq l l2) 1 0 = ap₂ (λ a b. p a + cond b 1 0) (sym same) (sym (eq-eqb l l2 (sym same))) in
            let zero' : q l ≡ q l2 + 0 = ap q (sym same) ∙ no_more (q l2) in
            link_queue_along job l2 link_queue (p l + 1) (p l2 + cond (nat_eq l l2) 1 0) (q l) (q l2 + 0) one zero' (subst (λ (y : LinkQueue). IsLinkQueueAt job l2 y (p l + 1) (q l)) ln (subst (λ (n : ℕ). IsLinkQueueAt job n d.link_queue (p l + 1) (q l)) (sym same) new))
        | inr other ↦
            link_queue_along job l2 link_queue (p l2) (p l2 + cond (nat_eq l l2) 1 0) (q l2) (q l2 + 0) (no_more (p l2) ∙ ap (λ b. p l2 + cond b 1 0) (sym (ne_eqb l l2 (λ e. other (sym e))))) (no_more (q l2)) (w.link_queues_are l2 link_queue (sym (slice_get-set_other link_queues l l2 d.link_queue other) ∙ e))
      ]))

  pub take_some : (l : ℕ) → IsNext job s v.done (Take l) → some_in link_queues l ≡ true → (m : Msg) (link_queues' : List LinkQueue) → ((x : LinkQueue) → slice_get link_queues l ≡ Some x → IsTakeFrom link_queues l x m link_queues') → IsTakeNext job s v.done m × IsWorld job (set sites s (more v)) link_queues' capacity
  take_some l x may m link_queues' from =
      let k = link_queue_at l x.1 in
      let d = from k.0 k.1 in
      let p = put_count (system_of job) (dones_of sites) in
      let q = taken_count (system_of job) (dones_of sites) in
      let xs = link_list job (streams_of job) l in
      let wired = is_wired job w.is_job in
      let got : slice_get (take (p l) xs) (q l) ≡ Some m = ap₂ slice_get (sym k.2.put_is) (sym k.2.taken_is) ∙ d.item in
      let no = takes_there (system_of job) wired (dones_of sites) l s (wired.taken_by_receiver s v.done l x.0) ∙ ap (takes_before (system_of job) l s) (done_at sites s v at) in (
        (l, x.0, ap (slice_get xs) (sym no) ∙ front_get xs (p l) (q l) m got),
        subst (λ (ls : List LinkQueue). IsWorld job (set sites s (more v)) ls capacity) (sym d.is)
            (world_with (Takes l) x.0 (may_take l x may) (set link_queues l d.link_queue) (length-set link_queues l d.link_queue) (λ l2 link_queue e. elim (cases_eq l2 l) [
              | inl same ↦
                  let ln : d.link_queue ≡ link_queue = same_Some d.link_queue link_queue (sym (ap (slice_get (set link_queues l d.link_queue)) same ∙ slice_get-set_same link_queues l d.link_queue (slice_get_within link_queues l k.0 k.1)) ∙ e) in
                  let new = link_queue_take job l k.0 d.link_queue (p l) (q l) k.2 d.put d.taken in
                  let one : q l + 1 ≡ q l2 + cond (nat_eq l l2) 1 0 = ap₂ (λ a b. q a + cond b 1 0) (sym same) (sym (eq-eqb l l2 (sym same))) in
                  let zero' : p l ≡ p l2 + 0 = ap p (sym same) ∙ no_more (p l2) in
                  link_queue_along job l2 link_queue (p l) (p l2 + 0) (q l + 1) (q l2 + cond (nat_eq l l2) 1 0) zero' one (subst (λ (y : LinkQueue). IsLinkQueueAt job l2 y (p l) (q l + 1)) ln (subst (λ (n : ℕ). IsLinkQueueAt job n d.link_queue (p l) (q l + 1)) (sym same) new))
              | inr other ↦
                  link_queue_along job l2 link_queue (p l2) (p l2 + 0) (q l2) (q l2 + cond (nat_eq l l2) 1 0) (no_more (p l2)) (no_more (q l2) ∙ ap (λ b. q l2 + cond b 1 0) (sym (ne_eqb l l2 (λ e. other (sym e))))) (w.link_queues_are l2 link_queue (sym (slice_get-set_other link_queues l l2 d.link_queue other) ∙ e))
            ])),
      )

module _ (job : JobView) (sites : List SiteView) (link_queues : List LinkQueue) (capacity : ℕ) (w : IsWorld job sites link_queues capacity) where
  -- a number that is no site's
  pub no_site : (s : ℕ) → length sites ≤ s → turn (system_of job) (dones_of sites) s ≡ Over
  no_site s ge =
      let n = length-map sites (λ (v : SiteView). v.done) in
      let long = w.good.long in
      let e = (is_wired job w.is_job).no_more_sites s (omega (arith, n, long)) in
      ap (λ (xs : List Item). turn_at (system_of job) (dones_of sites) (slice_get xs (done (dones_of sites) s))) e

  -- a queue takes no more than was put
  pub link_queue_order : (l : ℕ) (x : LinkQueue) → slice_get link_queues l ≡ Some x → x.taken ≤ length x.put.items
  link_queue_order l x e =
      let k = w.link_queues_are l x e in
      let a = k.taken_is in
      let b = k.put_len in
      let c = w.good.taken_put l in
      omega (arith, a, b, c)

  pub link_queue_view : (l : ℕ) → l < length job.plan.links → (link_queue : LinkQueue) × (slice_get link_queues l ≡ Some link_queue) × IsLinkQueue job (dones_of sites) l link_queue
  link_queue_view l lt =
      let x = some_at link_queues l (omega (arith, w.link_queues_len)) in
      (x.0, x.1, w.link_queues_are l x.0 x.1)

  pub taken_view : (l : ℕ) → l < length job.plan.links → (xs : List Msg) → ((x : LinkQueue) → slice_get link_queues l ≡ Some x → xs ≡ take x.taken x.put.items) → xs ≡ take (taken_count (system_of job) (dones_of sites) l) (link_list job (streams_of job) l)
  taken_view l lt xs h =
      let k = link_queue_view l lt in
      h k.0 k.1 ∙ ap₂ take k.2.taken_is k.2.put_is
      ∙ take-take (taken_count (system_of job) (dones_of sites) l) (put_count (system_of job) (dones_of sites) l) (link_list job (streams_of job) l) (w.good.taken_put l)

  pub queued_view : (l : ℕ) → l < length job.plan.links → (xs : List Msg) → ((x : LinkQueue) → slice_get link_queues l ≡ Some x → xs ≡ drop x.taken x.put.items) → xs ≡ drop (taken_count (system_of job) (dones_of sites) l) (take (put_count (system_of job) (dones_of sites) l) (link_list job (streams_of job) l))
  queued_view l lt xs h = let k = link_queue_view l lt in h k.0 k.1 ∙ ap₂ drop k.2.taken_is k.2.put_is

  pub queued_fits : (l : ℕ) → l < length job.plan.links → (xs : List Msg) → ((x : LinkQueue) → slice_get link_queues l ≡ Some x → xs ≡ drop x.taken x.put.items) → length xs ≤ job.plan.capacity
  queued_fits l lt xs h =
      let k = link_queue_view l lt in
      let n = ap length (h k.0 k.1) ∙ length-drop k.0.taken k.0.put.items in
      let a = k.2.taken_is in
      let b = k.2.put_len in
      let c = w.good.bounded l in
      omega (arith, n, a, b, c)

  -- never stuck
  pub unstuck : IsUnstuck job (dones_of sites)
  unstuck fine = elim (never_stuck_at (outline job (streams_of job)) (is_outline job w.is_job) (no_break job w.is_job fine) (dones_of sites) w.good) [
    | inl all ↦ inl (λ s _. done_ends (outline job (streams_of job)) (is_outline job w.is_job) (no_break job w.is_job fine) (dones_of sites) s (all s))
    | inr moves ↦ inr moves
  ]

  -- the only end
  pub only_end : IsOnlyEnd job (dones_of sites)
  only_end schedule quiet other =
      let wired = is_wired job w.is_job in
      same_end (system_of job) wired (reached (system_of job) schedule) (dones_of sites) (good_reached (system_of job) wired schedule) w.good other quiet

-- along the view of a world
pub along : (P : WorldView → Type 0) (x y : WorldView) → y ≡ x → P y → P x
along P x y e h = subst P e h

-- a new world
zeros : (sites : List SiteView) (job : JobView) → ((s : ℕ) (v : SiteView) → slice_get sites s ≡ Some v → IsNewSite job s v) → dones_of sites ≡ replicate (length sites) 0
zeros sites job h = go sites (λ s v e. (h s v e).done_is)
  where
    go : (xs : List SiteView) → ((s : ℕ) (v : SiteView) → slice_get xs s ≡ Some v → v.done ≡ 0) → dones_of xs ≡ replicate (length xs) 0
    go [] h = refl
    go (x ∷ xs) h = ap₂ ◌∷◌ (h 0 x refl) (go xs (λ s v e. h (suc s) v e))

pub first_is : (plan : PlanView) (sites : List SiteView) (v : SiteView) → (new : IsNewWorld plan sites) → slice_get sites 0 ≡ Some v → v.job ≡ new.job
first_is plan sites v new e = (new.each 0 v e).job_is

pub some_sites : (plan : PlanView) (sites : List SiteView) → IsNewWorld plan sites → 0 < length sites
some_sites plan sites new = new.some

pub new_dones : (plan : PlanView) (sites : List SiteView) → (new : IsNewWorld plan sites) → dones_of sites ≡ new_world (system_of new.job)
new_dones plan sites new = zeros sites new.job new.each ∙ ap (λ n. replicate n 0) (new.len ∙ ap (λ (q : PlanView). sites_of q) new.plan_is)

pub world_new : (plan : PlanView) (sites : List SiteView) (link_queues : List LinkQueue) (capacity : ℕ) → (new : IsNewWorld plan sites) → IsJob new.job → capacity ≡ plan.capacity → length link_queues ≡ length plan.links → ((l : ℕ) (x : LinkQueue) → slice_get link_queues l ≡ Some x → IsNewLinkQueue new.job.inputs.instants x) → IsWorld new.job sites link_queues capacity
world_new plan sites link_queues capacity new ok cap len fresh =
    let job = new.job in
    let good = subst (IsGood (system_of job)) (sym (new_dones plan sites new)) (good_new (system_of job)) in
    record {
      is_job = ok;
      capacity_is = cap ∙ ap (λ (q : PlanView). q.capacity) new.plan_is;
      sites_are = λ s v e. let h = new.each s v e in (h.job_is, h.site_is);
      link_queues_len = len ∙ ap (λ (q : PlanView). length q.links) new.plan_is;
      link_queues_are = λ l link_queue e.
          let h = fresh l link_queue e in
          let p : put_count (system_of job) (dones_of sites) l ≡ 0 = ap (λ (ds : ItemCounts). put_count (system_of job) ds l) (new_dones plan sites new) ∙ none (puts l) ((system_of job).script ((system_of job).sender l)) ((system_of job).sender l) in
          let q : taken_count (system_of job) (dones_of sites) l ≡ 0 = ap (λ (ds : ItemCounts). taken_count (system_of job) ds l) (new_dones plan sites new) ∙ none (takes l) ((system_of job).script ((system_of job).receiver l)) ((system_of job).receiver l) in
          link_queue_along job l link_queue 0 (put_count (system_of job) (dones_of sites) l) 0 (taken_count (system_of job) (dones_of sites) l) (sym p) (sym q) (record {
            put_is = h.put_is;
            put_len = ap length h.put_is;
            taken_is = h.taken_is;
            room = let r = h.room in let n = lists_short job l in omega (arith, r, n);
          });
      good = good;
    }
  where
    zero_at : (n site : ℕ) → done (replicate n 0) site ≡ 0
    zero_at zero site = refl
    zero_at (suc n) zero = refl
    zero_at (suc n) (suc site) = zero_at n site

    none : (p : Item → Bool) (xs : List Item) (site : ℕ) → count_by p (take (done (new_world (system_of new.job)) site) xs) ≡ 0
    none p xs site = ap (λ n. count_by p (take n xs)) (zero_at (system_of new.job).sites site)

take_drop : (n : ℕ) (xs : List Msg) → take n xs ++ drop n xs ≡ xs
take_drop zero xs = refl
take_drop (suc n) [] = refl
take_drop (suc n) (x ∷ xs) = ap (λ ys. x ∷ ys) (take_drop n xs)

-- what was taken, and that with what waits behind it, are prefixes of the list
pub take_begins : (n : ℕ) (xs : List Msg) → IsPrefixOf (take n xs) xs
take_begins n xs = (drop n xs, take_drop n xs)

pub both_begin : (n m : ℕ) (xs : List Msg) → n ≤ m → IsPrefixOf (take n xs ++ drop n (take m xs)) xs
both_begin n m xs le =
    let e : take n xs ++ drop n (take m xs) ≡ take m xs = ap (λ ys. ys ++ drop n (take m xs)) (sym (take-take n m xs le)) ∙ take_drop n (take m xs) in
    subst (λ (ys : List Msg). IsPrefixOf ys xs) (sym e) (take_begins m xs)
