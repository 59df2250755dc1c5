-- The ends of a site's links, where they stand among its ends.
use Rattle.std.proofs.Common.{◌≡◌, ℕ, zero, suc, ◌+◌, ◌-◌, ◌<◌, inl, inr, Bool, true, false, cond, nat_eq, List, [], ◌∷◌, filter, flat_map, length, map, Some, Option, refl, sym, ap, ◌∙◌, subst, arith}
use Rattle.std.specs.Prelude.{slice_get, unwrap_or, slice_index}
use Rattle.std.specs.List.{range_with_len}
use Rattle.std.specs.List.Sorted.{IsStrictlyIncreasing}
use Rattle.std.specs.Option.{option_map}
use Rattle.std.proofs.lemmas.Bool.{eq-eqb, cases_lt}
use Rattle.std.proofs.lemmas.List.Kept.{IsStrictlyIncreasing-filter}
use Rattle.std.proofs.lemmas.List.FromFn.{get_or-range_with_len, length-range_with_len}
use Rattle.std.proofs.lemmas.Option.{slice_get_within, slice_get_past, slice_get-map, slice_get-get_or, get_or_from_slice_get, none-some}
use Rattle.luflow.specs.declared.message.Msg.{Msg}
use Rattle.luflow.proofs.Solutions.{some_at}
use Rattle.luworld.specs.declared.link.Link.{Link}
use Rattle.luworld.specs.Needs.{PlanView, sites_of, home, is_linked, links_of_variable, IsPlan}
use Rattle.luworld.specs.Systems.{puts_before}
use Rattle.luworld.specs.Jobs.{JobView, IsJobView, system_of, streams_of, link_list, messages_of, carried}
use Rattle.luworld.proofs.Fitting.{job_of_run}
use Rattle.luworld.proofs.Outlines.{is_wired}
use Rattle.luworld.proofs.Wired.{each_flat_map, each_at, Each}
use Rattle.lulink.specs.Views.{SenderView, ReceiverView}
use Rattle.lusite.specs.declared.next.Next.TheVariants.{Put, Take}
use Rattle.lusite.specs.Sites.{SiteView}
use Rattle.lusite.specs.Machine.{IsNext}
use Rattle.lurun.specs.Ends.{sender_at, receiver_at, sent_links, taken_links}
use Rattle.lurun.specs.Items.{AreSenders, AreReceivers}
use Rattle.lurun.proofs.Acts.{below, once, range_increasing}

-- ---- places among ends in order of their links

module _ {T : Type 0} (link : T → ℕ) where
  link_at : (ts : List T) (k : ℕ) (t : T) → slice_get ts k ≡ Some t → slice_get (map link ts) k ≡ Some (link t)
  link_at ts k t e = slice_get-map link ts k ∙ ap (option_map link) e

  -- a lesser link stands before
  pub before : (ts : List T) → IsStrictlyIncreasing (map link ts) → (j k : ℕ) (x y : T) → slice_get ts j ≡ Some x → slice_get ts k ≡ Some y → link x < link y → j < k
  before ts inc j k x y ej ek lt = elim (cases_lt j k) [
    | inl less ↦ less
    | inr ge ↦ elim (cases_lt k j) [
      | inl more ↦ absurd (let h = ordered k j more y x ek ej in omega (arith, h, lt))
      | inr le ↦ absurd (let same : k ≡ j = omega (arith, ge, le) in let z = ap link (some_same (sym ek ∙ ap (slice_get ts) same ∙ ej)) in omega (arith, z, lt))
    ]
  ]
    where
      some_same : {u w : T} → Some u ≡ Some w → u ≡ w
      some_same e = cc

      ordered : (a b : ℕ) → a < b → (u w : T) → slice_get ts a ≡ Some u → slice_get ts b ≡ Some w → link u < link w
      ordered a b lt u w ea eb =
          let within = slice_get_within (map link ts) b (link w) (link_at ts b w eb) in
          let d : a + suc (b - suc a) ≡ b = omega (arith, lt) in
          let h = below (map link ts) inc a (b - suc a) (omega (arith, d, within)) in
          let ya : slice_index (map link ts) a ≡ link u = get_or_from_slice_get (map link ts) a (link u) 0 (link_at ts a u ea) in
          let yb : slice_index (map link ts) b ≡ link w = get_or_from_slice_get (map link ts) b (link w) 0 (link_at ts b w eb) in
          let yc = ap (slice_index (map link ts)) d in
          omega (arith, h, ya, yb, yc)

  pub same_place : (ts : List T) → IsStrictlyIncreasing (map link ts) → (j k : ℕ) (x y : T) → slice_get ts j ≡ Some x → slice_get ts k ≡ Some y → link x ≡ link y → j ≡ k
  same_place ts inc j k x y ej ek e = once (map link ts) inc j k (link x) (link_at ts j x ej) (link_at ts k y ek ∙ ap Some (sym e))

  -- the end of a link that passes the test is there
  pub end_there : (q : ℕ → Bool) (n : ℕ) (ts : List T) → map link ts ≡ filter q (range_with_len 0 n) → (l : ℕ) → l < n → q l ≡ true → (k : ℕ) × (t : T) × (slice_get ts k ≡ Some t) × (link t ≡ l)
  end_there q n ts is l lt passes =
      let len = length-range_with_len 0 n in
      let here : slice_get (range_with_len 0 n) l ≡ Some l = slice_get-get_or (range_with_len 0 n) l 0 (omega (arith, lt, len)) ∙ ap Some (get_or-range_with_len 0 n l 0 lt ∙ (let e : 0 + l ≡ l = omega arith in e)) in
      let found = kept q (range_with_len 0 n) l l here passes in
      of_map ts found.0 (ap (λ ys. slice_get ys found.0) is ∙ found.1)
    where
      kept : (p : ℕ → Bool) (xs : List ℕ) (i x : ℕ) → slice_get xs i ≡ Some x → p x ≡ true → (k : ℕ) × (slice_get (filter p xs) k ≡ Some x)
      kept p [] i x e t = absurd cc
      kept p (y ∷ ys) zero x e t =
          let same : y ≡ x = cc in
          (0, ap (λ b. slice_get (cond b (y ∷ filter p ys) (filter p ys)) 0) (ap p same ∙ t) ∙ ap Some same)
      kept p (y ∷ ys) (suc i) x e t = let rest = kept p ys i x e t in go (p y) refl rest
        where
          go : (b : Bool) → p y ≡ b → (k : ℕ) × (slice_get (filter p ys) k ≡ Some x) → (k : ℕ) × (slice_get (filter p (y ∷ ys)) k ≡ Some x)
          go true is rest = (suc rest.0, ap (λ b. slice_get (cond b (y ∷ filter p ys) (filter p ys)) (suc rest.0)) is ∙ rest.1)
          go false is rest = (rest.0, ap (λ b. slice_get (cond b (y ∷ filter p ys) (filter p ys)) rest.0) is ∙ rest.1)

      of_map : (xs : List T) (k : ℕ) → slice_get (map link xs) k ≡ Some l → (j : ℕ) × (t : T) × (slice_get xs j ≡ Some t) × (link t ≡ l)
      of_map [] k e = absurd cc
      of_map (x ∷ xs) zero e = (0, x, refl, (let z : link x ≡ l = cc in z))
      of_map (x ∷ xs) (suc k) e = let rest = of_map xs k e in (suc rest.0, rest.1, rest.2, rest.3)

pub in_order : (q : ℕ → Bool) (n : ℕ) (ls : List ℕ) → ls ≡ filter q (range_with_len 0 n) → IsStrictlyIncreasing ls
in_order q n ls is = subst IsStrictlyIncreasing (sym is) (IsStrictlyIncreasing-filter q (range_with_len 0 n) (range_increasing n))

-- ---- the links of the next item

-- a link is sent from the site of the variable that it carries
sent_home : (plan : PlanView) → IsPlan plan → (l : ℕ) (k : Link) → slice_get plan.links l ≡ Some k → k.from ≡ home plan k.flow
sent_home plan is l k e =
    let P : Link → Type 0 = λ k. k.from ≡ home plan k.flow in
    each_at P (flat_map (links_of_variable plan) (range_with_len 0 (length plan.flat.variables)))
    (each_flat_map P (links_of_variable plan) (λ v. each_of v (filter (is_linked plan v) (range_with_len 0 (sites_of plan)))) (range_with_len 0 (length plan.flat.variables))) l k
    (ap (λ ks. slice_get ks l) (sym is.links_are) ∙ e)
  where
    each_of : (v : ℕ) (ss : List ℕ) → Each (λ (k : Link). k.from ≡ home plan k.flow) (map (λ s. record { flow = v; from = home plan v; to = s }) ss)
    each_of v [] = tt
    each_of v (s ∷ ss) = (refl, each_of v ss)

sender_home : (plan : PlanView) → IsPlan plan → (l : ℕ) → l < length plan.links → sender_at plan l ≡ home plan (carried plan l)
sender_home plan is l lt =
    let w = some_at plan.links l lt in
    ap (λ (o : Option Link). unwrap_or (option_map (λ (k : Link). k.from) o) 0) w.1 ∙ sent_home plan is l w.0 w.1 ∙ ap (λ (o : Option Link). home plan (unwrap_or (option_map (λ (k : Link). k.flow) o) 0)) (sym w.1)

module _ (job : JobView) (is : IsJobView job) (site n l : ℕ) where
  pub put_from : (m : Msg) → IsNext job site n (Put l m) → (l < length job.plan.links) × (sender_at job.plan l ≡ site)
  unfolding link_list
  put_from m next = (within, sender_home job.plan is.plan_is l within ∙ sym ((is_wired job (job_of_run job is)).put_by_sender site n l next.0))
    where
      nothing : link_list job (streams_of job) l ≡ [] → ⊥
      nothing gone = none-some m (ap (λ ms. slice_get ms (puts_before (system_of job) l site n)) (sym gone) ∙ next.1)

      within : l < length job.plan.links
      within = elim (cases_lt l (length job.plan.links)) [
        | inl lt ↦ lt
        | inr ge ↦ absurd (nothing (ap (λ (o : Option Link). messages_of job (streams_of job) (option_map (λ (k : Link). k.flow) o)) (slice_get_past job.plan.links l ge)))
      ]

  pub take_into : IsNext job site n (Take l) → receiver_at job.plan l ≡ site
  take_into next = sym ((is_wired job (job_of_run job is)).taken_by_receiver site n l next.0)

-- the end of the next item's link is among the site's, which are in order of their links
pub put_end : (v : SiteView) (txs : List SenderView) (l : ℕ) (m : Msg) → IsJobView v.job → AreSenders v txs → IsNext v.job v.site v.done (Put l m)
    → IsStrictlyIncreasing (sent_links txs) × ((k : ℕ) × (t : SenderView) × (slice_get txs k ≡ Some t) × (t.link ≡ l))
put_end v txs l m is are next =
    let q : ℕ → Bool = λ n. nat_eq (sender_at v.job.plan n) v.site in
    let from = put_from v.job is v.site v.done l m next in
    (in_order q (length v.job.plan.links) (sent_links txs) are.links, end_there (λ (t : SenderView). t.link) q (length v.job.plan.links) txs are.links l from.0 (eq-eqb (sender_at v.job.plan l) v.site from.1))

pub take_end : (v : SiteView) (rxs : List ReceiverView) (l : ℕ) → IsJobView v.job → AreReceivers v rxs → IsNext v.job v.site v.done (Take l)
    → IsStrictlyIncreasing (taken_links rxs) × ((k : ℕ) × (t : ReceiverView) × (slice_get rxs k ≡ Some t) × (t.link ≡ l))
take_end v rxs l is are next =
    let q : ℕ → Bool = λ n. nat_eq (receiver_at v.job.plan n) v.site in
    (in_order q (length v.job.plan.links) (taken_links rxs) are.links, end_there (λ (t : ReceiverView). t.link) q (length v.job.plan.links) rxs are.links l next.1 (eq-eqb (receiver_at v.job.plan l) v.site (take_into v.job is v.site v.done l next)))
