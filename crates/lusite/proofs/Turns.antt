-- One item more.
use Rattle.std.proofs.Common.{filter, cond, nat_eq, ◌≡◌, ◌≢◌, ℕ, zero, suc, ◌+◌, ◌-◌, ◌<◌, ◌≤◌, ◌⊎◌, inl, inr, Bool, true, false, List, [], ◌∷◌, length, take, count_by, set, Option, Some, None, refl, sym, ap, ap₂, ◌∙◌, subst, arith}
use Rattle.std.specs.Prelude.{slice_get, slice_index, ◌&&◌, unwrap_or}
use Rattle.std.proofs.lemmas.List.{length-set, length-map}
use Rattle.std.specs.Option.{option_map}
use Rattle.std.proofs.lemmas.Option.{slice_get_within, same_Some}
use Rattle.std.proofs.lemmas.Bool.{cases_lt, lt-ltb, lt-leb}
use Rattle.luflow.specs.declared.data.Datum.{Datum}
use Rattle.luflow.specs.declared.data.Status.{Status}
use Rattle.luflow.specs.declared.data.Status.TheVariants.{Present}
use Rattle.luflow.specs.declared.form.Outcome.{Outcome}
use Rattle.luflow.specs.declared.form.Outcome.TheVariants.{Gives, Faults, Stuck}
use Rattle.luflow.specs.declared.form.FaultKind.{FaultKind}
use Rattle.luflow.specs.declared.message.Msg.{Msg}
use Rattle.luflow.specs.declared.message.Body.{Body}
use Rattle.luflow.specs.declared.message.Body.TheVariants.{Value, Close}
use Rattle.luflow.specs.Program.{flow_at, flows_of}
use Rattle.luflow.specs.Streams.{Mark, Known, is_broken, before}
use Rattle.luflow.specs.Values.{value_at, mark_of, under}
use Rattle.luflow.specs.Solution.{clock_of_flow}
use Rattle.luflow.specs.Faults.{IsFault}
use Rattle.luflow.specs.Messages.{presents, messages, marks}
use Rattle.luflow.proofs.Solutions.{IsSolution-solution}
use Rattle.luflow.proofs.Tidied.{stuck_broken}
use Rattle.luflow.proofs.FaultsFound.{is_fault}
use Rattle.luworld.specs.declared.link.Link.{Link}
use Rattle.luworld.specs.Systems.{Item, Compute, Puts, Takes, takes, takes_before}
use Rattle.luworld.specs.Outline.{messages_from}
use Rattle.luworld.specs.Needs.{PlanView, home, stands}
use Rattle.luworld.specs.Jobs.{JobView, IsCoherent, streams_of, sends, link_into, carried, carriers, flow_of_link, cell, endless, script, outline, system_of, items_before, link_list, messages_of}
use Rattle.luworld.proofs.Cuts.{cut_at}
use Rattle.luworld.proofs.Outlines.{broken_is, not_broken, list_long, flow_of_carried}
use Rattle.luworld.proofs.Cursor.{before_step, before_end}
use Rattle.luworld.proofs.Messages.{message_at, no_message_at}
use Rattle.lusite.specs.declared.next.Fault.{Fault}
use Rattle.lusite.specs.declared.state.SiteState.{SiteState}
use Rattle.lusite.specs.Machine.{is_faulted, IsFaultAt, Stands, IsReadyAt, Ready, Over, Computes, done_of, IsLocalNext, IsPutNext, IsTakeNext, with_body, shown_of, pasts_of}
use Rattle.lusite.specs.States.{IsGoing}
use Rattle.lusite.proofs.Machine.{stops_at, script_take, there, equation, stands_step, stands_stop}
use Rattle.lusite_program.proofs.Written.{slice_get-set_same, slice_get-set_other}
use Rattle.lusite.proofs.SiteStates.{Going, going_state, here_in, flow_same}
use Rattle.lusite.proofs.Reported.{lt-false}
use Rattle.lusite.proofs.Offers.{AtHand, ComputeAt, PutEarly, PutLate, TakeEarly, TakeLate, at_hand, Here, WorksOut, hand_next, computed_is, link_is, known_of_link, into_is, take_no, own_early, own_late, taken_late}
use Rattle.std.proofs.lemmas.List.FromFn.{length-range_with_len}
use Rattle.std.specs.List.{range_with_len}

and_left : (a b : Bool) → (a && b) ≡ true → a ≡ true
and_left true b h = refl
and_left false b h = h

over_none : (a : SiteState) (x : Item) → Going a → a.instant ≡ a.inputs.job.inputs.instants → a.place.value ≡ length a.inputs.job.plan.flat.order → a.step ≡ 0 → slice_get (script a.inputs.job (streams_of a.inputs.job) a.inputs.site) (done_of a) ≡ Some x → ⊥
unfolding endless
over_none a x g et ep ej e =
    let job = a.inputs.job in
    let σ = streams_of job in
    let n : done_of a ≡ length (endless job σ a.inputs.site) =
    ap (λ t. items_before job σ a.inputs.site t a.place.value a.step) et ∙ ap₂ (items_before job σ a.inputs.site job.inputs.instants) ep ej ∙ before_end job σ a.inputs.site in
    let l = slice_get_within (endless job σ a.inputs.site) (done_of a) x (sym (cut_at (outline job σ) [] (endless job σ a.inputs.site) (done_of a) (g.stands.no_stop refl)) ∙ e) in
    omega (arith, n)

-- where an item is next, a flow is at hand
pub here_from : (a : SiteState) (x : Item) → Going a → IsReadyAt a → slice_get (script a.inputs.job (streams_of a.inputs.job) a.inputs.site) (done_of a) ≡ Some x → Here a
here_from a x g (Ready lp lj) e = record { going_on = g; place_lt = lp; step_lt = lj }
here_from a x g (Over et ep ej) e = absurd (over_none a x g et ep ej e)

hand_of : (a : SiteState) (h : Here a) → AtHand a (slice_index a.inputs.job.plan.flat.order a.place.value)
hand_of a h = at_hand a (slice_index a.inputs.job.plan.flat.order a.place.value) h.going_on (here_in a h.going_on.set h.place_lt) h.step_lt

-- a computation that is at hand
pub record WorkAt (a : SiteState) (o : Outcome) : Type 0 where
  pub first : a.step ≡ 0
  pub early : a.instant < a.inputs.job.inputs.instants
  pub own : stands a.inputs.job.plan (slice_index a.inputs.job.plan.flat.order a.place.value) a.inputs.site ≡ true
  pub item : slice_get (cell a.inputs.job (streams_of a.inputs.job) a.inputs.site a.instant (slice_index a.inputs.job.plan.flat.order a.place.value)) a.step ≡ Some (Compute (slice_index a.inputs.job.plan.flat.order a.place.value) a.instant)
  pub works : WorksOut a.inputs.job (slice_index a.inputs.job.plan.flat.order a.place.value) a.instant o

work_hand : (a : SiteState) (h : Here a) (o : Outcome) → Computes a (slice_index a.inputs.job.plan.flat.order a.place.value) (flow_at a.program.plan.flat (slice_index a.inputs.job.plan.flat.order a.place.value)) o → (i t : ℕ) → slice_get (script a.inputs.job (streams_of a.inputs.job) a.inputs.site) (done_of a) ≡ Some (Compute i t) → AtHand a (slice_index a.inputs.job.plan.flat.order a.place.value) → WorkAt a o
work_hand a h o c i t e (ComputeAt own lt z open' item) =
    record { first = z; early = lt; own = own; item = item; works = computed_is a (slice_index a.inputs.job.plan.flat.order a.place.value) o h.going_on h.place_lt refl own lt open' c }
work_hand a h o c i t e (PutEarly own lt k ek open' item within) = let n = sym item ∙ sym (hand_next a h) ∙ e in absurd cc
work_hand a h o c i t e (PutLate own end item within) = let n = sym item ∙ sym (hand_next a h) ∙ e in absurd cc
work_hand a h o c i t e (TakeEarly other lt z open' into item) = let n = sym item ∙ sym (hand_next a h) ∙ e in absurd cc
work_hand a h o c i t e (TakeLate other end into item) = let n = sym item ∙ sym (hand_next a h) ∙ e in absurd cc

-- what is at hand where the next item is a computation
pub work_at : (a : SiteState) (o : Outcome) (g : Going a) → IsReadyAt a → IsLocalNext a.inputs.job a.inputs.site (done_of a) → Computes a (slice_index a.program.plan.flat.order a.place.value) (flow_at a.program.plan.flat (slice_index a.program.plan.flat.order a.place.value)) o → (a.place.value < length a.inputs.job.plan.flat.order) × WorkAt a o
work_at a o g ready next c =
    let h = here_from a (Compute next.0 next.1) g ready next.2 in
    let c' = subst (λ (k : ℕ). Computes a k (flow_at a.program.plan.flat k) o) (flow_same a g.set) c in
    (h.place_lt, work_hand a h o c' next.0 next.1 next.2 (hand_of a h))

own_hand : (a : SiteState) (h : Here a) (i t : ℕ) → slice_get (script a.inputs.job (streams_of a.inputs.job) a.inputs.site) (done_of a) ≡ Some (Compute i t) → AtHand a (slice_index a.inputs.job.plan.flat.order a.place.value) → stands a.inputs.job.plan (slice_index a.inputs.job.plan.flat.order a.place.value) a.inputs.site ≡ true
own_hand a h i t e (ComputeAt own lt z open' item) = own
own_hand a h i t e (PutEarly own lt k ek open' item within) = own
own_hand a h i t e (PutLate own end item within) = own
own_hand a h i t e (TakeEarly other lt z open' into item) = let n = sym item ∙ sym (hand_next a h) ∙ e in absurd cc
own_hand a h i t e (TakeLate other end into item) = let n = sym item ∙ sym (hand_next a h) ∙ e in absurd cc

-- where the next item is a computation, the flow at hand is one of the site's own
pub work_own : (a : SiteState) → Going a → IsReadyAt a → IsLocalNext a.inputs.job a.inputs.site (done_of a) → stands a.inputs.job.plan (slice_index a.inputs.job.plan.flat.order a.place.value) a.inputs.site ≡ true
work_own a g ready next =
    let h = here_from a (Compute next.0 next.1) g ready next.2 in
    own_hand a h next.0 next.1 next.2 (hand_of a h)

one_step : (a : SiteState) → a.step ≡ 0 → (a.step + 1 ≡ 1) × (items_before a.inputs.job (streams_of a.inputs.job) a.inputs.site a.instant a.place.value 1 ≡ done_of a + 1)
one_step a z =
    let one : a.step + 1 ≡ 1 = omega (arith, z) in
    (one, ap (items_before a.inputs.job (streams_of a.inputs.job) a.inputs.site a.instant a.place.value) (sym one) ∙ before_step a.inputs.job (streams_of a.inputs.job) a.inputs.site a.instant a.place.value a.step)

pub work_gives : (a : SiteState) (d : Datum) (g : Going a) → IsReadyAt a → IsLocalNext a.inputs.job a.inputs.site (done_of a) → Computes a (slice_index a.program.plan.flat.order a.place.value) (flow_at a.program.plan.flat (slice_index a.program.plan.flat.order a.place.value)) (Gives d) → Stands a.inputs.job a.inputs.site (set (shown_of a) (slice_index a.program.plan.flat.order a.place.value) (Present d)) (pasts_of a) a.instant a.place.value 1 (is_faulted a) × (items_before a.inputs.job (streams_of a.inputs.job) a.inputs.site a.instant a.place.value 1 ≡ done_of a + 1)
work_gives a d g ready next c =
    let job = a.inputs.job in
    let σ = streams_of job in
    let i = slice_index job.plan.flat.order a.place.value in
    let ij = g.set.is_job in
    let wa = work_at a (Gives d) g ready next c in
    let w = wa.1 in
    let li : i < length (shown_of a) = let n = g.stands.now_len in let m = w.works.inside in omega (arith, n, m) in
    let r = stands_step job a.inputs.site ij (shown_of a) (set (shown_of a) i (Present d)) (pasts_of a) a.instant a.place.value a.step (Compute i a.instant) g.stands wa.0 w.item (not_broken job ij i a.instant (ap is_broken w.works.mark)) (length-set (shown_of a) i (Present d)) (λ r ne. slice_get-set_other (shown_of a) i r (Present d) ne) (λ lt. record { status = Present d; there = slice_get-set_same (shown_of a) i (Present d) li; is = w.works.mark }) in
    let one = one_step a w.first in
    (subst (λ (b : Bool). Stands job a.inputs.site (set (shown_of a) (slice_index a.program.plan.flat.order a.place.value) (Present d)) (pasts_of a) a.instant a.place.value 1 b) (sym g.goes) (subst (λ (k : ℕ). Stands job a.inputs.site (set (shown_of a) k (Present d)) (pasts_of a) a.instant a.place.value 1 false) (sym (flow_same a g.set)) (subst (λ (j : ℕ). Stands job a.inputs.site (set (shown_of a) i (Present d)) (pasts_of a) a.instant a.place.value j false) one.0 r)), one.1)

pub work_faults : (a : SiteState) (kind : FaultKind) (g : Going a) → IsReadyAt a → IsLocalNext a.inputs.job a.inputs.site (done_of a) → Computes a (slice_index a.program.plan.flat.order a.place.value) (flow_at a.program.plan.flat (slice_index a.program.plan.flat.order a.place.value)) (Faults kind) → Stands a.inputs.job a.inputs.site (shown_of a) (pasts_of a) a.instant a.place.value 1 true × (items_before a.inputs.job (streams_of a.inputs.job) a.inputs.site a.instant a.place.value 1 ≡ done_of a + 1)
work_faults a kind g ready next c =
    let job = a.inputs.job in
    let i = slice_index job.plan.flat.order a.place.value in
    let ij = g.set.is_job in
    let wa = work_at a (Faults kind) g ready next c in
    let w = wa.1 in
    let r = stands_stop job a.inputs.site ij (shown_of a) (pasts_of a) a.instant a.place.value a.step (Compute i a.instant) g.stands wa.0 w.item w.first (broken_is job ij i a.instant w.works.inside w.early ∙ ap is_broken w.works.mark) in
    let one = one_step a w.first in
    (subst (λ (j : ℕ). Stands job a.inputs.site (shown_of a) (pasts_of a) a.instant a.place.value j true) one.0 r, one.1)

-- a computation that faults is the last item of the script
last_item : (a : SiteState) (kind : FaultKind) (g : Going a) → IsReadyAt a → IsLocalNext a.inputs.job a.inputs.site (done_of a) → Computes a (slice_index a.program.plan.flat.order a.place.value) (flow_at a.program.plan.flat (slice_index a.program.plan.flat.order a.place.value)) (Faults kind) → slice_get (script a.inputs.job (streams_of a.inputs.job) a.inputs.site) (length (script a.inputs.job (streams_of a.inputs.job) a.inputs.site) - 1) ≡ Some (Compute (slice_index a.inputs.job.plan.flat.order a.place.value) a.instant)
last_item a kind g ready next c =
    let job = a.inputs.job in
    let items = script job (streams_of job) a.inputs.site in
    let h = here_from a (Compute next.0 next.1) g ready next.2 in
    let r = work_faults a kind g ready next c in
    let whole = (r.0.stopped refl).0 in
    let more = r.1 in
    let place : length items - 1 ≡ done_of a = omega (arith, whole, more) in
    ap (slice_get items) place ∙ hand_next a h ∙ (work_at a (Faults kind) g ready next c).1.item

-- a fault that the machine reports is one of the solution, and of the last computation
pub work_fault : (a : SiteState) (fault : Fault) (g : Going a) → IsReadyAt a → IsLocalNext a.inputs.job a.inputs.site (done_of a) → Computes a (slice_index a.program.plan.flat.order a.place.value) (flow_at a.program.plan.flat (slice_index a.program.plan.flat.order a.place.value)) (Faults fault.kind) → fault.variable ≡ slice_index a.program.plan.flat.owners (slice_index a.program.plan.flat.order a.place.value) → fault.instant ≡ a.instant → IsFaultAt a.inputs.job a.inputs.site fault
work_fault a fault g ready next c ev et =
    let job = a.inputs.job in
    let i = slice_index job.plan.flat.order a.place.value in
    let w = (work_at a (Faults fault.kind) g ready next c).1 in
    let owner : slice_index job.plan.flat.owners i ≡ fault.variable =
    sym (ev ∙ ap₂ (λ (q : PlanView) k. slice_index q.flat.owners k) g.set.plan_is (flow_same a g.set)) in
    let is = is_fault job.plan.flat job.inputs (streams_of job) i a.instant fault.kind w.works.flow w.works.there w.works.clock w.works.value in
    record {
      place = i;
      inside = w.works.inside;
      own = w.own;
      owner = owner;
      in_time = let e = w.early in omega (arith, e, et);
      is = subst (λ (t : ℕ). IsFault job.plan.flat job.inputs (streams_of job) i t fault.kind) (sym et) is;
      last = last_item a fault.kind g ready next c ∙ ap (λ t. Some (Compute i t)) (sym et);
    }

-- a sound program's machine is never stuck
pub work_stuck : (a : SiteState) (g : Going a) → IsReadyAt a → IsLocalNext a.inputs.job a.inputs.site (done_of a) → Computes a (slice_index a.program.plan.flat.order a.place.value) (flow_at a.program.plan.flat (slice_index a.program.plan.flat.order a.place.value)) Stuck → ⊥
work_stuck a g ready next c =
    let job = a.inputs.job in
    let ij = g.set.is_job in
    let w = (work_at a Stuck g ready next c).1 in
    stuck_broken job.plan.flat job.inputs (streams_of job) ij.is_plan.ordered ij.is_plan.sound ij.fit (IsSolution-solution job.plan.flat job.inputs ij.is_plan.ordered) (slice_index job.plan.flat.order a.place.value) a.instant w.works.flow w.works.there w.early w.works.clock w.works.value w.works.unbroken

-- how long an own flow's cell is
put_size : (a : SiteState) (ok : IsCoherent a.inputs.job.plan) (i : ℕ) → i < flows_of a.inputs.job.plan.flat → stands a.inputs.job.plan i a.inputs.site ≡ true → (a.instant < a.inputs.job.inputs.instants) ⊎ (a.instant ≡ a.inputs.job.inputs.instants) → length (cell a.inputs.job (streams_of a.inputs.job) a.inputs.site a.instant i) ≤ length (sends a.inputs.job.plan a.inputs.site i) + 1
put_size a ok i li own (inl lt) = elim (cases_lt 0 (length (cell a.inputs.job (streams_of a.inputs.job) a.inputs.site a.instant i))) [
  | inl l ↦
      let w = own_early a.inputs.job (streams_of a.inputs.job) ok a.inputs.site a.instant i li (lt-ltb a.instant a.inputs.job.inputs.instants lt) own l in
      let n = ap length w.1 in
      let k = length-map (sends a.inputs.job.plan a.inputs.site i) Puts in
      omega (arith, n, k)
  | inr l ↦ omega arith
]
put_size a ok i li own (inr end) =
    let n = ap length (own_late a.inputs.job (streams_of a.inputs.job) ok a.inputs.site a.instant i li (lt-false a.instant a.inputs.job.inputs.instants (omega arith)) own) in
    let k = length-map (sends a.inputs.job.plan a.inputs.site i) Puts in
    omega (arith, n, k)

late_step : (a : SiteState) (ok : IsCoherent a.inputs.job.plan) (i : ℕ) → i < flows_of a.inputs.job.plan.flat → stands a.inputs.job.plan i a.inputs.site ≡ false → a.instant ≡ a.inputs.job.inputs.instants → a.step < length (cell a.inputs.job (streams_of a.inputs.job) a.inputs.site a.instant i) → a.step ≡ 0
late_step a ok i li other end l =
    let w = taken_late a.inputs.job (streams_of a.inputs.job) ok a.inputs.site a.instant i li (lt-false a.instant a.inputs.job.inputs.instants (omega arith)) other (omega arith) in
    let n = ap length w.1 in
    omega (arith, n)

body_len : (xs : List Status) (i : ℕ) (b : Body) → length (with_body xs i b) ≡ length xs
body_len xs i (Value d) = length-set xs i (Present d)
body_len xs i Close = refl

body_other : (xs : List Status) (i r : ℕ) (b : Body) → r ≢ i → slice_get (with_body xs i b) r ≡ slice_get xs r
body_other xs i r (Value d) ne = slice_get-set_other xs i r (Present d) ne
body_other xs i r Close ne = refl

-- a link that has a message is a link of the plan
option_there : (xs : List Link) (l : ℕ) (i : ℕ) → option_map (λ (k : Link). k.flow) (slice_get xs l) ≡ Some i → l < length xs
option_there [] l i e = cc
option_there (x ∷ xs) zero i e = omega arith
option_there (x ∷ xs) (suc l) i e = omega (arith, option_there xs l i e)

pub link_there : (job : JobView) (l k : ℕ) (m : Msg) → slice_get (link_list job (streams_of job) l) k ≡ Some m → l < length job.plan.links
unfolding link_list
link_there job l k m e = go (flow_of_link job.plan l) refl e
  where
    go : (o : Option ℕ) → flow_of_link job.plan l ≡ o → slice_get (messages_of job (streams_of job) o) k ≡ Some m → l < length job.plan.links
    go None h e = cc
    go (Some i) h e = option_there job.plan.links l i h

filter_few : (p : ℕ → Bool) (xs : List ℕ) → length (filter p xs) ≤ length xs
filter_few p [] = omega arith
filter_few p (x ∷ xs) = go (p x) (filter_few p xs)
  where
    go : (b : Bool) → length (filter p xs) ≤ length xs → length (cond b (x ∷ filter p xs) (filter p xs)) ≤ length (x ∷ xs)
    go true h = omega (arith, h)
    go false h = omega (arith, h)

sends_few : (plan : PlanView) (s i : ℕ) → IsCoherent plan → length (sends plan s i) ≤ 65536
sends_few plan s i ok = go (nat_eq (home plan i) s)
  where
    go : (b : Bool) → length (cond b (carriers plan i) []) ≤ 65536
    go true =
        let n = filter_few (λ l. nat_eq (carried plan l) i) (range_with_len 0 (length plan.links)) in
        let m = length-range_with_len 0 (length plan.links) in
        let k = ok.few_links in
        omega (arith, n, m, k)
    go false = omega arith

put_here : (a : SiteState) (h : Here a) → (l : ℕ) → slice_get (script a.inputs.job (streams_of a.inputs.job) a.inputs.site) (done_of a) ≡ Some (Puts l) → AtHand a (slice_index a.inputs.job.plan.flat.order a.place.value) → (a.instant < a.inputs.job.inputs.instants → 0 < a.step) × (a.step < 65538)
put_here a h l e (ComputeAt own lt z open' item) = let n = sym item ∙ sym (hand_next a h) ∙ e in absurd cc
put_here a h l e (PutEarly own lt j ej open' item within) =
    let few = sends_few a.inputs.job.plan a.inputs.site (slice_index a.inputs.job.plan.flat.order a.place.value) h.going_on.set.is_job.is_plan in
    let size = put_size a h.going_on.set.is_job.is_plan (slice_index a.inputs.job.plan.flat.order a.place.value) (here_in a h.going_on.set h.place_lt) own (inl lt) in
    let hh = h.step_lt in
    (λ _. omega arith, omega arith)
put_here a h l e (PutLate own end item within) =
    let few = sends_few a.inputs.job.plan a.inputs.site (slice_index a.inputs.job.plan.flat.order a.place.value) h.going_on.set.is_job.is_plan in
    let size = put_size a h.going_on.set.is_job.is_plan (slice_index a.inputs.job.plan.flat.order a.place.value) (here_in a h.going_on.set h.place_lt) own (inr end) in
    let hh = h.step_lt in
    (λ lt. absurd (omega arith), omega arith)
put_here a h l e (TakeEarly other lt z open' into item) = let n = sym item ∙ sym (hand_next a h) ∙ e in absurd cc
put_here a h l e (TakeLate other end into item) = let n = sym item ∙ sym (hand_next a h) ∙ e in absurd cc

pub sent_next : (a : SiteState) → IsGoing a → IsReadyAt a → IsPutNext a.inputs.job a.inputs.site (done_of a) → (a.step < 65538) × Stands a.inputs.job a.inputs.site (shown_of a) (pasts_of a) a.instant a.place.value (a.step + 1) (is_faulted a) × (items_before a.inputs.job (streams_of a.inputs.job) a.inputs.site a.instant a.place.value (a.step + 1) ≡ done_of a + 1)
sent_next a on ready next =
    let job = a.inputs.job in
    let σ = streams_of job in
    let i = slice_index job.plan.flat.order a.place.value in
    let g = going_state a on in
    let h = here_from a (Puts next.0) g ready next.1 in
    let w = put_here a h next.0 next.1 (hand_of a h) in
    let r = stands_step job a.inputs.site g.set.is_job (shown_of a) (shown_of a) (pasts_of a) a.instant a.place.value a.step (Puts next.0) g.stands h.place_lt (sym (hand_next a h) ∙ next.1) refl refl (λ r ne. refl) (λ lt. g.stands.here lt (w.0 lt) refl) in
    (w.1, subst (λ (b : Bool). Stands job a.inputs.site (shown_of a) (pasts_of a) a.instant a.place.value (a.step + 1) b) (sym g.goes) r, before_step job σ a.inputs.site a.instant a.place.value a.step)

-- what a taken message says of its flow
taken_mark : (s : ℕ → Mark) (n t : ℕ) (d : Datum) (v : Outcome) (m : Msg) → t < n → before s t ≡ Some d → s t ≡ mark_of v → slice_get (messages 0 (marks s n)) (presents s t) ≡ Some m → (x : Datum) × (s t ≡ Known (Present x)) × (m.body ≡ Value x)
taken_mark s n t d (Faults kind) m lt h e at = let f = sym (no_message_at s n t d lt h e) ∙ at in absurd cc
taken_mark s n t d Stuck m lt h e at = let f = sym (no_message_at s n t d lt h e) ∙ at in absurd cc
taken_mark s n t d (Gives x) m lt h e at =
    let f = sym (message_at s n t d x lt h e) ∙ at in
    let g : record { no = presents s t; body = Value x } ≡ m = same_Some (record { no = presents s t; body = Value x }) m f in
    (x, e, sym (ap (λ (k : Msg). k.body) g))

take_here : (a : SiteState) (h : Here a) → (l : ℕ) (m : Msg) → slice_get (script a.inputs.job (streams_of a.inputs.job) a.inputs.site) (done_of a) ≡ Some (Takes l) → slice_get (link_list a.inputs.job (streams_of a.inputs.job) l) (takes_before (system_of a.inputs.job) l a.inputs.site (done_of a)) ≡ Some m → AtHand a (slice_index a.inputs.job.plan.flat.order a.place.value) → (a.step ≡ 0) × (stands a.inputs.job.plan (slice_index a.inputs.job.plan.flat.order a.place.value) a.inputs.site ≡ false) × (a.instant < a.inputs.job.inputs.instants → (x : Datum) × (streams_of a.inputs.job (slice_index a.inputs.job.plan.flat.order a.place.value) a.instant ≡ Known (Present x)) × (m.body ≡ Value x))
take_here a h l m e at (ComputeAt own lt z open' item) = let n = sym item ∙ sym (hand_next a h) ∙ e in absurd cc
take_here a h l m e at (PutEarly own lt j ej open' item within) = let n = sym item ∙ sym (hand_next a h) ∙ e in absurd cc
take_here a h l m e at (PutLate own end item within) = let n = sym item ∙ sym (hand_next a h) ∙ e in absurd cc
take_here a h l m e at (TakeLate other end into item) = (let hh = h.step_lt in let z = late_step a h.going_on.set.is_job.is_plan (slice_index a.inputs.job.plan.flat.order a.place.value) (here_in a h.going_on.set h.place_lt) other end hh in z, other, λ lt. absurd (omega arith))
take_here a h l m e at (TakeEarly other lt z open' into item) =
    let job = a.inputs.job in
    let σ = streams_of job in
    let i = slice_index job.plan.flat.order a.place.value in
    let g = h.going_on in
    let f = there job a.inputs.site g.set.is_job a.place.value h.place_lt in
    let n = sym item ∙ sym (hand_next a h) ∙ e in
    let n' = n in
    let el : unwrap_or (link_into job.plan a.inputs.site i) 0 ≡ l = cc in
    let into' : link_into job.plan a.inputs.site i ≡ Some l = into ∙ ap Some el in
    let ci = into_is job.plan a.inputs.site i l into' in
    let ek = take_no a h l into' (item ∙ n') in
    let flow = flow_of_carried job.plan l i ci.0 ci.1 in
    let at' = ap (slice_get (messages 0 (marks (σ i) job.inputs.instants))) (sym ek) ∙ sym (ap (λ xs. slice_get xs (takes_before (system_of job) l a.inputs.site (done_of a))) (link_is job l i flow)) ∙ at in
    let w = g.stands.known i f.2 (known_of_link job.plan a.inputs.site i (unwrap_or (link_into job.plan a.inputs.site i) 0) into) in
    let v = value_at job.inputs σ f.0.clock f.0.form a.instant in
    let open'' = sym (ap (λ o. clock_of_flow job.inputs σ o a.instant) f.1) ∙ open' in
    let eq = equation job a.inputs.site g.set.is_job i a.instant f.0 f.1 f.2 lt ∙ ap (λ c. under c v) open'' in
    (z, other, λ _. taken_mark (σ i) job.inputs.instants a.instant w.past.last v m lt w.last eq at')

-- a take of a message that comes is no stop
take_goes : (a : SiteState) (g : Going a) (l : ℕ) (m : Msg) → slice_get (link_list a.inputs.job (streams_of a.inputs.job) l) (takes_before (system_of a.inputs.job) l a.inputs.site (done_of a)) ≡ Some m → stops_at a.inputs.job a.inputs.site (done_of a) (Takes l) ≡ false
take_goes a g l m at =
    let job = a.inputs.job in
    let σ = streams_of job in
    let k = takes_before (system_of job) l a.inputs.site (done_of a) in
    let lt : k < length (link_list job σ l) = slice_get_within (link_list job σ l) k m at in
    let e : k ≡ count_by (takes l) (take (done_of a) (endless job σ a.inputs.site)) = ap (count_by (takes l)) (script_take job a.inputs.site g.set.is_job (shown_of a) (pasts_of a) a.instant a.place.value a.step g.stands) in
    let n = list_long job g.set.is_job l (link_there job l (takes_before (system_of job) l a.inputs.site (done_of a)) m at) in
    lt-leb (messages_from (outline job σ) (carried job.plan l) 0 job.inputs.instants) (count_by (takes l) (take (done_of a) (endless job σ a.inputs.site))) (omega (arith, lt, e, n))

pub given_next : (a : SiteState) (m : Msg) → IsGoing a → IsReadyAt a → IsTakeNext a.inputs.job a.inputs.site (done_of a) m → Stands a.inputs.job a.inputs.site (with_body (shown_of a) (slice_index a.program.plan.flat.order a.place.value) m.body) (pasts_of a) a.instant a.place.value 1 (is_faulted a) × (items_before a.inputs.job (streams_of a.inputs.job) a.inputs.site a.instant a.place.value 1 ≡ done_of a + 1)
given_next a m on ready next =
    let job = a.inputs.job in
    let σ = streams_of job in
    let i = slice_index job.plan.flat.order a.place.value in
    let g = going_state a on in
    let h = here_from a (Takes next.0) g ready next.1 in
    let ei : slice_index a.program.plan.flat.order a.place.value ≡ i = flow_same a g.set in
    let w = take_here a h next.0 m next.1 next.2 (hand_of a h) in
    let f = there job a.inputs.site g.set.is_job a.place.value h.place_lt in
    let li : i < length (shown_of a) = omega (arith, g.stands.now_len, f.2) in
    let r = stands_step job a.inputs.site g.set.is_job (shown_of a) (with_body (shown_of a) i m.body) (pasts_of a) a.instant a.place.value a.step (Takes next.0) g.stands h.place_lt (sym (hand_next a h) ∙ next.1) (take_goes a g next.0 m next.2) (body_len (shown_of a) i m.body) (λ r ne. body_other (shown_of a) i r m.body ne) (λ lt. let v = w.2 lt in record { status = Present v.0; there = ap (λ b. slice_get (with_body (shown_of a) i b) i) v.2 ∙ slice_get-set_same (shown_of a) i (Present v.0) li; is = v.1 }) in
    let one : a.step + 1 ≡ 1 = omega (arith, w.0) in
    (subst (λ (b : Bool). Stands job a.inputs.site (with_body (shown_of a) (slice_index a.program.plan.flat.order a.place.value) m.body) (pasts_of a) a.instant a.place.value 1 b) (sym g.goes) (subst (λ (k : ℕ). Stands job a.inputs.site (with_body (shown_of a) k m.body) (pasts_of a) a.instant a.place.value 1 false) (sym ei) (subst (λ (j : ℕ). Stands job a.inputs.site (with_body (shown_of a) i m.body) (pasts_of a) a.instant a.place.value j false) one r)), ap (items_before job σ a.inputs.site a.instant a.place.value) (sym one) ∙ before_step job σ a.inputs.site a.instant a.place.value a.step)

-- where the next item is a put, the flow was computed, or the closes are on
pub sent_at : (a : SiteState) → IsGoing a → IsReadyAt a → IsPutNext a.inputs.job a.inputs.site (done_of a) → (0 < a.step) ⊎ (a.inputs.job.inputs.instants ≤ a.instant)
sent_at a on ready next =
    let g = going_state a on in
    let h = here_from a (Puts next.0) g ready next.1 in
    let w = put_here a h next.0 next.1 (hand_of a h) in
    elim (cases_lt a.instant a.inputs.job.inputs.instants) [ inl lt ↦ inl (w.0 lt) | inr ge ↦ inr ge ]

-- where the next item is a take, the flow is none of the site's own
pub given_at : (a : SiteState) (m : Msg) → IsGoing a → IsReadyAt a → IsTakeNext a.inputs.job a.inputs.site (done_of a) m → (a.step ≡ 0) × (a.place.value < length a.inputs.job.plan.flat.order) × (stands a.inputs.job.plan (slice_index a.inputs.job.plan.flat.order a.place.value) a.inputs.site ≡ false)
given_at a m on ready next =
    let g = going_state a on in
    let h = here_from a (Takes next.0) g ready next.1 in
    let w = take_here a h next.0 m next.1 next.2 (hand_of a h) in
    (w.0, h.place_lt, w.1)

-- the same, for the flow that the code names
pub compute_here : (a : SiteState) (k : ℕ) (o : Outcome) → k ≡ slice_index a.program.plan.flat.order a.place.value → Computes a k (flow_at a.program.plan.flat k) o → Computes a (slice_index a.program.plan.flat.order a.place.value) (flow_at a.program.plan.flat (slice_index a.program.plan.flat.order a.place.value)) o
compute_here a k o e c = subst (λ (j : ℕ). Computes a j (flow_at a.program.plan.flat j) o) e c

pub place_in_plan : (a : SiteState) (g : Going a) → a.place.value < length a.inputs.job.plan.flat.order → a.place.value < length a.program.plan.flat.order
place_in_plan a g l = subst (λ (q : PlanView). a.place.value < length q.flat.order) (sym g.set.plan_is) l
