-- What the machine of a site offers is the next item of its script.
use Rattle.std.proofs.Common.{◌≡◌, ◌≢◌, ℕ, zero, suc, ◌-◌, ◌<◌, inl, inr, Bool, true, false, cond, List, [], ◌∷◌, ◌++◌, count_by, length, take, set, get_or, map, Option, Some, None, refl, sym, ap, ap₂, ◌∙◌, subst, arith}
use Rattle.std.specs.Prelude.{slice_get, slice_index, All, Contains, ◌||◌, ◌&&◌, ◌==◌, nat_lt, is_some, if◌then◌else◌, unwrap_or}
use Rattle.std.specs.Option.{option_map}
use Rattle.std.proofs.lemmas.List.{length-map}
use Rattle.std.proofs.lemmas.List.Quantifiers.{position-Some}
use Rattle.std.proofs.lemmas.List.Elements.{All-weaker}
use Rattle.std.proofs.lemmas.Option.{slice_get-get_or, slice_get-map, slice_get_past}
use Rattle.std.proofs.lemmas.Bool.{cases_lt, false≢true, lt-ltb, eqb-true}
use Rattle.luflow.specs.declared.data.Datum.{Datum}
use Rattle.luflow.specs.declared.data.Datum.TheVariants.{Nil}
use Rattle.luflow.specs.declared.data.Status.{Status}
use Rattle.luflow.specs.declared.data.Status.TheVariants.{Absent, Present}
use Rattle.luflow.specs.declared.form.Form.{Form}
use Rattle.luflow.specs.declared.form.Form.TheVariants.{Input, Constant, Copied, Unary, Binary, If, Pre, Arrow, When, Current, Merge}
use Rattle.luflow.specs.declared.form.Flow.{Flow}
use Rattle.luflow.specs.declared.form.Outcome.{Outcome}
use Rattle.luflow.specs.declared.form.Outcome.TheVariants.{Gives, Faults, Stuck}
use Rattle.luflow.specs.declared.message.Body.TheVariants.{Value, Close}
use Rattle.luflow.specs.Program.{FlatView, InputsView, flow_at, flows_of, places, form_reads, clock_reads}
use Rattle.luflow.specs.Streams.{Mark, Known, Broken, Streams, is_broken, clock_at, ticked, before}
use Rattle.luflow.specs.Values.{value_of, value_at, mark_of, under}
use Rattle.luflow.specs.Solution.{clock_of_flow}
use Rattle.luflow.specs.Sound.{IsUnbroken}
use Rattle.luflow.specs.Messages.{presents, messages, marks}
use Rattle.luflow.proofs.Solutions.{all_left}
use Rattle.luworld.specs.declared.link.Link.{Link}
use Rattle.luworld.specs.Systems.{Item, Compute, Puts, Takes, puts, takes, puts_before, takes_before}
use Rattle.luworld.specs.Outline.{shows}
use Rattle.luworld.specs.Needs.{PlanView, stands, home}
use Rattle.luworld.specs.Jobs.{JobView, IsCoherent, streams_of, knows, sends, link_into, is_into, listed, carried, receiver_of, flow_of_link, is_open, cell, script, outline, system_of, items_before, link_list, messages_of}
use Rattle.luworld.proofs.Outlines.{bool_cases, cell_is, carrier_is, flow_of_carried, is_outline, shows_is}
use Rattle.luworld.proofs.Cursor.{puts_done, takes_done}
use Rattle.luworld.proofs.Messages.{newer_back, message_at, close_at}
use Rattle.lueval_lines.specs.declared.past.Past.{Past}
use Rattle.lueval_lines.specs.Frames.{datum_there, ticked_in, view_in, IsShown, IsPast}
use Rattle.lusite.specs.KeptFlows.{Looked, Sent}
use Rattle.lusite.proofs.Looking.{HoldsBack, value_back, looked_all}
use Rattle.lusite.specs.declared.next.Next.{Next}
use Rattle.lusite.specs.declared.next.Next.TheVariants.{Local, Take, Put, Ended, Faulted}
use Rattle.lusite.specs.declared.state.SiteState.{SiteState}
use Rattle.lusite_program.specs.Programs.{part_of}
use Rattle.lusite.specs.Machine.{is_faulted, HasPast, Stands, StandsAt, IsSet, IsReadyAt, Ready, Over, Computes, outcome_of, count_kept, datum_shown, offered_own, offered_part, offered_at, offered, done_of, IsNext, shown_of, pasts_of}
use Rattle.lusite.proofs.Machine.{there, equation, reads_shown, next_item, ended, script_take}
use Rattle.lusite.proofs.SiteStates.{Going, going, part_here, here_in}
use Rattle.lusite.proofs.Reported.{lt-false}

-- the items of a cell, by their kind
open_items : (k : Option Bool) (xs : List Item) → 0 < length (cond (is_open k) xs []) → (k ≡ Some true) × (cond (is_open k) xs [] ≡ xs)
open_items None xs l = absurd (omega arith)
open_items (Some false) xs l = absurd (omega arith)
open_items (Some true) xs l = (refl, refl)

module _ (job : JobView) (σ : Streams) (ok : IsCoherent job.plan) (s t i : ℕ) (li : i < flows_of job.plan.flat) where
  abbrev list_at : Bool → Bool → List Item
  list_at early own = cond early (cond (is_open (clock_of_flow job.inputs σ (flow_at job.plan.flat i) t)) (cond own (Compute i t ∷ []) [] ++ cond own (map Puts (sends job.plan s i)) (map Takes (listed (link_into job.plan s i)))) []) (cond own (map Puts (sends job.plan s i)) (map Takes (listed (link_into job.plan s i))))

  pub own_early : nat_lt t job.inputs.instants ≡ true → stands job.plan i s ≡ true → 0 < length (cell job σ s t i) → (clock_of_flow job.inputs σ (flow_at job.plan.flat i) t ≡ Some true) × (cell job σ s t i ≡ Compute i t ∷ map Puts (sends job.plan s i))
  own_early early own l =
      let e = cell_is job σ ok s t i li ∙ ap₂ list_at early own in
      let n = ap length e in
      let w = open_items (clock_of_flow job.inputs σ (flow_at job.plan.flat i) t) (Compute i t ∷ map Puts (sends job.plan s i)) (omega (arith, n)) in
      (w.0, e ∙ w.1)

  pub own_late : nat_lt t job.inputs.instants ≡ false → stands job.plan i s ≡ true → cell job σ s t i ≡ map Puts (sends job.plan s i)
  own_late late own = cell_is job σ ok s t i li ∙ ap₂ list_at late own

  one_take : (o : Option ℕ) → 0 < length (map Takes (listed o)) → (o ≡ Some (unwrap_or o 0)) × (map Takes (listed o) ≡ Takes (unwrap_or o 0) ∷ [])
  one_take None l = absurd (omega arith)
  one_take (Some x) l = (refl, refl)

  pub taken_early : nat_lt t job.inputs.instants ≡ true → stands job.plan i s ≡ false → 0 < length (cell job σ s t i) → (clock_of_flow job.inputs σ (flow_at job.plan.flat i) t ≡ Some true) × (link_into job.plan s i ≡ Some (unwrap_or (link_into job.plan s i) 0)) × (cell job σ s t i ≡ Takes (unwrap_or (link_into job.plan s i) 0) ∷ [])
  taken_early early own l =
      let e = cell_is job σ ok s t i li ∙ ap₂ list_at early own in
      let ys = map Takes (listed (link_into job.plan s i)) in
      let n = ap length e in
      let w = open_items (clock_of_flow job.inputs σ (flow_at job.plan.flat i) t) ys (omega (arith, n)) in
      let m = ap length w.1 in
      let v = one_take (link_into job.plan s i) (omega (arith, n, m)) in
      (w.0, v.0, e ∙ w.1 ∙ v.1)

  pub taken_late : nat_lt t job.inputs.instants ≡ false → stands job.plan i s ≡ false → 0 < length (cell job σ s t i) → (link_into job.plan s i ≡ Some (unwrap_or (link_into job.plan s i) 0)) × (cell job σ s t i ≡ Takes (unwrap_or (link_into job.plan s i) 0) ∷ [])
  taken_late early own l =
      let e = cell_is job σ ok s t i li ∙ ap₂ list_at early own in
      let n = ap length e in
      let v = one_take (link_into job.plan s i) (omega (arith, n)) in
      (v.0, e ∙ v.1)

-- item j of a flow's puts
put_there : (outs : List ℕ) (j : ℕ) → j < length (map Puts outs) → (slice_get (map Puts outs) j ≡ Some (Puts (slice_index outs j))) × (j < length outs)
put_there outs j l =
    let n = length-map outs Puts in
    let lj : j < length outs = omega (arith, n) in
    (slice_get-map Puts outs j ∙ ap (option_map Puts) (slice_get-get_or outs j 0 lj), lj)

pub known_of_own : (plan : PlanView) (s i : ℕ) → stands plan i s ≡ true → knows plan s i ≡ true
known_of_own plan s i own = ap (λ b. b || is_some (link_into plan s i)) own

or_true : (a b : Bool) → b ≡ true → (a || b) ≡ true
or_true true b h = refl
or_true false b h = h

pub known_of_link : (plan : PlanView) (s i l : ℕ) → link_into plan s i ≡ Some l → knows plan s i ≡ true
known_of_link plan s i l e = or_true (stands plan i s) (is_some (link_into plan s i)) (ap is_some e)

reads_places : (P : ℕ → Type 0) (form : Form) → All P (places form) → All P (form_reads form)
reads_places P (Input c) h = h
reads_places P (Constant d) h = h
reads_places P (Copied a) h = h
reads_places P (Unary op a) h = h
reads_places P (Binary op a b) h = h
reads_places P (If c a b) h = h
reads_places P (Pre a) h = λ k d l. absurd (omega arith)
reads_places P (Arrow a b) h = h
reads_places P (When a) h = h
reads_places P (Current a) h = h
reads_places P (Merge c xs) h = h

-- a stream that has a last datum before t is broken nowhere before it
before_known : (s : ℕ → Mark) (t : ℕ) (d : Datum) → before s t ≡ Some d → (u : ℕ) → u < t → s u ≢ Broken
before_known s zero d h u l = absurd (omega arith)
before_known s (suc t) d h u l =
    let b = newer_back (s t) (before s t) d h in
    elim (cases_lt u t) [
      | inl lt ↦ before_known s t b.1 b.2 u lt
      | inr ge ↦ λ e. let same : t ≡ u = omega arith in let f = ap is_broken (ap s same ∙ e) in false≢true (sym b.0 ∙ f)
    ]

known_unbroken : (m : Mark) (status : Status) → m ≡ Known status → m ≢ Broken
known_unbroken m status e f = let g : Known status ≡ Broken = sym e ∙ f in cc

ticked_there : (o : Option Past) (past : Past) (b : Option Bool) → o ≡ Some past → b ≡ Some past.ticked → b ≡ ticked_in o
ticked_there o past b e h = h ∙ sym (ap ticked_in e)

-- what the machine of a site works out for a flow of its own, whose clock is true
pub record WorksOut (job : JobView) (i t : ℕ) (o : Outcome) : Type 0 where
  pub flow : Flow
  pub there : flow_at job.plan.flat i ≡ Some flow
  pub inside : i < flows_of job.plan.flat
  pub clock : clock_at job.inputs (streams_of job) flow.clock t ≡ Some true
  pub value : value_at job.inputs (streams_of job) flow.clock flow.form t ≡ o
  pub unbroken : IsUnbroken (streams_of job) flow.clock flow.form t
  pub mark : streams_of job i t ≡ mark_of o

-- what is computed is what the equation says
pub computed_is : (a : SiteState) (i : ℕ) (o : Outcome) → Going a → a.place.value < length a.inputs.job.plan.flat.order → slice_index a.inputs.job.plan.flat.order a.place.value ≡ i → stands a.inputs.job.plan i a.inputs.site ≡ true → a.instant < a.inputs.job.inputs.instants → clock_of_flow a.inputs.job.inputs (streams_of a.inputs.job) (flow_at a.inputs.job.plan.flat i) a.instant ≡ Some true → Computes a i (flow_at a.program.plan.flat i) o → WorksOut a.inputs.job i a.instant o
computed_is a i o g lp ei own lt open' c =
    let job = a.inputs.job in
    let σ = streams_of job in
    let t = a.instant in
    let f = there job a.inputs.site g.set.is_job a.place.value lp in
    let plan_ok = g.set.is_job.is_plan in
    let is : flow_at job.plan.flat i ≡ Some f.0 = subst (λ (k : ℕ). flow_at job.plan.flat k ≡ Some f.0) ei f.1 in
    let li : i < flows_of job.plan.flat = subst (λ (k : ℕ). k < flows_of job.plan.flat) ei f.2 in
    let same : flow_at a.program.plan.flat i ≡ Some f.0 = ap (λ (q : PlanView). flow_at q.flat i) g.set.plan_is ∙ is in
    let knows_ops = plan_ok.needs_operands a.inputs.site i f.0 is own in
    let known_i = known_of_own job.plan a.inputs.site i own in
    let knows_clock = plan_ok.needs_clock a.inputs.site i f.0 is known_i in
    let first = all_left (λ r. Contains (take a.place.value job.plan.flat.order) r) (form_reads f.0.form) (clock_reads f.0.clock) (plan_ok.ordered.reads_first a.place.value f.0 lp f.1) in
    let shown = reads_shown job a.inputs.site g.set.is_job (shown_of a) t a.place.value (form_reads f.0.form) (g.stands.shown lt) (reads_places (λ r. knows job.plan a.inputs.site r ≡ true) f.0.form knows_ops) first in
    let has = λ (r : ℕ) (lr : r < flows_of job.plan.flat) (k : knows job.plan a.inputs.site r ≡ true). g.stands.known r lr k in
    let pasts_all : All (HasPast job.plan.flat job.inputs σ t) (places f.0.form) = λ k d l. has (get_or (places f.0.form) k d) (plan_ok.ordered.places_in i f.0 is k d l) (knows_ops k d l) in
    let clock_then : All (HasPast job.plan.flat job.inputs σ t) (clock_reads f.0.clock) = λ k d l. has (get_or (clock_reads f.0.clock) k d) (plan_ok.ordered.clocks_in i f.0 is k d l) (knows_clock k d l) in
    let holds : HoldsBack job.plan.flat job.inputs σ f.0.clock f.0.form i t c.given (shown_of a) (pasts_of a) = record {
      reads = shown;
      back = λ r e. g.stands.kept r (looked_all (λ j. j < flows_of job.plan.flat) i f.0.form r li (plan_ok.ordered.places_in i f.0 is) e) (looked_all (λ j. knows job.plan a.inputs.site j ≡ true) i f.0.form r known_i knows_ops e) (Looked i f.0 own is e);
      clock = sym (ap (λ o. ticked (clock_of_flow job.inputs σ o) t) is);
      input = λ k e. c.is_given k f.0 same e (subst (λ (n : ℕ). stands job.plan n a.inputs.site ≡ true) (sym (plan_ok.input_there i k f.0 is e)) own);
    } in
    let v = value_back job.plan.flat job.inputs σ f.0.clock f.0.form i t c.given (shown_of a) (pasts_of a) holds in
    let o_is : o ≡ value_of f.0.form (view_in c.given (shown_of a) (pasts_of a) i) = c.is ∙ ap (outcome_of c.given (shown_of a) (pasts_of a) i) same in
    let k = sym (ap (λ o. clock_of_flow job.inputs σ o t) is) ∙ open' in
    record {
      flow = f.0;
      there = is;
      inside = li;
      clock = k;
      value = v ∙ sym o_is;
      unbroken = record {
        now = All-weaker (IsShown σ (shown_of a) t) (λ r. σ r t ≢ Broken) (λ r w. known_unbroken (σ r t) w.status w.is) (form_reads f.0.form) shown;
        then = λ u lu. All-weaker (HasPast job.plan.flat job.inputs σ t) (λ r. σ r u ≢ Broken) (λ r w. before_known (σ r) t w.past.last w.last u lu) (places f.0.form) pasts_all;
        clock_then = λ u lu. All-weaker (HasPast job.plan.flat job.inputs σ t) (λ r. σ r u ≢ Broken) (λ r w. before_known (σ r) t w.past.last w.last u lu) (clock_reads f.0.clock) clock_then;
      };
      mark = equation job a.inputs.site g.set.is_job i t f.0 is li lt ∙ ap₂ under k (v ∙ sym o_is);
    }

-- the item that is at hand
pub data AtHand (a : SiteState) (i : ℕ) : Type 0 where
  ComputeAt : stands a.inputs.job.plan i a.inputs.site ≡ true → a.instant < a.inputs.job.inputs.instants → a.step ≡ 0 → clock_of_flow a.inputs.job.inputs (streams_of a.inputs.job) (flow_at a.inputs.job.plan.flat i) a.instant ≡ Some true → slice_get (cell a.inputs.job (streams_of a.inputs.job) a.inputs.site a.instant i) a.step ≡ Some (Compute i a.instant) → AtHand a i
  PutEarly : stands a.inputs.job.plan i a.inputs.site ≡ true → a.instant < a.inputs.job.inputs.instants → (k : ℕ) → a.step ≡ suc k → clock_of_flow a.inputs.job.inputs (streams_of a.inputs.job) (flow_at a.inputs.job.plan.flat i) a.instant ≡ Some true → slice_get (cell a.inputs.job (streams_of a.inputs.job) a.inputs.site a.instant i) a.step ≡ Some (Puts (slice_index (sends a.inputs.job.plan a.inputs.site i) k)) → k < length (sends a.inputs.job.plan a.inputs.site i) → AtHand a i
  PutLate : stands a.inputs.job.plan i a.inputs.site ≡ true → a.instant ≡ a.inputs.job.inputs.instants → slice_get (cell a.inputs.job (streams_of a.inputs.job) a.inputs.site a.instant i) a.step ≡ Some (Puts (slice_index (sends a.inputs.job.plan a.inputs.site i) a.step)) → a.step < length (sends a.inputs.job.plan a.inputs.site i) → AtHand a i
  TakeEarly : stands a.inputs.job.plan i a.inputs.site ≡ false → a.instant < a.inputs.job.inputs.instants → a.step ≡ 0 → clock_of_flow a.inputs.job.inputs (streams_of a.inputs.job) (flow_at a.inputs.job.plan.flat i) a.instant ≡ Some true → link_into a.inputs.job.plan a.inputs.site i ≡ Some (unwrap_or (link_into a.inputs.job.plan a.inputs.site i) 0) → slice_get (cell a.inputs.job (streams_of a.inputs.job) a.inputs.site a.instant i) a.step ≡ Some (Takes (unwrap_or (link_into a.inputs.job.plan a.inputs.site i) 0)) → AtHand a i
  TakeLate : stands a.inputs.job.plan i a.inputs.site ≡ false → a.instant ≡ a.inputs.job.inputs.instants → link_into a.inputs.job.plan a.inputs.site i ≡ Some (unwrap_or (link_into a.inputs.job.plan a.inputs.site i) 0) → slice_get (cell a.inputs.job (streams_of a.inputs.job) a.inputs.site a.instant i) a.step ≡ Some (Takes (unwrap_or (link_into a.inputs.job.plan a.inputs.site i) 0)) → AtHand a i

hand_own : (a : SiteState) (i j : ℕ) → Going a → i < flows_of a.inputs.job.plan.flat → j ≡ a.step → j < length (cell a.inputs.job (streams_of a.inputs.job) a.inputs.site a.instant i) → stands a.inputs.job.plan i a.inputs.site ≡ true → a.instant < a.inputs.job.inputs.instants → AtHand a i
hand_own a i zero g li ej lj own lt =
    let w = own_early a.inputs.job (streams_of a.inputs.job) g.set.is_job.is_plan a.inputs.site a.instant i li (lt-ltb a.instant a.inputs.job.inputs.instants lt) own (omega arith) in
    ComputeAt own lt (sym ej) w.0 (ap (slice_get (cell a.inputs.job (streams_of a.inputs.job) a.inputs.site a.instant i)) (sym ej) ∙ ap (λ xs. slice_get xs 0) w.1)
hand_own a i (suc k) g li ej lj own lt =
    let w = own_early a.inputs.job (streams_of a.inputs.job) g.set.is_job.is_plan a.inputs.site a.instant i li (lt-ltb a.instant a.inputs.job.inputs.instants lt) own (omega arith) in
    let n = ap length w.1 in
    let v = put_there (sends a.inputs.job.plan a.inputs.site i) k (omega (arith, n)) in
    PutEarly own lt k (sym ej) w.0 (ap (slice_get (cell a.inputs.job (streams_of a.inputs.job) a.inputs.site a.instant i)) (sym ej) ∙ ap (λ xs. slice_get xs (suc k)) w.1 ∙ v.0) v.1

pub at_hand : (a : SiteState) (i : ℕ) → Going a → i < flows_of a.inputs.job.plan.flat → a.step < length (cell a.inputs.job (streams_of a.inputs.job) a.inputs.site a.instant i) → AtHand a i
at_hand a i g li lj =
    let job = a.inputs.job in
    let σ = streams_of job in
    elim (bool_cases (stands job.plan i a.inputs.site)) [
      | inl own ↦ elim (cases_lt a.instant job.inputs.instants) [
        | inl lt ↦ hand_own a i a.step g li refl lj own lt
        | inr ge ↦
            let le = g.stands.instant_le in
            let e = own_late job σ g.set.is_job.is_plan a.inputs.site a.instant i li (lt-false a.instant job.inputs.instants ge) own in
            let n = ap length e in
            let v = put_there (sends job.plan a.inputs.site i) a.step (omega (arith, n)) in
            PutLate own (omega arith) (ap (λ xs. slice_get xs a.step) e ∙ v.0) v.1
      ]
      | inr other ↦ elim (cases_lt a.instant job.inputs.instants) [
        | inl lt ↦
            let w = taken_early job σ g.set.is_job.is_plan a.inputs.site a.instant i li (lt-ltb a.instant job.inputs.instants lt) other (omega arith) in
            let n = ap length w.2 in
            let z : a.step ≡ 0 = omega (arith, n) in
            TakeEarly other lt z w.0 w.1 (ap₂ slice_get w.2 z)
        | inr ge ↦
            let le = g.stands.instant_le in
            let w = taken_late job σ g.set.is_job.is_plan a.inputs.site a.instant i li (lt-false a.instant job.inputs.instants ge) other (omega arith) in
            let n = ap length w.1 in
            let z : a.step ≡ 0 = omega (arith, n) in
            TakeLate other (omega arith) w.0 (ap₂ slice_get w.1 z)
      ]
    ]

-- what the machine shows of a flow whose clock is true
shown_datum : (v : Outcome) (status : Status) → mark_of v ≡ Known status → (d : Datum) × (status ≡ Present d)
shown_datum (Faults kind) status e = cc
shown_datum Stuck status e = cc
shown_datum (Gives d) Absent e = cc
shown_datum (Gives d) (Present x) e = (x, refl)

pub link_is : (job : JobView) (l i : ℕ) → flow_of_link job.plan l ≡ Some i → link_list job (streams_of job) l ≡ messages 0 (marks (streams_of job i) job.inputs.instants)
unfolding link_list
link_is job l i e = ap (messages_of job (streams_of job)) e

count_is : (flat : FlatView) (inputs : InputsView) (σ : Streams) (pasts : List Past) (t i : ℕ) → IsPast flat inputs σ pasts t i → count_kept pasts i ≡ presents (σ i) t
count_is flat inputs σ pasts t i w = ap (λ o. unwrap_or (option_map (λ (x : Past). x.count) o) 0) w.there ∙ sym w.count

-- the facts at the flow at hand
pub record Here (a : SiteState) : Type 0 where
  pub going_on : Going a
  pub place_lt : a.place.value < length a.inputs.job.plan.flat.order
  pub step_lt : a.step < length (cell a.inputs.job (streams_of a.inputs.job) a.inputs.site a.instant (slice_index a.inputs.job.plan.flat.order a.place.value))

-- the datum of a flow that was computed or taken at this instant
datum_here : (a : SiteState) → (h : Here a) → a.instant < a.inputs.job.inputs.instants → 0 < a.step → clock_of_flow a.inputs.job.inputs (streams_of a.inputs.job) (flow_at a.inputs.job.plan.flat (slice_index a.inputs.job.plan.flat.order a.place.value)) a.instant ≡ Some true → streams_of a.inputs.job (slice_index a.inputs.job.plan.flat.order a.place.value) a.instant ≡ Known (Present (datum_shown (shown_of a) (slice_index a.inputs.job.plan.flat.order a.place.value)))
datum_here a h lt some open' =
    let job = a.inputs.job in
    let σ = streams_of job in
    let i = slice_index job.plan.flat.order a.place.value in
    let g = h.going_on in
    let f = there job a.inputs.site g.set.is_job a.place.value h.place_lt in
    let w = g.stands.here lt some refl in
    let k = sym (ap (λ o. clock_of_flow job.inputs σ o a.instant) f.1) ∙ open' in
    let v = value_at job.inputs σ f.0.clock f.0.form a.instant in
    let e = equation job a.inputs.site g.set.is_job i a.instant f.0 f.1 f.2 lt ∙ ap (λ c. under c v) k in
    let d = shown_datum v w.status (sym e ∙ w.is) in
    let there' : slice_get (shown_of a) i ≡ Some (Present d.0) = w.there ∙ ap Some d.1 in
    let same : datum_shown (shown_of a) i ≡ d.0 = ap (λ o. unwrap_or (datum_there o) Nil) there' in
    w.is ∙ ap Known d.1 ∙ ap (λ x. Known (Present x)) (sym same)

pub put_early : (a : SiteState) (h : Here a) (k : ℕ) → stands a.inputs.job.plan (slice_index a.inputs.job.plan.flat.order a.place.value) a.inputs.site ≡ true → a.instant < a.inputs.job.inputs.instants → a.step ≡ suc k → clock_of_flow a.inputs.job.inputs (streams_of a.inputs.job) (flow_at a.inputs.job.plan.flat (slice_index a.inputs.job.plan.flat.order a.place.value)) a.instant ≡ Some true → k < length (sends a.inputs.job.plan a.inputs.site (slice_index a.inputs.job.plan.flat.order a.place.value)) → slice_get (link_list a.inputs.job (streams_of a.inputs.job) (slice_index (sends a.inputs.job.plan a.inputs.site (slice_index a.inputs.job.plan.flat.order a.place.value)) k)) (presents (streams_of a.inputs.job (slice_index a.inputs.job.plan.flat.order a.place.value)) a.instant) ≡ Some (record { no = presents (streams_of a.inputs.job (slice_index a.inputs.job.plan.flat.order a.place.value)) a.instant; body = Value (datum_shown (shown_of a) (slice_index a.inputs.job.plan.flat.order a.place.value)) })
put_early a h k own lt ek open' within =
    let job = a.inputs.job in
    let σ = streams_of job in
    let i = slice_index job.plan.flat.order a.place.value in
    let l = slice_index (sends job.plan a.inputs.site i) k in
    let g = h.going_on in
    let f = there job a.inputs.site g.set.is_job a.place.value h.place_lt in
    let w = g.stands.known i f.2 (known_of_own job.plan a.inputs.site i own) in
    ap (λ xs. slice_get xs (presents (σ i) a.instant)) (link_is job l i (let c = carrier_is job.plan a.inputs.site i k within in flow_of_carried job.plan l i c.0 c.1))
    ∙ message_at (σ i) job.inputs.instants a.instant w.past.last (datum_shown (shown_of a) i) lt w.last (datum_here a h lt (omega arith) open')

pub put_late : (a : SiteState) (h : Here a) (k : ℕ) → stands a.inputs.job.plan (slice_index a.inputs.job.plan.flat.order a.place.value) a.inputs.site ≡ true → a.instant ≡ a.inputs.job.inputs.instants → k < length (sends a.inputs.job.plan a.inputs.site (slice_index a.inputs.job.plan.flat.order a.place.value)) → slice_get (link_list a.inputs.job (streams_of a.inputs.job) (slice_index (sends a.inputs.job.plan a.inputs.site (slice_index a.inputs.job.plan.flat.order a.place.value)) k)) (presents (streams_of a.inputs.job (slice_index a.inputs.job.plan.flat.order a.place.value)) a.instant) ≡ Some (record { no = presents (streams_of a.inputs.job (slice_index a.inputs.job.plan.flat.order a.place.value)) a.instant; body = Close })
put_late a h k own end within =
    let job = a.inputs.job in
    let σ = streams_of job in
    let i = slice_index job.plan.flat.order a.place.value in
    let l = slice_index (sends job.plan a.inputs.site i) k in
    let g = h.going_on in
    let f = there job a.inputs.site g.set.is_job a.place.value h.place_lt in
    let w = g.stands.known i f.2 (known_of_own job.plan a.inputs.site i own) in
    ap (λ xs. slice_get xs (presents (σ i) a.instant)) (link_is job l i (let c = carrier_is job.plan a.inputs.site i k within in flow_of_carried job.plan l i c.0 c.1))
    ∙ ap (λ t. slice_get (messages 0 (marks (σ i) job.inputs.instants)) (presents (σ i) t)) end
    ∙ close_at (σ i) job.inputs.instants w.past.last (subst (λ (t : ℕ). before (σ i) t ≡ Some w.past.last) end w.last)
    ∙ ap (λ t. Some (record { no = presents (σ i) t; body = Close })) (sym end)

count_here : (a : SiteState) (h : Here a) (k : ℕ) → stands a.inputs.job.plan (slice_index a.inputs.job.plan.flat.order a.place.value) a.inputs.site ≡ true → k < length (sends a.inputs.job.plan a.inputs.site (slice_index a.inputs.job.plan.flat.order a.place.value)) → count_kept (pasts_of a) (slice_index a.inputs.job.plan.flat.order a.place.value) ≡ presents (streams_of a.inputs.job (slice_index a.inputs.job.plan.flat.order a.place.value)) a.instant
count_here a h k own within =
    let job = a.inputs.job in
    let i = slice_index job.plan.flat.order a.place.value in
    let f = there job a.inputs.site h.going_on.set.is_job a.place.value h.place_lt in
    count_is job.plan.flat job.inputs (streams_of job) (pasts_of a) a.instant i (h.going_on.stands.kept i f.2 (known_of_own job.plan a.inputs.site i own) (Sent (omega (arith, within))))

-- the number of puts before the one at hand
put_no : (a : SiteState) (h : Here a) (k : ℕ) → stands a.inputs.job.plan (slice_index a.inputs.job.plan.flat.order a.place.value) a.inputs.site ≡ true → k < length (sends a.inputs.job.plan a.inputs.site (slice_index a.inputs.job.plan.flat.order a.place.value)) → slice_get (cell a.inputs.job (streams_of a.inputs.job) a.inputs.site a.instant (slice_index a.inputs.job.plan.flat.order a.place.value)) a.step ≡ Some (Puts (slice_index (sends a.inputs.job.plan a.inputs.site (slice_index a.inputs.job.plan.flat.order a.place.value)) k)) → puts_before (system_of a.inputs.job) (slice_index (sends a.inputs.job.plan a.inputs.site (slice_index a.inputs.job.plan.flat.order a.place.value)) k) a.inputs.site (done_of a) ≡ presents (streams_of a.inputs.job (slice_index a.inputs.job.plan.flat.order a.place.value)) a.instant
put_no a h k own within item =
    let job = a.inputs.job in
    let σ = streams_of job in
    let i = slice_index job.plan.flat.order a.place.value in
    let l = slice_index (sends job.plan a.inputs.site i) k in
    let g = h.going_on in
    let f = there job a.inputs.site g.set.is_job a.place.value h.place_lt in
    let w = g.stands.known i f.2 (known_of_own job.plan a.inputs.site i own) in
    let c = carrier_is job.plan a.inputs.site i k within in
    let at_home = ap (home job.plan) c.1 ∙ c.2 in
    ap (count_by (puts l)) (script_take job a.inputs.site g.set.is_job (shown_of a) (pasts_of a) a.instant a.place.value a.step g.stands)
    ∙ puts_done job σ (is_outline job g.set.is_job) a.inputs.site a.instant a.place.value a.step l g.stands.instant_le h.place_lt c.0 at_home item
    ∙ ap (λ x. shows (outline job σ) x a.instant) c.1
    ∙ shows_is job g.set.is_job i a.instant w.past.last f.2 g.stands.instant_le w.last

-- a link into a site: its flow and its receiver
and_both : (a b : Bool) → (a && b) ≡ true → (a ≡ true) × (b ≡ true)
and_both true b h = (refl, h)
and_both false b h = absurd (false≢true h)

pub into_is : (plan : PlanView) (s i l : ℕ) → link_into plan s i ≡ Some l → (l < length plan.links) × (carried plan l ≡ i) × (receiver_of plan l ≡ s)
into_is plan s i l e =
    let d : Link = record { flow = 0; from = 0; to = 0 } in
    let w = position-Some (is_into s i) plan.links l d e in
    let p = and_both ((get_or plan.links l d).flow == i) ((get_or plan.links l d).to == s) w.1 in
    let g = slice_get-get_or plan.links l d w.0 in (
      w.0,
      ap (λ o. unwrap_or (option_map (λ (k : Link). k.flow) o) 0) g ∙ eqb-true (get_or plan.links l d).flow i p.0,
      ap (λ o. unwrap_or (option_map (λ (k : Link). k.to) o) 0) g ∙ eqb-true (get_or plan.links l d).to s p.1,
    )

-- the number of takes before the one at hand
pub take_no : (a : SiteState) (h : Here a) (l : ℕ) → link_into a.inputs.job.plan a.inputs.site (slice_index a.inputs.job.plan.flat.order a.place.value) ≡ Some l → slice_get (cell a.inputs.job (streams_of a.inputs.job) a.inputs.site a.instant (slice_index a.inputs.job.plan.flat.order a.place.value)) a.step ≡ Some (Takes l) → takes_before (system_of a.inputs.job) l a.inputs.site (done_of a) ≡ presents (streams_of a.inputs.job (slice_index a.inputs.job.plan.flat.order a.place.value)) a.instant
take_no a h l into item =
    let job = a.inputs.job in
    let σ = streams_of job in
    let i = slice_index job.plan.flat.order a.place.value in
    let g = h.going_on in
    let f = there job a.inputs.site g.set.is_job a.place.value h.place_lt in
    let w = g.stands.known i f.2 (known_of_link job.plan a.inputs.site i l into) in
    let c = into_is job.plan a.inputs.site i l into in
    ap (count_by (takes l)) (script_take job a.inputs.site g.set.is_job (shown_of a) (pasts_of a) a.instant a.place.value a.step g.stands)
    ∙ takes_done job σ (is_outline job g.set.is_job) a.inputs.site a.instant a.place.value a.step l g.stands.instant_le h.place_lt c.0 c.2 item
    ∙ ap (λ x. shows (outline job σ) x a.instant) c.1
    ∙ shows_is job g.set.is_job i a.instant w.past.last f.2 g.stands.instant_le w.last

-- the answer of `offer`, where a flow is at hand
offered_here : (a : SiteState) (h : Here a) → offered a ≡ offered_part a (slice_index a.inputs.job.plan.flat.order a.place.value) (part_of a.inputs.job.plan a.inputs.site (slice_index a.inputs.job.plan.flat.order a.place.value))
offered_here a h =
    let job = a.inputs.job in
    let i = slice_index job.plan.flat.order a.place.value in
    let e = ap (λ (q : PlanView). slice_get q.flat.order a.place.value) h.going_on.set.plan_is ∙ slice_get-get_or job.plan.flat.order a.place.value 0 h.place_lt in
    ap (λ b. if b then Faulted else offered_at a (slice_get a.program.plan.flat.order a.place.value)) h.going_on.goes ∙ ap (offered_at a) e
    ∙ ap (offered_part a i) (part_here a i h.going_on.set (here_in a h.going_on.set h.place_lt))

suc_not_zero : (k : ℕ) → (suc k == 0) ≡ false
suc_not_zero k = elim (bool_cases (suc k == 0)) [ inl e ↦ let h = eqb-true (suc k) 0 e in absurd (omega arith) | inr e ↦ e ]

module _ (a : SiteState) (i : ℕ) (outs : List ℕ) where
  abbrev put_value : ℕ → Next
  put_value k = Put (slice_index outs k) (record { no = count_kept (pasts_of a) i; body = Value (datum_shown (shown_of a) i) })

  abbrev put_close : Next
  put_close = Put (slice_index outs a.step) (record { no = count_kept (pasts_of a) i; body = Close })

  offered_local : nat_lt a.instant a.inputs.job.inputs.instants ≡ true → a.step ≡ 0 → offered_own a i outs ≡ Local
  offered_local early z =
      ap (λ b. if b then (if a.step == 0 then Local else put_value (a.step - 1)) else put_close) early
      ∙ ap (λ j. if j == 0 then Local else put_value (a.step - 1)) z

  offered_put : (k : ℕ) → nat_lt a.instant a.inputs.job.inputs.instants ≡ true → a.step ≡ suc k → offered_own a i outs ≡ put_value k
  offered_put k early z =
      let e : suc k - 1 ≡ k = omega arith in
      ap (λ b. if b then (if a.step == 0 then Local else put_value (a.step - 1)) else put_close) early
      ∙ ap (λ j. if j == 0 then Local else put_value (j - 1)) z
      ∙ ap (λ b. if b then Local else put_value (suc k - 1)) (suc_not_zero k)
      ∙ ap put_value e

  offered_close : nat_lt a.instant a.inputs.job.inputs.instants ≡ false → offered_own a i outs ≡ put_close
  offered_close late = ap (λ b. if b then (if a.step == 0 then Local else put_value (a.step - 1)) else put_close) late

part_own : (a : SiteState) (i : ℕ) (plan : PlanView) (s : ℕ) → stands plan i s ≡ true → offered_part a i (part_of plan s i) ≡ offered_own a i (sends plan s i)
part_own a i plan s own = ap (λ b. if b then offered_own a i (sends plan s i) else Take (unwrap_or (link_into plan s i) 0)) own

part_take : (a : SiteState) (i : ℕ) (plan : PlanView) (s : ℕ) → stands plan i s ≡ false → offered_part a i (part_of plan s i) ≡ Take (unwrap_or (link_into plan s i) 0)
part_take a i plan s other = ap (λ b. if b then offered_own a i (sends plan s i) else Take (unwrap_or (link_into plan s i) 0)) other

-- the item at hand is the script's
pub hand_next : (a : SiteState) (h : Here a) → slice_get (script a.inputs.job (streams_of a.inputs.job) a.inputs.site) (done_of a) ≡ slice_get (cell a.inputs.job (streams_of a.inputs.job) a.inputs.site a.instant (slice_index a.inputs.job.plan.flat.order a.place.value)) a.step
hand_next a h =
    next_item a.inputs.job a.inputs.site h.going_on.set.is_job (shown_of a) (pasts_of a) a.instant a.place.value a.step h.going_on.stands h.place_lt h.step_lt

offer_here : (a : SiteState) (h : Here a) → AtHand a (slice_index a.inputs.job.plan.flat.order a.place.value) → IsNext a.inputs.job a.inputs.site (done_of a) (offered a)
offer_here a h (ComputeAt own lt z open' item) =
    let job = a.inputs.job in
    let i = slice_index job.plan.flat.order a.place.value in
    let outs = sends job.plan a.inputs.site i in
    let e = offered_here a h ∙ part_own a i job.plan a.inputs.site own ∙ offered_local a i outs (lt-ltb a.instant job.inputs.instants lt) z in
    subst (IsNext job a.inputs.site (done_of a)) (sym e) (i, a.instant, hand_next a h ∙ item)
offer_here a h (PutEarly own lt k ek open' item within) =
    let job = a.inputs.job in
    let σ = streams_of job in
    let i = slice_index job.plan.flat.order a.place.value in
    let outs = sends job.plan a.inputs.site i in
    let e = offered_here a h ∙ part_own a i job.plan a.inputs.site own ∙ offered_put a i outs k (lt-ltb a.instant job.inputs.instants lt) ek
    ∙ ap (λ n. Put (slice_index outs k) (record { no = n; body = Value (datum_shown (shown_of a) i) })) (count_here a h k own within) in
    subst (IsNext job a.inputs.site (done_of a)) (sym e) (hand_next a h ∙ item, ap (slice_get (link_list job σ (slice_index outs k))) (put_no a h k own within item) ∙ put_early a h k own lt ek open' within)
offer_here a h (PutLate own end item within) =
    let job = a.inputs.job in
    let σ = streams_of job in
    let i = slice_index job.plan.flat.order a.place.value in
    let outs = sends job.plan a.inputs.site i in
    let e = offered_here a h ∙ part_own a i job.plan a.inputs.site own ∙ offered_close a i outs (lt-false a.instant job.inputs.instants (omega arith))
    ∙ ap (λ n. Put (slice_index outs a.step) (record { no = n; body = Close })) (count_here a h a.step own within) in
    subst (IsNext job a.inputs.site (done_of a)) (sym e) (hand_next a h ∙ item, ap (slice_get (link_list job σ (slice_index outs a.step))) (put_no a h a.step own within item) ∙ put_late a h a.step own end within)
offer_here a h (TakeEarly other lt z open' into item) =
    let job = a.inputs.job in
    let i = slice_index job.plan.flat.order a.place.value in
    let e = offered_here a h ∙ part_take a i job.plan a.inputs.site other in
    subst (IsNext job a.inputs.site (done_of a)) (sym e) (hand_next a h ∙ item, (into_is job.plan a.inputs.site i (unwrap_or (link_into job.plan a.inputs.site i) 0) into).0)
offer_here a h (TakeLate other end into item) =
    let job = a.inputs.job in
    let i = slice_index job.plan.flat.order a.place.value in
    let e = offered_here a h ∙ part_take a i job.plan a.inputs.site other in
    subst (IsNext job a.inputs.site (done_of a)) (sym e) (hand_next a h ∙ item, (into_is job.plan a.inputs.site i (unwrap_or (link_into job.plan a.inputs.site i) 0) into).0)

offer_going : (a : SiteState) → Going a → IsReadyAt a → IsNext a.inputs.job a.inputs.site (done_of a) (offered a)
offer_going a g (Ready lp lj) =
    let h : Here a = record { going_on = g; place_lt = lp; step_lt = lj } in
    offer_here a h (at_hand a (slice_index a.inputs.job.plan.flat.order a.place.value) g (here_in a g.set lp) lj)
offer_going a g (Over et ep ej) =
    let job = a.inputs.job in
    let past : slice_get a.program.plan.flat.order a.place.value ≡ None = ap (λ (q : PlanView). slice_get q.flat.order a.place.value) g.set.plan_is ∙ slice_get_past job.plan.flat.order a.place.value (omega arith) in
    let e : offered a ≡ Ended = ap (λ b. if b then Faulted else offered_at a (slice_get a.program.plan.flat.order a.place.value)) g.goes ∙ ap (offered_at a) past in
    let st = subst (λ (j : ℕ). Stands job a.inputs.site (shown_of a) (pasts_of a) job.inputs.instants (length job.plan.flat.order) j false) ej (subst (λ (p : ℕ). Stands job a.inputs.site (shown_of a) (pasts_of a) job.inputs.instants p a.step false) ep (subst (λ (t : ℕ). Stands job a.inputs.site (shown_of a) (pasts_of a) t a.place.value a.step false) et g.stands)) in
    let w = ended job a.inputs.site g.set.is_job (shown_of a) (pasts_of a) st in
    let n : done_of a ≡ items_before job (streams_of job) a.inputs.site job.inputs.instants (length job.plan.flat.order) 0 =
    ap (λ t. items_before job (streams_of job) a.inputs.site t a.place.value a.step) et ∙ ap₂ (items_before job (streams_of job) a.inputs.site job.inputs.instants) ep ej in
    subst (IsNext job a.inputs.site (done_of a)) (sym e) (n ∙ w.0, w.1)

-- what a site offers is the next item of its script
pub offer_is : (a : SiteState) → IsSet a → StandsAt a → ((is_faulted a) ≡ false → IsReadyAt a) → IsNext a.inputs.job a.inputs.site (done_of a) (offered a)
offer_is a set st ready = elim (bool_cases (is_faulted a)) [
  | inl bad ↦
      let e : offered a ≡ Faulted = ap (λ b. if b then Faulted else offered_at a (slice_get a.program.plan.flat.order a.place.value)) bad in
      subst (IsNext a.inputs.job a.inputs.site (done_of a)) (sym e) (st.stopped bad)
  | inr go ↦ offer_going a (going a set st go) (ready go)
]
