-- How the machine of one site goes on.
use Rattle.std.proofs.Common.{◌≡◌, ◌≢◌, ℕ, suc, ◌+◌, ◌<◌, ◌≤◌, inl, inr, Bool, true, false, cond, List, [], ◌∷◌, ◌++◌, length, take, set, get_or, map, Option, Some, None, refl, sym, ap, ap₂, ◌∙◌, subst, arith, add-one}
use Rattle.std.specs.Prelude.{slice_get, slice_index, All, Contains, not, ◌||◌, nat_lt, is_some}
use Rattle.std.proofs.lemmas.List.{length-set, length-map, take_all}
use Rattle.std.proofs.lemmas.List.Elements.{All-get_or}
use Rattle.std.proofs.lemmas.Option.{slice_get_within}
use Rattle.std.proofs.lemmas.Bool.{cases_lt, false≢true, lt-ltb, ltb-true}
use Rattle.luflow.specs.declared.data.Datum.{Datum}
use Rattle.luflow.specs.declared.data.Status.{Status}
use Rattle.luflow.specs.declared.data.Status.TheVariants.{Absent, Present}
use Rattle.luflow.specs.declared.form.Clock.{Clock}
use Rattle.luflow.specs.declared.form.Clock.TheVariants.{Base, On}
use Rattle.luflow.specs.declared.form.Flow.{Flow}
use Rattle.luworld.specs.Jobs.{JobView, streams_of, knows, link_into, listed, cell, endless, script, outline, is_open, IsFree, HasNoStop, items_before, IsJob, IsCoherent, sends}
use Rattle.lueval_lines.specs.declared.past.Past.{Past}
use Rattle.luflow.specs.Streams.{Mark, Known, Streams, clock_at, either, ticked, newer, before, is_value, truth_in}
use Rattle.luflow.specs.declared.form.Outcome.{Outcome}
use Rattle.luflow.specs.declared.form.Outcome.TheVariants.{Gives, Faults, Stuck}
use Rattle.lusite_program.specs.Programs.{part_of}
use Rattle.luflow.specs.Values.{value_at, under}
use Rattle.luworld.specs.Outline.{stops}
use Rattle.luflow.specs.Program.{InputsView, flow_at, flows_of, clock_reads, form_reads}
use Rattle.luflow.specs.Solution.{says, clock_of_flow}
use Rattle.luworld.specs.Systems.{Item, Compute, Puts, Takes}
use Rattle.luworld.proofs.Cuts.{cut_at, cut_free, no_stop_more, cut_stops, stop_not, cut_take}
use Rattle.luflow.specs.Messages.{presents, once_if}
use Rattle.luworld.proofs.Outlines.{cell_is}
use Rattle.lueval_lines.specs.Frames.{later, IsShown, IsPast}
use Rattle.lusite.specs.KeptFlows.{IsKept}
use Rattle.lusite.specs.Machine.{Stands, HasPast, in_cell, clock_there, cell_size_of}
use Rattle.lusite_program.proofs.Written.{slice_get-set_same, slice_get-set_other}
use Rattle.luflow.proofs.Solutions.{IsSolution-solution, place_of, place_in, flow_there, all_right}
use Rattle.lueval_lines.proofs.Reading.{clock_read as machine_clock}
use Rattle.luworld.proofs.Cursor.{item_at, before_next_flow, before_next_instant, before_end, before_step}
use Rattle.luworld.specs.Needs.{stands}

none_size : (c : Option Bool) (n : ℕ) → 0 ≡ in_cell (is_open c) false true n false
none_size None n = refl
none_size (Some true) n = refl
none_size (Some false) n = refl

-- the length of a cell, by the clock that the machine reads
abbrev cell_list : Bool → Bool → Option Bool → List Item → List Item → Option ℕ → List Item
cell_list early own k xs ps into = cond early (cond (is_open k) (cond own xs [] ++ cond own ps (map Takes (listed into))) []) (cond own ps (map Takes (listed into)))

size_of : (early own : Bool) (k c : Option Bool) (into : Option ℕ) (x : Item) (ps : List Item) → ((own || is_some into) ≡ true → early ≡ true → c ≡ k) → length (cell_list early own k (x ∷ []) ps into) ≡ in_cell (not early || is_open c) own early (length ps) (is_some into)
size_of false true k c into x ps h = refl
size_of false false k c None x ps h = refl
size_of false false k c (Some l) x ps h = refl
size_of true true k c into x ps h = ap (λ z. length (cell_list true true z (x ∷ []) ps into)) (sym (h refl refl)) ∙ own_size c
  where
    own_size : (c : Option Bool) → length (cell_list true true c (x ∷ []) ps into) ≡ in_cell (is_open c) true true (length ps) (is_some into)
    own_size None = refl
    own_size (Some true) = omega arith
    own_size (Some false) = refl
size_of true false k c (Some l) x ps h = ap (λ z. length (cell_list true false z (x ∷ []) ps (Some l))) (sym (h refl refl)) ∙ take_size c
  where
    take_size : (c : Option Bool) → length (cell_list true false c (x ∷ []) ps (Some l)) ≡ in_cell (is_open c) false true (length ps) true
    take_size None = refl
    take_size (Some true) = refl
    take_size (Some false) = refl
size_of true false None c None x ps h = none_size c (length ps)
size_of true false (Some true) c None x ps h = none_size c (length ps)
size_of true false (Some false) c None x ps h = none_size c (length ps)

-- the number of items of a flow, by the clock that the machine reads
pub cell_length : (job : JobView) (ok : IsCoherent job.plan) (s t i : ℕ) (c : Option Bool) → i < flows_of job.plan.flat → (knows job.plan s i ≡ true → nat_lt t job.inputs.instants ≡ true → c ≡ clock_of_flow job.inputs (streams_of job) (flow_at job.plan.flat i) t) → length (cell job (streams_of job) s t i) ≡ in_cell (not (nat_lt t job.inputs.instants) || is_open c) (stands job.plan i s) (nat_lt t job.inputs.instants) (length (sends job.plan s i)) (is_some (link_into job.plan s i))
cell_length job ok s t i c li h =
    let σ = streams_of job in
    ap length (cell_is job σ ok s t i li)
    ∙ size_of (nat_lt t job.inputs.instants) (stands job.plan i s) (clock_of_flow job.inputs σ (flow_at job.plan.flat i) t) c (link_into job.plan s i) (Compute i t) (map Puts (sends job.plan s i)) h
    ∙ ap (λ n. in_cell (not (nat_lt t job.inputs.instants) || is_open c) (stands job.plan i s) (nat_lt t job.inputs.instants) n (is_some (link_into job.plan s i))) (length-map (sends job.plan s i) Puts)

under_absent : (c : Option Bool) (v : Outcome) → under c v ≡ Known Absent → c ≡ Some false
under_absent None v h = cc
under_absent (Some false) v h = refl
under_absent (Some true) (Faults kind) h = cc
under_absent (Some true) Stuck h = cc
under_absent (Some true) (Gives d) h = cc

under_present : (c : Option Bool) (v : Outcome) (d : Datum) → under c v ≡ Known (Present d) → c ≡ Some true
under_present None v d h = cc
under_present (Some false) v d h = cc
under_present (Some true) v d h = refl

pub closed_clock : (early : Bool) (c : Option Bool) (own : Bool) (n : ℕ) (into : Bool) → early ≡ true → (own || into) ≡ true → in_cell (not early || is_open c) own early n into ≡ 0 → is_open c ≡ false
closed_clock false c own n into e k h = absurd (false≢true e)
closed_clock true None own n into e k h = refl
closed_clock true (Some false) own n into e k h = refl
closed_clock true (Some true) true n into e k h = absurd (omega arith)
closed_clock true (Some true) false n true e k h = absurd (omega arith)
closed_clock true (Some true) false n false e k h = absurd (false≢true k)

open_is : (b : Bool) → is_open (Some b) ≡ false → b ≡ false
open_is b h = h

truth_there : (d : Datum) (status : Status) → (b : Bool) × (truth_in d (Known status) ≡ Some b)
truth_there d Absent = (false, refl)
truth_there d (Present x) = (is_value d x, refl)

truth_is : (d : Datum) (m : Mark) (status : Status) → m ≡ Known status → (b : Bool) × (truth_in d m ≡ Some b)
truth_is d m status e = let w = truth_there d status in (w.0, ap (truth_in d) e ∙ w.1)

clock_is : (inputs : InputsView) (σ : Streams) (now : List Status) (clock : Clock) (t : ℕ) → All (IsShown σ now t) (clock_reads clock) → (b : Bool) × (clock_at inputs σ clock t ≡ Some b)
clock_is inputs σ now Base t h = (nat_lt t inputs.instants, refl)
clock_is inputs σ now (On c d) t h =
    let w = All-get_or (IsShown σ now t) (c ∷ []) 0 c (omega arith) h in truth_is d (σ c t) w.status w.is

-- what is kept after an instant, from the status and what was kept before
last_later : (m : Mark) (status : Status) (o : Option Datum) (past : Past) → m ≡ Known status → o ≡ Some past.last → newer m o ≡ Some (later status past).last
last_later m Absent o past e h = ap₂ newer e h
last_later m (Present d) o past e h = ap₂ newer e h

count_later : (m : Mark) (status : Status) (n : ℕ) (past : Past) → m ≡ Known status → n ≡ past.count → n + once_if m ≡ (later status past).count
count_later m Absent n past e h = let f = ap once_if e in omega (arith, f)
count_later m (Present d) n past e h = let f = ap once_if e in omega (arith, f)

tick_later : (k w : Option Bool) (v : Outcome) (m : Mark) (status : Status) (past : Past) → m ≡ Known status → m ≡ under k v → w ≡ Some past.ticked → either k w ≡ Some (later status past).ticked
tick_later k w v m Absent past e u h = ap₂ either (under_absent k v (sym u ∙ e)) h
tick_later k w v m (Present d) past e u h = ap₂ either (under_present k v d (sym u ∙ e)) h

count_one_more : (status : Status) (past : Past) (n : ℕ) → past.count ≤ n → (later status past).count ≤ n + 1
count_one_more Absent past n h = omega arith
count_one_more (Present d) past n h = omega arith

-- an item at place n stops the script
abbrev pub stops_at : JobView → ℕ → ℕ → Item → Bool
stops_at job s n x = stops (outline job (streams_of job)) (take n (endless job (streams_of job) s)) x

module _ (job : JobView) (s : ℕ) (ij : IsJob job) where
  -- flow i of rank p, and what its equation says
  pub there : (p : ℕ) → p < length job.plan.flat.order → (flow : Flow) × (flow_at job.plan.flat (slice_index job.plan.flat.order p) ≡ Some flow) × (slice_index job.plan.flat.order p < flows_of job.plan.flat)
  there p lp =
      let w = flow_there job.plan.flat ij.is_plan.ordered p lp in
      (w.0, w.1, All-get_or (λ i. i < flows_of job.plan.flat) job.plan.flat.order p 0 lp ij.is_plan.ordered.only_flows)

  pub equation : (i t : ℕ) (flow : Flow) → flow_at job.plan.flat i ≡ Some flow → i < flows_of job.plan.flat → t < job.inputs.instants → streams_of job i t ≡ under (clock_at job.inputs (streams_of job) flow.clock t) (value_at job.inputs (streams_of job) flow.clock flow.form t)
  equation i t flow is li lt =
      IsSolution-solution job.plan.flat job.inputs ij.is_plan.ordered i t li ∙ ap (λ o. says job.inputs (streams_of job) o t) is

  -- flows of lower rank that the site knows are shown
  pub reads_shown : (now : List Status) (t p : ℕ) (xs : List ℕ) → ((q : ℕ) → q < p → knows job.plan s (slice_index job.plan.flat.order q) ≡ true → IsShown (streams_of job) now t (slice_index job.plan.flat.order q)) → All (λ r. knows job.plan s r ≡ true) xs → All (λ r. Contains (take p job.plan.flat.order) r) xs → All (IsShown (streams_of job) now t) xs
  reads_shown now t p xs shown known first = λ k d l.
      let r = get_or xs k d in
      let w = place_of job.plan.flat.order p r (first k d l) in
      let known' = subst (λ (i : ℕ). knows job.plan s i ≡ true) (sym w.3) (known k d l) in
      subst (λ (i : ℕ). IsShown (streams_of job) now t i) w.3 (shown w.0 w.1 known')

  clock_shown : (now : List Status) (t p : ℕ) (flow : Flow) → p < length job.plan.flat.order → flow_at job.plan.flat (slice_index job.plan.flat.order p) ≡ Some flow → knows job.plan s (slice_index job.plan.flat.order p) ≡ true → ((q : ℕ) → q < p → knows job.plan s (slice_index job.plan.flat.order q) ≡ true → IsShown (streams_of job) now t (slice_index job.plan.flat.order q)) → All (IsShown (streams_of job) now t) (clock_reads flow.clock)
  clock_shown now t p flow lp is known shown =
      reads_shown now t p (clock_reads flow.clock) shown (ij.is_plan.needs_clock s (slice_index job.plan.flat.order p) flow is known) (all_right (λ r. Contains (take p job.plan.flat.order) r) (form_reads flow.form) (clock_reads flow.clock) (ij.is_plan.ordered.reads_first p flow lp is))

  -- the clock that the machine reads is that of the solution, and it isn't broken
  pub clock_read : (now : List Status) (t p : ℕ) → t < job.inputs.instants → p < length job.plan.flat.order → knows job.plan s (slice_index job.plan.flat.order p) ≡ true → ((q : ℕ) → q < p → knows job.plan s (slice_index job.plan.flat.order q) ≡ true → IsShown (streams_of job) now t (slice_index job.plan.flat.order q)) → (clock_there now (flow_at job.plan.flat (slice_index job.plan.flat.order p)) ≡ clock_of_flow job.inputs (streams_of job) (flow_at job.plan.flat (slice_index job.plan.flat.order p)) t) × (b : Bool) × (clock_of_flow job.inputs (streams_of job) (flow_at job.plan.flat (slice_index job.plan.flat.order p)) t ≡ Some b)
  clock_read now t p lt lp known shown =
      let f = there p lp in
      let all = clock_shown now t p f.0 lp f.1 known shown in
      let e = ap (clock_there now) f.1 ∙ sym (machine_clock job.inputs (streams_of job) now f.0.clock t lt all) ∙ sym (ap (λ o. clock_of_flow job.inputs (streams_of job) o t) f.1) in
      let b = clock_is job.inputs (streams_of job) now f.0.clock t all in
      (e, b.0, ap (λ o. clock_of_flow job.inputs (streams_of job) o t) f.1 ∙ b.1)

  -- from a flow whose items are all done to the next one
  shown_after_pass : (now now' : List Status) (pasts : List Past) (t p j : ℕ) → Stands job s now pasts t p j false → p < length job.plan.flat.order → j ≡ length (cell job (streams_of job) s t (slice_index job.plan.flat.order p)) → (j ≡ 0 → now' ≡ set now (slice_index job.plan.flat.order p) Absent) → (0 < j → now' ≡ now) → t < job.inputs.instants → (q : ℕ) → q < p + 1 → knows job.plan s (slice_index job.plan.flat.order q) ≡ true → IsShown (streams_of job) now' t (slice_index job.plan.flat.order q)
  shown_after_pass now now' pasts t p j st lp all cleared left lt q lq known =
      let order = job.plan.flat.order in
      let i = slice_index order p in
      elim (cases_lt 0 j) [
        | inl some ↦ elim (cases_lt q p) [
          | inl l ↦ subst (λ (xs : List Status). IsShown (streams_of job) xs t (slice_index order q)) (sym (left some)) (st.shown lt q l known)
          | inr g ↦ let same : p ≡ q = omega arith in
              subst (λ (xs : List Status). IsShown (streams_of job) xs t (slice_index order q)) (sym (left some)) (subst (λ (k : ℕ). IsShown (streams_of job) now t (slice_index order k)) same (st.here lt some refl))
        ]
        | inr none ↦ elim (cases_lt q p) [
          | inl l ↦
              let w = st.shown lt q l known in
              let ne : slice_index order q ≢ i = λ e. let same = ij.is_plan.ordered.once q p (omega arith) lp e in absurd (omega arith) in
              record {
                status = w.status;
                there = ap (λ xs. slice_get xs (slice_index order q)) (cleared (omega arith)) ∙ slice_get-set_other now i (slice_index order q) Absent ne ∙ w.there;
                is = w.is;
              }
          | inr g ↦
              let same : q ≡ p = omega arith in
              let known' = subst (λ (k : ℕ). knows job.plan s (slice_index order k) ≡ true) same known in
              let f = there p lp in
              let r = clock_read now t p lt lp known' (st.shown lt) in
              let size = cell_length job ij.is_plan s t i (clock_there now (flow_at job.plan.flat i)) f.2 (λ _ _. r.0) in
              let empty : length (cell job (streams_of job) s t i) ≡ 0 = omega arith in
              let shut = closed_clock (nat_lt t job.inputs.instants) (clock_there now (flow_at job.plan.flat i)) (stands job.plan i s) (length (sends job.plan s i)) (is_some (link_into job.plan s i)) (lt-ltb t job.inputs.instants lt) known' (sym size ∙ empty) in
              let no : clock_of_flow job.inputs (streams_of job) (flow_at job.plan.flat i) t ≡ Some false = r.2 ∙ ap Some (open_is r.1 (ap is_open (sym (r.0 ∙ r.2)) ∙ shut)) in
              let e = equation i t f.0 f.1 f.2 lt in
              let clock : clock_at job.inputs (streams_of job) f.0.clock t ≡ Some false = sym (ap (λ o. clock_of_flow job.inputs (streams_of job) o t) f.1) ∙ no in
              let absent : streams_of job i t ≡ Known Absent = e ∙ ap (λ c. under c (value_at job.inputs (streams_of job) f.0.clock f.0.form t)) clock in
              subst (λ (k : ℕ). IsShown (streams_of job) now' t (slice_index order k)) (sym same) (record {
                status = Absent;
                there = ap (λ xs. slice_get xs i) (cleared (omega arith)) ∙ slice_get-set_same now i Absent (omega (arith, st.now_len, f.2));
                is = absent;
              })
        ]
      ]

  pub stands_pass : (now now' : List Status) (pasts : List Past) (t p j : ℕ) → Stands job s now pasts t p j false → p < length job.plan.flat.order → j ≡ length (cell job (streams_of job) s t (slice_index job.plan.flat.order p)) → (j ≡ 0 → now' ≡ set now (slice_index job.plan.flat.order p) Absent) → (0 < j → now' ≡ now) → Stands job s now' pasts t (p + 1) 0 false × (items_before job (streams_of job) s t (p + 1) 0 ≡ items_before job (streams_of job) s t p j)
  stands_pass now now' pasts t p j st lp all cleared left =
      let order = job.plan.flat.order in
      let n = before_next_flow job (streams_of job) s t p lp ∙ ap (items_before job (streams_of job) s t p) (sym all) in (
        record {
          instant_le = st.instant_le;
          place_le = omega arith;
          step_le = λ l. absurd (omega arith);
          now_len = elim (cases_lt 0 j) [ inl l ↦ ap length (left l) ∙ st.now_len | inr l ↦ ap length (cleared (omega arith)) ∙ length-set now (slice_index order p) Absent ∙ st.now_len ];
          pasts_len = st.pasts_len;
          counts = st.counts;
          known = st.known;
          kept = st.kept;
          shown = shown_after_pass now now' pasts t p j st lp all cleared left;
          here = λ lt l. absurd (omega arith);
          no_stop = λ _. subst (λ (m : ℕ). IsFree job (take m (endless job (streams_of job) s))) (sym n) (st.no_stop refl);
          stopped = λ e. absurd (false≢true e);
          stopped_at = λ e. absurd (false≢true e);
        },
        n,
      )

  known_after : (now : List Status) (pasts : List Past) (t : ℕ) → Stands job s now pasts t (length job.plan.flat.order) 0 false → t < job.inputs.instants → (i : ℕ) → i < flows_of job.plan.flat → knows job.plan s i ≡ true → HasPast job.plan.flat job.inputs (streams_of job) (suc t) i
  known_after now pasts t st lt i li known =
      let order = job.plan.flat.order in
      let w = place_in order i (ij.is_plan.ordered.all_flows i li) in
      let sh = subst (λ (k : ℕ). IsShown (streams_of job) now t k) w.2 (st.shown lt w.0 w.1 (subst (λ (k : ℕ). knows job.plan s k ≡ true) (sym w.2) known)) in
      let old = st.known i li known in
      let f = there w.0 w.1 in
      let is : flow_at job.plan.flat i ≡ Some f.0 = subst (λ (k : ℕ). flow_at job.plan.flat k ≡ Some f.0) w.2 f.1 in
      let e = equation i t f.0 is li lt in
      let clock = ap (λ o. clock_of_flow job.inputs (streams_of job) o t) is in
      record {
        past = later sh.status old.past;
        last = last_later (streams_of job i t) sh.status (before (streams_of job i) t) old.past sh.is old.last;
        ticks = tick_later (clock_of_flow job.inputs (streams_of job) (flow_at job.plan.flat i) t) (ticked (clock_of_flow job.inputs (streams_of job) (flow_at job.plan.flat i)) t) (value_at job.inputs (streams_of job) f.0.clock f.0.form t) (streams_of job i t) sh.status old.past sh.is (e ∙ ap (λ c. under c (value_at job.inputs (streams_of job) f.0.clock f.0.form t)) (sym clock)) old.ticks;
        count = count_later (streams_of job i t) sh.status (presents (streams_of job i) t) old.past sh.is old.count;
      }

  past_after : (now : List Status) (pasts pasts' : List Past) (t : ℕ) → Stands job s now pasts t (length job.plan.flat.order) 0 false → t < job.inputs.instants → ((i : ℕ) → i < flows_of job.plan.flat → knows job.plan s i ≡ true → IsKept job.plan s i → (x : Status) (y : Past) → slice_get now i ≡ Some x → slice_get pasts i ≡ Some y → slice_get pasts' i ≡ Some (later x y)) → (i : ℕ) → i < flows_of job.plan.flat → knows job.plan s i ≡ true → IsKept job.plan s i → IsPast job.plan.flat job.inputs (streams_of job) pasts' (suc t) i
  past_after now pasts pasts' t st lt each i li known keeps =
      let order = job.plan.flat.order in
      let w = place_in order i (ij.is_plan.ordered.all_flows i li) in
      let sh = subst (λ (k : ℕ). IsShown (streams_of job) now t k) w.2 (st.shown lt w.0 w.1 (subst (λ (k : ℕ). knows job.plan s k ≡ true) (sym w.2) known)) in
      let old = st.kept i li known keeps in
      let f = there w.0 w.1 in
      let is : flow_at job.plan.flat i ≡ Some f.0 = subst (λ (k : ℕ). flow_at job.plan.flat k ≡ Some f.0) w.2 f.1 in
      let e = equation i t f.0 is li lt in
      let clock = ap (λ o. clock_of_flow job.inputs (streams_of job) o t) is in
      record {
        past = later sh.status old.past;
        there = each i li known keeps sh.status old.past sh.there old.there;
        last = last_later (streams_of job i t) sh.status (before (streams_of job i) t) old.past sh.is old.last;
        ticks = tick_later (clock_of_flow job.inputs (streams_of job) (flow_at job.plan.flat i) t) (ticked (clock_of_flow job.inputs (streams_of job) (flow_at job.plan.flat i)) t) (value_at job.inputs (streams_of job) f.0.clock f.0.form t) (streams_of job i t) sh.status old.past sh.is (e ∙ ap (λ c. under c (value_at job.inputs (streams_of job) f.0.clock f.0.form t)) (sym clock)) old.ticks;
        count = count_later (streams_of job i t) sh.status (presents (streams_of job i) t) old.past sh.is old.count;
      }

  -- from the last flow of an instant to the next instant
  pub stands_tick : (now : List Status) (pasts pasts' : List Past) (t : ℕ) → Stands job s now pasts t (length job.plan.flat.order) 0 false → t < job.inputs.instants → length pasts' ≡ length pasts → ((i : ℕ) → i < flows_of job.plan.flat → knows job.plan s i ≡ true → IsKept job.plan s i → (x : Status) (y : Past) → slice_get now i ≡ Some x → slice_get pasts i ≡ Some y → slice_get pasts' i ≡ Some (later x y)) → All (λ x. x.count ≤ t + 1) pasts' → Stands job s now pasts' (t + 1) 0 0 false × (items_before job (streams_of job) s (t + 1) 0 0 ≡ items_before job (streams_of job) s t (length job.plan.flat.order) 0)
  stands_tick now pasts pasts' t st lt len each counts =
      let n = before_next_instant job (streams_of job) s t in (
        record {
          instant_le = omega arith;
          place_le = omega arith;
          step_le = λ l. absurd (omega arith);
          now_len = st.now_len;
          pasts_len = len ∙ st.pasts_len;
          counts = counts;
          known = λ i li known. subst (λ (u : ℕ). HasPast job.plan.flat job.inputs (streams_of job) u i) (sym (add-one t)) (known_after now pasts t st lt i li known);
          kept = λ i li known keeps. subst (λ (u : ℕ). IsPast job.plan.flat job.inputs (streams_of job) pasts' u i) (sym (add-one t)) (past_after now pasts pasts' t st lt each i li known keeps);
          shown = λ _ q l. absurd (omega arith);
          here = λ _ l. absurd (omega arith);
          no_stop = λ _. subst (λ (m : ℕ). IsFree job (take m (endless job (streams_of job) s))) (sym n) (st.no_stop refl);
          stopped = λ e. absurd (false≢true e);
          stopped_at = λ e. absurd (false≢true e);
        },
        n,
      )

  -- one more item, that is no stop
  pub stands_step : (now now' : List Status) (pasts : List Past) (t p j : ℕ) (x : Item) → Stands job s now pasts t p j false → p < length job.plan.flat.order → slice_get (cell job (streams_of job) s t (slice_index job.plan.flat.order p)) j ≡ Some x → stops_at job s (items_before job (streams_of job) s t p j) x ≡ false → length now' ≡ length now → ((r : ℕ) → r ≢ slice_index job.plan.flat.order p → slice_get now' r ≡ slice_get now r) → (t < job.inputs.instants → IsShown (streams_of job) now' t (slice_index job.plan.flat.order p)) → Stands job s now' pasts t p (j + 1) false
  stands_step now now' pasts t p j x st lp at go len other here =
      let order = job.plan.flat.order in
      let i = slice_index order p in
      let σ = streams_of job in
      let lj = slice_get_within (cell job σ s t i) j x at in
      let item = item_at job σ s t p j st.instant_le lp lj ∙ at in
      let one : items_before job σ s t p (j + 1) ≡ suc (items_before job σ s t p j) = before_step job σ s t p j ∙ add-one (items_before job σ s t p j) in
      let more = no_stop_more (outline job σ) [] (endless job σ s) (items_before job σ s t p j) x (st.no_stop refl) item go in
      record {
        instant_le = st.instant_le;
        place_le = st.place_le;
        step_le = λ _. (lp, omega arith);
        now_len = len ∙ st.now_len;
        pasts_len = st.pasts_len;
        counts = st.counts;
        known = st.known;
        kept = st.kept;
        shown = λ lt q l known.
            let w = st.shown lt q l known in
            let ne : slice_index order q ≢ i = λ e. let same = ij.is_plan.ordered.once q p (omega arith) lp e in absurd (omega arith) in
            record { status = w.status; there = other (slice_index order q) ne ∙ w.there; is = w.is };
        here = λ lt _ _. here lt;
        no_stop = λ _. subst (λ (m : ℕ). IsFree job (take m (endless job σ s))) (sym one) more;
        stopped = λ e. absurd (false≢true e);
        stopped_at = λ e. absurd (false≢true e);
      }

  -- one more item, that is a stop
  pub stands_stop : (now : List Status) (pasts : List Past) (t p j : ℕ) (x : Item) → Stands job s now pasts t p j false → p < length job.plan.flat.order → slice_get (cell job (streams_of job) s t (slice_index job.plan.flat.order p)) j ≡ Some x → j ≡ 0 → stops_at job s (items_before job (streams_of job) s t p j) x ≡ true → Stands job s now pasts t p (j + 1) true
  unfolding endless
  stands_stop now pasts t p j x st lp at first stop =
      let order = job.plan.flat.order in
      let i = slice_index order p in
      let σ = streams_of job in
      let lj = slice_get_within (cell job σ s t i) j x at in
      let item = item_at job σ s t p j st.instant_le lp lj ∙ at in
      let n = items_before job σ s t p j in
      let last = cut_at (outline job σ) [] (endless job σ s) n (st.no_stop refl) ∙ item in
      let same = cut_take (outline job σ) [] (endless job σ s) n (st.no_stop refl) in
      record {
        instant_le = st.instant_le;
        place_le = st.place_le;
        step_le = λ _. (lp, omega arith);
        now_len = st.now_len;
        pasts_len = st.pasts_len;
        counts = st.counts;
        known = st.known;
        kept = st.kept;
        shown = st.shown;
        here = λ _ _ e. absurd (false≢true (sym e));
        no_stop = λ e. absurd (false≢true (sym e));
        stopped = λ _. (before_step job σ s t p j ∙ sym (cut_stops (outline job σ) [] (endless job σ s) n x (st.no_stop refl) item stop), stop_not (outline job σ) [] (script job σ s) n x last (ap (λ (ys : List Item). stops (outline job σ) ys x) same ∙ stop));
        stopped_at = λ _. omega (arith, first);
      }

  pub script_take : (now : List Status) (pasts : List Past) (t p j : ℕ) → Stands job s now pasts t p j false → take (items_before job (streams_of job) s t p j) (script job (streams_of job) s) ≡ take (items_before job (streams_of job) s t p j) (endless job (streams_of job) s)
  unfolding endless
  script_take now pasts t p j st = cut_take (outline job (streams_of job)) [] (endless job (streams_of job) s) (items_before job (streams_of job) s t p j) (st.no_stop refl)

  -- the script's next item is that of the flow at hand
  pub next_item : (now : List Status) (pasts : List Past) (t p j : ℕ) → Stands job s now pasts t p j false → p < length job.plan.flat.order → j < length (cell job (streams_of job) s t (slice_index job.plan.flat.order p)) → slice_get (script job (streams_of job) s) (items_before job (streams_of job) s t p j) ≡ slice_get (cell job (streams_of job) s t (slice_index job.plan.flat.order p)) j
  unfolding endless
  next_item now pasts t p j st lp lj =
      let σ = streams_of job in
      cut_at (outline job σ) [] (endless job σ s) (items_before job σ s t p j) (st.no_stop refl) ∙ item_at job σ s t p j st.instant_le lp lj

  pub ended : (now : List Status) (pasts : List Past) → Stands job s now pasts job.inputs.instants (length job.plan.flat.order) 0 false → (items_before job (streams_of job) s job.inputs.instants (length job.plan.flat.order) 0 ≡ length (script job (streams_of job) s)) × HasNoStop job s
  unfolding endless
  ended now pasts st =
      let σ = streams_of job in
      let xs = endless job σ s in
      let e = before_end job σ s in
      let all = subst (IsFree job) (ap (λ m. take m xs) e ∙ take_all (length xs) xs (omega arith)) (st.no_stop refl) in
      let whole = cut_free (outline job σ) [] xs all in
      (e ∙ ap length (sym whole), subst (IsFree job) (sym whole) all)

  -- the machine works out how many items the flow at hand has
  pub size_here : (now : List Status) (pasts : List Past) (t p j : ℕ) → Stands job s now pasts t p j false → p < length job.plan.flat.order → cell_size_of (part_of job.plan s (slice_index job.plan.flat.order p)) (flow_at job.plan.flat (slice_index job.plan.flat.order p)) job.inputs.instants t now ≡ length (cell job (streams_of job) s t (slice_index job.plan.flat.order p))
  size_here now pasts t p j st lp =
      let i = slice_index job.plan.flat.order p in
      let f = there p lp in
      sym (cell_length job ij.is_plan s t i (clock_there now (flow_at job.plan.flat i)) f.2 (λ known early. let lt = ltb-true t job.inputs.instants early in (clock_read now t p lt lp known (st.shown lt)).0))
