-- One more mark is filled, and one more instant.
use Rattle.std.proofs.Common.{◌≡◌, ◌≢◌, ℕ, ◌+◌, ◌<◌, inl, inr, List, [], length, get_or, slice_get, take, Option, Some, None, Result, Ok, Err, refl, sym, ap, ap₂, ◌∙◌, subst, arith}
use Rattle.std.specs.Prelude.{IfOk, unwrap_or}
use Rattle.std.specs.declared.alloc.AllocError.{AllocError}
use Rattle.std.specs.Option.{option_map}
use Rattle.std.proofs.lemmas.Option.{get_or_from_slice_get, slice_get_within, same_Some}
use Rattle.std.proofs.lemmas.List.FromFn.{length-map-range_with_len}
use Rattle.luworld.specs.declared.link.Link.{Link}
use Rattle.luworld.specs.Jobs.{JobView, IsJobView, streams_of, carried, link_list, messages_of}
use Rattle.luworld.proofs.Fitting.{job_of_run}
use Rattle.luflow.specs.Streams as streams
use Rattle.luflow.specs.Messages.{marks, messages}
use Rattle.test_reference.proofs.Ranges.{map_same}
use Rattle.std.specs.Prelude.{slice_index, All, Contains}
use Rattle.std.proofs.lemmas.Bool.{cases_lt}
use Rattle.std.proofs.lemmas.List.Elements.{All-weaker}
use Rattle.luflow.specs.declared.form.Flow.{Flow}
use Rattle.luflow.specs.Program.{FlatView, InputsView, IsOrdered, flow_at, flows_of, places, clock_reads, form_reads, reads}
use Rattle.luflow.specs.declared.form.Clock.{Clock}
use Rattle.luflow.specs.Streams.{Streams, clock_at}
use Rattle.luflow.specs.Solution.{says, solution, clock_of_flow}
use Rattle.luflow.proofs.Solutions.{Agree, clock-same, says-same, all_left, all_right, place_of, rank_of, flow_there, IsSolution-solution}
use Rattle.test_reference.specs.declared.mark.Mark.{Mark}
use Rattle.test_reference.specs.declared.grid.Grid.{Grid}
use Rattle.test_reference.specs.AsMark.{as_mark}
use Rattle.test_reference.specs.Grids.{held, IsWith}
use Rattle.test_reference.specs.Filled.{IsFilled, IsFilledTo, IsWhole}

module _ (flat : FlatView) (inputs : InputsView) (ordered : IsOrdered flat) where
  abbrev σ : Streams
  σ = solution flat inputs

  agree : (grid : Grid) (t q : ℕ) (flow : Flow) → IsFilledTo flat inputs grid t q → q < length flat.order → flow_at flat (slice_index flat.order q) ≡ Some flow → Agree (held grid) σ flow t
  agree grid t q flow to lq is =
      let P : ℕ → Type 0 = λ r. held grid r t ≡ σ r t in
      let early : (r : ℕ) → Contains (take q flat.order) r → P r = λ r c. let w = place_of flat.order q r c in subst P w.3 (to.now w.0 w.1) in
      let all : All P (reads flow) = All-weaker (λ r. Contains (take q flat.order) r) P early (reads flow) (ordered.reads_first q flow lq is) in
      let i = slice_index flat.order q in
      record {
        now = all_left P (form_reads flow.form) (clock_reads flow.clock) all;
        then = λ u l. All-weaker (λ r. r < flows_of flat) (λ r. held grid r u ≡ σ r u) (λ r lr. to.filled.past r u lr l) (places flow.form) (ordered.places_in i flow is);
        clock_now = all_right P (form_reads flow.form) (clock_reads flow.clock) all;
        clock_then = λ u l. All-weaker (λ r. r < flows_of flat) (λ r. held grid r u ≡ σ r u) (λ r lr. to.filled.past r u lr l) (clock_reads flow.clock) (ordered.clocks_in i flow is);
      }

  pub inside : (q : ℕ) → q < length flat.order → slice_index flat.order q < flows_of flat
  inside q l = ordered.only_flows q 0 l

  pub filled_more : (old new : Grid) (t q : ℕ) (flow : Flow) (mark : Mark) → IsFilledTo flat inputs old t q → q < length flat.order → flow_at flat (slice_index flat.order q) ≡ Some flow → as_mark mark ≡ says inputs (held old) (Some flow) t → IsWith old new (slice_index flat.order q) t mark → IsFilledTo flat inputs new t (q + 1)
  filled_more old new t q flow mark to lq is m with' =
      let i = slice_index flat.order q in
      let wide : old.width ≡ flows_of flat = to.filled.width in
      let here : held new i t ≡ σ i t =
      with'.here ∙ m ∙ says-same inputs (held old) σ t flow (agree old t q flow to lq is)
      ∙ sym (ap (λ o. says inputs σ o t) is) ∙ sym (IsSolution-solution flat inputs ordered i t (inside q lq)) in
      record {
        filled = record {
          width = with'.width ∙ wide;
          past = λ j u lj lu. let n : u ≢ t = omega arith in let l : j < old.width = omega (arith, wide) in with'.others j u l (inr n) ∙ to.filled.past j u lj lu;
        };
        now = λ k lk. elim (cases_lt k q) [
          | inl l ↦
              let lk' : k < length flat.order = omega arith in
              let n : slice_index flat.order k ≢ i = λ e. let s : k ≡ q = ordered.once k q lk' lq e in absurd (omega arith) in
              let b = inside k lk' in
              let l' : slice_index flat.order k < old.width = omega (arith, wide, b) in
              with'.others (slice_index flat.order k) t l' (inl n) ∙ to.now k l
          | inr r ↦ let s : q ≡ k = omega arith in subst (λ (p : ℕ). held new (slice_index flat.order p) t ≡ σ (slice_index flat.order p) t) s here
        ];
      }

  pub filled_none : (grid : Grid) (t : ℕ) → IsFilled flat inputs grid t → IsFilledTo flat inputs grid t 0
  filled_none grid t f = record { filled = f; now = λ k l. absurd (omega arith) }

  pub filled_next : (grid : Grid) (t : ℕ) → IsFilledTo flat inputs grid t (length flat.order) → IsFilled flat inputs grid (t + 1)
  filled_next grid t to = record {
    width = to.filled.width;
    past = λ i u li lu. elim (cases_lt u t) [
      | inl l ↦ to.filled.past i u li l
      | inr r ↦
          let s : t ≡ u = omega arith in
          let w = rank_of flat ordered i li in
          let e : held grid i t ≡ σ i t = subst (λ (j : ℕ). held grid j t ≡ σ j t) w.2 (to.now w.0 w.1) in
          subst (λ (v : ℕ). held grid i v ≡ σ i v) s e
    ];
  }

pub filled_start : (flat : FlatView) (inputs : InputsView) (grid : Grid) → grid.width ≡ flows_of flat → IsFilled flat inputs grid 0
filled_start flat inputs grid w = record { width = w; past = λ i u li lu. absurd (omega arith) }

pub marks_same : (flat : FlatView) (inputs : InputsView) (grid : Grid) (n i : ℕ) → IsFilled flat inputs grid n → i < flows_of flat → marks (held grid i) n ≡ marks (solution flat inputs i) n
marks_same flat inputs grid n i f l = map_same (held grid i) (solution flat inputs i) n (λ t lt. f.past i t l lt)

-- the same, by the lists that a program has at hand
pub filled_by : (flat : FlatView) (inputs : InputsView) → IsOrdered flat → (old new : Grid) (t q : ℕ) (flows : List Flow) (order : List ℕ) (d : Flow) (mark : Mark) → flows ≡ flat.flows → order ≡ flat.order → IsFilledTo flat inputs old t q → q < length order → as_mark mark ≡ says inputs (held old) (Some (get_or flows (slice_index order q) d)) t → IsWith old new (slice_index order q) t mark → IsFilledTo flat inputs new t (q + 1)
filled_by flat inputs ordered old new t q flows order d mark ef eo to lq m with' =
    let lq' : q < length flat.order = subst (λ (xs : List ℕ). q < length xs) eo lq in
    let place : slice_index order q ≡ slice_index flat.order q = ap (λ (xs : List ℕ). slice_index xs q) eo in
    let w = flow_there flat ordered q lq' in
    let is : get_or flows (slice_index order q) d ≡ w.0 = ap₂ (λ (xs : List Flow) (k : ℕ). get_or xs k d) ef place ∙ get_or_from_slice_get flat.flows (slice_index flat.order q) w.0 d w.1 in
    let with'' : IsWith old new (slice_index flat.order q) t mark = subst (λ (i : ℕ). IsWith old new i t mark) place with' in
    filled_more flat inputs ordered old new t q w.0 mark to lq' w.1 (m ∙ ap (λ (f : Flow). says inputs (held old) (Some f) t) is) with''

pub whole_of : (job : JobView) (flat : FlatView) (inputs : InputsView) (n : ℕ) (r : Result Grid AllocError) → IsJobView job → flat ≡ job.plan.flat → inputs ≡ job.inputs → n ≡ job.inputs.instants → IfOk r (λ grid. IsFilled flat inputs grid n) → IfOk r (λ grid. grid.instants ≡ n) → IfOk r (IsWhole job)
whole_of job flat inputs n (Err e) run ef ei en f s = tt
whole_of job flat inputs n (Ok grid) run ef ei en f s =
    let f1 = subst (λ (p : FlatView). IsFilled p inputs grid n) ef f in
    let f2 = subst (λ (t : InputsView). IsFilled job.plan.flat t grid n) ei f1 in
    record { filled = subst (λ (k : ℕ). IsFilled job.plan.flat job.inputs grid k) en f2; sized = s ∙ en; few = run.table_is.few }

-- the marks of a flow, as they are in a job's grid
pub whole_marks : (job : JobView) (grid : Grid) (i : ℕ) → IsWhole job grid → i < flows_of job.plan.flat → marks (held grid i) grid.instants ≡ marks (streams_of job i) job.inputs.instants
whole_marks job grid i w l = ap (λ (n : ℕ). marks (held grid i) n) w.sized ∙ marks_same job.plan.flat job.inputs grid job.inputs.instants i w.filled l

pub length-marks : (s : ℕ → streams.Mark) (n : ℕ) → length (marks s n) ≡ n
length-marks s n = length-map-range_with_len s 0 n

pub flow_inside : (job : JobView) (l : ℕ) (k : Link) → IsJobView job → slice_get job.plan.links l ≡ Some k → k.flow < flows_of job.plan.flat
flow_inside job l k run is =
    let e : carried job.plan l ≡ k.flow = ap (λ (o : Option Link). unwrap_or (option_map (λ (x : Link). x.flow) o) 0) is in
    subst (λ (n : ℕ). n < flows_of job.plan.flat) e (let c = (job_of_run job run).is_plan.carries l (slice_get_within job.plan.links l k is) in let v = (job_of_run job run).is_plan.variables_first in omega (arith, c, v))

pub list_there : (job : JobView) (l : ℕ) (k : Link) → slice_get job.plan.links l ≡ Some k → link_list job (streams_of job) l ≡ messages 0 (marks (streams_of job k.flow) job.inputs.instants)
unfolding link_list
list_there job l k is = ap (λ (o : Option Link). messages_of job (streams_of job) (option_map (λ (x : Link). x.flow) o)) is

pub list_none : (job : JobView) (l : ℕ) → slice_get job.plan.links l ≡ None → link_list job (streams_of job) l ≡ []
unfolding link_list
list_none job l is = ap (λ (o : Option Link). messages_of job (streams_of job) (option_map (λ (x : Link). x.flow) o)) is

-- a clock, read from a grid that has all marks
pub clock_held : (flat : FlatView) (inputs : InputsView) (grid : Grid) (i t : ℕ) (k : Clock) → IsOrdered flat → IsFilled flat inputs grid inputs.instants → t < inputs.instants
    → option_map (λ (f : Flow). f.clock) (flow_at flat i) ≡ Some k → clock_at inputs (held grid) k t ≡ clock_of_flow inputs (solution flat inputs) (flow_at flat i) t
clock_held flat inputs grid i t k ordered filled lt at = go (flow_at flat i) refl at
  where
    go : (o : Option Flow) → flow_at flat i ≡ o → option_map (λ (f : Flow). f.clock) o ≡ Some k → clock_at inputs (held grid) k t ≡ clock_of_flow inputs (solution flat inputs) o t
    go None e h = let no : None ≡ Some k = h in cc
    go (Some f) e h =
        let same : f.clock ≡ k = same_Some f.clock k h in
        subst (λ k. clock_at inputs (held grid) k t ≡ clock_at inputs (solution flat inputs) f.clock t) same
        (clock-same inputs (held grid) (solution flat inputs) f.clock t
        (All-weaker (λ r. r < flows_of flat) (λ r. held grid r t ≡ solution flat inputs r t) (λ r lr. filled.past r t lr lt) (clock_reads f.clock) (ordered.clocks_in i f e)))
