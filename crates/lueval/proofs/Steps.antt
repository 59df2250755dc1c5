-- One step of the evaluator, and what it keeps.
use Rattle.std.proofs.Common.{◌≡◌, ◌≢◌, ℕ, ◌+◌, ◌<◌, inl, inr, Bool, true, false, List, [], length, take, set, get_or, Option, Some, subst, refl, sym, ap, ap₂, ◌∙◌, arith, add-one}
use Rattle.std.specs.Prelude.{slice_get, slice_index, All, Contains, unwrap_or, nat_lt}
use Rattle.std.proofs.lemmas.List.Elements.{All-weaker, All-get_or}
use Rattle.std.proofs.lemmas.List.{length-set}
use Rattle.std.proofs.lemmas.Bool.{cases_lt}
use Rattle.std.proofs.lemmas.Option.{slice_get_within, slice_get-get_or, get_or_from_slice_get}
use Rattle.luflow.specs.declared.data.Datum.{Datum}
use Rattle.luflow.specs.declared.data.Status.{Status}
use Rattle.luflow.specs.declared.data.Status.TheVariants.{Absent, Present}
use Rattle.luflow.specs.declared.form.Clock.{Clock}
use Rattle.luflow.specs.declared.form.Clock.TheVariants.{Base, On}
use Rattle.luflow.specs.declared.form.Flow.{Flow}
use Rattle.luflow.specs.declared.form.FaultKind.{FaultKind}
use Rattle.luflow.specs.declared.form.Outcome.TheVariants.{Gives, Stuck}
use Rattle.luflow.specs.Program.{FlatView, InputsView, flow_at, flows_of, places, clock_reads, form_reads, reads}
use Rattle.luflow.specs.Streams.{Mark, Known, Broken, Streams, is_value, truth_in, clock_at, ticked, before}
use Rattle.luflow.specs.Values.{value_of, value_at, under}
use Rattle.luflow.specs.Solution.{clock_of_flow, IsSolution}
use Rattle.luflow.specs.Faults.{IsFault}
use Rattle.luflow.specs.Sound.{IsFit}
use Rattle.luflow.specs.Flats.{IsFlat}
use Rattle.luflow.proofs.Solutions.{first_of_all, all_left, all_right, place_of, place_in, flow_there}
use Rattle.luflow.proofs.Tidied.{stuck_broken}
use Rattle.lueval_lines.specs.declared.cell.Cell.{Cell}
use Rattle.lueval_lines.specs.declared.cell.Cell.TheVariants as cell
use Rattle.lueval_lines.specs.Frames.{clock_in, IsShown}
use Rattle.lueval_lines.specs.Cells.{status_of, statuses, given_at, view_of, looks_back, newest, AreLooked, IsLast}
use Rattle.lueval.specs.Whole.{IsEarlier}
use Rattle.lueval_lines.specs.Columns.{AreShown}
use Rattle.lueval.specs.Steps.{Stands}
use Rattle.lueval_lines.proofs.Reading.{clock_read}
use Rattle.lueval_lines.proofs.Faults.{equation, fault_broken, fault_within}
use Rattle.lueval_lines.proofs.Lines.{looked_inside}
use Rattle.lueval_lines.proofs.Spans.{slice_get-set_other, slice_get-set_same}
use Rattle.lueval_lines.proofs.Seeing.{cell_shown, last_newest, tick_newest}
use Rattle.lueval_lines.proofs.SlotValues.{IsLooked, IsSeen, same_form, value_seen}

known_sound : (s : Status) (m : Mark) → m ≡ Known s → m ≢ Broken
known_sound s m e h = cc

truth_there : (d : Datum) (status : Status) → (b : Bool) × (truth_in d (Known status) ≡ Some b)
truth_there d Absent = (false, refl)
truth_there d (Present x) = (is_value d x, refl)

clock_there : (inputs : InputsView) (σ : Streams) (shown : List Status) (clock : Clock) (t : ℕ) → All (IsShown σ shown t) (clock_reads clock) → (b : Bool) × (clock_at inputs σ clock t ≡ Some b)
clock_there inputs σ shown Base t h = (nat_lt t inputs.instants, refl)
clock_there inputs σ shown (On c d) t h =
    let w = first_of_all (IsShown σ shown t) c [] h in
    let k = truth_there d w.status in (k.0, ap (truth_in d) w.is ∙ k.1)

known_clock : (k o : Option Bool) (b : Bool) → k ≡ o → k ≡ Some b → k ≡ Some (unwrap_or o false)
known_clock k o b e h = h ∙ ap (λ (o : Option Bool). Some (unwrap_or o false)) (sym h ∙ e)

module _ (flat : FlatView) (inputs : InputsView) (σ : Streams) (is_flat : IsFlat flat) (fit : IsFit flat inputs) (sol : IsSolution flat inputs σ) where
  module _ (shown : List Status) (lasts : List Cell) (t p : ℕ) (stands : Stands flat inputs σ shown lasts t p) where
    read_now : (r : ℕ) → Contains (take p flat.order) r → IsShown σ shown t r
    read_now r c = let w = place_of flat.order p r c in subst (λ (i : ℕ). IsShown σ shown t i) w.3 (stands.now w.0 w.1 w.2)

    pub reads_shown : (i : ℕ) (flow : Flow) → p < length flat.order → i ≡ slice_index flat.order p → flow_at flat i ≡ Some flow → All (IsShown σ shown t) (reads flow)
    reads_shown i flow lp e is =
        let is' : flow_at flat (slice_index flat.order p) ≡ Some flow = sym (ap (flow_at flat) e) ∙ is in
        All-weaker (λ r. Contains (take p flat.order) r) (IsShown σ shown t) read_now (reads flow) (is_flat.ordered.reads_first p flow lp is')

    pub clock_here : (i : ℕ) (flow : Flow) → p < length flat.order → i ≡ slice_index flat.order p → flow_at flat i ≡ Some flow → t < inputs.instants → clock_at inputs σ flow.clock t ≡ Some (unwrap_or (clock_in shown flow.clock) false)
    clock_here i flow lp e is lt =
        let all = all_right (IsShown σ shown t) (form_reads flow.form) (clock_reads flow.clock) (reads_shown i flow lp e is) in
        let b = clock_there inputs σ shown flow.clock t all in
        known_clock (clock_at inputs σ flow.clock t) (clock_in shown flow.clock) b.0 (clock_read inputs σ shown flow.clock t lt all) b.1

    pub value_here : (i : ℕ) (flow : Flow) → p < length flat.order → i ≡ slice_index flat.order p → flow_at flat i ≡ Some flow → value_at inputs σ flow.clock flow.form t ≡ value_of flow.form (view_of (given_at inputs t) shown lasts i)
    value_here i flow lp e is =
        let here : ℕ → ℕ = λ r. r in
        let seen : (r : ℕ) → IsShown σ shown t r → IsSeen σ here shown t r = λ r w. record { status = w.status; there = w.there; is = w.is } in
        value_seen flat inputs σ here shown lasts t flow.clock flow.form i i (given_at inputs t) refl (record {
          reads = All-weaker (IsShown σ shown t) (IsSeen σ here shown t) seen (form_reads flow.form) (all_left (IsShown σ shown t) (form_reads flow.form) (clock_reads flow.clock) (reads_shown i flow lp e is));
          back = λ r one. looked r (first_of_all (IsLast flat inputs σ lasts t) r [] (subst (All (IsLast flat inputs σ lasts t)) one (stands.kept i flow is)));
          clock = sym (ap (λ (o : Option Flow). ticked (clock_of_flow inputs σ o) t) is);
          input = λ c _. refl;
        })
        ∙ ap (λ f. value_of f (view_of (given_at inputs t) shown lasts i)) (same_form flow.form)
      where
        looked : (r : ℕ) → IsLast flat inputs σ lasts t r → IsLooked flat inputs σ (λ k. k) lasts t r
        looked r w = record { cell = w.cell; there = w.there; last = w.last; ticks = w.ticks }

    -- nothing that it looks at is broken, so its value is not stuck
    pub not_stuck : (i : ℕ) (flow : Flow) → p < length flat.order → i ≡ slice_index flat.order p → flow_at flat i ≡ Some flow → t < inputs.instants → clock_at inputs σ flow.clock t ≡ Some true → value_at inputs σ flow.clock flow.form t ≡ Stuck → ⊥
    not_stuck i flow lp e is lt on stuck =
        let sound = λ (u : ℕ) (l : u < t) (xs : List ℕ) (h : All (λ r. r < flows_of flat) xs). All-weaker (λ r. r < flows_of flat) (λ r. σ r u ≢ Broken) (λ r lr. stands.sound r u lr l) xs h in
        stuck_broken flat inputs σ is_flat.ordered is_flat.sound fit sol i t flow is lt on stuck (record {
          now = All-weaker (IsShown σ shown t) (λ r. σ r t ≢ Broken) (λ r w. known_sound w.status (σ r t) w.is) (form_reads flow.form) (all_left (IsShown σ shown t) (form_reads flow.form) (clock_reads flow.clock) (reads_shown i flow lp e is));
          then = λ u l. sound u l (places flow.form) (is_flat.ordered.places_in i flow is);
          clock_then = λ u l. sound u l (clock_reads flow.clock) (is_flat.ordered.clocks_in i flow is);
        })

    -- the flow of rank p gets its status
    advance : (i : ℕ) (flow : Flow) (s : Status) → p < length flat.order → i ≡ slice_index flat.order p → flow_at flat i ≡ Some flow → σ i t ≡ Known s → Stands flat inputs σ (set shown i s) lasts t (p + 1)
    advance i flow s lp e is known =
        let li : i < length shown = let l = slice_get_within flat.flows i flow is in let n = stands.shown_len in omega arith in
        record {
          shown_len = length-set shown i s ∙ stands.shown_len;
          lasts_len = stands.lasts_len;
          now = λ q l lq. elim (cases_lt q p) [
            | inl lp' ↦
                let w = stands.now q lp' lq in
                let ne : slice_index flat.order q ≢ i = λ h. let same = is_flat.ordered.once q p lq lp (h ∙ e) in let g : q < p = lp' in absurd (omega arith) in
                record { status = w.status; there = slice_get-set_other shown i (slice_index flat.order q) s ne ∙ w.there; is = w.is }
            | inr ge ↦
                let pq : p ≡ q = omega arith in
                subst (λ (j : ℕ). IsShown σ (set shown i s) t j) (e ∙ ap (slice_index flat.order) pq) (record { status = s; there = slice_get-set_same shown i s li; is = known })
          ];
          kept = stands.kept;
          sound = stands.sound;
        }

    pub step_absent : (i : ℕ) (flow : Flow) → p < length flat.order → i ≡ slice_index flat.order p → flow_at flat i ≡ Some flow → t < inputs.instants → unwrap_or (clock_in shown flow.clock) false ≡ false → Stands flat inputs σ (set shown i Absent) lasts t (p + 1)
    step_absent i flow lp e is lt off =
        let k = clock_here i flow lp e is lt ∙ ap (λ b. Some b) off in
        advance i flow Absent lp e is (equation flat inputs σ is_flat fit sol i t flow is ∙ ap (λ q. under q (value_at inputs σ flow.clock flow.form t)) k)

    pub step_gives : (i : ℕ) (flow : Flow) (d : Datum) → p < length flat.order → i ≡ slice_index flat.order p → flow_at flat i ≡ Some flow → clock_at inputs σ flow.clock t ≡ Some true → value_at inputs σ flow.clock flow.form t ≡ Gives d → Stands flat inputs σ (set shown i (Present d)) lasts t (p + 1)
    step_gives i flow d lp e is on v = advance i flow (Present d) lp e is (equation flat inputs σ is_flat fit sol i t flow is ∙ ap₂ under on v)

    -- there is no fault before where the evaluator stands
    pub none_before : (u q i : ℕ) (kind : FaultKind) → slice_get flat.order q ≡ Some i → IsEarlier u q t p → IsFault flat inputs σ i u kind → ⊥
    none_before u q i kind there (inl l) f = stands.sound i u (fault_within flat inputs σ is_flat fit sol i u kind f) l (fault_broken flat inputs σ is_flat fit sol i u kind f)
    none_before u q i kind there (inr h) f =
        let lq = slice_get_within flat.order q i there in
        let e : slice_index flat.order q ≡ i = get_or_from_slice_get flat.order q i 0 there in
        let w = stands.now q h.1 lq in
        let b : σ i t ≡ Broken = subst (λ (v : ℕ). σ i v ≡ Broken) h.0 (fault_broken flat inputs σ is_flat fit sol i u kind f) in
        known_sound w.status (σ (slice_index flat.order q) t) w.is (ap (λ (j : ℕ). σ j t) e ∙ b)

  module _ (shown : List Cell) (lasts : List Cell) (t : ℕ) (stands : Stands flat inputs σ (statuses shown) lasts t (length flat.order)) where
    now_at : (i : ℕ) → i < flows_of flat → IsShown σ (statuses shown) t i
    now_at i li = let w = place_in flat.order i (is_flat.ordered.all_flows i li) in subst (λ (k : ℕ). IsShown σ (statuses shown) t k) w.2 (stands.now w.0 w.1 w.1)

    pub all_shown : AreShown σ (statuses shown) t
    all_shown i l = let n = stands.shown_len in now_at i (omega arith)

    -- the last values at the next instant
    module _ (looked : List ℕ) (are : AreLooked flat looked) (lasts' : List Cell) (each : (j : ℕ) (x y : Cell) → j < length looked → slice_get shown (slice_index looked j) ≡ Some x → slice_get lasts (slice_index looked j) ≡ Some y → slice_get lasts' (slice_index looked j) ≡ Some (newest x y)) where
      newest_at : (r : ℕ) → Contains looked r → r < flows_of flat → IsLast flat inputs σ lasts t r → IsLast flat inputs σ lasts' (t + 1) r
      newest_at r among lr old =
          let w = place_in looked r among in
          let sh = now_at r lr in
          let c = cell_shown shown r sh.status sh.there in
          let known : σ r t ≡ Known (status_of c.0) = sh.is ∙ ap Known (sym c.2) in
          let fl = flow_there_at r lr in
          let clock = ap (λ o. clock_of_flow inputs σ o t) fl.1 in
          subst (λ (u : ℕ). IsLast flat inputs σ lasts' u r) (sym (add-one t)) (record {
            cell = newest c.0 old.cell;
            there = subst (λ (k : ℕ). slice_get lasts' k ≡ Some (newest c.0 old.cell)) w.2 (each w.0 c.0 old.cell w.1 (ap (slice_get shown) w.2 ∙ c.1) (ap (slice_get lasts) w.2 ∙ old.there));
            last = last_newest (σ r t) c.0 old.cell (before (σ r) t) known old.last;
            ticks = tick_newest (clock_of_flow inputs σ (flow_at flat r) t) (ticked (clock_of_flow inputs σ (flow_at flat r)) t) (value_at inputs σ fl.0.clock fl.0.form t) (σ r t) c.0 old.cell known (equation flat inputs σ is_flat fit sol r t fl.0 fl.1 ∙ ap (λ k. under k (value_at inputs σ fl.0.clock fl.0.form t)) (sym clock)) old.ticks;
          })
        where
          flow_there_at : (i : ℕ) → i < flows_of flat → (flow : Flow) × (flow_at flat i ≡ Some flow)
          flow_there_at i li =
              let w = place_in flat.order i (is_flat.ordered.all_flows i li) in
              let f = flow_there flat is_flat.ordered w.0 w.1 in
              (f.0, sym (ap (flow_at flat) w.2) ∙ f.1)

      -- the next instant
      pub turn : length lasts' ≡ length lasts → Stands flat inputs σ (statuses shown) lasts' (t + 1) 0
      turn len =
          record {
            shown_len = stands.shown_len;
            lasts_len = len ∙ stands.lasts_len;
            now = λ q l lq. absurd (omega arith);
            kept = λ i flow is k d lk.
                let r = get_or (looks_back i flow.form) k d in
                let among = are.all i flow is k d lk in
                let w = place_in looked r among in
                let inside : r < flows_of flat = subst (λ (n : ℕ). n < flows_of flat) w.2 (All-get_or (λ n. n < flows_of flat) looked w.0 0 w.1 are.inside) in
                newest_at r among inside (stands.kept i flow is k d lk);
            sound = λ r u lr l. elim (cases_lt u t) [
              | inl h ↦ stands.sound r u lr h
              | inr h ↦
                  let e : t ≡ u = omega arith in
                  let n = now_at r lr in
                  subst (λ (v : ℕ). σ r v ≢ Broken) e (known_sound n.status (σ r t) n.is)
            ];
          }

  -- before the first instant
  fresh_at : (lasts : List Cell) → length lasts ≡ flows_of flat → All (λ x. x ≡ cell.Absent) lasts → (r : ℕ) → r < flows_of flat → IsLast flat inputs σ lasts 0 r
  fresh_at lasts len fresh r lr =
      record {
        cell = cell.Absent;
        there = slice_get-get_or lasts r cell.Absent (omega arith) ∙ ap (λ (x : Cell). Some x) (fresh r cell.Absent (omega arith));
        last = refl;
        ticks = refl;
      }

  pub begin : (shown : List Status) (lasts : List Cell) → length shown ≡ flows_of flat → length lasts ≡ flows_of flat → All (λ x. x ≡ cell.Absent) lasts → Stands flat inputs σ shown lasts 0 0
  begin shown lasts sl ll fresh =
      record {
        shown_len = sl;
        lasts_len = ll;
        now = λ q l lq. absurd (omega arith);
        kept = λ i flow is. All-weaker (λ r. r < flows_of flat) (IsLast flat inputs σ lasts 0) (fresh_at lasts ll fresh) (looks_back i flow.form)
            (looked_inside i flow.form (flows_of flat) (slice_get_within flat.flows i flow is) (is_flat.ordered.places_in i flow is));
        sound = λ r u lr l. absurd (omega arith);
      }
