-- What is left of a site, by how many items each flow has.
use Rattle.std.proofs.Common.{◌≡◌, ℕ, zero, suc, ◌+◌, ◌-◌, ◌*◌, ◌<◌, ◌≤◌, inl, inr, Bool, true, false, cond, List, [], ◌∷◌, ◌++◌, length, map, drop, Option, Some, None, refl, sym, ap, ap₂, ◌∙◌, subst, arith, nat_eq}
use Rattle.std.specs.Prelude.{slice_get, slice_index, nat_lt, is_some, sum_by, unwrap_or, ◌&&◌, ◌||◌}
use Rattle.std.specs.List.{range_with_len, list_any}
use Rattle.std.proofs.Math.Seq.{drop-cons}
use Rattle.std.proofs.lemmas.List.{length-map}
use Rattle.std.proofs.lemmas.List.FromFn.{length-range_with_len}
use Rattle.std.proofs.lemmas.List.Sums.{sum_by-cons}
use Rattle.std.proofs.lemmas.List.Folds.{list_any_at}
use Rattle.std.proofs.lemmas.List.Elements.{All-get_or}
use Rattle.std.proofs.lemmas.Option.{slice_get_within, slice_get_past, get_or_from_slice_get}
use Rattle.std.proofs.lemmas.Bool.{cases_lt, lt-ltb, le-ltb, eq-eqb, ne_eqb, false≢true}
use Rattle.luflow.specs.Program.{flows_of, reads, IsOrdered}
use Rattle.luflow.proofs.Solutions.{some_at, IsSolution-solution}
use Rattle.lueval_lines.proofs.Faults.{fault_broken}
use Rattle.luflow.specs.Streams.{is_broken}
use Rattle.luworld.specs.Needs.{PlanView, stands}
use Rattle.luworld.specs.Systems.{Item, Compute, Puts, Takes}
use Rattle.luworld.specs.Outline.{Outline, Cell, cells, size, left_in, left_after, faulted_after, is_break, stops, NoStop, compute_items, message_items, flow_items}
use Rattle.luworld.specs.Jobs.{JobView, IsJobView, IsJob, streams_of, knows, outline, script, cell, items_before, sends, link_into, listed, HasNoStop}
use Rattle.luworld.proofs.Outlines.{message_is, broken_is}
use Rattle.luworld.proofs.Remaining.{cell_of, row, later, left_here, left_over, later_size, later_none, sum_drop_same, size_map}
use Rattle.lusite_program.specs.declared.program.Part.{Part}
use Rattle.lusite.specs.declared.next.Fault.{Fault}
use Rattle.lusite.specs.declared.state.SiteState.{SiteState}
use Rattle.lusite_program.specs.Programs.{SiteProgramView, part_of, parts_of, no_part, ranks_of, places_of, rank_at}
use Rattle.lusite.specs.Machine.{in_cell, is_faulted, Stands, IsSet, StandsAt, IsReadyAt, Ready, Over, ReportsFault, done_of, shown_of, pasts_of}
use Rattle.lusite.specs.Widths.{width_of, width, widths}
use Rattle.lusite.proofs.Machine.{ended}
use Rattle.lusite_program.proofs.SiteFlows.{filter_short, sends_short, part_there}
use Rattle.lusite.proofs.SiteStates.{Going, part_here}
use Rattle.lusite_program.proofs.Ranks.{AreUnknown, rank_in, rank_next, rank_le, unknown_first, unknown_next}
use Rattle.lusite.proofs.Offers.{Here, hand_next}

-- a width is small
width_few : (part : Part) (early : Bool) → width_of part early ≤ length part.to + 1
width_few part early = go part.own early (is_some part.from)
  where
    go : (own early into : Bool) → in_cell true own early (length part.to) into ≤ length part.to + 1
    go true true into = omega arith
    go true false into = omega arith
    go false early true = omega arith
    go false early false = omega arith

pub width_short : (a : SiteState) → IsSet a → (early : Bool) (i : ℕ) → width a.program early i ≤ 65537
width_short a set early i = elim (cases_lt i (flows_of a.inputs.job.plan.flat)) [
  | inl li ↦
      let plan = a.inputs.job.plan in
      let e = ap (λ (p : Part). width_of p early) (part_here a i set li) in
      let w = width_few (part_of plan a.inputs.site i) early in
      let n = sends_short plan a.inputs.site i in
      let few = set.is_job.is_plan.few_links in
      omega (arith, e, w, n, few)
  | inr ge ↦
      let plan = a.program.plan in
      let same = ap (λ (q : PlanView). flows_of q.flat) set.plan_is in
      let n = length-map (range_with_len 0 (flows_of plan.flat)) (part_of plan a.program.site) in
      let m = length-range_with_len 0 (flows_of plan.flat) in
      let none = slice_get_past (parts_of plan a.program.site) i (omega (arith, ge, same, n, m)) in
      let e = ap (λ (o : Option Part). width_of (unwrap_or o no_part) early) none in
      let w = width_few no_part early in
      omega (arith, e, w)
]

-- there are at most 4,096 ranks
pub order_short : (a : SiteState) → IsJobView a.inputs.job → IsSet a → length a.program.plan.flat.order ≤ 4096
order_short a run set =
    let flat = run.plan_is.flat_is in
    let same = ap (λ (q : PlanView). length q.flat.order) set.plan_is in
    let count = flat.ranked.count in
    let n = length-map a.inputs.job.plan.flat.flows reads in
    let few = flat.few in
    omega (arith, same, count, n, few)

-- and as few flows that the site knows
pub rows_short : (a : SiteState) → IsJobView a.inputs.job → IsSet a → length (places_of a.program.plan a.program.site) ≤ 4096
rows_short a run set =
    let n = order_short a run set in
    let short = filter_short (λ p. knows a.program.plan a.program.site (slice_index a.program.plan.flat.order p)) (range_with_len 0 (length a.program.plan.flat.order)) in
    let m = length-range_with_len 0 (length a.program.plan.flat.order) in
    let k = length-map (ranks_of a.program.plan a.program.site) (slice_index a.program.plan.flat.order) in
    omega (arith, n, short, m, k)

-- one rank more
pub widths_next : (p : SiteProgramView) (early : Bool) (order : List ℕ) (q : ℕ) → q < length order → widths p early (drop q order) ≡ width p early (slice_index order q) + widths p early (drop (q + 1) order)
widths_next p early order q lt =
    let k : q + 1 ≡ suc q = omega arith in
    ap (widths p early) (drop-cons order q 0 lt)
    ∙ sum_by-cons (width p early) (slice_index order q) (drop (suc q) order)
    ∙ ap (λ (n : ℕ). width p early (slice_index order q) + widths p early (drop n order)) (sym k)

pub widths_end : (p : SiteProgramView) (early : Bool) (order : List ℕ) (q : ℕ) → length order ≤ q → widths p early (drop q order) ≡ 0
widths_end p early [] zero le = refl
widths_end p early [] (suc q) le = refl
widths_end p early (x ∷ order) zero le = absurd (omega (arith, le))
widths_end p early (x ∷ order) (suc q) le = widths_end p early order q (omega (arith, le))

-- flows that a site neither computes nor takes have no items there
unknown_width : (p : SiteProgramView) (early : Bool) (q : ℕ) → IsOrdered p.plan.flat → q < length p.plan.flat.order → knows p.plan p.site (slice_index p.plan.flat.order q) ≡ false → width p early (slice_index p.plan.flat.order q) ≡ 0
unknown_width p early q ordered lq unknown =
    let i = slice_index p.plan.flat.order q in
    ap (λ (x : Part). width_of x early) (part_there p i (All-get_or (λ j. j < flows_of p.plan.flat) p.plan.flat.order q 0 lq ordered.only_flows))
    ∙ go (stands p.plan i p.site) (is_some (link_into p.plan p.site i)) unknown
  where
    go : (own into : Bool) → (own || into) ≡ false → in_cell true own early (length (sends p.plan p.site (slice_index p.plan.flat.order q))) into ≡ 0
    go true into h = absurd (false≢true (sym h))
    go false true h = absurd (false≢true (sym h))
    go false false h = refl

widths_over : (p : SiteProgramView) (early : Bool) (q d : ℕ) → IsOrdered p.plan.flat → q + d ≤ length p.plan.flat.order → AreUnknown p.plan p.site q (q + d) → widths p early (drop q p.plan.flat.order) ≡ widths p early (drop (q + d) p.plan.flat.order)
widths_over p early q zero ordered le h = let e : q ≡ q + 0 = omega arith in ap (λ n. widths p early (drop n p.plan.flat.order)) e
widths_over p early q (suc d) ordered le h =
    let order = p.plan.flat.order in
    let e : q + d + 1 ≡ q + suc d = omega arith in
    let next = widths_next p early order (q + d) (omega (arith, le)) in
    let none = unknown_width p early (q + d) ordered (omega (arith, le)) (h (q + d) (omega arith) (omega arith)) in
    let same : widths p early (drop (q + d) order) ≡ widths p early (drop (q + d + 1) order) = omega (arith, next, none) in
    widths_over p early q d ordered (omega (arith, le)) (λ r low high. h r low (omega (arith, high))) ∙ same ∙ ap (λ n. widths p early (drop n order)) e

-- from one flow of the site's to the next
pub widths_row : (p : SiteProgramView) (early : Bool) (k : ℕ) → IsOrdered p.plan.flat → (rank : ℕ) → slice_get (ranks_of p.plan p.site) k ≡ Some rank → widths p early (drop (rank_at p k) p.plan.flat.order) ≡ width p early (slice_index p.plan.flat.order rank) + widths p early (drop (rank_at p (k + 1)) p.plan.flat.order)
widths_row p early k ordered rank there =
    let order = p.plan.flat.order in
    let lq = rank_in p k rank there in
    let here : rank_at p k ≡ rank = ap (λ o. unwrap_or o (length order)) there in
    let above = rank_next p k rank there in
    let le = rank_le p (k + 1) in
    let e : rank + 1 + (rank_at p (k + 1) - (rank + 1)) ≡ rank_at p (k + 1) = omega (arith, above) in
    let over = widths_over p early (rank + 1) (rank_at p (k + 1) - (rank + 1)) ordered (omega (arith, e, le)) (subst (AreUnknown p.plan p.site (rank + 1)) (sym e) (unknown_next p k rank there)) in
    ap (λ n. widths p early (drop n order)) here
    ∙ widths_next p early order rank lq
    ∙ ap (λ n. width p early (slice_index order rank) + n) (over ∙ ap (λ n. widths p early (drop n order)) e)

-- behind the last of them there is nothing
pub widths_last : (p : SiteProgramView) (early : Bool) (k : ℕ) → length (places_of p.plan p.site) ≤ k → widths p early (drop (rank_at p k) p.plan.flat.order) ≡ 0
widths_last p early k le =
    let order = p.plan.flat.order in
    let n = length-map (ranks_of p.plan p.site) (slice_index order) in
    let end : rank_at p k ≡ length order = ap (λ o. unwrap_or o (length order)) (slice_get_past (ranks_of p.plan p.site) k (omega (arith, le, n))) in
    widths_end p early order (rank_at p k) (omega (arith, end))

-- all of them are all flows
pub widths_first : (a : SiteState) → IsSet a → (early : Bool) → widths a.program early (drop (rank_at a.program 0) a.program.plan.flat.order) ≡ widths a.program early (drop 0 a.program.plan.flat.order)
widths_first a set early =
    let p = a.program in
    let ordered : IsOrdered p.plan.flat = subst (λ (q : PlanView). IsOrdered q.flat) (sym set.plan_is) set.is_job.is_plan.ordered in
    let e : 0 + rank_at p 0 ≡ rank_at p 0 = omega arith in
    sym (widths_over p early 0 (rank_at p 0) ordered (let le = rank_le p 0 in omega (arith, le)) (subst (AreUnknown p.plan p.site 0) (sym e) (unknown_first p)) ∙ ap (λ n. widths p early (drop n p.plan.flat.order)) e)

-- nothing breaks where nothing stops
no_break : (plan : Outline) (before xs : List Item) → NoStop plan before xs → list_any (is_break plan) xs ≡ false
no_break plan before [] h = refl
no_break plan before (x ∷ xs) h = go x h.0 (no_break plan (before ++ x ∷ []) xs h.1)
  where
    go : (x : Item) → stops plan before x ≡ false → list_any (is_break plan) xs ≡ false → list_any (is_break plan) (x ∷ xs) ≡ false
    go (Compute i t) e rest = ap (λ (b : Bool). b || list_any (is_break plan) xs) e ∙ rest
    go (Puts l) e rest = rest
    go (Takes l) e rest = rest

-- a flow's items where it is present
module _ (job : JobView) (ok : IsJob job) (s : ℕ) where
  abbrev plan : Outline
  plan = outline job (streams_of job)

  abbrev order : List ℕ
  order = job.plan.flat.order

  items_long : (t i : ℕ) (own early : Bool) (into : Option ℕ) → length (cond early (cond own (Compute i t ∷ []) [] ++ cond own (map Puts (sends job.plan s i)) (map Takes (listed into))) (cond own (map Puts (sends job.plan s i)) (map Takes (listed into)))) ≡ in_cell true own early (length (sends job.plan s i)) (is_some into)
  items_long t i true true into = let e = length-map (sends job.plan s i) Puts in omega (arith, e)
  items_long t i true false into = length-map (sends job.plan s i) Puts
  items_long t i false true None = refl
  items_long t i false true (Some l) = refl
  items_long t i false false None = refl
  items_long t i false false (Some l) = refl

  cell_items : (t i : ℕ) → (cell_of plan s t i).items ≡ cond (nat_lt t job.inputs.instants) (compute_items plan s i t ++ message_items plan s i) (message_items plan s i)
  cell_items t i = go (nat_lt t job.inputs.instants)
    where
      go : (b : Bool) → (cond {A = Cell} b (record { shown = plan.present i t; items = flow_items plan s i t }) (record { shown = true; items = message_items plan s i })).items ≡ cond b (compute_items plan s i t ++ message_items plan s i) (message_items plan s i)
      go true = refl
      go false = refl

  cell_long : (t i : ℕ) → i < flows_of job.plan.flat → length (cell_of plan s t i).items ≡ width_of (part_of job.plan s i) (nat_lt t job.inputs.instants)
  cell_long t i li =
      ap length (cell_items t i)
      ∙ ap (λ (ys : List Item). length (cond (nat_lt t job.inputs.instants) (compute_items plan s i t ++ ys) ys)) (message_is job (streams_of job) ok.is_plan s t i li)
      ∙ items_long t i (stands job.plan i s) (nat_lt t job.inputs.instants) (link_into job.plan s i)

  -- the items of all flows from a rank on
  abbrev pub all_from : Bool → ℕ → ℕ
  all_from early p = sum_by (λ i. width_of (part_of job.plan s i) early) (drop p order)

  size_from : (t p : ℕ) → size (map (cell_of plan s t) (drop p order)) ≡ all_from (nat_lt t job.inputs.instants) p
  size_from t p =
      size_map (cell_of plan s t) (drop p order)
      ∙ sum_drop_same (λ i. length (cell_of plan s t i).items) (λ i. width_of (part_of job.plan s i) (nat_lt t job.inputs.instants)) order p
      (λ k lt. cell_long t (slice_index order k) (All-get_or (λ i. i < flows_of job.plan.flat) order k 0 lt ok.is_plan.ordered.only_flows))

  row_size : (t : ℕ) → size (row plan s t) ≡ all_from (nat_lt t job.inputs.instants) 0
  row_size t = size_from t 0

  whole_rows : (t : ℕ) → t < job.inputs.instants → size (later plan s t) ≡ ((job.inputs.instants - t) - 1) * all_from true 0 + all_from false 0
  whole_rows =
      later_size plan s (all_from true 0) (all_from false 0)
      (λ t lt. row_size t ∙ ap (λ (b : Bool). all_from b 0) (lt-ltb t job.inputs.instants lt))
      (row_size job.inputs.instants ∙ ap (λ (b : Bool). all_from b 0) (le-ltb job.inputs.instants job.inputs.instants (omega arith)))

  at_item : (t p j : ℕ) → t ≤ job.inputs.instants → p < length order → j < length (cell job (streams_of job) s t (slice_index order p)) → (left_in (cells plan s) (items_before job (streams_of job) s t p j) ≡ (size (map (cell_of plan s t) (drop p order)) - j) + size (later plan s t)) × (j ≤ size (map (cell_of plan s t) (drop p order)))
  unfolding items_before cell
  at_item t p j le lp lj = left_here plan s t p j le lp lj

  pub left_early : (t p j : ℕ) → t < job.inputs.instants → p < length order → j < length (cell job (streams_of job) s t (slice_index order p)) → (left_in (cells plan s) (items_before job (streams_of job) s t p j) ≡ (all_from true p - j) + (((job.inputs.instants - t) - 1) * all_from true 0 + all_from false 0)) × (j ≤ all_from true p)
  left_early t p j lt lp lj =
      let h = at_item t p j (omega arith) lp lj in
      let e = size_from t p ∙ ap (λ (b : Bool). all_from b p) (lt-ltb t job.inputs.instants lt) in
      (h.0 ∙ ap₂ (λ m n. (m - j) + n) e (whole_rows t lt), let le = h.1 in omega (arith, le, e))

  pub left_late : (t p j : ℕ) → t ≡ job.inputs.instants → p < length order → j < length (cell job (streams_of job) s t (slice_index order p)) → (left_in (cells plan s) (items_before job (streams_of job) s t p j) ≡ all_from false p - j) × (j ≤ all_from false p)
  left_late t p j last lp lj =
      let h = at_item t p j (omega (arith, last)) lp lj in
      let e = size_from t p ∙ ap (λ (b : Bool). all_from b p) (le-ltb t job.inputs.instants (omega (arith, last))) in
      let z = ap (λ (u : ℕ). size (later plan s u)) last ∙ later_none plan s in
      let none : (all_from false p - j) + 0 ≡ all_from false p - j = omega arith in
      (h.0 ∙ ap₂ (λ m n. (m - j) + n) e z ∙ none, let le = h.1 in omega (arith, le, e))

  pub left_end : left_in (cells plan s) (items_before job (streams_of job) s job.inputs.instants (length order) 0) ≡ 0
  unfolding items_before cell
  left_end = left_over plan s

-- what is left of a state that goes on
module _ (a : SiteState) (g : Going a) where
  abbrev site_plan : Outline
  site_plan = outline a.inputs.job (streams_of a.inputs.job)

  widths_are : (early : Bool) (p : ℕ) → widths a.program early (drop p a.program.plan.flat.order) ≡ all_from a.inputs.job g.set.is_job a.inputs.site early p
  widths_are early p =
      let job = a.inputs.job in
      ap (λ (q : PlanView). widths a.program early (drop p q.flat.order)) g.set.plan_is
      ∙ sum_drop_same (width a.program early) (λ i. width_of (part_of job.plan a.inputs.site i) early) job.plan.flat.order p
      (λ k lt. ap (λ (x : Part). width_of x early) (part_here a (slice_index job.plan.flat.order k) g.set (All-get_or (λ i. i < flows_of job.plan.flat) job.plan.flat.order k 0 lt g.set.is_job.is_plan.ordered.only_flows)))

  -- it hasn't faulted
  not_faulted : IsReadyAt a → faulted_after site_plan a.inputs.site (done_of a) ≡ false
  not_faulted (Ready lp lj) =
      let job = a.inputs.job in
      let h : Here a = record { going_on = g; place_lt = lp; step_lt = lj } in
      let x = some_at (cell job (streams_of job) a.inputs.site a.instant (slice_index job.plan.flat.order a.place.value)) a.step lj in
      let l = slice_get_within (script job (streams_of job) a.inputs.site) (done_of a) x.0 (hand_next a h ∙ x.1) in
      ap (λ (b : Bool). b && list_any (is_break site_plan) (script job (streams_of job) a.inputs.site)) (ne_eqb (done_of a) (length (script job (streams_of job) a.inputs.site)) (λ e. omega (arith, e, l)))
  not_faulted (Over et ep ej) =
      let job = a.inputs.job in
      let free = (ended_here et ep ej).1 in
      let e = no_break site_plan [] (script job (streams_of job) a.inputs.site) free in
      ap (λ (b : Bool). nat_eq (done_of a) (length (script job (streams_of job) a.inputs.site)) && b) e ∙ both (nat_eq (done_of a) (length (script job (streams_of job) a.inputs.site)))
    where
      ended_here : a.instant ≡ a.inputs.job.inputs.instants → a.place.value ≡ length a.inputs.job.plan.flat.order → a.step ≡ 0 → (items_before a.inputs.job (streams_of a.inputs.job) a.inputs.site a.inputs.job.inputs.instants (length a.inputs.job.plan.flat.order) 0 ≡ length (script a.inputs.job (streams_of a.inputs.job) a.inputs.site)) × HasNoStop a.inputs.job a.inputs.site
      ended_here et ep ej =
          let job = a.inputs.job in
          let st = subst (λ (j : ℕ). Stands job a.inputs.site (shown_of a) (pasts_of a) job.inputs.instants (length job.plan.flat.order) j false) ej (subst (λ (p : ℕ). Stands job a.inputs.site (shown_of a) (pasts_of a) job.inputs.instants p a.step false) ep (subst (λ (t : ℕ). Stands job a.inputs.site (shown_of a) (pasts_of a) t a.place.value a.step false) et g.stands)) in
          ended job a.inputs.site g.set.is_job (shown_of a) (pasts_of a) st

      both : (b : Bool) → (b && false) ≡ false
      both true = refl
      both false = refl

  left_cells : IsReadyAt a → left_after site_plan a.inputs.site (done_of a) ≡ left_in (cells site_plan a.inputs.site) (done_of a)
  left_cells ready = ap (λ (b : Bool). cond b 0 (left_in (cells site_plan a.inputs.site) (done_of a))) (not_faulted ready)

  pub state_early : IsReadyAt a → a.instant < a.inputs.job.inputs.instants → (left_after site_plan a.inputs.site (done_of a) ≡ (widths a.program true (drop a.place.value a.program.plan.flat.order) - a.step) + (((a.inputs.job.inputs.instants - a.instant) - 1) * widths a.program true (drop 0 a.program.plan.flat.order) + widths a.program false (drop 0 a.program.plan.flat.order))) × (a.step ≤ widths a.program true (drop a.place.value a.program.plan.flat.order))
  state_early (Ready lp lj) lt =
      let h = left_early a.inputs.job g.set.is_job a.inputs.site a.instant a.place.value a.step lt lp lj in
      let n = (a.inputs.job.inputs.instants - a.instant) - 1 in
      let e = ap (λ k. k - a.step) (sym (widths_are true a.place.value)) in
      let f = ap₂ (λ k m. n * k + m) (sym (widths_are true 0)) (sym (widths_are false 0)) in
      (left_cells (Ready lp lj) ∙ h.0 ∙ ap₂ (λ k m. k + m) e f, let w = widths_are true a.place.value in let le = h.1 in omega (arith, w, le))
  state_early (Over et ep ej) lt = absurd (omega (arith, et, lt))

  pub state_late : IsReadyAt a → a.inputs.job.inputs.instants ≤ a.instant → (left_after site_plan a.inputs.site (done_of a) ≡ widths a.program false (drop a.place.value a.program.plan.flat.order) - a.step) × (a.step ≤ widths a.program false (drop a.place.value a.program.plan.flat.order))
  state_late (Ready lp lj) ge =
      let le = g.stands.instant_le in
      let h = left_late a.inputs.job g.set.is_job a.inputs.site a.instant a.place.value a.step (omega (arith, ge, le)) lp lj in
      (left_cells (Ready lp lj) ∙ h.0 ∙ ap (λ k. k - a.step) (sym (widths_are false a.place.value)), let w = widths_are false a.place.value in let le = h.1 in omega (arith, w, le))
  state_late (Over et ep ej) ge =
      let job = a.inputs.job in
      let n : done_of a ≡ items_before job (streams_of job) a.inputs.site job.inputs.instants (length job.plan.flat.order) 0 =
      ap (λ (t : ℕ). items_before job (streams_of job) a.inputs.site t a.place.value a.step) et ∙ ap₂ (items_before job (streams_of job) a.inputs.site job.inputs.instants) ep ej in
      let z = left_cells (Over et ep ej) ∙ ap (left_in (cells site_plan a.inputs.site)) n ∙ left_end job g.set.is_job a.inputs.site in
      let k = ap (λ (q : PlanView). length q.flat.order) g.set.plan_is in
      let w = widths_end a.program false a.program.plan.flat.order a.place.value (omega (arith, k, ep)) in
      (z ∙ omega (arith, w), omega (arith, ej))

-- a state that reports a fault has faulted
pub state_faulted : (a : SiteState) → IsJobView a.inputs.job → IsSet a → StandsAt a → ReportsFault a → is_faulted a ≡ true → left_after (outline a.inputs.job (streams_of a.inputs.job)) a.inputs.site (done_of a) ≡ 0
state_faulted a run set st tells bad = go a.fault refl bad
  where
    go : (o : Option Fault) → a.fault ≡ o → is_some o ≡ true → left_after (outline a.inputs.job (streams_of a.inputs.job)) a.inputs.site (done_of a) ≡ 0
    go None e bad = absurd (false≢true bad)
    go (Some fault) e _ =
        let job = a.inputs.job in
        let σ = streams_of job in
        let items = script job σ a.inputs.site in
        let f = tells fault e in
        let breaks = fault_broken job.plan.flat job.inputs σ run.plan_is.flat_is run.fit (IsSolution-solution job.plan.flat job.inputs set.is_job.is_plan.ordered) f.place fault.instant fault.kind f.is in
        let broken : (outline job σ).broken f.place fault.instant ≡ true = broken_is job set.is_job f.place fault.instant f.inside f.in_time ∙ ap is_broken breaks in
        let last = slice_get_within items (length items - 1) (Compute f.place fault.instant) f.last in
        let any = list_any_at (is_break (outline job σ)) items (length items - 1) (Compute f.place fault.instant) last (ap (is_break (outline job σ)) (get_or_from_slice_get items (length items - 1) (Compute f.place fault.instant) (Compute f.place fault.instant) f.last) ∙ broken) in
        let all = eq-eqb (done_of a) (length items) (st.stopped bad).0 in
        ap₂ (λ (b : Bool) (c : Bool). cond (b && c) 0 (left_in (cells (outline job σ) a.inputs.site) (done_of a))) all any
