-- The moves of a state, from one flow that its site knows to the next.
use Rattle.std.proofs.Common.{◌≡◌, ℕ, ◌+◌, ◌-◌, ◌<◌, ◌≤◌, Bool, true, false, List, length, filter, set, Some, sym, ap, ap₂, ◌∙◌, subst, arith}
use Rattle.std.specs.Prelude.{slice_get, slice_index, unwrap_or, All, nat_lt, ◌==◌, if◌then◌else◌}
use Rattle.std.specs.List.{range_with_len}
use Rattle.std.proofs.lemmas.List.{length-map}
use Rattle.std.proofs.lemmas.Option.{slice_get_past, slice_get-get_or}
use Rattle.std.proofs.lemmas.List.Elements.{All-get_or}
use Rattle.luflow.specs.declared.data.Status.{Status}
use Rattle.luflow.specs.declared.data.Status.TheVariants.{Absent}
use Rattle.luflow.specs.Program.{flows_of, IsOrdered}
use Rattle.luflow.proofs.Solutions.{some_at}
use Rattle.luworld.specs.Needs.{PlanView}
use Rattle.luworld.specs.Jobs.{JobView, streams_of, knows, items_before}
use Rattle.lueval_lines.specs.declared.past.Past.{Past}
use Rattle.lueval_lines.specs.Frames.{later}
use Rattle.lusite.specs.declared.state.SiteState.{SiteState}
use Rattle.lusite.specs.declared.next.Next.{Next}
use Rattle.lusite.specs.declared.next.Next.TheVariants.{Local, Put, Take, Faulted}
use Rattle.luflow.specs.declared.data.Datum.{Datum}
use Rattle.luflow.specs.declared.message.Body.TheVariants.{Value, Close}
use Rattle.lusite.specs.KeptFlows.{IsKept}
use Rattle.lusite.specs.Machine.{is_faulted, Stands, IsSet, done_of, cell_size, offered, offered_at, offered_part, offered_own, count_kept, datum_shown, shown_of, pasts_of}
use Rattle.lusite_program.specs.Logs.{LogView, IsLogged}
use Rattle.lusite_program.specs.Programs.{SiteProgramView, ranks_of, places_of, rank_at, part_at, parts_of, no_part, knows_in}
use Rattle.lusite_program.proofs.Carried.{filter_same}
use Rattle.luworld.proofs.Cursor.{before_next_instant}
use Rattle.lusite.proofs.SiteStates.{Going, pass_state, tick_state, no_step}
use Rattle.lusite_program.proofs.SiteFlows.{part_there}
use Rattle.lusite.proofs.Skips.{stands_skip, logged_skip, before_skip}
use Rattle.lusite_program.proofs.Ranks.{AreUnknown, rank_le, rank_in, rank_next, unknown_first, unknown_next, places_has}

-- the ranks that the parts say are those of the flows that the site knows
pub ranks_found : (plan : PlanView) (s : ℕ) → IsOrdered plan.flat → filter (λ p. knows_in (unwrap_or (slice_get (parts_of plan s) (slice_index plan.flat.order p)) no_part)) (range_with_len 0 (length plan.flat.order)) ≡ ranks_of plan s
ranks_found plan s ordered =
    let p : SiteProgramView = record { plan = plan; site = s } in
    filter_same (λ r. knows_in (unwrap_or (slice_get (parts_of plan s) (slice_index plan.flat.order r)) no_part)) (λ r. knows plan s (slice_index plan.flat.order r)) 0 (length plan.flat.order)
    (λ r le lt. ap knows_in (part_there p (slice_index plan.flat.order r) (All-get_or (λ i. i < flows_of plan.flat) plan.flat.order r 0 (omega (arith, lt)) ordered.only_flows)))

-- before the first flow that a site knows
pub start_next : (p : SiteProgramView) (job : JobView) (s : ℕ) → p.plan ≡ job.plan → p.site ≡ s → (rank_at p 0 ≤ length job.plan.flat.order) × AreUnknown job.plan s 0 (rank_at p 0)
start_next p job s plan_is site_is = (
  subst (λ (q : PlanView). rank_at p 0 ≤ length q.flat.order) plan_is (rank_le p 0),
  subst (λ (k : ℕ). AreUnknown job.plan k 0 (rank_at p 0)) site_is (subst (λ (q : PlanView). AreUnknown q p.site 0 (rank_at p 0)) plan_is (unknown_first p)),
)

module _ (a : SiteState) (set : IsSet a) where
  abbrev job : JobView
  job = a.inputs.job

  abbrev s : ℕ
  s = a.inputs.site

  -- the site's program is of the job
  program_is : (Q : PlanView → ℕ → Type 0) → Q a.program.plan a.program.site → Q job.plan s
  program_is Q h = subst (λ (k : ℕ). Q job.plan k) set.site_is (subst (λ (q : PlanView). Q q a.program.site) set.plan_is h)

  -- the flow at hand is of the site's own
  pub rank_here : a.row < length (places_of a.program.plan a.program.site) → slice_get (ranks_of a.program.plan a.program.site) a.row ≡ Some a.place.value
  rank_here l =
      let n = length-map (ranks_of a.program.plan a.program.site) (slice_index a.program.plan.flat.order) in
      let x = some_at (ranks_of a.program.plan a.program.site) a.row (omega (arith, l, n)) in
      x.1 ∙ ap Some (sym (set.rank_is ∙ ap (λ o. unwrap_or o (length a.program.plan.flat.order)) x.1))

  pub place_within : a.row < length (places_of a.program.plan a.program.site) → a.place.value < length a.program.plan.flat.order
  place_within l = rank_in a.program a.row a.place.value (rank_here l)

  -- behind the last of them it is behind all flows
  pub place_over : length (places_of a.program.plan a.program.site) ≤ a.row → a.place.value ≡ length a.program.plan.flat.order
  place_over le =
      let n = length-map (ranks_of a.program.plan a.program.site) (slice_index a.program.plan.flat.order) in
      set.rank_is ∙ ap (λ o. unwrap_or o (length a.program.plan.flat.order)) (slice_get_past (ranks_of a.program.plan a.program.site) a.row (omega (arith, le, n)))

  -- what lies between two of them is unknown
  pub next_unknown : a.row < length (places_of a.program.plan a.program.site) → AreUnknown job.plan s (a.place.value + 1) (rank_at a.program (a.row + 1))
  next_unknown l = program_is (λ q k. AreUnknown q k (a.place.value + 1) (rank_at a.program (a.row + 1))) (unknown_next a.program a.row a.place.value (rank_here l))

  pub first_unknown : AreUnknown job.plan s 0 (rank_at a.program 0)
  first_unknown = program_is (λ q k. AreUnknown q k 0 (rank_at a.program 0)) (unknown_first a.program)

  pub rank_within : (k : ℕ) → rank_at a.program k ≤ length job.plan.flat.order
  rank_within k = program_is (λ q _. rank_at a.program k ≤ length q.flat.order) (rank_le a.program k)

  pub next_above : a.row < length (places_of a.program.plan a.program.site) → a.place.value < rank_at a.program (a.row + 1)
  next_above l = rank_next a.program a.row a.place.value (rank_here l)

  -- it stands behind them
  pub stands_next : (now : List Status) (pasts : List Past) (t p q : ℕ) (b : Bool) → b ≡ false → Stands job s now pasts t p 0 b → p ≤ q → q ≤ length job.plan.flat.order → AreUnknown job.plan s p q → Stands job s now pasts t q 0 b
  stands_next now pasts t p q b e st le lq h =
      subst (λ (f : Bool). Stands job s now pasts t q 0 f) (sym e) (stands_skip job s set.is_job now pasts t p q (subst (λ (f : Bool). Stands job s now pasts t p 0 f) e st) le lq h)

  -- the program's flows are in order
  pub ordered_here : IsOrdered a.program.plan.flat
  ordered_here = subst (λ (q : PlanView). IsOrdered q.flat) (sym set.plan_is) set.is_job.is_plan.ordered

  -- what is kept of the flows of the site's own is kept of each that it knows
  pub aged : (pasts' : List Past) → ((j k : ℕ) (x : Status) (y : Past) → slice_get a.kept.items j ≡ Some k → k < length (places_of a.program.plan a.program.site) → slice_get (shown_of a) (slice_index (places_of a.program.plan a.program.site) k) ≡ Some x → slice_get (pasts_of a) (slice_index (places_of a.program.plan a.program.site) k) ≡ Some y → slice_get pasts' (slice_index (places_of a.program.plan a.program.site) k) ≡ Some (later x y)) → (i : ℕ) → i < flows_of job.plan.flat → knows job.plan s i ≡ true → IsKept job.plan s i → (x : Status) (y : Past) → slice_get (shown_of a) i ≡ Some x → slice_get (pasts_of a) i ≡ Some y → slice_get pasts' i ≡ Some (later x y)
  aged pasts' each i li known keeps x y ex ey =
      let known' : knows a.program.plan a.program.site i ≡ true = ap₂ (λ q k. knows q k i) set.plan_is set.site_is ∙ known in
      let w = places_has a.program ordered_here i (subst (λ (q : PlanView). i < flows_of q.flat) (sym set.plan_is) li) known' in
      let here : slice_get (places_of a.program.plan a.program.site) w.0 ≡ Some i = slice_get-get_or (places_of a.program.plan a.program.site) w.0 0 w.1 ∙ ap Some w.2 in
      let keeps' = subst (λ (k : ℕ). IsKept a.program.plan k i) (sym set.site_is) (subst (λ (q : PlanView). IsKept q s i) (sym set.plan_is) keeps) in
      let n = set.kept_are.all w.0 i here keeps' in
      ap (slice_get pasts') (sym w.2) ∙ each n.0 w.0 x y n.1 w.1 (ap (slice_get (shown_of a)) w.2 ∙ ex) (ap (slice_get (pasts_of a)) w.2 ∙ ey)

-- a put, of a value or of the close
module _ (a : SiteState) (i : ℕ) (outs : List ℕ) where
  value_put : Next
  value_put = Put (slice_index outs (a.step - 1)) (record { no = count_kept (pasts_of a) i; body = Value (datum_shown (shown_of a) i) })

  close_put : Next
  close_put = Put (slice_index outs a.step) (record { no = count_kept (pasts_of a) i; body = Close })

  pub offered_value : (l n : ℕ) (d : Datum) → nat_lt a.instant a.inputs.job.inputs.instants ≡ true → (a.step == 0) ≡ false → l ≡ slice_index outs (a.step - 1) → n ≡ count_kept (pasts_of a) i → d ≡ datum_shown (shown_of a) i → Put l (record { no = n; body = Value d }) ≡ offered_own a i outs
  unfolding value_put close_put
  offered_value l n d early some el en ed =
      ap (λ k. Put k (record { no = n; body = Value d })) el
      ∙ ap₂ (λ m x. Put (slice_index outs (a.step - 1)) (record { no = m; body = Value x })) en ed
      ∙ ap₂ (λ (b e : Bool). if b then (if e then Local else value_put) else close_put) (sym early) (sym some)

  pub offered_local : nat_lt a.instant a.inputs.job.inputs.instants ≡ true → (a.step == 0) ≡ true → Local ≡ offered_own a i outs
  unfolding value_put close_put
  offered_local early none = ap₂ (λ (b e : Bool). if b then (if e then Local else value_put) else close_put) (sym early) (sym none)

  pub offered_close : (l n : ℕ) → nat_lt a.instant a.inputs.job.inputs.instants ≡ false → l ≡ slice_index outs a.step → n ≡ count_kept (pasts_of a) i → Put l (record { no = n; body = Close }) ≡ offered_own a i outs
  unfolding value_put close_put
  offered_close l n late el en =
      ap₂ (λ k m. Put k (record { no = m; body = Close })) el en
      ∙ ap (λ (b : Bool). if b then (if a.step == 0 then Local else value_put) else close_put) (sym late)

-- what is offered for the flow at hand
module _ (a : SiteState) (set : IsSet a) (l : a.row < length (places_of a.program.plan a.program.site)) (goes : is_faulted a ≡ false) (i : ℕ) (here : i ≡ slice_index a.program.plan.flat.order a.place.value) where
  offered_here : offered_part a i (part_at a.program i) ≡ offered a
  offered_here =
      ap (λ j. offered_part a j (part_at a.program j)) here
      ∙ ap (offered_at a) (sym (slice_get-get_or a.program.plan.flat.order a.place.value 0 (place_within a set l)))
      ∙ ap (λ (b : Bool). if b then Faulted else offered_at a (slice_get a.program.plan.flat.order a.place.value)) (sym goes)

  pub offered_own_here : (part_at a.program i).own ≡ true → offered_own a i (part_at a.program i).to ≡ offered a
  offered_own_here own = ap (λ (b : Bool). if b then offered_own a i (part_at a.program i).to else Take (unwrap_or (part_at a.program i).from 0)) (sym own) ∙ offered_here

  pub offered_take_here : (part_at a.program i).own ≡ false → Take (unwrap_or (part_at a.program i).from 0) ≡ offered a
  offered_take_here other = ap (λ (b : Bool). if b then offered_own a i (part_at a.program i).to else Take (unwrap_or (part_at a.program i).from 0)) (sym other) ∙ offered_here

-- from a flow whose items are all done to the next that the site knows
module _ (a : SiteState) (g : Going a) (l : a.row < length (places_of a.program.plan a.program.site)) where
  abbrev next : ℕ
  next = rank_at a.program (a.row + 1)

  pub pass_next : (now' : List Status) → a.step ≡ cell_size a (slice_index a.program.plan.flat.order a.place.value) → (a.step ≡ 0 → now' ≡ set (shown_of a) (slice_index a.program.plan.flat.order a.place.value) Absent) → (0 < a.step → now' ≡ (shown_of a)) → Stands a.inputs.job a.inputs.site now' (pasts_of a) a.instant next 0 (is_faulted a) × (items_before a.inputs.job (streams_of a.inputs.job) a.inputs.site a.instant next 0 ≡ done_of a)
  pass_next now' all cleared left =
      let r = pass_state a now' g (place_within a g.set l) all cleared left in
      let above : a.place.value + 1 ≤ next = let n = next_above a g.set l in omega (arith, n) in
      let unknown = next_unknown a g.set l in (
        stands_next a g.set now' (pasts_of a) a.instant (a.place.value + 1) next (is_faulted a) g.goes r.0 above (rank_within a g.set (a.row + 1)) unknown,
        before_skip a.inputs.job a.inputs.site g.set.is_job a.instant (a.place.value + 1) next above (rank_within a g.set (a.row + 1)) unknown ∙ r.1,
      )

  pub logged_next : (logs : List LogView) → IsLogged a.inputs.job a.inputs.site logs a.instant (a.place.value + 1) → IsLogged a.inputs.job a.inputs.site logs a.instant next
  logged_next logs h = logged_skip a.inputs.job a.inputs.site g.set.is_job logs a.instant (a.place.value + 1) next (let n = next_above a g.set l in omega (arith, n)) (next_unknown a g.set l) h

-- from the last flow of an instant to the first of the next that the site knows
module _ (a : SiteState) (g : Going a) (last : a.place.value ≡ length a.program.plan.flat.order) (early : a.instant < a.inputs.job.inputs.instants) where
  abbrev first : ℕ
  first = rank_at a.program 0

  pub tick_next : (pasts' : List Past) → length pasts' ≡ length (pasts_of a) → ((j k : ℕ) (x : Status) (y : Past) → slice_get a.kept.items j ≡ Some k → k < length (places_of a.program.plan a.program.site) → slice_get (shown_of a) (slice_index (places_of a.program.plan a.program.site) k) ≡ Some x → slice_get (pasts_of a) (slice_index (places_of a.program.plan a.program.site) k) ≡ Some y → slice_get pasts' (slice_index (places_of a.program.plan a.program.site) k) ≡ Some (later x y)) → All (λ x. x.count ≤ a.instant + 1) pasts' → Stands a.inputs.job a.inputs.site (shown_of a) pasts' (a.instant + 1) first 0 (is_faulted a) × (items_before a.inputs.job (streams_of a.inputs.job) a.inputs.site (a.instant + 1) first 0 ≡ done_of a)
  tick_next pasts' len each counts =
      let r = tick_state a pasts' g last early len (aged a g.set pasts' each) counts in
      let low : 0 ≤ first = omega arith in
      let unknown = first_unknown a g.set in (
        stands_next a g.set (shown_of a) pasts' (a.instant + 1) 0 first (is_faulted a) g.goes r.0 low (rank_within a g.set 0) unknown,
        before_skip a.inputs.job a.inputs.site g.set.is_job (a.instant + 1) 0 first low (rank_within a g.set 0) unknown ∙ r.1,
      )

  -- no item is done on the way
  pub tick_done : items_before a.inputs.job (streams_of a.inputs.job) a.inputs.site (a.instant + 1) first 0 ≡ done_of a
  tick_done =
      let job = a.inputs.job in
      let σ = streams_of job in
      let end' = last ∙ ap (λ (q : PlanView). length q.flat.order) g.set.plan_is in
      before_skip job a.inputs.site g.set.is_job (a.instant + 1) 0 first (omega arith) (rank_within a g.set 0) (first_unknown a g.set)
      ∙ before_next_instant job σ a.inputs.site a.instant
      ∙ ap₂ (items_before job σ a.inputs.site a.instant) (sym end') (sym (no_step a g end'))

  pub logged_first : (logs : List LogView) → IsLogged a.inputs.job a.inputs.site logs (a.instant + 1) 0 → IsLogged a.inputs.job a.inputs.site logs (a.instant + 1) first
  logged_first logs h = logged_skip a.inputs.job a.inputs.site g.set.is_job logs (a.instant + 1) 0 first (omega arith) (first_unknown a g.set) h
