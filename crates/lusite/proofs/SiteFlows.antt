-- What the machine of a site has of its flows.
use Rattle.std.proofs.Common.{◌≡◌, ℕ, ◌+◌, ◌<◌, inl, inr, Bool, true, false, List, [], length, set, get_or, Option, Some, None, refl, sym, ap, ap₂, ◌∙◌, subst, arith}
use Rattle.std.specs.Prelude.{slice_get, slice_index, unwrap_or, not, ◌||◌, nat_lt, is_some, All}
use Rattle.std.proofs.lemmas.Option.{same_Some, slice_get-get_or, get_or_from_slice_get}
use Rattle.std.proofs.lemmas.Bool.{cases_lt}
use Rattle.luflow.specs.declared.data.Datum.{Datum}
use Rattle.luflow.specs.declared.form.Clock.{Clock}
use Rattle.luflow.specs.declared.form.Clock.TheVariants.{Base, On}
use Rattle.luflow.specs.declared.form.Flow.{Flow}
use Rattle.luflow.specs.declared.form.Form.TheVariants.{Input}
use Rattle.luflow.specs.declared.form.Outcome.{Outcome}
use Rattle.luflow.specs.Program.{flow_at, flows_of, column_of, places, clock_reads, IsOrdered}
use Rattle.luflow.specs.Values.{View, value_of}
use Rattle.luflow.proofs.Solutions.{first_of_all, some_at}
use Rattle.luworld.specs.Needs.{PlanView, stands}
use Rattle.luworld.specs.Jobs.{is_open, knows}
use Rattle.lueval_lines.specs.Cells.{clock_of, statuses, view_of}
use Rattle.lueval_lines.specs.Frames.{clock_in, value_there, datum_there, last_in, ticked_in, latest, view_in}
use Rattle.lueval_lines.specs.Moving.{moved_clock, moved_form}
use Rattle.lueval_lines.specs.Operations.{form_of}
use Rattle.lueval_lines.proofs.Moved.{IsSeen, value_moved}
use Rattle.lusite_program.specs.declared.program.Part.{Part}
use Rattle.lusite_program.specs.declared.program.SiteFlow.{SiteFlow}
use Rattle.lusite.specs.declared.state.SiteState.{SiteState}
use Rattle.lusite_program.specs.Programs.{SiteProgramView, part_of, part_at, ranks_of, places_of, IsSiteFlow, AreSiteFlows}
use Rattle.lusite.specs.Widths.{width, width_of}
use Rattle.lusite.specs.Machine.{in_cell, clock_there, cell_size, shown_of, pasts_of, pasts_in, outcome_of, Computes, IsSet}
use Rattle.lusite_program.proofs.SiteFlows.{part_there, place_below}
use Rattle.lusite.proofs.Held.{view_same}
use Rattle.lusite.proofs.Moves.{ordered_here, place_over, place_within, rank_here}
use Rattle.lusite.proofs.Rows.{row_here, shown_row, past_row}
use Rattle.lusite_program.proofs.Ranks.{places_has, rank_in, rank_known}

-- a flow that has items is present, or closes
pub begun_size : (open' own early : Bool) (outs : ℕ) (into : Bool) → 0 < in_cell open' own early outs into → in_cell true own early outs into ≡ in_cell open' own early outs into
begun_size true own early outs into l = refl
begun_size false own early outs into l = absurd (omega (arith, l))

-- a flow of the site's own is at hand
pub row_within : (a : SiteState) → IsSet a → a.place.value < length a.inputs.job.plan.flat.order → a.row < length (places_of a.program.plan a.program.site)
row_within a set lp = elim (cases_lt a.row (length (places_of a.program.plan a.program.site))) [
  | inl l ↦ l
  | inr g ↦
      let over = place_over a set g in
      let same = ap (λ (q : PlanView). length q.flat.order) set.plan_is in
      absurd (omega (arith, over, same, lp))
]

module _ (a : SiteState) (set_up : IsSet a) (site_flow : SiteFlow) (branches links : List ℕ) (is : IsSiteFlow a.program.plan a.program.site branches links a.place.value site_flow) (l : a.row < length (places_of a.program.plan a.program.site)) where
  abbrev i : ℕ
  i = slice_index a.program.plan.flat.order a.place.value

  abbrev put : ℕ → ℕ
  put = slice_index is.numbers

  lp : a.place.value < length a.program.plan.flat.order
  lp = place_within a set_up l

  ordered : IsOrdered a.program.plan.flat
  ordered = ordered_here a set_up

  number : (k r : ℕ) → slice_get (places_of a.program.plan a.program.site) k ≡ Some r → put r ≡ k
  number k r e = get_or_from_slice_get is.numbers r k 0 (is.numbered k r e)

  pub place_is : site_flow.line.place ≡ a.row
  place_is = is.place ∙ number a.row i (row_here a set_up l)

  part_here : part_of a.program.plan a.program.site i ≡ part_at a.program i
  part_here = sym (part_there a.program i (place_below a.program.plan a.place.value ordered lp))

  pub own_is : site_flow.own ≡ (part_at a.program i).own
  own_is = is.own ∙ ap (λ (x : Part). x.own) part_here

  pub reported_is : site_flow.reported ≡ (part_at a.program i).reported
  reported_is = is.reported ∙ ap (λ (x : Part). x.reported) part_here

  pub from_is : site_flow.from ≡ (part_at a.program i).from
  from_is = is.from ∙ ap (λ (x : Part). x.from) part_here

  pub outs_is : site_flow.outs ≡ length (part_at a.program i).to
  outs_is = is.outs ∙ ap (λ (x : Part). length x.to) part_here

  pub sent_is : (j : ℕ) → j < site_flow.outs → slice_index links (site_flow.first + j) ≡ slice_index (part_at a.program i).to j
  sent_is j lj = is.to j lj ∙ ap (λ (x : Part). slice_index x.to j) part_here

  -- a flow that the site knows is seen by its number as by its place
  abbrev Known : ℕ → Type 0
  Known r = knows a.program.plan a.program.site r ≡ true

  known_here : Known i
  known_here = rank_known a.program a.row a.place.value (rank_here a set_up l)

  row_of : (r : ℕ) → Known r → r < flows_of a.program.plan.flat → slice_get (places_of a.program.plan a.program.site) (put r) ≡ Some r
  row_of r known lr =
      let w = places_has a.program ordered r lr known in
      let e : slice_get (places_of a.program.plan a.program.site) w.0 ≡ Some r = slice_get-get_or (places_of a.program.plan a.program.site) w.0 0 w.1 ∙ ap Some w.2 in
      ap (slice_get (places_of a.program.plan a.program.site)) (number w.0 r e) ∙ e

  shown_known : (r : ℕ) → Known r → r < flows_of a.program.plan.flat → slice_get (statuses a.shown.items) (put r) ≡ slice_get (shown_of a) r
  shown_known r known lr = sym (shown_row a set_up (put r) r (row_of r known lr))

  past_known : (r : ℕ) → Known r → r < flows_of a.program.plan.flat → slice_get (pasts_in a.lasts.items a.counts.items) (put r) ≡ slice_get (pasts_of a) r
  past_known r known lr = sym (past_row a set_up (put r) r (row_of r known lr))

  -- the clock
  abbrev on : Bool
  on = unwrap_or (clock_in (statuses a.shown.items) (clock_of site_flow.line.clock)) false

  open_on : (o : Option Bool) → unwrap_or o false ≡ is_open o
  open_on None = refl
  open_on (Some b) = refl

  clock_same : (k : Clock) → All Known (clock_reads k) → All (λ r. r < flows_of a.program.plan.flat) (clock_reads k) → clock_in (statuses a.shown.items) (moved_clock put k) ≡ clock_in (shown_of a) k
  clock_same Base known low = refl
  clock_same (On c d) known low = ap (value_there d) (shown_known c (first_of_all Known c [] known) (first_of_all (λ r. r < flows_of a.program.plan.flat) c [] low))

  needs : (Q : PlanView → ℕ → Type 0) → Q a.inputs.job.plan a.inputs.site → Q a.program.plan a.program.site
  needs Q h = subst (λ (k : ℕ). Q a.program.plan k) (sym set_up.site_is) (subst (λ (q : PlanView). Q q a.inputs.site) (sym set_up.plan_is) h)

  clock_known : All Known (clock_reads is.flow.clock)
  clock_known = needs (λ q s. flow_at q.flat i ≡ Some is.flow → knows q s i ≡ true → All (λ r. knows q s r ≡ true) (clock_reads is.flow.clock)) (set_up.is_job.is_plan.needs_clock a.inputs.site i is.flow) is.there known_here

  on_is : on ≡ is_open (clock_there (shown_of a) (flow_at a.program.plan.flat i))
  on_is =
      open_on (clock_in (statuses a.shown.items) (clock_of site_flow.line.clock))
      ∙ ap (λ k. is_open (clock_in (statuses a.shown.items) k)) is.clock
      ∙ ap is_open (clock_same is.flow.clock clock_known (ordered.clocks_in i is.flow is.there))
      ∙ ap (λ (o : Option Flow). is_open (clock_there (shown_of a) o)) (sym is.there)

  -- what the flow at hand looks at
  module _ (d : Option Datum) where
    abbrev part : View
    part = view_in d (statuses a.shown.items) (pasts_in a.lasts.items a.counts.items) (put i)

    abbrev whole : View
    whole = view_in d (shown_of a) (pasts_of a) i

    seen : (r : ℕ) → Known r → r < flows_of a.program.plan.flat → IsSeen put part whole r
    seen r known lr =
        let now = ap datum_there (shown_known r known lr) in
        let last = ap last_in (past_known r known lr) in
        record { now = now; upto = ap₂ latest now last; last = last }

    was : part.was ≡ whole.was
    was = ap ticked_in (past_known i known_here (place_below a.program.plan a.place.value ordered lp))

    operands : stands a.inputs.job.plan i a.inputs.site ≡ true → All (IsSeen put part whole) (places is.flow.form)
    operands own =
        let known : All Known (places is.flow.form) = needs (λ q s. flow_at q.flat i ≡ Some is.flow → stands q i s ≡ true → All (λ r. knows q s r ≡ true) (places is.flow.form)) (set_up.is_job.is_plan.needs_operands a.inputs.site i is.flow) is.there (needs (λ q s. stands q i s ≡ true) own) in
        let low = ordered.places_in i is.flow is.there in
        λ k e lk. seen (get_or (places is.flow.form) k e) (known k e lk) (low k e lk)

  -- the value of the flow at hand
  pub computes_is : (d : Option Datum) (o : Outcome) → stands a.inputs.job.plan i a.inputs.site ≡ true → o ≡ value_of (form_of branches site_flow.line.operation) (view_of (λ c. d) (statuses a.shown.items) a.lasts.items site_flow.line.place) → ((c : ℕ) → form_of branches site_flow.line.operation ≡ Input c → stands a.inputs.job.plan c a.inputs.site ≡ true → d ≡ slice_get (column_of a.inputs.job.inputs c) a.instant) → Computes a i (flow_at a.program.plan.flat i) o
  computes_is d o own e given = record {
    given = d;
    is_given = λ c f flow form there. given c (is.form ∙ ap (moved_form put) (ap (λ (x : Flow). x.form) (same_Some is.flow f (sym is.there ∙ flow)) ∙ form)) there;
    is = e
        ∙ ap₂ (λ f j. value_of f (view_of (λ c. d) (statuses a.shown.items) a.lasts.items j)) is.form is.place
        ∙ ap (value_of (moved_form put is.flow.form)) (view_same a.lasts.items a.counts.items set_up.pasts_fit (statuses a.shown.items) d (put i))
        ∙ value_moved put (part d) (whole d) is.flow.form (operands d own) (was d) (λ c _. refl)
        ∙ ap (outcome_of d (shown_of a) (pasts_of a) i) (sym is.there);
  }

  -- how many items the flow at hand has
  pub size_is : (early : Bool) → early ≡ nat_lt a.instant a.inputs.job.inputs.instants → cell_size a i ≡ in_cell (not early || on) site_flow.own early site_flow.outs (is_some site_flow.from)
  size_is early e =
      ap (λ (b : Bool). in_cell (not b || is_open (clock_there (shown_of a) (flow_at a.program.plan.flat i))) (part_at a.program i).own b (length (part_at a.program i).to) (is_some (part_at a.program i).from)) (sym e)
      ∙ ap (λ (b : Bool). in_cell (not early || b) (part_at a.program i).own early (length (part_at a.program i).to) (is_some (part_at a.program i).from)) (sym on_is)
      ∙ ap₂ (λ (b : Bool) (n : ℕ). in_cell (not early || on) b early n (is_some (part_at a.program i).from)) (sym own_is) (sym outs_is)
      ∙ ap (λ (o : Option ℕ). in_cell (not early || on) site_flow.own early site_flow.outs (is_some o)) (sym from_is)

-- how many items a flow of the site's has where it is present
pub site_flow_width : (p : SiteProgramView) → IsOrdered p.plan.flat → (early : Bool) (k rank : ℕ) (branches links : List ℕ) (site_flow : SiteFlow) → IsSiteFlow p.plan p.site branches links rank site_flow → slice_get (ranks_of p.plan p.site) k ≡ Some rank → in_cell true site_flow.own early site_flow.outs (is_some site_flow.from) ≡ width p early (slice_index p.plan.flat.order rank)
site_flow_width p ordered early k rank branches links site_flow is there =
    ap₂ (λ (b : Bool) (n : ℕ). in_cell true b early n (is_some site_flow.from)) is.own is.outs
    ∙ ap (λ (o : Option ℕ). in_cell true (part_of p.plan p.site (slice_index p.plan.flat.order rank)).own early (length (part_of p.plan p.site (slice_index p.plan.flat.order rank)).to) (is_some o)) is.from
    ∙ ap (λ (x : Part). width_of x early) (sym (part_there p (slice_index p.plan.flat.order rank) (place_below p.plan rank ordered (rank_in p k rank there))))

pub row_width : (p : SiteProgramView) → IsOrdered p.plan.flat → (early : Bool) (branches links : List ℕ) (site_flows : List SiteFlow) → AreSiteFlows p.plan p.site branches links site_flows → (k : ℕ) (d : SiteFlow) (n : ℕ) → k < length site_flows → n ≡ in_cell true (get_or site_flows k d).own early (get_or site_flows k d).outs (is_some (get_or site_flows k d).from) → (rank : ℕ) × (slice_get (ranks_of p.plan p.site) k ≡ Some rank) × (n ≡ width p early (slice_index p.plan.flat.order rank))
row_width p ordered early branches links site_flows are k d n lk e =
    let rank = some_at (ranks_of p.plan p.site) k (let m = are.len in omega (arith, m, lk)) in
    (rank.0, rank.1, e ∙ site_flow_width p ordered early k rank.0 branches links (get_or site_flows k d) (are.each k rank.0 (get_or site_flows k d) rank.1 (slice_get-get_or site_flows k d lk)) rank.1)
