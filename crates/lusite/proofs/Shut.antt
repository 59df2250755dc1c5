-- Flows that are absent with the one before them.
use Rattle.std.proofs.Common.{◌≡◌, ℕ, ◌+◌, ◌<◌, Bool, true, false, length, Option, Some, None, refl, ap, ap₂, sym, ◌∙◌, subst}
use Rattle.std.specs.Prelude.{slice_get, slice_index, nat_lt, not, ◌||◌, is_some}
use Rattle.std.specs.Option.{option_map}
use Rattle.std.proofs.lemmas.Bool.{lt-ltb, false≢true}
use Rattle.std.proofs.lemmas.Option.{same_Some}
use Rattle.luflow.specs.declared.form.Flow.{Flow}
use Rattle.luflow.specs.Program.{InputsView, flow_at}
use Rattle.luflow.specs.Streams.{Streams, clock_at}
use Rattle.luflow.specs.Solution.{clock_of_flow}
use Rattle.luworld.specs.Needs.{PlanView, stands}
use Rattle.luworld.specs.Jobs.{is_open, knows, link_into, sends, streams_of}
use Rattle.lusite_program.specs.Programs.{clock_at_rank, places_of, ranks_of}
use Rattle.lusite_program.proofs.Ranks.{rank_known}
use Rattle.lusite.specs.declared.state.SiteState.{SiteState}
use Rattle.lusite.specs.Machine.{IsShutBefore, in_cell, cell_size, clock_there, shown_of, pasts_of}
use Rattle.lusite.specs.States.{IsGoing}
use Rattle.lusite.proofs.Machine.{clock_read, closed_clock, size_here}
use Rattle.lusite.proofs.SiteStates.{Going, going_state, place_in_job, size_state}
use Rattle.lusite.proofs.Moves.{place_within, rank_here}

clock_same : (inputs : InputsView) (σ : Streams) (t : ℕ) (o p : Option Flow) → option_map (λ (x : Flow). x.clock) o ≡ option_map (λ (x : Flow). x.clock) p → clock_of_flow inputs σ o t ≡ clock_of_flow inputs σ p t
clock_same inputs σ t None None e = refl
clock_same inputs σ t None (Some g) e = absurd cc
clock_same inputs σ t (Some f) None e = absurd cc
clock_same inputs σ t (Some f) (Some g) e = ap (λ k. clock_at inputs σ k t) (same_Some f.clock g.clock e)

-- a flow whose clock is false has no item at an instant of the table
shut_size : (o own early : Bool) (outs : ℕ) (into : Bool) → o ≡ false → early ≡ true → in_cell (not early || o) own early outs into ≡ 0
shut_size true own early outs into e l = absurd (false≢true (sym e))
shut_size false own true outs into e l = refl
shut_size false own false outs into e l = absurd (false≢true l)

module _ (a : SiteState) (on : IsGoing a) (l : a.row < length (places_of a.program.plan a.program.site)) (early : a.instant < a.inputs.job.inputs.instants) where
  g : Going a
  g = going_state a on

  abbrev i : ℕ
  i = slice_index a.inputs.job.plan.flat.order a.place.value

  lp : a.place.value < length a.program.plan.flat.order
  lp = place_within a on.in_order.set l

  lp' : a.place.value < length a.inputs.job.plan.flat.order
  lp' = place_in_job a on.in_order.set lp

  known : knows a.inputs.job.plan a.inputs.site i ≡ true
  known =
      let set = on.in_order.set in
      ap₂ (λ (q : PlanView) (k : ℕ). knows q k (slice_index q.flat.order a.place.value)) (sym set.plan_is) (sym set.site_is) ∙ rank_known a.program a.row a.place.value (rank_here a set l)

  -- the clock as the machine shows it
  clock_here : clock_there (shown_of a) (flow_at a.inputs.job.plan.flat i) ≡ clock_of_flow a.inputs.job.inputs (streams_of a.inputs.job) (flow_at a.inputs.job.plan.flat i) a.instant
  clock_here = (clock_read a.inputs.job a.inputs.site on.in_order.set.is_job (shown_of a) a.instant a.place.value early lp' known (g.stands.shown early)).0

  at_table : nat_lt a.instant a.inputs.job.inputs.instants ≡ true
  at_table = lt-ltb a.instant a.inputs.job.inputs.instants early

  abbrev Shut : Type 0
  Shut = is_open (clock_of_flow a.inputs.job.inputs (streams_of a.inputs.job) (flow_at a.inputs.job.plan.flat i) a.instant) ≡ false

  -- a flow without an item is absent, and one that is absent has none
  pub shut_here : cell_size a (slice_index a.program.plan.flat.order a.place.value) ≡ 0 → Shut
  shut_here none =
      let job = a.inputs.job in
      let s = a.inputs.site in
      let size = size_here job s on.in_order.set.is_job (shown_of a) (pasts_of a) a.instant a.place.value a.step g.stands lp' in
      let empty = size ∙ sym (size_state a g lp) ∙ none in
      ap is_open (sym clock_here) ∙ closed_clock (nat_lt a.instant job.inputs.instants) (clock_there (shown_of a) (flow_at job.plan.flat i)) (stands job.plan i s) (length (sends job.plan s i)) (is_some (link_into job.plan s i)) at_table known empty

  pub none_here : Shut → cell_size a (slice_index a.program.plan.flat.order a.place.value) ≡ 0
  none_here shut =
      let job = a.inputs.job in
      let s = a.inputs.site in
      let size = size_here job s on.in_order.set.is_job (shown_of a) (pasts_of a) a.instant a.place.value a.step g.stands lp' in
      size_state a g lp ∙ sym size ∙ shut_size (is_open (clock_there (shown_of a) (flow_at job.plan.flat i))) (stands job.plan i s) (nat_lt a.instant job.inputs.instants) (length (sends job.plan s i)) (is_some (link_into job.plan s i)) (ap is_open clock_here ∙ shut) at_table

  -- so is one that has the clock of the one before
  pub shut_same : IsShutBefore a → ((k p q : ℕ) → k + 1 ≡ a.row → slice_get (ranks_of a.program.plan a.program.site) k ≡ Some p → slice_get (ranks_of a.program.plan a.program.site) a.row ≡ Some q → clock_at_rank a.program.plan p ≡ clock_at_rank a.program.plan q) → Shut
  shut_same o same =
      let job = a.inputs.job in
      let e = same o.number o.rank a.place.value o.before o.there (rank_here a on.in_order.set l) in
      let e' = subst (λ (q : PlanView). clock_at_rank q o.rank ≡ clock_at_rank q a.place.value) on.in_order.set.plan_is e in
      ap is_open (sym (clock_same job.inputs (streams_of job) a.instant (flow_at job.plan.flat (slice_index job.plan.flat.order o.rank)) (flow_at job.plan.flat i) e')) ∙ o.is

-- behind a flow that is absent
pub shut_before : (a b : SiteState) (set : IsGoing a) (l : a.row < length (places_of a.program.plan a.program.site)) → b.program ≡ a.program → b.inputs ≡ a.inputs → b.instant ≡ a.instant → b.row ≡ a.row + 1 → is_open (clock_of_flow a.inputs.job.inputs (streams_of a.inputs.job) (flow_at a.inputs.job.plan.flat (slice_index a.inputs.job.plan.flat.order a.place.value)) a.instant) ≡ false → IsShutBefore b
shut_before a b on l ep ei et er shut = record {
  number = a.row;
  rank = a.place.value;
  before = sym er;
  there = ap (λ p. slice_get (ranks_of p.plan p.site) a.row) ep ∙ rank_here a on.in_order.set l;
  is = ap₂ (λ x t. is_open (clock_of_flow x.job.inputs (streams_of x.job) (flow_at x.job.plan.flat (slice_index x.job.plan.flat.order a.place.value)) t)) ei et ∙ shut;
}
