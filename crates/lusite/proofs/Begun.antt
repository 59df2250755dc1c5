-- Where a computation is at hand.
use Rattle.std.proofs.Common.{◌≡◌, ℕ, ◌<◌, Bool, true, false, List, length, get_or, Option, Some, None, refl, ap, sym, ◌∙◌, arith}
use Rattle.std.specs.Prelude.{slice_get, slice_index, nat_lt, not, ◌||◌, ◌==◌, is_some, unwrap_or}
use Rattle.std.specs.Option.{option_map}
use Rattle.std.proofs.lemmas.Bool.{lt-ltb, ltb-true, false≢true}
use Rattle.std.proofs.lemmas.List.{length-map}
use Rattle.std.proofs.lemmas.Option.{same_Some, slice_get-get_or}
use Rattle.luflow.specs.declared.data.Status.{Status}
use Rattle.luflow.specs.declared.form.Flow.{Flow}
use Rattle.luflow.specs.Program.{flow_at}
use Rattle.luworld.specs.Jobs.{is_open}
use Rattle.lueval_lines.specs.Cells.{clock_of, statuses}
use Rattle.lueval_lines.specs.Frames.{clock_in}
use Rattle.lusite_program.specs.declared.program.SiteFlow.{SiteFlow}
use Rattle.lusite_program.specs.Programs.{part_at, places_of, ranks_of, AreSiteFlows, IsSiteFlow}
use Rattle.lusite.specs.declared.state.SiteState.{SiteState}
use Rattle.lusite.specs.declared.next.Next.TheVariants.{Local}
use Rattle.lusite.specs.Machine.{IsReadyAt, IsOpenBefore, in_cell, cell_size, clock_there, offered, shown_of}
use Rattle.lusite.specs.States.{IsGoing}
use Rattle.lusite.proofs.SiteStates.{going_state, ready_state}
use Rattle.lusite.proofs.SiteFlows.{own_is, size_is}
use Rattle.lusite.proofs.Moves.{offered_local, offered_own_here, place_within, rank_here}

clock_same : (now : List Status) (o p : Option Flow) → option_map (λ (x : Flow). x.clock) o ≡ option_map (λ (x : Flow). x.clock) p → clock_there now o ≡ clock_there now p
clock_same now None None e = refl
clock_same now None (Some g) e = absurd cc
clock_same now (Some f) None e = absurd cc
clock_same now (Some f) (Some g) e = ap (clock_in now) (same_Some f.clock g.clock e)

-- a flow of the site's own that is present has an item
own_size : (o own early : Bool) (outs : ℕ) (into : Bool) → o ≡ true → own ≡ true → early ≡ true → 0 < in_cell (not early || o) own early outs into
own_size true true true outs into eo en ee = omega arith
own_size true true false outs into eo en ee = absurd (false≢true ee)
own_size true false early outs into eo en ee = absurd (false≢true en)
own_size false own early outs into eo en ee = absurd (false≢true eo)

module _ (a : SiteState) (on : IsGoing a) (l : a.row < length (places_of a.program.plan a.program.site)) (early : a.instant < a.inputs.job.inputs.instants) (first : a.step ≡ 0) (branches links : List ℕ) (site_flows : List SiteFlow) (are : AreSiteFlows a.program.plan a.program.site branches links site_flows) (d : SiteFlow) (own : (get_or site_flows a.row d).own ≡ true) where
  abbrev i : ℕ
  i = slice_index a.program.plan.flat.order a.place.value

  abbrev x : SiteFlow
  x = get_or site_flows a.row d

  here : slice_get site_flows a.row ≡ Some x
  here =
      let n = length-map (ranks_of a.program.plan a.program.site) (slice_index a.program.plan.flat.order) in
      let m = are.len in
      slice_get-get_or site_flows a.row d (omega (arith, l, n, m))

  is : IsSiteFlow a.program.plan a.program.site branches links a.place.value x
  is = are.each a.row a.place.value x (rank_here a on.in_order.set l) here

  at_table : nat_lt a.instant a.inputs.job.inputs.instants ≡ true
  at_table = lt-ltb a.instant a.inputs.job.inputs.instants early

  own_part : (part_at a.program i).own ≡ true
  own_part = sym (own_is a on.in_order.set x branches links is l) ∙ own

  pub begun_local : offered a ≡ Local
  begun_local = sym (offered_local a i (part_at a.program i).to at_table (ap (λ j. j == 0) first) ∙ offered_own_here a on.in_order.set l on.going i refl own_part)

  ready : 0 < cell_size a i → IsReadyAt a
  ready has = ready_state a (going_state a on) (place_within a on.in_order.set l) (omega (arith, first, has))

  -- its clock is true
  pub begun_first : (b : Bool) → b ≡ nat_lt 0 (in_cell (not true || unwrap_or (clock_in (statuses a.shown.items) (clock_of x.line.clock)) false) x.own true x.outs (is_some x.from)) → b ≡ true → IsReadyAt a
  begun_first b e so =
      let size = size_is a on.in_order.set x branches links is l true (sym at_table) in
      ready (ltb-true 0 (cell_size a i) (ap (nat_lt 0) size ∙ sym e ∙ so))

  -- its clock is that of the flow before, which is present
  pub begun_same : x.same ≡ true → IsOpenBefore a → IsReadyAt a
  begun_same same o =
      let there = ap (slice_get (ranks_of a.program.plan a.program.site)) o.before ∙ rank_here a on.in_order.set l in
      let e = are.same o.number o.rank a.place.value x o.there there (ap (slice_get site_flows) o.before ∙ here) same in
      let part = part_at a.program i in
      let open' : is_open (clock_there (shown_of a) (flow_at a.program.plan.flat i)) ≡ true = ap is_open (sym (clock_same (shown_of a) (flow_at a.program.plan.flat (slice_index a.program.plan.flat.order o.rank)) (flow_at a.program.plan.flat i) e)) ∙ o.is in
      ready (own_size (is_open (clock_there (shown_of a) (flow_at a.program.plan.flat i))) part.own (nat_lt a.instant a.inputs.job.inputs.instants) (length part.to) (is_some part.from) open' own_part at_table)
