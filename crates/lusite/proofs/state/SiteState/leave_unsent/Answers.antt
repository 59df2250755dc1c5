use Rattle.std.proofs.Common.{◌<◌, length, List, refl, sym, ap, ap₂, ◌∙◌, ◌≡◌, ℕ, ◌≤◌, Bool, true, false, arith}
use Rattle.std.specs.Prelude.{slice_get, slice_index, nat_lt, not, ◌||◌, is_some}
use Rattle.luworld.specs.Jobs.{is_open}
use Rattle.luflow.specs.Program.{flow_at}
use Rattle.lusite.specs.Machine.{in_cell, clock_there, shown_of, cell_size}
use Rattle.lusite_program.specs.Programs.{SiteProgramView, part_at, ranks_of}
use Rattle.lusite.proofs.SiteStates.{going_state, full_state, size_state}
use Rattle.lusite.proofs.Moves.{place_within, rank_here}
use Rattle.std.proofs.lemmas.Bool.{lt-ltb, false≢true}
use Rattle.luflow.specs.declared.data.Status.{Status}
use Rattle.lusite.proofs.state.SiteState.leave_unsent.Goals as goal

-- a flow that isn't sent has one item at most
one_item : (open' own early : Bool) (outs : ℕ) (into : Bool) → outs ≡ 0 → in_cell open' own early outs into ≤ 1
one_item true true true outs into e = omega (arith, e)
one_item true true false outs into e = omega (arith, e)
one_item true false early outs true e = omega arith
one_item true false early outs false e = omega arith
one_item false own early outs into e = omega arith

pub pass-requires-clause-within : goal.pass-requires-clause-within
pass-requires-clause-within c = place_within c.args.self.now c.requires.going.in_order.set c.requires.row

pub pass-requires-clause-all : goal.pass-requires-clause-all
pass-requires-clause-all c =
    let a = c.args.self.now in
    let i = slice_index a.program.plan.flat.order a.place.value in
    let part = part_at a.program i in
    let early = nat_lt a.instant a.inputs.job.inputs.instants in
    let few = one_item (not early || is_open (clock_there (shown_of a) (flow_at a.program.plan.flat i))) part.own early _ (is_some part.from) (c.requires.unsent c.if-unsent.true) in
    full_state a (going_state a c.requires.going) (place_within a c.requires.going.in_order.set c.requires.row) (omega (arith, few, c.requires.first))

-- a flow that has items at an instant of the table is present
open_here : (o own early : Bool) (outs : ℕ) (into : Bool) → early ≡ true → 0 < in_cell (not early || o) own early outs into → o ≡ true
open_here true own early outs into e l = refl
open_here false own true outs into e l = absurd (omega (arith, l))
open_here false own false outs into e l = absurd (false≢true e)

pub returns-then-unsent-clause-follows : goal.returns-then-unsent-clause-follows
returns-then-unsent-clause-follows c _ =
    let a = c.args.self.now in
    let r = c.requires in
    let set = r.going.in_order.set in
    let g = going_state a r.going in
    let lp = place_within a set r.row in
    let i = slice_index a.program.plan.flat.order a.place.value in
    let part = part_at a.program i in
    let size = size_state a g lp in
    let first = r.first in
    let many = (g.stands.step_le (omega (arith, first))).1 in
    let has : 0 < cell_size a i = omega (arith, size, many, first) in
    let early = lt-ltb a.instant a.inputs.job.inputs.instants r.early in
    let open' = open_here (is_open (clock_there (shown_of a) (flow_at a.program.plan.flat i))) part.own (nat_lt a.instant a.inputs.job.inputs.instants) (length part.to) (is_some part.from) early has in
    let same = c.pass.ensures.goes_on.same.program_is in
    record {
      number = a.row;
      rank = a.place.value;
      before = sym c.pass.ensures.row;
      there = ap (λ (p : SiteProgramView). slice_get (ranks_of p.plan p.site) a.row) same ∙ rank_here a set r.row;
      is = ap₂ (λ (xs : List Status) (p : SiteProgramView). is_open (clock_there xs (flow_at p.plan.flat (slice_index p.plan.flat.order a.place.value)))) (c.pass.ensures.shown (omega (arith, first))) same ∙ open';
    }
