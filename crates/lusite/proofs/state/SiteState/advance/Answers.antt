use Rattle.std.proofs.Common.{◌≡◌, ◌<◌, slice_index, ap, length, arith, sym, ◌∙◌}
use Rattle.luworld.specs.Needs.{PlanView}
use Rattle.lusite.specs.Machine.{cell_size, Over}
use Rattle.lusite_program.specs.Programs.{places_of}
use Rattle.lusite.proofs.SiteStates.{going_state, size_state, ready_state, full_state, no_step}
use Rattle.lusite.proofs.Moves.{place_within, place_over}
use Rattle.std.proofs.lemmas.Bool.{ltb-true}
use Rattle.lusite.proofs.Passed.{lt_no}
use Rattle.lusite.proofs.state.SiteState.advance.Goals as goal

pub has_item-requires-clause-begun : goal.has_item-requires-clause-begun
has_item-requires-clause-begun c some =
    let a = c.args.self.now in
    let g = going_state a c.requires in
    let l : a.row < length (places_of a.program.plan a.program.site) = omega (arith, ap length c.places.ensures) in
    let size = size_state a g (place_within a c.requires.in_order.set l) in
    let w = (g.stands.step_le some).1 in
    omega (arith, size, w)

pub pass_all-requires-clause-within : goal.pass_all-requires-clause-within
pass_all-requires-clause-within c =
    let a = c.args.self.now in
    place_within a c.requires.in_order.set (omega (arith, ap length c.places.ensures))

pub pass_all-requires-clause-all : goal.pass_all-requires-clause-all
pass_all-requires-clause-all c =
    let a = c.args.self.now in
    let l : a.row < length (places_of a.program.plan a.program.site) = omega (arith, ap length c.places.ensures) in
    let i = slice_index a.program.plan.flat.order a.place.value in
    full_state a (going_state a c.requires) (place_within a c.requires.in_order.set l) (lt_no a.step (cell_size a i) (sym c.has_item.ensures ∙ c.if-has_item.false))

pub returns-then-has_item-clause-ready : goal.returns-then-has_item-clause-ready
returns-then-has_item-clause-ready c _ =
    let a = c.args.self.now in
    let l : a.row < length (places_of a.program.plan a.program.site) = omega (arith, ap length c.places.ensures) in
    let i = slice_index a.program.plan.flat.order a.place.value in
    ready_state a (going_state a c.requires) (place_within a c.requires.in_order.set l) (ltb-true a.step (cell_size a i) (sym c.has_item.ensures ∙ c.if-has_item.true))

pub tick-requires-clause-last : goal.tick-requires-clause-last
tick-requires-clause-last c =
    let a = c.args.self.now in
    place_over a c.requires.in_order.set (omega (arith, ap length c.places.ensures))

pub returns-clause-ready : goal.returns-clause-ready
returns-clause-ready c _ =
    let a = c.args.self.now in
    let g = going_state a c.requires in
    let end : a.place.value ≡ length a.inputs.job.plan.flat.order = place_over a c.requires.in_order.set (omega (arith, ap length c.places.ensures)) ∙ ap (λ (q : PlanView). length q.flat.order) c.requires.in_order.set.plan_is in
    Over (omega (arith, c.requires.in_order.stands.instant_le, c.if-self-instants.false, c.instants.ensures)) end (no_step a g end)
