use Rattle.std.proofs.Common.{◌≡◌, List, Some, sym, ap, ◌∙◌, subst}
use Rattle.std.specs.Prelude.{slice_get, option_map}
use Rattle.luflow.specs.declared.form.Flow.{Flow}
use Rattle.luflow.specs.Program.{FlatView, InputsView, IsOrdered, flow_at}
use Rattle.luflow.specs.Streams.{clock_at}
use Rattle.luworld.specs.Needs.{PlanView}
use Rattle.luworld.specs.Jobs.{is_open}
use Rattle.test_reference.specs.Grids.{held}
use Rattle.test_reference.proofs.FilledCells.{clock_held}
use Rattle.test_reference.proofs.cells.is_present.Goals as goal

pub returns-in-Some : goal.returns-in-Some
returns-in-Some c =
    let job = c.args.job.now in
    let i = c.args.flow in
    let flat : c.flat.result.now ≡ job.plan.flat = c.flat.ensures.flat ∙ ap (λ (q : PlanView). q.flat) c.plan.ensures.plan in
    let at : option_map (λ (f : Flow). f.clock) (flow_at job.plan.flat i) ≡ Some c.in-Some.clock =
    ap (λ (fl : FlatView). option_map (λ (f : Flow). f.clock) (slice_get fl.flows i)) (sym flat)
    ∙ ap (λ (xs : List Flow). option_map (λ (f : Flow). f.clock) (slice_get xs i)) (sym c.flows.ensures.flows)
    ∙ sym c.clock_of.ensures ∙ c.in-Some.is in
    c.is_open.ensures
    ∙ ap is_open (
    c.clock_at.ensures ∙ ap (λ (inputs : InputsView). clock_at inputs (held c.args.grid.now) c.in-Some.clock c.args.instant) c.inputs.ensures
    ∙ clock_held job.plan.flat job.inputs c.args.grid.now i c.args.instant c.in-Some.clock (subst IsOrdered flat c.flows.ensures.flat.ordered) c.requires.whole.filled c.requires.inside at
    )
