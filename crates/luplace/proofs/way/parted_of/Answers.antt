use Rattle.std.proofs.Common.{◌≡◌, ◌+◌, ℕ, List, Bool, length, ap, ap₂, sym, ◌∙◌, subst}
use Rattle.luflow.specs.Program.{FlatView, flows_of}
use Rattle.lubase.specs.Graph.{Graph, MarksCycles}
use Rattle.luplace.specs.Ways.{IsPartedVariable, AreAll}
use Rattle.luplace.specs.Sent.{marked}
use Rattle.luplace.proofs.Ending.{parted_all}
use Rattle.luplace.proofs.way.parted_of.Goals as goal

pub returns : goal.returns
returns c =
    let plan = c.args.plan.now in
    let same = c.flat-flat.ensures.flat in
    let flows : length c.flows-flows.result.now ≡ flows_of plan.flat = ap length c.flows-flows.ensures.flows ∙ ap (λ (f : FlatView). length f.flows) same in
    let main : length c.variables-variables.result.now ≡ length plan.flat.variables = ap length c.variables-variables.ensures ∙ ap (λ (f : FlatView). length f.variables) same in
    let cycles = subst (λ (g : Graph). MarksCycles g c.in_ok-cycles.cycles.items) c.as_slice.ensures.value c.in_ok-cycles.ensures.marks in
    let e : c.in_ok-marked.field-0.items ≡ marked c.in_ok-cycles.cycles.items (flows_of plan.flat + flows_of plan.flat) (length plan.flat.variables) =
    c.in_ok-marked.ensures
    ∙ ap (λ (ms : List Bool). marked ms (length c.flows-flows.result.now + length c.flows-flows.result.now) (length c.variables-variables.result.now)) c.as_slice-2.ensures.value
    ∙ ap₂ (λ (n m : ℕ). marked c.in_ok-cycles.cycles.items (n + n) m) flows main in
    subst (AreAll (IsPartedVariable plan)) (sym e) (parted_all plan c.flat-flat.ensures.plan.flat_is c.in_ok-rows.rows.items c.in_ok-cycles.cycles.items c.in_ok-rows.ensures cycles)
