use Rattle.std.proofs.Common.{◌≡◌, ℕ, List, sym, subst, ap, ◌∙◌}
use Rattle.std.specs.Prelude.{slice_get}
use Rattle.luflow.specs.declared.form.Form.TheVariants.{Input}
use Rattle.luflow.specs.Program.{data_of}
use Rattle.luflow.specs.Values.{value_of}
use Rattle.lueval_lines.specs.declared.cell.Cell.{Cell}
use Rattle.lueval_lines.specs.Cells.{given_at, held, input_of, outcome_of, statuses, view_of}
use Rattle.lueval_lines.specs.Operations.{form_of}
use Rattle.lueval.proofs.machine.Machine.compute.Goals as goal

pub returns : goal.returns
returns c =
    let inputs = c.args.inputs.now in
    let t = c.args.t in
    let line = c.args.line.now in
    let form = form_of c.args.branches.now line.operation in
    let lasts = c.args.self.now.lasts.items in
    let given : (k : ℕ) → form ≡ Input k → given_at inputs t k ≡ held c.given-table.result = λ k e.
    sym (c.given-table.ensures c.args.branches.now k (ap input_of e) ∙ ap (λ cs. slice_get (data_of (slice_get cs k)) t) c.columns.ensures) in
    subst (λ (xs : List Cell). outcome_of c.value_with.result ≡ value_of form (view_of (given_at inputs t) (statuses xs) lasts line.place)) c.deref.ensures.value
    (subst (λ (ys : List Cell). outcome_of c.value_with.result ≡ value_of form (view_of (given_at inputs t) (statuses c.deref.result.now) ys line.place)) c.deref-2.ensures.value (c.value_with.ensures (given_at inputs t) given))
