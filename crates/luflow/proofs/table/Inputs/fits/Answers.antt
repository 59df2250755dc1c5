use Rattle.std.proofs.Common.{◌≡◌, ap, ◌∙◌, subst}
use Rattle.luflow.specs.Program.{InputsView}
use Rattle.luflow.specs.Tables.{IsTable, AreColumnsOf, columns_view}
use Rattle.luflow.proofs.Fitting.{fits}
use Rattle.luflow.proofs.table.Inputs.fits.Goals as goal

pub returns-clause-fit : goal.returns-clause-fit
returns-clause-fit c is =
    let flat = c.args.flat.now in
    let inputs = c.args.self.now in
    let table : IsTable inputs = subst IsTable c.self.view_is c.self.invariant in
    let columns : columns_view c.as_slice.result.now ≡ inputs.columns = ap columns_view c.as_slice.ensures.value ∙ ap (λ (t : InputsView). t.columns) c.self.view_is in
    let here = c.are_columns_of.ensures.0 is in
    fits flat inputs c.inputs.ensures.flat table
    (subst (AreColumnsOf _) columns (subst (λ xs. AreColumnsOf xs (columns_view c.as_slice.result.now)) c.inputs.ensures.inputs here))
