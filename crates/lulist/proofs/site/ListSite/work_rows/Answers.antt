use Rattle.std.proofs.Common.{◌≡◌, ℕ, true, List, Option, Some, None, refl, sym, subst, ap, ◌∙◌}
use Rattle.std.specs.Prelude.{slice_get}
use Rattle.luflow.specs.declared.data.Datum.{Datum}
use Rattle.luflow.specs.Program.{column_of}
use Rattle.luworld.specs.Needs.{stands}
use Rattle.luplace.specs.SiteInputsViews.{columns_at, datum_of}
use Rattle.luplace.proofs.OwnColumns.{own_column}
use Rattle.lueval_lines.specs.declared.cell.Cell.{Cell}
use Rattle.lueval_lines.specs.declared.lent.Lent.TheVariants.{Own}
use Rattle.lueval_lines.specs.Works.{AreWorkedBy, column_datum, lent_at}
use Rattle.lulist.proofs.Moving.{going_to, inside_shown, ordered_of, slots_shown, worked_by}
use Rattle.lulist.proofs.site.ListSite.work_rows.Goals as goal

same_datum : (o : Option (Option (List Datum))) (t : ℕ) → column_datum o t ≡ datum_of o t
same_datum None t = refl
same_datum (Some None) t = refl
same_datum (Some (Some column)) t = refl

pub work_all-come-requires-clause-inside : goal.work_all-come-requires-clause-inside
work_all-come-requires-clause-inside c = inside_shown c.args.self.now c.requires.going

pub returns-else-come-end-clause-going : goal.returns-else-come-end-clause-going
returns-else-come-end-clause-going c =
    let x = c.args.self.now in
    let going = c.requires.going in
    let early = c.requires.early in
    let lent = Own c.columns.result in
    let given : (n : ℕ) → stands x.inputs.job.plan n x.inputs.site ≡ true → lent_at lent x.t n ≡ slice_get (column_of x.inputs.job.inputs n) x.t = λ n own.
    ap (λ cs. column_datum (slice_get cs n) x.t) c.columns.ensures
    ∙ same_datum (slice_get (columns_at x.inputs.job x.inputs.site) n) x.t ∙ own_column x.inputs.job x.inputs.site n x.t own in
    let by : AreWorkedBy (ordered_of x) x.flows.lines.rows.items x.flows.lines.branches.items lent x.t c.deref.result.now =
    subst (λ (ys : List Cell). AreWorkedBy (ordered_of x) x.flows.lines.rows.items x.flows.lines.branches.items lent x.t ys) (sym c.deref.ensures.value) (worked_by x going early lent given) in
    going_to x c.work_all-come.new.shown c.work_all-come.result going c.work_all-come.ensures.len (c.work_all-come.ensures.shown (ordered_of x) by going.frame.flows.spans (slots_shown x going x.t x.at x.shown.items (going.shown early)))
