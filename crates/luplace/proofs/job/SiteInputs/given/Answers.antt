use Rattle.std.proofs.Common.{◌≡◌, true, false, None, ap, ◌∙◌, subst}
use Rattle.std.specs.Prelude.{slice_get}
use Rattle.luflow.specs.Program.{column_of}
use Rattle.luworld.specs.Needs.{stands}
use Rattle.luplace.specs.SiteInputsViews.{SiteInputsView, datum_of, given_data}
use Rattle.luplace.proofs.OwnColumns.{own_column, no_column}
use Rattle.luplace.proofs.job.SiteInputs.given.Goals as goal

pub returns-clause-own : goal.returns-clause-own
returns-clause-own c =
    let a = c.self.inside in
    let k = c.args.column in
    let t = c.args.instant in
    let P : SiteInputsView → Type 0 = λ x. stands x.job.plan k x.site ≡ true → c.datum_in.result ≡ slice_get (column_of x.job.inputs k) t in
    subst P c.self.view_is (λ own. c.datum_in.ensures
    ∙ ap (λ cs. datum_of (slice_get (given_data cs) k) t) c.as_slice.ensures.value
    ∙ ap (λ cs. datum_of (slice_get cs k) t) c.self.invariant.columns_are
    ∙ own_column a.job.value a.site k t own)

pub returns-clause-elsewhere : goal.returns-clause-elsewhere
returns-clause-elsewhere c =
    let a = c.self.inside in
    let k = c.args.column in
    let t = c.args.instant in
    let P : SiteInputsView → Type 0 = λ x. stands x.job.plan k x.site ≡ false → c.datum_in.result ≡ None in
    subst P c.self.view_is (λ other. c.datum_in.ensures
    ∙ ap (λ cs. datum_of (slice_get (given_data cs) k) t) c.as_slice.ensures.value
    ∙ ap (λ cs. datum_of (slice_get cs k) t) c.self.invariant.columns_are
    ∙ no_column a.job.value a.site k t other)
