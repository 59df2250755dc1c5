use Rattle.std.proofs.Common.{◌≡◌, List, [], Some, None, ap, sym, ◌∙◌, subst}
use Rattle.std.specs.Prelude.{slice_get}
use Rattle.std.proofs.lemmas.Option.{slice_get-get_or, slice_get_past}
use Rattle.lusite_program.specs.Logs.{Log, row_items}
use Rattle.lusite.specs.Logs.{IsOutput}
use Rattle.lusite.specs.Sites.{SiteView}
use Rattle.lusite.proofs.Wholes.{whole_output}
use Rattle.lusite.proofs.whole.WholeSite.outputs.Goals as goal

pub returns-in-Some : goal.returns-in-Some
returns-in-Some c =
    let a = c.self.inside in
    let k = c.args.k in
    let h = whole_output a.job.value a.site a.sites a.instants a.names a.rows.items c.self.invariant k in
    let row = c.in-Some.row.now in
    let l = c.in-Some.ensures.lookup in
    let there : slice_get a.rows.items k ≡ Some row = ap (λ (xs : List Log). slice_get xs k) (sym c.deref.ensures.value) ∙ slice_get-get_or c.deref.result.now k row l.3.0 ∙ ap Some (sym (l.3.1 row)) in
    subst (λ (v : SiteView). IsOutput v.job v.site v.done k c.as_slice.result.now) c.self.view_is
    (subst (IsOutput a.job.value a.site _ k) (ap row_items there ∙ sym c.as_slice.ensures.value) h)

pub returns-in-None : goal.returns-in-None
returns-in-None c =
    let a = c.self.inside in
    let k = c.args.k in
    let h = whole_output a.job.value a.site a.sites a.instants a.names a.rows.items c.self.invariant k in
    let l = c.in-None.ensures.lookup in
    let none : slice_get a.rows.items k ≡ None = ap (λ (xs : List Log). slice_get xs k) (sym c.deref.ensures.value) ∙ slice_get_past c.deref.result.now k l.3 in
    subst (λ (v : SiteView). IsOutput v.job v.site v.done k []) c.self.view_is
    (subst (IsOutput a.job.value a.site _ k) (ap row_items none) h)
