use Rattle.std.proofs.Common.{◌≡◌, List, length, None, Some, ap, sym, subst, ◌∙◌}
use Rattle.std.specs.Prelude.{slice_get}
use Rattle.std.proofs.lemmas.Bool.{ltb-true}
use Rattle.std.proofs.lemmas.Option.{none-some, slice_get-get_or, slice_get_past}
use Rattle.lusite_program.specs.Logs.{Log, row_items}
use Rattle.lusite_program.specs.Programs.{Reports}
use Rattle.lusite.proofs.Drawn.{state_unreported, state_reported}
use Rattle.lusite.proofs.Passed.{lt_no}
use Rattle.lusite.proofs.state.SiteState.output.Goals as goal

pub returns-in_default : goal.returns-in_default
returns-in_default c =
    let a = c.args.self.now in
    state_unreported a c.requires c.args.k (λ i there. subst (Reports a.program.plan a.program.site i) c.in_default.is (c.reported_flow.ensures.there i there))

pub returns-in-Some-get : goal.returns-in-Some-get
returns-in-Some-get c =
    let a = c.args.self.now in
    let reported = state_reported a c.requires c.args.k c.in-Some.number (λ i there. subst (Reports a.program.plan a.program.site i) c.in-Some.is (c.reported_flow.ensures.there i there)) (λ none. none-some c.in-Some.number (sym (c.reported_flow.ensures.beyond none) ∙ c.in-Some.is)) in
    let deref = c.deref.result.now in
    let lookup = c.in-Some-get.ensures.lookup in
    let l = ltb-true c.in-Some.number (length deref) (sym lookup.0) in
    let there : slice_get a.logs.items c.in-Some.number ≡ Some c.in-Some-get.row.now = ap (λ (xs : List Log). slice_get xs c.in-Some.number) (sym c.deref.ensures.value) ∙ slice_get-get_or deref c.in-Some.number c.in-Some-get.row.now l ∙ ap Some (sym lookup.1) in
    c.as_slice.ensures.value ∙ sym (reported ∙ ap row_items there)

pub returns-in-None : goal.returns-in-None
returns-in-None c =
    let a = c.args.self.now in
    let reported = state_reported a c.requires c.args.k c.in-Some.number (λ i there. subst (Reports a.program.plan a.program.site i) c.in-Some.is (c.reported_flow.ensures.there i there)) (λ none. none-some c.in-Some.number (sym (c.reported_flow.ensures.beyond none) ∙ c.in-Some.is)) in
    let past = lt_no c.in-Some.number (length c.deref.result.now) (sym c.in-None.ensures.lookup.0) in
    let none : slice_get a.logs.items c.in-Some.number ≡ None = ap (λ (xs : List Log). slice_get xs c.in-Some.number) (sym c.deref.ensures.value) ∙ slice_get_past c.deref.result.now c.in-Some.number past in
    sym (reported ∙ ap row_items none)
