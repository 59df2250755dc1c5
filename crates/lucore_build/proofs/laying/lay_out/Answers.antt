use Rattle.std.proofs.Common.{◌≡◌, ◌∙◌, sym, subst}
use Rattle.std.specs.Prelude.{slice_get, Some}
use Rattle.std.proofs.lemmas.Option.{same_Some, slice_get_within, none-some}
use Rattle.lutree.specs.Tree.{ProgramTree, program_view}
use Rattle.lutype.proofs.CallPlaces.{means}
use Rattle.lucore_laws.proofs.Names.{placed}
use Rattle.lucore_build.proofs.laying.lay_out.Goals as goal

pub laid_at-requires-clause-inside : goal.laid_at-requires-clause-inside
laid_at-requires-clause-inside c =
    let p : ProgramTree = program_view c.args.catalog.now in
    let m = means p c.args.main.now c.in-Some.place (sym c.place.ensures ∙ c.in-Some.is) in
    slice_get_within p.nodes c.in-Some.place m.node m.there

pub returns-in_ok-laid-in-Some : goal.returns-in_ok-laid-in-Some
returns-in_ok-laid-in-Some c =
    λ n is.
    let p : ProgramTree = program_view c.args.catalog.now in
    let here = placed p c.args.main.now n is in
    let same = same_Some here.place c.in-Some.place (sym here.at_place ∙ sym c.place.ensures ∙ c.in-Some.is) in
    let there : slice_get p.nodes c.in-Some.place ≡ Some n = subst (λ i. slice_get p.nodes i ≡ Some n) same here.node in
    (c.in_ok-laid-in-Some.ensures.list n there, c.in_ok-laid-in-Some.ensures.variables n there, c.in_ok-laid-in-Some.ensures.types)

pub returns-in-None : goal.returns-in-None
returns-in-None c =
    λ n is.
    let p : ProgramTree = program_view c.args.catalog.now in
    let here = placed p c.args.main.now n is in
    absurd (none-some here.place (sym c.in-None.is ∙ c.place.ensures ∙ here.at_place))
