use Rattle.std.specs.Prelude.{Some}
use Rattle.std.proofs.Common.{subst, sym, ap, ◌∙◌}
use Rattle.std.proofs.lemmas.Option.{slice_get-get_or}
use Rattle.lutree.specs.Tree.{view, node_view, program_view}
use Rattle.luinside.specs.declared.step.Step.TheVariants as steps
use Rattle.luinside.specs.Standing.{Stands}
use Rattle.luinside.specs.Steps.{IsInside, Steps}
use Rattle.luinside.proofs.Stepped.{root_operator, inner_operator, root_other, inner_other, inner_call, node_at}
use Rattle.luinside.proofs.step.step_at.Goals as goal

pub returns-in-Some-2 : goal.returns-in-Some-2
returns-in-Some-2 c =
    let p = program_view c.args.catalog.now in
    let s = c.args.counts.now in
    let target = c.args.target in
    let n = node_view c.in-Some.scope.now in
    let xs = c.scopes.result.now in
    let got = c.in-Some.ensures.lookup in
    let here = slice_get-get_or xs c.args.node c.in-Some.scope.now got.3.0 ∙ ap Some (sym got.1) in
    let at = node_at c.args.catalog.now.nodes xs c.args.node c.in-Some.scope.now c.scopes.ensures here in
    let numbers = c.find.new.part.items in
    let x = c.in-Root.own in
    let stands = subst (Stands p s n target numbers) c.in-Root.is c.in_ok-find.ensures in
    subst (λ o. Steps p s o target c.in_ok-found-in-Some-2.found) (sym at)
    (root_operator p s n target numbers (view x.expression.now) x.here.place c.in-Some-2.reads c.in_ok-found-in-Some-2.found stands (sym c.in_ok-reads-in-Root.ensures ∙ c.in-Some-2.is)
    (λ k rest e. c.in_ok-found-in-Some-2.ensures k rest (c.as_slice.ensures.value ∙ e)))

pub returns-in-Root : goal.returns-in-Root
returns-in-Root c =
    let p = program_view c.args.catalog.now in
    let s = c.args.counts.now in
    let target = c.args.target in
    let n = node_view c.in-Some.scope.now in
    let xs = c.scopes.result.now in
    let got = c.in-Some.ensures.lookup in
    let here = slice_get-get_or xs c.args.node c.in-Some.scope.now got.3.0 ∙ ap Some (sym got.1) in
    let at = node_at c.args.catalog.now.nodes xs c.args.node c.in-Some.scope.now c.scopes.ensures here in
    let numbers = c.find.new.part.items in
    let x = c.in-Root.own in
    let stands = subst (Stands p s n target numbers) c.in-Root.is c.in_ok-find.ensures in
    subst (λ o. Steps p s o target steps.Nothing) (sym at)
    (root_other p s n target numbers (view x.expression.now) x.here.place stands (sym c.in_ok-reads-in-Root.ensures ∙ c.in-None.is))

pub returns-in-Some-3 : goal.returns-in-Some-3
returns-in-Some-3 c =
    let p = program_view c.args.catalog.now in
    let s = c.args.counts.now in
    let target = c.args.target in
    let n = node_view c.in-Some.scope.now in
    let xs = c.scopes.result.now in
    let got = c.in-Some.ensures.lookup in
    let here = slice_get-get_or xs c.args.node c.in-Some.scope.now got.3.0 ∙ ap Some (sym got.1) in
    let at = node_at c.args.catalog.now.nodes xs c.args.node c.in-Some.scope.now c.scopes.ensures here in
    let numbers = c.find.new.part.items in
    let x = c.in-Inner.own in
    let stands = subst (Stands p s n target numbers) c.in-Inner.is c.in_ok-find.ensures in
    subst (λ o. Steps p s o target c.in_ok-found-in-Some-3.found) (sym at)
    (inner_operator p s n target numbers (view x.expression.now) x.here.place x.here.calls c.in-Some-3.reads c.in_ok-found-in-Some-3.found stands (sym c.in_ok-reads-in-Inner.ensures ∙ c.in-Some-3.is)
    (λ k rest e. c.in_ok-found-in-Some-3.ensures k rest (c.as_slice-in-Some-3.ensures.value ∙ e)))

pub returns-in-Some-called : goal.returns-in-Some-called
returns-in-Some-called c =
    let p = program_view c.args.catalog.now in
    let s = c.args.counts.now in
    let target = c.args.target in
    let n = node_view c.in-Some.scope.now in
    let xs = c.scopes.result.now in
    let got = c.in-Some.ensures.lookup in
    let here = slice_get-get_or xs c.args.node c.in-Some.scope.now got.3.0 ∙ ap Some (sym got.1) in
    let at = node_at c.args.catalog.now.nodes xs c.args.node c.in-Some.scope.now c.scopes.ensures here in
    let numbers = c.find.new.part.items in
    let x = c.in-Inner.own in
    let stands = subst (Stands p s n target numbers) c.in-Inner.is c.in_ok-find.ensures in
    subst (λ o. Steps p s o target (steps.Inside c.in-Some-called.inside)) (sym at)
    (inner_call p s n target numbers x c.in-Some-called.inside stands (subst (IsInside p x) c.in-Some-called.is c.called.ensures))

pub returns : goal.returns
returns c =
    let p = program_view c.args.catalog.now in
    let s = c.args.counts.now in
    let target = c.args.target in
    let n = node_view c.in-Some.scope.now in
    let xs = c.scopes.result.now in
    let got = c.in-Some.ensures.lookup in
    let here = slice_get-get_or xs c.args.node c.in-Some.scope.now got.3.0 ∙ ap Some (sym got.1) in
    let at = node_at c.args.catalog.now.nodes xs c.args.node c.in-Some.scope.now c.scopes.ensures here in
    let numbers = c.find.new.part.items in
    let x = c.in-Inner.own in
    let stands = subst (Stands p s n target numbers) c.in-Inner.is c.in_ok-find.ensures in
    subst (λ o. Steps p s o target steps.Nothing) (sym at)
    (inner_other p s n target numbers x stands (sym c.in_ok-reads-in-Inner.ensures ∙ c.in-None-2.is) (subst (IsInside p x) c.in-None-called.is c.called.ensures))
