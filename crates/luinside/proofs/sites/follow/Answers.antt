use Rattle.std.specs.Prelude.{◌-◌, Some, slice_get}
use Rattle.std.proofs.Common.{◌∷◌, ◌++◌, [], arith, refl, subst, sym, ap, ◌∙◌}
use Rattle.lutree.specs.Tree.{program_view}
use Rattle.luinside.specs.declared.step.Step.TheVariants as steps
use Rattle.luinside.specs.declared.sites.FaultSite.{FaultSite}
use Rattle.luinside.specs.Sites.{IsFaultSite}
use Rattle.luinside.specs.Steps.{Steps}
use Rattle.luinside.proofs.Following.{Arrived, arrived_first, arrived_next, node_there, nothing_found, operator_found, operator_told, call_behind, told_none}
use Rattle.luinside.proofs.sites.follow.Goals as goal

pub loop-start-init : goal.loop-start-init
loop-start-init c = λ main at_place counted flat is.
    let p = program_view c.args.catalog.now in
    subst (λ path. Arrived p main flat is c.args.counts.now counted c.args.place path c.args.main 0) (sym c.new-path.ensures.items)
    (arrived_first p main flat is c.args.counts.now counted c.args.place c.args.main at_place)

pub returns-in-Nothing : goal.returns-in-Nothing
returns-in-Nothing c = λ main at_place counted.
    let p = program_view c.args.catalog.now in
    let s = c.args.counts.now in
    let i = c.loop-start.node in
    let start = c.loop-start.start in
    let target = c.args.place - start in
    let found = subst (Steps p s (slice_get p.nodes i) target) c.in-Nothing.is c.in_ok-step_at.ensures in
    told_none p main c.args.place (λ flat is.
    let a = c.loop-start.invariant main at_place counted flat is in
    let step = subst (λ o. Steps p s o target steps.Nothing) (node_there p main flat is s counted c.args.place c.loop-start.path.items i start a) found in
    nothing_found p main flat is s counted c.args.place c.loop-start.path.items i start a step)

pub returns-in-Operator : goal.returns-in-Operator
returns-in-Operator c = λ main at_place counted.
    let p = program_view c.args.catalog.now in
    let s = c.args.counts.now in
    let place = c.args.place in
    let path = c.loop-start.path.items in
    let i = c.loop-start.node in
    let start = c.loop-start.start in
    let target = place - start in
    let x = c.in-Operator.found in
    let found = subst (Steps p s (slice_get p.nodes i) target) c.in-Operator.is c.in_ok-step_at.ensures in
    let is_site = c.in_ok-site-in-Operator.ensures in (
      λ flat is.
          let a = c.loop-start.invariant main at_place counted flat is in
          let step = subst (λ o. Steps p s o target (steps.Operator x)) (node_there p main flat is s counted place path i start a) found in
          ap (λ (site : FaultSite). Some site.reads) is_site ∙ sym (operator_found p main flat is s counted place path i start a (x.equation ∷ x.part) x.reads step),
      λ flat is inputs σ τ sol sol' t kind fault.
          let a = c.loop-start.invariant main at_place counted flat is in
          let step = subst (λ o. Steps p s o target (steps.Operator x)) (node_there p main flat is s counted place path i start a) found in
          let now = a.fails inputs σ τ sol sol' t kind fault in
          subst (IsFaultSite p main σ τ t kind) (sym is_site)
          (operator_told p main flat is s counted place path i start a (x.equation ∷ x.part) x.reads step t kind σ τ now.0 x.equation x.part refl now.1),
    )

pub returns-then-inside-eq0 : goal.returns-then-inside-eq0
returns-then-inside-eq0 c = λ main at_place counted.
    let p = program_view c.args.catalog.now in
    let s = c.args.counts.now in
    let i = c.loop-start.node in
    let start = c.loop-start.start in
    let target = c.args.place - start in
    let x = c.in-Inside.inside in
    let found = subst (Steps p s (slice_get p.nodes i) target) c.in-Inside.is c.in_ok-step_at.ensures in
    told_none p main c.args.place (λ flat is.
    let a = c.loop-start.invariant main at_place counted flat is in
    let step = subst (λ o. Steps p s o target (steps.Inside x)) (node_there p main flat is s counted c.args.place c.loop-start.path.items i start a) found in
    let some = call_behind p main flat is s counted c.args.place c.loop-start.path.items i start a x step in
    absurd (omega (arith, some, c.if-inside-eq0.true)))

pub loop-start-preserved : goal.loop-start-preserved
loop-start-preserved c = λ main at_place counted flat is.
    let p = program_view c.args.catalog.now in
    let s = c.args.counts.now in
    let place = c.args.place in
    let path = c.loop-start.path.items in
    let i = c.loop-start.node in
    let start = c.loop-start.start in
    let target = place - start in
    let x = c.in-Inside.inside in
    let found = subst (Steps p s (slice_get p.nodes i) target) c.in-Inside.is c.in_ok-step_at.ensures in
    let a = c.loop-start.invariant main at_place counted flat is in
    let step = subst (λ o. Steps p s o target (steps.Inside x)) (node_there p main flat is s counted place path i start a) found in
    let next = arrived_next p main flat is s counted place path i start a x step in
    subst (λ l. Arrived p main flat is s counted place l x.node c.in_ok-start-in-Inside.start) (sym c.in_ok-push-in-Inside.ensures.items)
    (subst (Arrived p main flat is s counted place (path ++ x.number ∷ []) x.node) (sym c.in_ok-start-in-Inside.ensures) next)

pub returns : goal.returns
returns c = λ main at_place counted.
    told_none (program_view c.args.catalog.now) main c.args.place (λ flat is.
    let a = c.loop-start.invariant main at_place counted flat is in
    let le = a.le in
    absurd (omega (arith, le, c.loop-start-test.false)))
