use Rattle.std.proofs.Common.{◌≡◌, ◌<◌, length, map, take, replicate, ap, subst, ◌∙◌, arith}
use Rattle.std.proofs.lemmas.List.{take_all}
use Rattle.lutree.specs.declared.program.Node.{Node}
use Rattle.lutree.specs.Tree.{equation_view, node_view, program_view}
use Rattle.lucore_laws.specs.Layout.{variable_count}
use Rattle.lucore_build.specs.Walks.{plain, vacant}
use Rattle.lucore_build.proofs.Gather.{Made, none_made, next_made}
use Rattle.lucore_build.proofs.Named.{long as as_many}
use Rattle.lucore_build.proofs.node.parts_of.Goals as goal

pub loop-equation-init : goal.loop-equation-init
loop-equation-init c =
    let p = program_view c.args.context.now.catalog.now in
    let l = plain c.args.context.now.lists.now in
    let n = node_view c.args.context.now.scope.now in
    let long : length c.declarations.result.now ≡ variable_count p l n = as_many c.args.context.now.scope.now c.declarations.result.now c.declarations.ensures in
    none_made p l n c.in_ok-vacant_flows.field-0.items c.new.result.items c.new-2.result.items
    (c.in_ok-vacant_flows.ensures ∙ ap (λ i. replicate i vacant) long) c.new.ensures.items c.new-2.ensures.items

pub loop-equation-preserved : goal.loop-equation-preserved
loop-equation-preserved c =
    let p = program_view c.args.context.now.catalog.now in
    let l = plain c.args.context.now.lists.now in
    let n = node_view c.args.context.now.scope.now in
    let qs = c.as_slice-equation-items.result.now in
    let i = c.loop-equation.equation-index in
    let lt : i < length qs = omega arith in
    let old = c.loop-equation.parts in
    let new = c.push_equation.new.parts in
    let did = c.in_ok-push_equation.ensures in
    next_made p l n qs i c.equation-item.result old.flows.items new.flows.items old.owners.items new.owners.items old.defined.items new.defined.items
    lt c.equation-item.is c.loop-equation.invariant did.flows did.owners did.defined

pub returns-clause-flows : goal.returns-clause-flows
returns-clause-flows c =
    let p = program_view c.args.context.now.catalog.now in
    let l = plain c.args.context.now.lists.now in
    let n = node_view c.args.context.now.scope.now in
    let qs = c.as_slice-equation-items.result.now in
    let same : qs ≡ c.args.context.now.scope.now.equations = c.as_slice-equation-items.ensures ∙ ap (λ (n : Node). n.equations) c.node.ensures in
    let full : take c.loop-equation.equation-index qs ≡ qs = take_all c.loop-equation.equation-index qs (omega arith) in
    let parts = c.loop-equation.parts in
    let all = subst (λ rs. Made p l n (map equation_view rs) parts.flows.items parts.owners.items parts.defined.items) (full ∙ same) c.loop-equation.invariant in
    all.all_flows

pub returns-clause-owners : goal.returns-clause-owners
returns-clause-owners c =
    let p = program_view c.args.context.now.catalog.now in
    let l = plain c.args.context.now.lists.now in
    let n = node_view c.args.context.now.scope.now in
    let qs = c.as_slice-equation-items.result.now in
    let same : qs ≡ c.args.context.now.scope.now.equations = c.as_slice-equation-items.ensures ∙ ap (λ (n : Node). n.equations) c.node.ensures in
    let full : take c.loop-equation.equation-index qs ≡ qs = take_all c.loop-equation.equation-index qs (omega arith) in
    let parts = c.loop-equation.parts in
    let all = subst (λ rs. Made p l n (map equation_view rs) parts.flows.items parts.owners.items parts.defined.items) (full ∙ same) c.loop-equation.invariant in
    all.all_owners

pub returns-clause-defined : goal.returns-clause-defined
returns-clause-defined c =
    let p = program_view c.args.context.now.catalog.now in
    let l = plain c.args.context.now.lists.now in
    let n = node_view c.args.context.now.scope.now in
    let qs = c.as_slice-equation-items.result.now in
    let same : qs ≡ c.args.context.now.scope.now.equations = c.as_slice-equation-items.ensures ∙ ap (λ (n : Node). n.equations) c.node.ensures in
    let full : take c.loop-equation.equation-index qs ≡ qs = take_all c.loop-equation.equation-index qs (omega arith) in
    let parts = c.loop-equation.parts in
    let all = subst (λ rs. Made p l n (map equation_view rs) parts.flows.items parts.owners.items parts.defined.items) (full ∙ same) c.loop-equation.invariant in
    all.all_defined
