use Rattle.std.proofs.Common.{◌≡◌, ◌++◌, [], length, map, drop, replicate, refl, ap, ◌∙◌}
use Rattle.std.proofs.lemmas.List.{length-replicate}
use Rattle.lutree.specs.declared.program.Node.{Node}
use Rattle.lutree.specs.Tree.{equation_view, declarations_view, node_view, program_view}
use Rattle.lustat_rules.specs.Scope.{lefts_of}
use Rattle.lucore_laws.specs.Layout.{inner_flows, variable_count}
use Rattle.lustat_rules.specs.Scopes.{spellings}
use Rattle.lucore_build.specs.Walks.{plain, vacant}
use Rattle.lucore_build.specs.Nodes.{inputs_from, flows_found, leaders, owners_found}
use Rattle.lucore_build.proofs.Named.{long}
use Rattle.lucore_build.proofs.Found.{drop_front, assembled}
use Rattle.lucore_build.proofs.Owned.{owners_assembled}
use Rattle.lucore_build.proofs.owners.node_list.Goals as goal

pub returns-clause-flows : goal.returns-clause-flows
returns-clause-flows c =
    let p = program_view c.args.context.now.catalog.now in
    let l = plain c.args.context.now.lists.now in
    let scope = c.args.context.now.scope.now in
    let n = node_view scope in
    let nv = variable_count p l n in
    let m : Node = c.node-node.result.now in
    let node = c.node-node.ensures in
    let made = c.in_ok-parts.ensures in
    let fs = c.in_ok-parts.parts.defined.items in
    let names = c.in_ok-places.places in
    let variables = c.declarations-variables.result.now in
    let is_left = c.in_ok-places.ensures ∙ c.in_ok-left_names.ensures ∙ ap (λ qs. lefts_of (map equation_view qs)) (c.as_slice-equations.ensures ∙ ap (λ (n : Node). n.equations) node) in
    let count : length variables ≡ nv = long scope variables c.declarations-variables.ensures in
    let rest : drop (length variables) c.in_ok-parts.parts.flows.items ≡ inner_flows p l n n.equations nv =
    ap (drop (length variables)) made.flows ∙ ap (λ i. drop i (replicate nv vacant ++ inner_flows p l n n.equations nv)) count
    ∙ drop_front (replicate nv vacant) (inner_flows p l n n.equations nv) nv (length-replicate nv vacant) in
    let a = inputs_from 0 (declarations_view m.inputs) in
    let b = a ++ flows_found names fs (spellings m.outputs) in
    let d = b ++ flows_found names fs (spellings m.locals) in
    assembled p l n m.outputs m.locals names fs a b d c.in_ok-flows.flows.items
    (ap (λ (n : Node). declarations_view n.outputs) node) (ap (λ (n : Node). declarations_view n.locals) node)
    is_left made.defined (ap (λ (n : Node). inputs_from 0 (declarations_view n.inputs)) node) refl refl (c.in_ok-flows.ensures ∙ ap (λ xs. d ++ xs) rest)

pub returns-clause-owners : goal.returns-clause-owners
returns-clause-owners c =
    let p = program_view c.args.context.now.catalog.now in
    let l = plain c.args.context.now.lists.now in
    let scope = c.args.context.now.scope.now in
    let n = node_view scope in
    let made = c.in_ok-parts.ensures in
    let names = c.in_ok-places.places in
    let variables = map (λ d. d.now) c.declarations-variables.result.now in
    let same = c.as_slice-equations.ensures ∙ ap (λ (n : Node). n.equations) c.node-node.ensures in
    let is_left = c.in_ok-places.ensures ∙ c.in_ok-left_names.ensures ∙ ap (λ qs. lefts_of (map equation_view qs)) same in
    let known = leaders n (map equation_view c.as_slice-equations.result.now) in
    let is_known = ap (λ qs. leaders n (map equation_view qs)) same in
    owners_assembled p l scope variables names known [] (owners_found n names known (spellings variables)) c.in_ok-owners.owners.items c.in_ok-parts.parts.owners.items
    c.declarations-variables.ensures is_left is_known made.owners refl refl c.in_ok-owners.ensures
