use Rattle.std.proofs.Common.{◌≡◌, ◌∙◌, ◌<◌, List, length, map, sym, ap, subst, arith, refl, Vec, Global}
use Rattle.std.specs.Prelude.{slice_get, Some}
use Rattle.std.specs.Option.{option_map}
use Rattle.std.proofs.lemmas.List.{length-map}
use Rattle.std.proofs.lemmas.Option.{same_Some, slice_get-map, slice_get_read}
use Rattle.lutree.specs.declared.program.Node.{Node}
use Rattle.lutree.specs.Tree.{ProgramTree, program_view, node_view}
use Rattle.luflow.specs.declared.form.Flow.{Flow}
use Rattle.lucore_laws.specs.Layout.{node_flows, node_owners, main_variables}
use Rattle.lucore_build.specs.Walks.{plain}
use Rattle.lucore_build.specs.Listed.{AreBuilt}
use Rattle.lucore_build.proofs.Building.{node_right}
use Rattle.lucore_build.proofs.laying.laid_at.Goals as goal

pub returns-clause-list : goal.returns-clause-list
returns-clause-list c =
    λ n there lists are.
    let p : ProgramTree = program_view c.args.catalog.now in
    let order = c.args.order.now in
    let marks = c.in_ok-marks.marks.items in
    let place = c.args.place in
    let built : List (List Flow) = plain c.in_ok-lists.lists.items in
    let end = c.number_of-end.result in
    let are_built : AreBuilt p order marks end built = subst (λ ms. AreBuilt p order ms end built) c.deref.ensures.value c.in_ok-lists.ensures.built in
    let at = c.number_of-end.ensures.there (c.requires.calls.all place c.requires.inside) in
    let right = node_right p order marks c.requires.calls c.in_ok-marks.ensures.closed end place built are_built at n there c.in_ok-marks.ensures.start lists are in (
      c.in_ok-list.ensures.flows n there ∙ ap (λ (ls : List (Vec Flow Global)). node_flows p (plain ls) n) c.deref-2.ensures.value ∙ right.0,
      c.in_ok-list.ensures.owners n there ∙ ap (λ (ls : List (Vec Flow Global)). node_owners p (plain ls) n) c.deref-2.ensures.value ∙ right.1,
    )

pub returns-clause-variables : goal.returns-clause-variables
returns-clause-variables c =
    λ n there.
    let scopes : List Node = c.scopes.result.now in
    let place = c.args.place in
    let x : Node = c.index-scopes-place.result in
    let nodes : List Node = c.args.catalog.now.nodes in
    let lt : place < length scopes = let a = c.requires.inside in omega (arith, a, length-map nodes node_view, ap length c.scopes.ensures) in
    let found : slice_get scopes place ≡ Some x = slice_get_read scopes (length scopes) place x refl lt c.index-scopes-place.is in
    let mapped : slice_get (map node_view scopes) place ≡ Some (node_view x) = slice_get-map node_view scopes place ∙ ap (option_map node_view) found in
    let at : slice_get (map node_view scopes) place ≡ Some n = ap (λ (xs : List Node). slice_get (map node_view xs) place) c.scopes.ensures ∙ there in
    let same : node_view x ≡ n = same_Some (node_view x) n (sym mapped ∙ at) in
    c.in_ok-variables.ensures ∙ ap (λ (m : Node). main_variables (node_view m)) c.node.ensures ∙ ap main_variables same
