use Rattle.std.proofs.Common.{◌≡◌, ◌∙◌, ◌<◌, ℕ, List, length, map, get_or, sym, ap, refl, arith}
use Rattle.std.specs.Prelude.{slice_get, Some}
use Rattle.std.specs.Option.{option_map}
use Rattle.std.proofs.lemmas.List.{length-map}
use Rattle.std.proofs.lemmas.Option.{same_Some, slice_get-map, slice_get_read}
use Rattle.std.proofs.lemmas.Result.{IfOk-weaker}
use Rattle.lutree.specs.declared.program.Node.{Node}
use Rattle.lutree.specs.Tree.{NodeTree, program_view, node_view}
use Rattle.lucore_laws.specs.Layout.{node_flows, node_owners}
use Rattle.lucore_build.specs.Walks.{plain}
use Rattle.lucore_build.proofs.laying.list_at.Goals as goal

-- the node that was read at a place is the program's there
node_read : (nodes scopes : List Node) (place : ℕ) (x : Node) (n : NodeTree) → scopes ≡ nodes → place < length (map node_view nodes) → x ≡ get_or scopes place x
    → slice_get (map node_view nodes) place ≡ Some n → node_view x ≡ n
node_read nodes scopes place x n same less is there =
    let inside : place < length scopes = omega (arith, less, length-map nodes node_view, ap length same) in
    let found : slice_get scopes place ≡ Some x = slice_get_read scopes (length scopes) place x refl inside is in
    let mapped : slice_get (map node_view scopes) place ≡ Some (node_view x) = slice_get-map node_view scopes place ∙ ap (option_map node_view) found in
    same_Some (node_view x) n (sym mapped ∙ ap (λ (xs : List Node). slice_get (map node_view xs) place) same ∙ there)

pub returns-clause-flows : goal.returns-clause-flows
returns-clause-flows c =
    let p = program_view c.args.catalog.now in
    let l = plain c.args.lists.now in
    IfOk-weaker c.node_list.result _ _ (λ list h n there. h ∙ ap (node_flows p l) (node_read c.args.catalog.now.nodes c.scopes.result.now c.args.place c.index-scopes-place.result n c.scopes.ensures c.requires c.index-scopes-place.is there))
    c.node_list.ensures.flows

pub returns-clause-owners : goal.returns-clause-owners
returns-clause-owners c =
    let p = program_view c.args.catalog.now in
    let l = plain c.args.lists.now in
    IfOk-weaker c.node_list.result _ _ (λ list h n there. h ∙ ap (node_owners p l) (node_read c.args.catalog.now.nodes c.scopes.result.now c.args.place c.index-scopes-place.result n c.scopes.ensures c.requires c.index-scopes-place.is there))
    c.node_list.ensures.owners
