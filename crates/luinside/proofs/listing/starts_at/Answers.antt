use Rattle.std.specs.Prelude.{◌≡◌, ℕ, List, Some, map, option_map, slice_get}
use Rattle.std.proofs.Common.{arith, sym, ap, ◌∙◌}
use Rattle.std.proofs.lemmas.Option.{slice_get-map, slice_get-get_or, slice_get_past}
use Rattle.std.proofs.lemmas.Result.{IfOk-weaker}
use Rattle.lutree.specs.declared.program.Node.{Node}
use Rattle.lutree.specs.declared.program.Program.{Program}
use Rattle.lutree.specs.Tree.{node_view, program_view}
use Rattle.luinside.specs.Starts.{starts_in}
use Rattle.luinside.proofs.listing.starts_at.Goals as goal

there : (nodes : List Node) (place : ℕ) (xs : List Node) (node : Node) → xs ≡ nodes → slice_get xs place ≡ Some node → slice_get (map node_view nodes) place ≡ Some (node_view node)
there nodes place xs node same here = ap (λ ns. slice_get (map node_view ns) place) (sym same) ∙ slice_get-map node_view xs place ∙ ap (option_map node_view) here

pub call_starts-requires : goal.call_starts-requires
call_starts-requires c =
    let xs = c.as_slice.result.now in
    let found = c.in-Some.ensures.lookup in
    let here = slice_get-get_or xs c.args.place c.in-Some.node.now found.3.0 ∙ ap Some (sym found.1) in
    let same = c.as_slice.ensures ∙ ap (λ (x : Program). x.nodes) c.program.ensures in
    let at = there c.args.catalog.now.nodes c.args.place xs c.in-Some.node.now same here in
    let bound = c.requires.bounds c.args.place (node_view c.in-Some.node.now) at c.requires.small in
    omega (arith, bound, c.requires.small)

pub returns-in-Some : goal.returns-in-Some
returns-in-Some c =
    let xs = c.as_slice.result.now in
    let found = c.in-Some.ensures.lookup in
    let here = slice_get-get_or xs c.args.place c.in-Some.node.now found.3.0 ∙ ap Some (sym found.1) in
    let same = c.as_slice.ensures ∙ ap (λ (x : Program). x.nodes) c.program.ensures in
    let at = there c.args.catalog.now.nodes c.args.place xs c.in-Some.node.now same here in
    IfOk-weaker c.call_starts.result _ _ (λ found e. e ∙ sym (ap (starts_in (program_view c.args.catalog.now) c.args.counts.now) at)) c.call_starts.ensures

pub returns-in-None : goal.returns-in-None
returns-in-None c =
    let xs = c.as_slice.result.now in
    let same = c.as_slice.ensures ∙ ap (λ (x : Program). x.nodes) c.program.ensures in
    let none = slice_get_past xs c.args.place c.in-None.ensures.lookup.3 in
    let at = ap (λ ns. slice_get (map node_view ns) c.args.place) (sym same) ∙ slice_get-map node_view xs c.args.place ∙ ap (option_map node_view) none in
    c.new.ensures.items ∙ sym (ap (starts_in (program_view c.args.catalog.now) c.args.counts.now) at)
