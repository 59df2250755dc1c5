use Rattle.std.proofs.Common.{◌≡◌, ◌∙◌, ◌↔◌, IsTrue, All, Some, sym, ap, subst}
use Rattle.std.specs.Option.{option_map, option_copied}
use Rattle.lutree.specs.declared.program.Declaration.{Declaration}
use Rattle.lutree.specs.declared.program.Node.{Node}
use Rattle.lutree.specs.Tree.{node_view, program_view}
use Rattle.lustat_rules.specs.Scope.{node_called}
use Rattle.lustat_rules.specs.Clocks.{base}
use Rattle.lustat_clocks.proofs.Uncalled.{found_unclocked}
use Rattle.lustat_clocks.proofs.parameter.main_is_unclocked.Goals as goal

pub returns-in-Some : goal.returns-in-Some
returns-in-Some c =
    let m : Node = c.in-Some.scope.now in
    let found : node_called (program_view c.args.catalog.now) c.args.main.now ≡ Some (node_view m) =
    sym c.find.ensures ∙ ap (λ o. option_map node_view (option_copied o)) c.in-Some.is in
    let outputs : c.as_slice.result.now ≡ m.outputs = c.as_slice.ensures ∙ ap (λ (n : Node). n.outputs) c.node.ensures in
    found_unclocked m (node_called (program_view c.args.catalog.now) c.args.main.now) c.are_unclocked.result found
    (subst (λ ds. IsTrue c.are_unclocked.result ↔ All (λ (d : Declaration). d.clock ≡ base) ds) outputs c.are_unclocked.ensures)
