use Rattle.std.proofs.Common.{◌∙◌, subst, ap}
use Rattle.std.specs.Prelude.{IfSome, slice_get}
use Rattle.lutree.specs.declared.program.Node.{Node}
use Rattle.lutree.specs.Tree.{node_view}
use Rattle.lustat_rules.specs.ClockRefs.{IsPlaced}
use Rattle.lustat_rules.proofs.Placed.{copied_item, placed_there}
use Rattle.lustat_rules.proofs.scope.Scope.clock_at.Goals as goal

pub returns-clause-placed : goal.returns-clause-placed
returns-clause-placed c =
    let found = c.copied.ensures ∙ copied_item c.deref.result.now c.args.place c.get.result c.get.ensures.lookup in
    let here = placed_there c.self.inside.node.now c.self.inside.clocks.items c.args.place c.copied.result c.self.invariant.clocks c.self.invariant.places (found ∙ ap (λ l. slice_get l c.args.place) c.deref.ensures.value) in
    subst (λ (n : Node). IfSome c.copied.result (IsPlaced (node_view n))) c.self.view_is here
