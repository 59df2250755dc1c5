use Rattle.std.proofs.Common.{◌≡◌, ◌∙◌, List, Bool, Bor, map, ap, sym, subst}
use Rattle.lutree.specs.declared.program.Declaration.{Declaration}
use Rattle.lutree.specs.declared.program.Equation.{Equation}
use Rattle.lutree.specs.declared.program.Node.{Node}
use Rattle.lutree.specs.Tree.{equation_view}
use Rattle.lustat_rules.specs.Scope.{Clock}
use Rattle.lustat_rules.specs.Faults.{declared_in}
use Rattle.lustat_rules.specs.Scopes.{clock_list}
use Rattle.lustat_init.specs.Beginnings.{Begun, begun_view, all_begun, IsBegun, AreMarked}
use Rattle.lustat_init.proofs.current.Firsts.new.Goals as goal

pub invariant_of-result : goal.invariant_of-result
invariant_of-result c =
    let n : Node = c.args.scope.now in
    let marks : List Bool = c.in_ok-started.started.items in
    let own : map begun_view c.in_ok-table.table.all.items ≡ all_begun (map equation_view c.node-node.result.now.equations) = c.in_ok-table.ensures ∙ ap (λ (qs : List Equation). all_begun (map equation_view qs)) c.as_slice.ensures in
    record {
      started = subst (λ (ks : List Clock). AreMarked (IsBegun (all_begun (map equation_view c.node-node.result.now.equations))) marks ks)
          (ap clock_list (c.declarations.ensures ∙ ap declared_in (sym c.node-node.ensures)))
          (subst (λ (bs : List Begun). AreMarked (IsBegun bs) marks (clock_list (map (λ (d : Bor Declaration). d.now) c.declarations.result.now))) own c.in_ok-started.ensures);
    }
