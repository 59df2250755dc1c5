use Rattle.std.proofs.Common.{◌+◌, List, map, refl}
use Rattle.lutree.specs.declared.program.Equation.{Equation}
use Rattle.lutree.specs.Tree.{node_view, equation_view}
use Rattle.lustat_init.specs.Linked.{links_in}
use Rattle.lustat_init.proofs.Pushed.{pushed_all, linked_more}
use Rattle.lustat_init.proofs.least.links_of.Goals as goal

pub loop-i-preserved : goal.loop-i-preserved
loop-i-preserved c =
    linked_more (node_view c.args.scope.now) c.args.first c.loop-i.i c.args.equations.now c.index-equations-i.result c.loop-i.links.items c.push_equation.new.links.items _
    c.loop-i-test.true c.index-equations-i.is c.in_ok-push_equation.ensures c.loop-i.invariant

pub returns : goal.returns
returns c =
    pushed_all (λ (qs : List Equation). links_in (node_view c.args.scope.now) (c.args.first + c.loop-i.i) (map equation_view qs)) refl c.args.equations.now c.loop-i.i _ _ c.loop-i-test.false c.loop-i.invariant
