use Rattle.lutree.specs.Tree.{node_view}
use Rattle.lustat_rules.proofs.Placed.{one_where}
use Rattle.lustat_rules.proofs.scope.Scope.are_one.Goals as goal

pub returns-then-u-v : goal.returns-then-u-v
returns-then-u-v c =
    one_where (node_view c.args.self.now) c.args.j c.args.k c.in-Some-Some.u c.in-Some-Some.v c.have_one_pattern.result c.requires.first c.requires.second c.in-Some-Some.is-0 c.in-Some-Some.is-1 c.if-u-v.true c.have_one_pattern.ensures
