-- What the marks of a node say.
use Rattle.std.specs.Prelude.{map}
use Rattle.lutree.specs.Tree.{equation_view}
use Rattle.lustat_rules.specs.Faults.{declared_in}
use Rattle.lustat_rules.specs.Scopes.{clock_list}
use Rattle.lustat_init.specs.declared.current.Firsts.TheInside.{Inside}
use Rattle.lustat_init.specs.Beginnings.{all_begun, IsBegun, AreMarked}

pub record AreFirsts (s : Inside) : Type 0 where
  pub started : AreMarked (IsBegun (all_begun (map equation_view s.node.now.equations))) s.started.items
      (clock_list (declared_in s.node.now))
