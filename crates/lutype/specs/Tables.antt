-- What the tables of defined variables hold.
use Rattle.std.specs.Prelude.{◌≡◌, length, map}
use Rattle.lutree.specs.Tree.{equation_view}
use Rattle.lustat_rules.specs.Scope.{lefts_of}
use Rattle.lutype.specs.Starts.{AreStarts}
use Rattle.lutype.specs.declared.defined.Definitions.TheInside.{Inside}

pub record AreDefinitions (d : Inside) : Type 0 where
  pub lefts : d.lefts ≡ lefts_of (map equation_view d.node.now.equations)
  pub starts : AreStarts (length d.node.now.equations) (map equation_view d.node.now.equations) d.starts.items
