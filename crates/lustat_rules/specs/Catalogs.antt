-- What the tables of a program hold.
use Rattle.std.specs.Prelude.{◌≡◌, length, map}
use Rattle.lutree.specs.Tree.{type_view}
use Rattle.lustat_rules.specs.Scope.{labels_of}
use Rattle.lustat_rules.specs.declared.catalog.Catalog.TheInside.{Inside}
use Rattle.lustat_rules.specs.Scopes.{node_spellings, type_spellings, AreStarts}

pub record IsCatalog (s : Inside) : Type 0 where
  pub scopes : s.scopes.items ≡ s.program.now.nodes
  pub nodes : s.nodes ≡ node_spellings s.program.now.nodes
  pub types : s.types ≡ type_spellings s.program.now.types
  pub labels : s.labels ≡ labels_of (map type_view s.program.now.types)
  pub starts : AreStarts (length s.program.now.types) (map type_view s.program.now.types) s.starts.items
