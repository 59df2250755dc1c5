use Rattle.std.proofs.Common.{◌≡◌, map, take}
use Rattle.lutree.specs.Tree.{type_view}
use Rattle.lustat_rules.specs.Scope.{labels_of}
use Rattle.lustat_rules.specs.Scopes.{AreStarts}
use Rattle.lustat_rules.proofs.catalog.fill.Given as goal

abbrev pub invariant-loop-t : goal.invariant-loop-t
invariant-loop-t l =
    record {
      names : map (λ n. n.now) l.names.items ≡ labels_of (map type_view (take l.t-index l.types));
      starts : AreStarts l.t-index (map type_view l.types) l.starts.items;
    }
