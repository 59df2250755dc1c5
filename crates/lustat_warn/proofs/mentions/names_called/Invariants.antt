use Rattle.std.proofs.Common.{◌≡◌, map, take}
use Rattle.std.specs.Prelude.{flat_map}
use Rattle.lutree.specs.Tree.{node_view}
use Rattle.lustat_rules.specs.Naming.{called_by}
use Rattle.lustat_warn.specs.Scans.{spelled}
use Rattle.lustat_warn.proofs.mentions.names_called.Given as goal

abbrev pub invariant-loop-node : goal.invariant-loop-node
invariant-loop-node l = spelled l.names.items ≡ flat_map called_by (map node_view (take l.node-index l.node-items))
