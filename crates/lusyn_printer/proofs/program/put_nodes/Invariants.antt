use Rattle.std.proofs.Common.{◌≡◌, ◌++◌, take, string_bytes}
use Rattle.std.specs.List.{flat_map}
use Rattle.lutree.specs.Tree.{node_view}
use Rattle.lusyn_printer.specs.Canonical.{node}
use Rattle.lusyn_printer.proofs.program.put_nodes.Given as goal

abbrev pub invariant-loop-printed : goal.invariant-loop-printed
invariant-loop-printed l = string_bytes l.text ≡ string_bytes l.initial.text ++ flat_map (λ n. node (node_view n)) (take l.printed-index l.nodes)
