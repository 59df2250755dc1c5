use Rattle.std.proofs.Common.{◌≡◌, ◌++◌, take}
use Rattle.std.specs.Prelude.{flat_map}
use Rattle.lutree.specs.Tree.{DeclarationTree, declarations_view}
use Rattle.lustat_warn.specs.Warnings.{clock_variables}
use Rattle.lustat_warn.specs.Scans.{spelled}
use Rattle.lustat_warn.proofs.mentions.push_clocks.Given as goal

abbrev pub invariant-loop-d : goal.invariant-loop-d
invariant-loop-d l = spelled l.names.items ≡ spelled l.initial.names.items ++ flat_map (λ (d : DeclarationTree). clock_variables d.clock) (declarations_view (take l.d-index l.declarations))
