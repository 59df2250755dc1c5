use Rattle.std.proofs.Common.{◌≡◌, ◌++◌, map, take}
use Rattle.lutree.specs.Tree.{equation_view}
use Rattle.lustat_warn.specs.Scans.{spelled, names_in_equations}
use Rattle.lustat_warn.proofs.mentions.push_of_equations.Given as goal

abbrev pub invariant-loop-q : goal.invariant-loop-q
invariant-loop-q l = spelled l.names.items ≡ spelled l.initial.names.items ++ names_in_equations (map equation_view (take l.q-index l.equations))
