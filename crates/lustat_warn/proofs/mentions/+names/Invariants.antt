use Rattle.std.proofs.Common.{◌≡◌, ◌++◌, take}
use Rattle.lutree.specs.Tree.{views, trees_of}
use Rattle.lustat_rules.specs.Naming.{names_in_all}
use Rattle.lustat_warn.specs.Scans.{spelled}
use Rattle.lustat_warn.proofs.mentions.+names.Given as goal

abbrev pub invariant-push_all_names-loop-e : goal.invariant-push_all_names-loop-e
invariant-push_all_names-loop-e l = spelled l.names.items ≡ spelled l.fn.names.items ++ names_in_all (trees_of (views (take l.e-index l.all)))
