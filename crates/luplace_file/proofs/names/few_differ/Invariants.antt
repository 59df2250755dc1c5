use Rattle.std.proofs.Common.{◌≡◌, drop}
use Rattle.luplace_file.specs.Rules.{all_differ}
use Rattle.luplace_file.proofs.names.few_differ.Given as goal

-- the names before `i` differ from all later ones
abbrev pub invariant-loop-i : goal.invariant-loop-i
invariant-loop-i l = all_differ (drop l.i l.names) ≡ all_differ l.names
