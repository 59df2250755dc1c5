use Rattle.lustat_warn.specs.Warnings.{DividingIn}
use Rattle.lustat_warn.specs.Scans.{Adds}
use Rattle.lustat_warn.proofs.Adding.{AmongFirst}
use Rattle.lustat_warn.proofs.survey.push_dividing.Given as goal

abbrev pub invariant-loop-j : goal.invariant-loop-j
invariant-loop-j l = Adds (AmongFirst l.j l.equations (DividingIn l.place)) l.initial.found.items l.found.items
