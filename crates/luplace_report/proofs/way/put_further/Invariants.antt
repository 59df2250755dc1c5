use Rattle.std.proofs.Common.{◌≡◌, ◌++◌, take}
use Rattle.std.specs.Prelude.{string_bytes}
use Rattle.luplace_report.specs.Way.{further_names}
use Rattle.luplace_report.proofs.way.put_further.Given as goal

abbrev pub invariant-loop-variable : goal.invariant-loop-variable
invariant-loop-variable l = string_bytes l.text ≡ string_bytes l.initial.text ++ further_names l.flat (take l.variable-index l.variables)
