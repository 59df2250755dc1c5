use Rattle.std.proofs.Common.{◌≡◌, ◌++◌, take}
use Rattle.std.specs.Prelude.{string_bytes}
use Rattle.luplace_report.specs.Cycles.{further_sites}
use Rattle.luplace_report.proofs.cycles.put_further.Given as goal

abbrev pub invariant-loop-site : goal.invariant-loop-site
invariant-loop-site l = string_bytes l.text ≡ string_bytes l.initial.text ++ further_sites l.names (take l.site-index l.sites)
