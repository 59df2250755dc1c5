use Rattle.std.proofs.Common.{◌≡◌, map, take}
use Rattle.serde_json.specs.Data.{string}
use Rattle.serde_json.specs.View.{view}
use Rattle.luplace_report.specs.Names.{site_name}
use Rattle.luplace_report.proofs.json.site_array.Given as goal

abbrev pub invariant-loop-site : goal.invariant-loop-site
invariant-loop-site l = map view l.values.items ≡ map (λ s. string (site_name l.names s)) (take l.site-index l.sites)
