use Rattle.std.proofs.Common.{◌≡◌, ◌++◌, flat_map, string_bytes}
use Rattle.std.specs.List.{range_with_len}
use Rattle.lustats.specs.Text.{site_line}
use Rattle.lustats.proofs.text.put_sites.Given as goal

abbrev pub invariant-loop-site : goal.invariant-loop-site
invariant-loop-site l = string_bytes l.text ≡ string_bytes l.initial.text ++ flat_map (site_line l.plan l.counts) (range_with_len 0 l.site)
