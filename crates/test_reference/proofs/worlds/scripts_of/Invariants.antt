use Rattle.std.proofs.Common.{◌≡◌, map}
use Rattle.std.specs.List.{range_with_len}
use Rattle.luworld.specs.Jobs.{script, streams_of}
use Rattle.test_reference.specs.AsItem.{as_item}
use Rattle.test_reference.proofs.worlds.scripts_of.Given as goal

abbrev pub invariant-loop-site : goal.invariant-loop-site
invariant-loop-site l = map (map as_item) l.scripts.items ≡ map (script l.job (streams_of l.job)) (range_with_len 0 l.site)
