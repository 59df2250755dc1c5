use Rattle.std.proofs.Common.{◌≡◌, map, flat_map}
use Rattle.std.specs.List.{range_with_len}
use Rattle.luworld.specs.Outline.{round}
use Rattle.luworld.specs.Jobs.{outline, streams_of}
use Rattle.test_reference.specs.AsItem.{as_item}
use Rattle.test_reference.proofs.scripts.full_script.Given as goal

abbrev pub invariant-loop-instant : goal.invariant-loop-instant
invariant-loop-instant l = map as_item l.items.items ≡ flat_map (round (outline l.job (streams_of l.job)) l.site) (range_with_len 0 l.instant)
