use Rattle.std.proofs.Common.{◌≡◌, map, flat_map, take}
use Rattle.luworld.specs.Outline.{round_cell}
use Rattle.luworld.specs.Jobs.{outline, streams_of}
use Rattle.test_reference.specs.AsItem.{as_item}
use Rattle.test_reference.proofs.scripts.round.Given as goal

abbrev pub invariant-loop-flow : goal.invariant-loop-flow
invariant-loop-flow l = map as_item l.items.items ≡ flat_map (round_cell (outline l.job (streams_of l.job)) l.site l.instant) (take l.flow-index l.flow-items)
