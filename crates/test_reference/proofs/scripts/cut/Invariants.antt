use Rattle.std.proofs.Common.{◌≡◌, ◌++◌, [], map, drop}
use Rattle.luworld.specs.Outline.{cut}
use Rattle.luworld.specs.Jobs.{outline, streams_of}
use Rattle.test_reference.specs.AsItem.{as_item}
use Rattle.test_reference.proofs.scripts.cut.Given as goal

abbrev pub invariant-loop-item : goal.invariant-loop-item
invariant-loop-item l =
    let o = outline l.job (streams_of l.job) in
    cut o [] (map as_item l.items) ≡ map as_item l.kept.items ++ cut o (map as_item l.kept.items) (map as_item (drop l.item-index l.items))
