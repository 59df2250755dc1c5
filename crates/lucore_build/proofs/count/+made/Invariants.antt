use Rattle.std.proofs.Common.{◌≡◌, take}
use Rattle.lutree.specs.Tree.{views, trees_of, program_view}
use Rattle.lucore_laws.specs.Sizes.{all_size}
use Rattle.lucore_build.specs.Counted.{capped}
use Rattle.lucore_build.proofs.count.+made.Given as goal

abbrev pub invariant-all_made-loop-a : goal.invariant-all_made-loop-a
invariant-all_made-loop-a l =
    l.count ≡ capped (all_size (program_view l.catalog) l.counts (trees_of (views (take l.a-index l.arguments))))
