use Rattle.std.proofs.Common.{◌≡◌, take}
use Rattle.lutree.specs.Tree.{views, trees_of, program_view}
use Rattle.lucore_laws.specs.Sizes.{all_size}
use Rattle.luinside.proofs.passing.+made.Given as goal

abbrev pub invariant-all_made-loop-a : goal.invariant-all_made-loop-a
invariant-all_made-loop-a l = l.count ≡ all_size (program_view l.search.catalog.now) l.search.counts.now (trees_of (views (take l.a-index l.all)))
