use Rattle.std.proofs.Common.{◌≡◌, ◌+◌, ◌-◌, ℕ, List, Some}
use Rattle.lutree.specs.Tree.{program_view}
use Rattle.luflow.specs.Program.{FlatView}
use Rattle.lustat_rules.specs.Naming.{node_place}
use Rattle.lucore_build.specs.Counted.{AreCounted}
use Rattle.lucore.specs.Result.{IsFlatOf}
use Rattle.luinside.proofs.Following.{Arrived}
use Rattle.luinside.proofs.sites.follow.Given as goal

abbrev pub invariant-loop-start : goal.invariant-loop-start
invariant-loop-start l =
    (main : List ℕ) → node_place (program_view l.catalog) main ≡ Some l.main → (counted : AreCounted (program_view l.catalog) l.counts) → (flat : FlatView) (is : IsFlatOf (program_view l.catalog) main flat)
    → Arrived (program_view l.catalog) main flat is l.counts counted l.place l.path.items l.node l.start

abbrev pub decreases-loop-start : goal.decreases-loop-start
decreases-loop-start l = l.place + 1 - l.start
