use Rattle.std.proofs.Common.{◌↔◌, ◌≤◌, length, drop}
use Rattle.lutree.specs.Tree.{views, trees_of, node_view}
use Rattle.lustat_rules.specs.Clocks.{AllFitInside, BranchesFitInside}
use Rattle.lustat_rules.specs.ClockRefs.{placed_view}
use Rattle.lustat_clocks.proofs.Branched.{FitFrom}
use Rattle.lustat_clocks.proofs.fit.+fits.Given as goal

abbrev pub invariant-all_fit-loop-a : goal.invariant-all_fit-loop-a
invariant-all_fit-loop-a l =
    AllFitInside (node_view l.scope) (trees_of (views (drop l.a-index l.arguments))) (placed_view l.k) ↔ AllFitInside (node_view l.scope) (trees_of (views l.arguments)) (placed_view l.k)

abbrev pub invariant-branches_fit-loop-i : goal.invariant-branches_fit-loop-i
invariant-branches_fit-loop-i l =
    record {
      so_far : FitFrom (node_view l.scope) l.name l.patterns l.branches l.i ↔ BranchesFitInside (node_view l.scope) l.name l.patterns (trees_of (views l.branches));
      within : l.i ≤ length l.patterns;
    }
