use Rattle.std.proofs.Common.{◌≡◌, map}
use Rattle.lutree.specs.Tree.{equation_view, node_view, program_view}
use Rattle.luinside.proofs.Sought.{Passed}
use Rattle.luinside.proofs.target.inner_at.Given as goal

abbrev pub invariant-loop-number : goal.invariant-loop-number
invariant-loop-number l =
    (are : (node_view l.scope).equations ≡ map equation_view l.equation-items) → Passed (program_view l.search.catalog.now) l.search.counts.now (node_view l.scope) l.equation-items are l.search.target l.number l.part.items l.here
