use Rattle.std.specs.Prelude.{◌<◌, ℕ}
use Rattle.std.proofs.Common.{subst}
use Rattle.lutree.specs.Tree.{program_view}
use Rattle.lubase.specs.Answer as graph
use Rattle.lubase.specs.Graph.{IsOrder, IsCycle}
use Rattle.lustat_rules.proofs.Calling.{never_round}
use Rattle.lutype.proofs.CallWays.{are_rows, recursive_at, none_before, in_order}
use Rattle.lutype.proofs.order.call_order.Goals as goal

pub returns-in-Sorted-clause-order : goal.returns-in-Sorted-clause-order
returns-in-Sorted-clause-order c =
    let p = program_view c.args.catalog.now in
    let g = c.in_ok-graph.graph.items in
    let order = c.in-Sorted.order.items in
    let sorted : IsOrder c.deref.result.now order = subst (λ o. graph.IfSorted o (IsOrder c.deref.result.now)) c.in-Sorted.is c.in_ok-order.ensures.order in
    in_order p g (are_rows p g c.in_ok-graph.ensures) order (subst (λ x. IsOrder x order) c.deref.ensures.value sorted)

pub returns-in-Sorted-clause-straight : goal.returns-in-Sorted-clause-straight
returns-in-Sorted-clause-straight c =
    never_round (program_view c.args.catalog.now) c.in-Sorted.order.items (returns-in-Sorted-clause-order c)

pub returns-clause-recursive : goal.returns-clause-recursive
returns-clause-recursive c =
    let p = program_view c.args.catalog.now in
    let g = c.in_ok-graph.graph.items in
    let v = c.in-Cyclic.place in
    let cycle : IsCycle c.deref.result.now v = subst (λ o. graph.IfCyclic o (IsCycle c.deref.result.now)) c.in-Cyclic.is c.in_ok-order.ensures.cycle in
    recursive_at p g (are_rows p g c.in_ok-graph.ensures) v (subst (λ x. IsCycle x v) c.deref.ensures.value cycle)

pub returns-clause-first : goal.returns-clause-first
returns-clause-first c =
    let p = program_view c.args.catalog.now in
    let g = c.in_ok-graph.graph.items in
    let v = c.in-Cyclic.place in
    let least : (u : ℕ) → u < v → ¬ IsCycle c.deref.result.now u =
    subst (λ o. graph.IfCyclic o (λ w. (u : ℕ) → u < w → ¬ IsCycle c.deref.result.now u)) c.in-Cyclic.is c.in_ok-order.ensures.least in
    none_before p g (are_rows p g c.in_ok-graph.ensures) v (subst (λ x. (u : ℕ) → u < v → ¬ IsCycle x u) c.deref.ensures.value least)
