use Rattle.std.proofs.Common.{◌≡◌, ◌<◌, ◌∙◌, ℕ, ap, subst}
use Rattle.lubase.specs.Graph.{IsCycle, IsOrder}
use Rattle.lubase.specs.Answer.{IfSorted, IfCyclic}
use Rattle.lubase.specs.declared.order.Order.{Order}
use Rattle.lucore_laws.proofs.Reading.{lists_of}
use Rattle.lucore_laws.proofs.Cycles.{never_sorted, least_from_graph}
use Rattle.lucore_laws.proofs.cycle.least_on_cycle.Goals as goal

pub unreachable-requires : goal.unreachable-requires
unreachable-requires c =
    let g = c.deref.result.now in
    let same : lists_of g ≡ c.args.rows.now = ap lists_of c.deref.ensures.value ∙ c.in_ok-graph.ensures in
    let sorted = subst (λ (o : Order). IfSorted o (IsOrder g)) c.in-Sorted.is c.in_ok-place.ensures.order in
    never_sorted c.args.rows.now g same c.requires.closed c.in-Sorted.field-0.items c.requires.cycle sorted

pub returns : goal.returns
returns c =
    let g = c.deref.result.now in
    let same : lists_of g ≡ c.args.rows.now = ap lists_of c.deref.ensures.value ∙ c.in_ok-graph.ensures in
    let cycle = subst (λ (o : Order). IfCyclic o (IsCycle g)) c.in-Cyclic.is c.in_ok-place.ensures.cycle in
    let least = subst (λ (o : Order). IfCyclic o (λ v. (u : ℕ) → u < v → ¬ IsCycle g u)) c.in-Cyclic.is c.in_ok-place.ensures.least in
    least_from_graph c.args.rows.now g same c.requires.closed c.in-Cyclic.place cycle least
