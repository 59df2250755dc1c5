use Rattle.std.proofs.Common.{subst, arith}
use Rattle.lubase.specs.Search.{IsSearch}
use Rattle.lubase.proofs.Ordering.{ordered}
use Rattle.lubase.proofs.order.order_of.Goals as goal

pub returns-clause-order : goal.returns-clause-order
returns-clause-order c =
    let g = c.args.graph.now in
    let s = c.loop-start.search in
    let sound = subst (λ path. IsSearch g s.entered.items s.placed.items path s.order.items) c.loop-start.invariant.empty c.loop-start.invariant.sound in
    ordered g s.entered.items s.placed.items s.order.items sound (λ v lt. c.loop-start.invariant.entered v (omega arith))
