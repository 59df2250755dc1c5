use Rattle.std.proofs.Common.{[], subst, arith}
use Rattle.lubase.specs.Grouped.{IsGrouping}
use Rattle.lubase.proofs.Going.{marks_of}
use Rattle.lubase.proofs.order.cycles_of.Goals as goal

pub returns-clause-marks : goal.returns-clause-marks
returns-clause-marks c =
    let g = c.args.graph.now in
    let s = c.loop-start.groups in
    let sound = subst (IsGrouping g s.entered.items s.left.items s.looped.items s.places.items s.stack.items s.bounds.items) c.loop-start.invariant.empty c.loop-start.invariant.sound in
    marks_of g s.entered.items s.left.items s.looped.items s.places.items s.stack.items s.bounds.items [] sound (λ v lt. c.loop-start.invariant.entered v (omega arith))
