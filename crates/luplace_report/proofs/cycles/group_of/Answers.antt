use Rattle.std.proofs.Common.{ℕ, Vec, Global, ap, sym, ◌∙◌}
use Rattle.luplace_report.specs.Cycles.{in_step}
use Rattle.luplace_report.proofs.Aligning.{passes_next, fails_next}
use Rattle.luplace_report.proofs.cycles.group_of.Goals as goal
use Rattle.luplace_report.proofs.cycles.group_of.Goals.{then-in_step+in_ok-push, else-in_step}

pub loop-other-preserved : goal.loop-other-preserved
loop-other-preserved c =
    let old = c.loop-other.group.items in
    let other = c.loop-other.other in
    let passes = in_step c.args.fed.now c.args.site in
    elim c.if-in_step.branch [
      | then-in_step+in_ok-push w ↦
          passes_next passes other old c.if-in_step.group.items c.loop-other.invariant (sym c.in_step.ensures ∙ w.if-in_step.true) (ap (λ (xs : Vec ℕ Global). xs.items) w.group-is ∙ w.in_ok-push.ensures.items)
      | else-in_step w ↦
          ap (λ (xs : Vec ℕ Global). xs.items) w.group-is
          ∙ fails_next passes other old c.loop-other.invariant (sym c.in_step.ensures ∙ w.if-in_step.false)
    ]
