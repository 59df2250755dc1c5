use Rattle.std.proofs.Common.{◌∙◌, true, sym, ap, true≢false}
use Rattle.lutree.specs.Tree.{view}
use Rattle.lustat_warn.specs.Scans.{divides_within}
use Rattle.lustat_warn.proofs.Divided.{second_branch}
use Rattle.lustat_warn.proofs.dividing.+dividing.Goals as goal
use Rattle.lustat_warn.proofs.dividing.+dividing.Goals.{divides-then-divides-2, divides-else-divides-2}

pub divides-returns-else-divides-3 : goal.divides-returns-else-divides-3
divides-returns-else-divides-3 t c = elim c.if-divides-2.branch [
  | divides-then-divides-2 w ↦ absurd (true≢false (sym w.if-divides-2.true ∙ sym w.value-is ∙ c.if-divides-3.false))
  | divides-else-divides-2 w ↦
      second_branch c.args.everywhere c.args.e.now c.in-If.c c.in-If.a c.in-If.b c.divides-in-If.result w.divides-else-divides-2.result c.divides-else-divides-3.result c.in-If.is
      (c.divides-in-If.ensures ∙ ap (λ e. divides_within c.args.everywhere (view e)) c.deref-in-If.ensures) w.if-divides-2.false
      (w.divides-else-divides-2.ensures ∙ ap (λ e. divides_within true (view e)) w.deref-else-divides-2.ensures) (sym w.value-is ∙ c.if-divides-3.false)
      (c.divides-else-divides-3.ensures ∙ ap (λ e. divides_within true (view e)) c.deref-else-divides-3.ensures)
]
