use Rattle.std.proofs.Common.{[], ◌∷◌, ◌++◌, ap, ◌∙◌}
use Rattle.std.specs.Prelude.{slice_get}
use Rattle.luplace_report.specs.Table.{cells_of, cause_cells}
use Rattle.luplace_report.proofs.Aligning.{made_more}
use Rattle.luplace_report.proofs.table.put_causes.Goals as goal

pub loop-number-preserved : goal.loop-number-preserved
loop-number-preserved c =
    let plan = c.args.plan.now in
    made_more (λ n. cells_of (cause_cells plan n) (slice_get plan.links n)) c.loop-number.number c.args.rows.now.items c.loop-number.rows.items c.push.new.self.items c.loop-number.invariant (c.in_ok-push.ensures.items ∙ ap (λ r. c.loop-number.rows.items ++ r ∷ []) c.in_ok-cause_cells_at.ensures)
