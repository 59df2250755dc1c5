use Rattle.std.proofs.Common.{[], ◌∷◌, ◌++◌, ap, ◌∙◌}
use Rattle.luplace_report.specs.Aligned.{width}
use Rattle.luplace_report.proofs.Aligning.{made_more}
use Rattle.luplace_report.proofs.aligned.widths_of.Goals as goal

pub loop-column-preserved : goal.loop-column-preserved
loop-column-preserved c =
    made_more (width c.args.rows.now) c.loop-column.column [] c.loop-column.widths.items c.push.new.self.items c.loop-column.invariant (c.in_ok-push.ensures.items ∙ ap (λ w. c.loop-column.widths.items ++ w ∷ []) c.width.ensures)
