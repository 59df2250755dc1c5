use Rattle.std.proofs.Common.{[], ◌∷◌, ◌++◌, ap, ◌∙◌}
use Rattle.luplace_report.specs.Table.{site_cells}
use Rattle.luplace_report.proofs.Aligning.{made_more}
use Rattle.luplace_report.proofs.table.put_sites.Goals as goal

pub loop-site-preserved : goal.loop-site-preserved
loop-site-preserved c =
    made_more (site_cells c.args.plan.now) c.loop-site.site c.args.rows.now.items c.loop-site.rows.items c.push.new.self.items c.loop-site.invariant (c.in_ok-push.ensures.items ∙ ap (λ r. c.loop-site.rows.items ++ r ∷ []) c.in_ok-site_cells.ensures)
