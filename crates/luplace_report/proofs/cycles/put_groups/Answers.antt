use Rattle.luplace_report.specs.Cycles.{group_of, group_rows}
use Rattle.luplace_report.proofs.Aligning.{rows_more}
use Rattle.luplace_report.proofs.cycles.put_groups.Goals as goal

pub loop-site-preserved : goal.loop-site-preserved
loop-site-preserved c =
    rows_more (λ s. group_rows c.args.names.now s (group_of c.args.count c.args.fed.now s)) c.loop-site.site c.args.rows.now.items c.loop-site.rows.items c.put_group_of.new.rows.items c.loop-site.invariant c.in_ok-put_group_of.ensures
