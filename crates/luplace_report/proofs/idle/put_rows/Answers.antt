use Rattle.std.proofs.Common.{string_bytes}
use Rattle.luplace_report.specs.Idle.{idle_row}
use Rattle.luplace_report.proofs.Ranges.{text_more}
use Rattle.luplace_report.proofs.idle.put_rows.Goals as goal

pub loop-site-preserved : goal.loop-site-preserved
loop-site-preserved c =
    text_more (idle_row c.args.path.now c.args.plan.now) c.loop-site.site (string_bytes c.args.text.now) (string_bytes c.loop-site.text) (string_bytes c.put_row.new.text) c.loop-site.invariant c.in_ok-put_row.ensures
