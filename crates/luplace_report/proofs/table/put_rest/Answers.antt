use Rattle.std.proofs.Common.{◌++◌}
use Rattle.std.specs.Prelude.{codes}
use Rattle.luplace_report.specs.Aligned.{aligned}
use Rattle.luplace_report.specs.Table.{cause_rows, run_rows}
use Rattle.luplace_report.proofs.Added.{adds_after}
use Rattle.luplace_report.proofs.table.put_rest.Goals as goal

pub returns : goal.returns
returns c =
    let plan = c.args.plan.now in
    let run = aligned (run_rows plan c.args.way.now c.args.fed.now) in
    let r = c.put_run_table.result in
    let end = c.put_run_table.new.text in
    adds_after r c.args.text.now c.put_cause_table.new.text end (aligned (cause_rows plan)) (codes "\n" ++ run) c.in_ok-put_cause_table.ensures
    (adds_after r c.put_cause_table.new.text c.push_str.new.self end (codes "\n") run c.in_ok-push_str.ensures.bytes c.put_run_table.ensures)
