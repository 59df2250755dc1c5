use Rattle.std.proofs.Common.{◌++◌}
use Rattle.std.specs.Prelude.{codes}
use Rattle.luplace_report.specs.Aligned.{aligned}
use Rattle.luplace_report.specs.Table.{site_rows, link_rows, rest_text}
use Rattle.luplace_report.proofs.Added.{adds_after}
use Rattle.luplace_report.proofs.table.put_tables.Goals as goal

pub returns : goal.returns
returns c =
    let plan = c.args.plan.now in
    let rest = rest_text plan c.args.way.now c.args.fed.now in
    let r = c.put_rest.result in
    let end = c.put_rest.new.text in
    adds_after r c.args.text.now c.put_site_table.new.text end (aligned (site_rows plan)) (codes "\n" ++ (aligned (link_rows plan) ++ (codes "\n" ++ rest))) c.in_ok-put_site_table.ensures
    (adds_after r c.put_site_table.new.text c.push_str.new.self end (codes "\n") (aligned (link_rows plan) ++ (codes "\n" ++ rest)) c.in_ok-push_str.ensures.bytes
    (adds_after r c.push_str.new.self c.put_link_table.new.text end (aligned (link_rows plan)) (codes "\n" ++ rest) c.in_ok-put_link_table.ensures
    (adds_after r c.put_link_table.new.text c.push_str-2.new.self end (codes "\n") rest c.in_ok-push_str-2.ensures.bytes c.put_rest.ensures)))
