use Rattle.std.proofs.Common.{◌++◌, codes, rules}
use Rattle.luplace_report.specs.Names.{Adds}
use Rattle.luplace_report.specs.Graph.{opening, label, point, variable_nodes}
use Rattle.luplace_report.proofs.Added.{adds_after}
use Rattle.luplace_report.proofs.dot.put_box.Goals as goal

pub returns : goal.returns
returns c =
    let plan = c.args.plan.now in
    let s = c.args.site in
    let r = c.push_str.result in
    let end = c.push_str.new.self in
    let nodes = variable_nodes plan s ++ codes "  }\n" in
    let last : Adds r c.put_variables.new.text end (codes "  }\n") = search rules in
    adds_after r c.args.text.now c.put_opening.new.text end (opening s) (label plan s ++ (point s ++ nodes)) c.in_ok-put_opening.ensures
    (adds_after r c.put_opening.new.text c.put_label.new.text end (label plan s) (point s ++ nodes) c.in_ok-put_label.ensures
    (adds_after r c.put_label.new.text c.put_point.new.text end (point s) nodes c.in_ok-put_point.ensures
    (adds_after r c.put_point.new.text c.put_variables.new.text end (variable_nodes plan s) (codes "  }\n") c.in_ok-put_variables.ensures last)))
