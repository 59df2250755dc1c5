use Rattle.std.proofs.Common.{◌++◌}
use Rattle.std.specs.Prelude.{codes}
use Rattle.luplace_report.specs.Way.{variable_list, sent_text}
use Rattle.luplace_report.proofs.Added.{adds_after}
use Rattle.luplace_report.proofs.way.put_nil.Goals as goal

pub returns : goal.returns
returns c =
    let vs = c.args.variables.now in
    let names = variable_list c.args.flat.now vs in
    adds_after c.put_sent.result c.args.text.now c.push_str.new.self c.put_sent.new.text (codes "instant by instant: ") (names ++ sent_text vs) c.in_ok-push_str.ensures.bytes
    (adds_after c.put_sent.result c.push_str.new.self c.put_list.new.text c.put_sent.new.text names (sent_text vs) c.in_ok-put_list.ensures c.put_sent.ensures)
