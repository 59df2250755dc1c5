use Rattle.std.proofs.Common.{string_bytes}
use Rattle.luplace_report.specs.Graph.{variable_node}
use Rattle.luplace_report.proofs.Ranges.{text_more}
use Rattle.luplace_report.proofs.dot.put_variables.Goals as goal

pub loop-variable-preserved : goal.loop-variable-preserved
loop-variable-preserved c =
    text_more (variable_node c.args.plan.now c.args.site) c.loop-variable.variable (string_bytes c.args.text.now) (string_bytes c.loop-variable.text) (string_bytes c.put_variable.new.text) c.loop-variable.invariant c.in_ok-put_variable.ensures
