use Rattle.serde_json.specs.View.{view}
use Rattle.luplace_report.specs.Report.{flow_data}
use Rattle.luplace_report.proofs.Ranges.{pushed_more}
use Rattle.luplace_report.proofs.json.flows_value.Goals as goal

pub loop-variable-preserved : goal.loop-variable-preserved
loop-variable-preserved c =
    pushed_more view (flow_data c.args.plan.now) c.loop-variable.variable c.loop-variable.values.items c.push.new.self.items c.in_ok-flow_value.field-0
    c.loop-variable.invariant c.in_ok-push.ensures.items c.in_ok-flow_value.ensures
