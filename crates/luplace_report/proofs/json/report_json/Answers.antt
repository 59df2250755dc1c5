use Rattle.serde_json.specs.View.{view}
use Rattle.luplace_report.specs.Report.{report_data}
use Rattle.luplace_report.proofs.Plain.{report_plain, text_is}
use Rattle.luplace_report.proofs.json.report_json.Goals as goal

pub returns : goal.returns
returns c = text_is c.to_string.result (view c.in_ok-report_value.field-0) (report_data c.args.plan.now) c.in_ok-report_value.ensures (report_plain c.args.plan.now) c.to_string.ensures.text
