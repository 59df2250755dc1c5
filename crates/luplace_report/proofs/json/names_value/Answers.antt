use Rattle.std.proofs.Common.{ap, ◌∙◌}
use Rattle.serde_json.specs.Data.{string}
use Rattle.serde_json.specs.View.{view}
use Rattle.luplace_report.proofs.Ranges.{taken_more, all_taken}
use Rattle.luplace_report.proofs.json.names_value.Goals as goal

pub loop-name-preserved : goal.loop-name-preserved
loop-name-preserved c =
    taken_more view string c.args.names.now c.loop-name.name-index c.name-item.result c.name-item.result c.loop-name.values.items c.push.new.self.items c.in_ok-try_from_str.field-0
    c.loop-name-test.true c.name-item.is c.loop-name.invariant c.in_ok-push.ensures.items (c.in_ok-try_from_str.ensures ∙ ap string c.as_str.ensures)

pub returns : goal.returns
returns c = all_taken string c.args.names.now c.loop-name.name-index c.loop-name.values c.loop-name.invariant c.loop-name-test.false
