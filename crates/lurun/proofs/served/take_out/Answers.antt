use Rattle.std.proofs.Common.{◌<◌, length, rules}
use Rattle.lurun.proofs.Dealing.{report_moved}
use Rattle.lurun.proofs.served.take_out.Goals as goal

pub returns-clause-on : goal.returns-clause-on
returns-clause-on g c = λ stations so.
    (let l : c.args.at < length c.args.share.now.served.items = search rules in
    let out = c.swap_remove-served in
    report_moved stations c.args.share.now.served.items out.new.self.items c.args.share.now.reports.items c.push_reserved.new.self.items c.args.at out.result c.report.result so l out.ensures.value out.ensures.items c.report.ensures c.push_reserved.ensures.items)
