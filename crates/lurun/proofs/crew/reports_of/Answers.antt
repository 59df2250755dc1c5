use Rattle.std.proofs.Common.{◌≡◌, true, rules}
use Rattle.lurun.specs.Crew.{held}
use Rattle.lurun.proofs.Dealing.{dealt_reports}
use Rattle.lurun.proofs.crew.reports_of.Goals as goal

pub returns-clause-reports : goal.returns-clause-reports
returns-clause-reports g c =
    (let all : c.scoped-reports.result.1 ≡ true = search rules in
    dealt_reports c.args.stations.items (held c.in_ok-started.started.items) c.scoped-reports.result.0.items c.in_ok-started.ensures.all (c.scoped-reports.ensures.1 all))
