use Rattle.std.proofs.Common.{subst}
use Rattle.std.specs.Prelude.{Option, IfSome, Vec}
use Rattle.std.specs.declared.alloc.Global.{Global}
use Rattle.lusite.specs.Sites.{SiteView}
use Rattle.lurun.specs.Stations.{AreLeft}
use Rattle.lurun.proofs.Answers.{run_answer, lost}
use Rattle.lurun.proofs.crews.run_crew.Goals as goal

pub returns-in-Some : goal.returns-in-Some
returns-in-Some g c = λ job of.
    (let reports = c.in_ok-reports.reports.items in
    let left : AreLeft reports c.in-Some.left.items = subst (λ (o : Option (Vec SiteView Global)). IfSome o (λ left. AreLeft reports left.items)) c.in-Some.is c.in_ok-found.ensures.left in
    run_answer job c.args.stations.items reports c.in-Some.left.items of c.in_ok-reports.ensures.reports left c.collect.result c.collect.ensures)

pub returns-in-None : goal.returns-in-None
returns-in-None g c = λ job of. lost job c.args.stations.items c.in_ok-reports.reports.items c.in_ok-reports.ensures.reports (c.in_ok-found.ensures.none c.in-None.is)
