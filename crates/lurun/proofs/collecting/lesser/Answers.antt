use Rattle.std.proofs.Common.{arith, subst}
use Rattle.lurun.specs.Reports.{IsLeast}
use Rattle.lurun.proofs.Reported.{least_new, least_kept, least_changed, least_passed}
use Rattle.lurun.proofs.collecting.lesser.Goals as goal

pub returns-in-Ended : goal.returns-in-Ended
returns-in-Ended c = λ reports is. least_passed reports c.args.report.now c.args.least is (λ bad. bad.1 c.in-Ended.ensures.1)

pub returns-in-Cut : goal.returns-in-Cut
returns-in-Cut c = λ reports is. least_passed reports c.args.report.now c.args.least is c.in-Cut.ensures.1

pub returns-in-None : goal.returns-in-None
returns-in-None c = λ reports is.
    least_new reports c.args.report.now c.site-site.result c.in-Faulted.fault (subst (IsLeast reports) c.in-None.is is) c.in-Faulted.ensures.0 c.in-Faulted.ensures.1 c.site-site.ensures

pub returns-then-found-site : goal.returns-then-found-site
returns-then-found-site c = λ reports is.
    least_kept reports c.args.report.now c.in-Some.found.0 c.in-Some.found.1 (subst (IsLeast reports) c.in-Some.is is) (λ _. omega (arith, c.if-found-site.true, c.site-site.ensures))

pub returns-else-found-site : goal.returns-else-found-site
returns-else-found-site c = λ reports is.
    least_changed reports c.args.report.now c.site-site.result c.in-Faulted.fault c.in-Some.found.0 c.in-Some.found.1 (subst (IsLeast reports) c.in-Some.is is) c.in-Faulted.ensures.0 c.in-Faulted.ensures.1 c.site-site.ensures (omega (arith, c.if-found-site.false))
