use Rattle.std.proofs.Common.{List, take, sym, subst}
use Rattle.lusite.specs.Sites.{SiteView}
use Rattle.lurun.specs.Reports.{IsLeast}
use Rattle.lurun.proofs.Lists.{take_next, got_at}
use Rattle.lurun.proofs.collecting.least_fault.Goals as goal

pub loop-i-preserved : goal.loop-i-preserved
loop-i-preserved c =
    subst (λ (xs : List SiteView). IsLeast xs c.lesser-least.result) (sym (take_next c.args.reports.now c.loop-i.i c.index-reports-i.result (got_at c.args.reports.now c.loop-i.i c.index-reports-i.result c.loop-i-test.true c.index-reports-i.is)))
    (c.lesser-least.ensures (take c.loop-i.i c.args.reports.now) c.loop-i.invariant)
