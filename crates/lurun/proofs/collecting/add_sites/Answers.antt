use Rattle.std.proofs.Common.{List, ◌++◌, ◌∷◌, [], sym, ap, ◌∙◌, append_assoc}
use Rattle.std.specs.Vec.Iter.{into_iter_items}
use Rattle.lusite.specs.Sites.{SiteView}
use Rattle.lurun.proofs.collecting.add_sites.Goals as goal

pub loop-report-preserved : goal.loop-report-preserved
loop-report-preserved c =
    let inv = c.loop-report.invariant in
    record {
      reports = inv.reports ++ c.in-Some.report ∷ [];
      all = append_assoc inv.reports (c.in-Some.report ∷ []) (into_iter_items c.next.new.self) ∙ ap (λ (xs : List SiteView). inv.reports ++ xs) (sym c.in-Some.ensures.steps.0) ∙ inv.all;
      are = λ names none. c.in_ok-add_site.ensures inv.reports names (inv.are names none);
    }
