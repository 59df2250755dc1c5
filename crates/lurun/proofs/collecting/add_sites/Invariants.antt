use Rattle.std.proofs.Common.{◌≡◌, ℕ, ◌++◌, [], List}
use Rattle.std.specs.Vec.Iter.{into_iter_items}
use Rattle.luflow.specs.Tables.{outputs_view}
use Rattle.lusite.specs.Sites.{SiteView}
use Rattle.lurun.specs.Reports.{AreColumns}
use Rattle.lurun.proofs.collecting.add_sites.Given as goal

-- what the reports so far say is moved
abbrev pub invariant-loop-report : goal.invariant-loop-report
invariant-loop-report l = record {
  reports : List SiteView;
  all : reports ++ into_iter_items l.report-iterator ≡ l.fn.reports.items;
  are : (names : List (List ℕ)) → AreColumns [] names (outputs_view l.initial.columns.items) → AreColumns reports names (outputs_view l.columns.items);
}
