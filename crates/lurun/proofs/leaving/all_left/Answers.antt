use Rattle.std.proofs.Common.{◌++◌, ◌∙◌, ap, map, sym, subst, rules}
use Rattle.std.specs.Vec.Iter.{into_iter_items}
use Rattle.lurun.specs.declared.engine.Engine.TheVariants.{Items}
use Rattle.lurun.specs.Crew.{reported}
use Rattle.lurun.specs.Stations.{AllGoBy, place_of, places}
use Rattle.lurun.proofs.LeftReports.{left_moved, rest_by_items, none_by_items}
use Rattle.lurun.proofs.leaving.all_left.Goals as goal

pub loop-report-init : goal.loop-report-init
loop-report-init c =
    let gives = c.into_iter-report-iterator.ensures.into_iter_gives.0 in
    let here = into_iter_items c.into_iter-report-iterator.result in
    record {
      room = search rules;
      so_far = ap (λ vs. map place_of vs ++ places (reported here)) c.in_ok-all.ensures.items ∙ ap (λ rs. places (reported rs)) gives;
      by_items = λ by. subst (λ rs. AllGoBy Items (reported rs)) (sym gives) by;
    }

pub returns-in_default-clause-none : goal.returns-in_default-clause-none
returns-in_default-clause-none c = λ _ by. none_by_items (into_iter_items c.loop-report.report-iterator) (into_iter_items c.next.new.self) c.in-Some.report c.in-Some.ensures.steps.0 c.into_left.ensures.report (sym c.into_left.ensures.left ∙ c.in_default.is) (c.loop-report.invariant.by_items by)

pub loop-report-preserved : goal.loop-report-preserved
loop-report-preserved c =
    let inv = c.loop-report.invariant in
    let all = into_iter_items c.loop-report.report-iterator in
    let rest = into_iter_items c.next.new.self in
    let r = c.in-Some.report in
    let e = c.in-Some.ensures.steps.0 in
    let v = c.in-Some-into_left.left in
    record {
      room = search rules;
      so_far = left_moved (places (reported c.args.reports.items)) c.loop-report.all.items c.push_reserved.new.self.items all rest r v e (sym c.into_left.ensures.left ∙ c.in-Some-into_left.is) c.into_left.ensures.report c.push_reserved.ensures.items inv.so_far;
      by_items = λ by. rest_by_items all rest r e (inv.by_items by);
    }
