use Rattle.std.proofs.Common.{◌≡◌, Some, sym, subst, inr, rules}
use Rattle.std.specs.Prelude.{slice_get}
use Rattle.luflow.specs.Tables.{outputs_view}
use Rattle.lurun.specs.Reports.{AreCollected}
use Rattle.lurun.proofs.Collected.{collected_by, nothing_by}
use Rattle.lurun.proofs.collecting.outputs_of.Goals as goal

pub returns-in-Some-new : goal.returns-in-Some-new
returns-in-Some-new c = λ job of.
    let reports = c.args.reports.items in
    let first : slice_get reports 0 ≡ Some c.in-Some.first.now = search rules in
    let columns = outputs_view c.add_sites.new.columns.items in
    subst (AreCollected job reports) (sym c.in-Some-new.ensures.outputs)
    (collected_by job reports of c.in-Some.first.now first (c.requires.complete c.in-Some.first.now first) c.instants-instants.ensures.job c.requires.ended c.names.result.now columns c.names.ensures (c.in_ok-add_sites.ensures c.names.result.now c.in_ok-columns.ensures))

pub returns-in-None : goal.returns-in-None
returns-in-None c = λ job of.
    let reports = c.args.reports.items in
    let first : slice_get reports 0 ≡ Some c.in-Some.first.now = search rules in
    let columns = outputs_view c.add_sites.new.columns.items in
    inr (nothing_by job reports of c.in-Some.first.now first (c.requires.complete c.in-Some.first.now first) c.instants-instants.ensures.job c.requires.ended c.names.result.now columns c.names.ensures (c.in_ok-add_sites.ensures c.names.result.now c.in_ok-columns.ensures)
    (λ some. (let clash = c.in-None.ensures.when.1 some in absurd cc)))
