use Rattle.std.proofs.Common.{◌≡◌, ◌≤◌, ℕ, Option, Some, None, Contains, length, get_or, arith}
use Rattle.std.proofs.lemmas.Option.{slice_get-get_or}
use Rattle.lustat_rules.specs.declared.error.StatError.{StatError}
use Rattle.lustat_rules.specs.Faults.{FaultAmong}
use Rattle.lustat_rules.proofs.Gaining.{gains_more, gains_all, gains_same}
use Rattle.lustat_rules.proofs.Telling.{among_row, row_among}
use Rattle.lustat_rules.proofs.row.push_each.Goals as goal

abbrev Told : ℕ → Option StatError → StatError → Type 0
Told _ o e = o ≡ Some e

pub loop-told-preserved : goal.loop-told-preserved
loop-told-preserved c =
    let row = c.args.row.now in
    let i = c.loop-told.told-index in
    let here = slice_get-get_or row i None (let lt = c.loop-told-test.true in omega (arith, lt)) in
    gains_more row Told i (get_or row i None) c.args.found.now.items c.loop-told.found.items c.push_fault.new.found.items here c.loop-told.invariant c.in_ok-push_fault.ensures

pub returns : goal.returns
returns c =
    let row = c.args.row.now in
    let end : length row ≤ c.loop-told.told-index = (let e = c.loop-told-test.false in omega (arith, e)) in
    gains_same (FaultAmong row Told) (λ e. Contains row (Some e)) c.args.found.now.items c.loop-told.found.items (among_row row) (row_among row)
    (gains_all row Told c.loop-told.told-index c.args.found.now.items c.loop-told.found.items end c.loop-told.invariant)
