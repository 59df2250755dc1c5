use Rattle.std.proofs.Common.{◌≡◌, ◌<◌, List, Some, length, ◌∙◌, sym, ap, subst, arith}
use Rattle.std.specs.Prelude.{slice_get}
use Rattle.std.proofs.lemmas.Option.{same_Some, slice_get_within, slice_get-get_or}
use Rattle.lueval_lines.specs.declared.cell.Cell.{Cell}
use Rattle.lueval_lines.specs.declared.ordered.OrderedLine.{OrderedLine}
use Rattle.lueval_lines.specs.Cells.{statuses}
use Rattle.lueval.specs.Steps.{IsFaultFound}
use Rattle.lueval.proofs.FirstFaults.{first_told}
use Rattle.lueval.proofs.machine.Machine.instant.Goals as goal

pub found_at-requires : goal.found_at-requires
found_at-requires c =
    let p = c.loop-p.p in
    let row = c.row_at.result.now in
    let here : slice_get c.args.lines.now.rows.items p ≡ Some row = ap (λ (xs : List OrderedLine). slice_get xs p) (sym c.deref.ensures.value) ∙ c.row_at.ensures in
    let line = (c.requires.lines.each p row here).line in
    slice_get_within c.args.flat.now.flows row.line.place line.flow line.there

pub returns-in-Some-clause-first : goal.returns-in-Some-clause-first
returns-in-Some-clause-first c =
    let flat = c.args.flat.now in
    let r = c.requires in
    let p = c.loop-p.p in
    let row = c.row_at.result.now in
    let place = row.line.place in
    let here : slice_get c.args.lines.now.rows.items p ≡ Some row = ap (λ (xs : List OrderedLine). slice_get xs p) (sym c.deref.ensures.value) ∙ c.row_at.ensures in
    let line = (r.lines.each p row here).line in
    let h = c.in-Some.ensures.goes in
    let lp : p < length flat.order = let n = r.lines.len in let l = slice_get_within c.args.lines.now.rows.items p row here in omega (arith, n, l) in
    let at : place ≡ h.place = line.place ∙ same_Some _ h.place (sym (slice_get-get_or flat.order p 0 lp) ∙ h.ranked) in
    let shows = subst (λ (xs : List Cell). IsFaultFound (statuses xs) flat.flows place c.args.t c.in-Some.kind c.found_at.result) c.deref-in-Some.ensures.value c.found_at.ensures in
    first_told flat c.args.inputs.now (statuses c.step.new.self.shown.items) c.args.t p c.in-Some.kind c.found_at.result place r.flat r.fit r.instant h at shows
