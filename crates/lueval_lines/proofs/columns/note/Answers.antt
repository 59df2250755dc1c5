use Rattle.std.proofs.Common.{◌<◌, length, refl, sym, ap, ◌∙◌, arith}
use Rattle.std.specs.Prelude.{slice_index}
use Rattle.std.proofs.lemmas.List.{length-map, length-set}
use Rattle.std.proofs.lemmas.List.Elements.{All-get_or}
use Rattle.std.proofs.lemmas.Option.{get_or_from_slice_get}
use Rattle.luflow.proofs.Solutions.{some_at}
use Rattle.luflow.specs.Solution.{solution}
use Rattle.luflow.specs.Streams.{Known}
use Rattle.lueval_lines.specs.declared.cell.Cell.TheVariants.{Absent}
use Rattle.lueval_lines.specs.Cells.{status_of}
use Rattle.lueval_lines.proofs.Seeing.{cell_shown}
use Rattle.lueval_lines.proofs.Noting.{column_room, note_begin, note_one, note_end}
use Rattle.lueval_lines.proofs.columns.note.Goals as goal

pub loop-k-init : goal.loop-k-init
loop-k-init c = record {
  len = refl;
  noted = note_begin c.args.inputs.now (solution c.args.flat.now c.args.inputs.now) c.args.kept.now c.args.columns.now.items c.args.t c.requires.columns;
}

pub push_status-requires-clause-room : goal.push_status-requires-clause-room
push_status-requires-clause-room c x there =
    let σ = solution c.args.flat.now c.args.inputs.now in
    column_room c.args.inputs.now σ c.args.t (slice_index c.args.kept.now c.loop-k.k) x (c.loop-k.invariant.noted.left c.loop-k.k x (omega arith) c.loop-k-test.true there) c.requires.instant

pub loop-k-preserved : goal.loop-k-preserved
loop-k-preserved c =
    let σ = solution c.args.flat.now c.args.inputs.now in
    let kept = c.args.kept.now in
    let k = c.loop-k.k in
    let v = slice_index kept k in
    let xs = c.loop-k.columns.items in
    let inv = c.loop-k.invariant in
    let lv : v < length c.args.columns.now.items = All-get_or (λ w. w < length c.args.columns.now.items) kept k 0 c.loop-k-test.true c.requires.kept.inside in
    let x = some_at xs v (let n = inv.len in omega (arith, lv)) in
    let w = c.requires.shown v (let m = c.requires.mains in let n = length-map c.args.shown.now status_of in omega (arith, lv, m, n)) in
    let cell = cell_shown c.args.shown.now v w.status w.there in
    let is = get_or_from_slice_get c.args.shown.now v cell.0 Absent cell.1 in
    let same = c.status.ensures ∙ ap status_of is ∙ cell.2 in
    let longer = c.push_status.ensures x.0 x.1 in
    record {
      len = ap length longer.is ∙ length-set xs v longer.row ∙ inv.len;
      noted = note_one c.args.inputs.now σ (length c.args.columns.now.items) kept xs c.push_status.new.columns.items c.args.t k x.0 c.status.result c.requires.kept c.loop-k-test.true inv.noted x.1 (w.is ∙ ap Known (sym same)) longer;
    }

pub returns-clause-columns : goal.returns-clause-columns
returns-clause-columns c = note_end c.args.inputs.now (solution c.args.flat.now c.args.inputs.now) c.args.kept.now c.loop-k.columns.items c.args.t c.loop-k.k c.loop-k-test.false c.loop-k.invariant.noted
