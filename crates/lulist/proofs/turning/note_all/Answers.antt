use Rattle.std.proofs.Common.{◌≡◌, ◌<◌, length, map, get_or, Some, refl, subst, ap, ◌∙◌, arith}
use Rattle.std.specs.Prelude.{slice_get, slice_index}
use Rattle.std.specs.Option.{option_map}
use Rattle.std.proofs.lemmas.Option.{slice_get-get_or, slice_get-map}
use Rattle.luflow.proofs.Solutions.{some_at}
use Rattle.luflow.specs.declared.data.Status.{Status}
use Rattle.lueval_lines.specs.declared.cell.Cell.TheVariants.{Absent}
use Rattle.lueval_lines.specs.Cells.{status_of}
use Rattle.lusite_program.specs.Logs.{log_view, IsNoted}
use Rattle.lulist.proofs.Instants.{noted_none, noted_more}
use Rattle.lulist.proofs.turning.note_all.Goals as goal

pub loop-j-init : goal.loop-j-init
loop-j-init c = record { noted = noted_none c.args.noted.now c.args.shown.now (map log_view c.args.logs.now.items) }

pub loop-j-preserved : goal.loop-j-preserved
loop-j-preserved c =
    let noted = c.args.noted.now in
    let shown = c.args.shown.now in
    let old = map log_view c.loop-j.logs.items in
    let new = map log_view c.note.new.logs.items in
    let j = c.loop-j.j in
    let k = slice_index noted j in
    let lj : j < length c.loop-j.logs.items = let a = c.if-len-j.false in let b = c.len.ensures in omega (arith, a, b) in
    let lk : k < length shown = c.if-shown-k.false in
    let cell = get_or shown k Absent in
    let row = some_at c.loop-j.logs.items j lj in
    let there : slice_get old j ≡ Some (log_view row.0) = slice_get-map log_view c.loop-j.logs.items j ∙ ap (option_map log_view) row.1 in
    let is : IsNoted old j (log_view row.0) (status_of cell) new = subst (λ (s : Status). IsNoted old j (log_view row.0) s new) c.status.ensures (c.note.ensures.noted refl row.0 row.1) in
    record { noted = noted_more noted shown (map log_view c.args.logs.now.items) old new j k cell (log_view row.0) (slice_get-get_or noted j 0 c.loop-j-test.true) (slice_get-get_or shown k Absent lk) there is c.loop-j.invariant.noted }
