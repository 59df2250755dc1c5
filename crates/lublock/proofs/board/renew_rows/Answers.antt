use Rattle.std.proofs.Common.{arith, ◌≡◌, ◌<◌, length, refl, sym, ap, ◌∙◌}
use Rattle.std.proofs.lemmas.Option.{slice_get_read, slice_get_past}
use Rattle.lublock_kernels.specs.Machine.{ticks_there, ticks_of}
use Rattle.lublock_kernels.proofs.Steps.{len_set}
use Rattle.lublock.proofs.Renewing.{rows_renewed, rows_beside, rows_left}
use Rattle.lublock.proofs.board.renew_rows.Goals.{in-Some, in-None}
use Rattle.lublock.proofs.board.renew_rows.Goals as goal

pub loop-i-preserved : goal.loop-i-preserved
loop-i-preserved c =
    let old = c.args.rows.now.items in
    let rows = c.loop-i.rows.items in
    let spans = c.args.spans.now in
    let i = c.loop-i.i in
    let inv = c.loop-i.invariant in
    let at : c.match-get.ticks ≡ ticks_of spans i = elim c.match-get.branch [
      | in-Some w ↦ w.ticks-is ∙ sym (ap ticks_there (slice_get_read spans (length spans) i w.in-Some.span.now refl w.in-Some.ensures.lookup.3.0 w.in-Some.ensures.lookup.1))
      | in-None w ↦ w.ticks-is ∙ sym (ap ticks_there (slice_get_past spans i w.in-None.ensures.lookup.3))
    ] in
    let low = c.loop-i-test.true in
    let all = c.len-i-end.ensures in
    let long = inv.len in
    let inside : i < length rows = omega (arith, low, all, long) in
    record {
      len = len_set rows i c.renew_row.new.row ∙ inv.len;
      done = rows_renewed old rows spans i c.match-get.ticks c.index_mut.result.now c.renew_row.new.row inside c.index_mut.ensures.value c.renew_row.ensures.first at inv.done inv.left;
      beside = rows_beside old rows spans i c.match-get.ticks c.index_mut.result.now c.renew_row.new.row inside c.index_mut.ensures.value c.renew_row.ensures.beside inv.beside;
      left = rows_left old rows spans i c.match-get.ticks c.index_mut.result.now c.renew_row.new.row inv.left;
    }
