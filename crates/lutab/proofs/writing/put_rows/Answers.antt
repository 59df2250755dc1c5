use Rattle.std.proofs.Common.{◌≡◌, ◌≤◌, ◌+◌, ◌-◌, suc, All, vec_len, ap, ◌∙◌, arith}
use Rattle.std.specs.declared.vec.Vec.{Vec}
use Rattle.std.specs.declared.string.String.{String}
use Rattle.std.specs.declared.alloc.Global.{Global}
use Rattle.std.specs.String.{string_bytes}
use Rattle.luflow.specs.declared.data.Status.{Status}
use Rattle.luflow.specs.Tables.{outputs_view}
use Rattle.lutab.specs.Text.{line_text}
use Rattle.lutab.specs.Outputs.{statuses_at, lines_text}
use Rattle.lutab.specs.Buffers.{cells_view}
use Rattle.lutab.proofs.Written.{parts_long, same_line, line_more}
use Rattle.lutab.proofs.writing.put_rows.Goals as goal

pub put_row-requires : goal.put_row-requires
put_row-requires c =
    let count = c.args.to - c.args.from in
    let long : All (λ (x : String Global × Vec Status Global). c.args.from + count ≤ vec_len x.1) c.args.outputs.now = λ k d lt. (let h = c.requires.long k d lt in omega (arith, h, c.requires.order)) in
    let parts = parts_long c.args.from count c.args.outputs.now c.fill.new.cells long c.in_ok-fill.ensures.filled in
    λ k d lt. (let h = parts k d lt in omega (arith, h, c.loop-k-test.true))

pub loop-k-preserved : goal.loop-k-preserved
loop-k-preserved c =
    let outputs = outputs_view c.args.outputs.now in
    let same = same_line c.args.types.now c.args.kinds.now c.args.from (c.args.to - c.args.from) c.loop-k.k outputs (cells_view c.fill.new.cells) c.loop-k-test.true c.in_ok-fill.ensures.filled in
    let next : suc (c.args.from + c.loop-k.k) ≡ c.args.from + (c.loop-k.k + 1) = omega arith in
    line_more c.args.types.now c.args.kinds.now outputs (c.args.from + c.loop-k.k) (string_bytes c.loop-k.out) (line_text (statuses_at c.args.types.now c.args.kinds.now (cells_view c.fill.new.cells) c.loop-k.k)) (string_bytes c.put_row.new.out) c.loop-k.invariant same c.in_ok-put_row.ensures
    ∙ ap (lines_text c.args.types.now c.args.kinds.now outputs) next
