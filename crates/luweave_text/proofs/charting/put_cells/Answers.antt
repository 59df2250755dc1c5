use Rattle.std.proofs.Common.{string_bytes}
use Rattle.luchart.proofs.Ranges.{text_more_zero}
use Rattle.luweave_text.specs.Charted.{cell}
use Rattle.luweave_text.proofs.charting.put_cells.Goals as goal

pub loop-column-preserved : goal.loop-column-preserved
loop-column-preserved c =
    text_more_zero (cell c.args.sites c.args.site c.args.target c.args.word.now) c.loop-column.column (string_bytes c.args.text.now) (string_bytes c.loop-column.text) (string_bytes c.put_cell.new.text) c.loop-column.invariant c.in_ok-put_cell.ensures
