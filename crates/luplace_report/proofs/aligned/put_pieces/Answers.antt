use Rattle.std.proofs.Common.{string_bytes}
use Rattle.luplace_report.specs.Aligned.{piece}
use Rattle.luplace_report.proofs.Ranges.{text_more}
use Rattle.luplace_report.proofs.aligned.put_pieces.Goals as goal

pub loop-column-preserved : goal.loop-column-preserved
loop-column-preserved c =
    text_more (piece c.args.widths.now c.args.row.now) c.loop-column.column (string_bytes c.args.text.now) (string_bytes c.loop-column.text) (string_bytes c.put_piece.new.text) c.loop-column.invariant c.in_ok-put_piece.ensures
