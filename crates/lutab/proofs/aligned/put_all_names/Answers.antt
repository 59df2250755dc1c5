use Rattle.std.proofs.Common.{string_bytes}
use Rattle.luflow.specs.Tables.{outputs_view}
use Rattle.lutab.specs.Aligned.{name_at, placed}
use Rattle.lutab.proofs.Placing.{piece_more}
use Rattle.lutab.proofs.aligned.put_all_names.Goals as goal

pub loop-i-preserved : goal.loop-i-preserved
loop-i-preserved c =
    piece_more (λ i. placed c.args.widths.now i (name_at (outputs_view c.args.columns.now) i)) c.loop-i.i (string_bytes c.args.out.now) (string_bytes c.loop-i.out) (string_bytes c.put_name.new.out) c.loop-i.invariant c.in_ok-put_name.ensures
