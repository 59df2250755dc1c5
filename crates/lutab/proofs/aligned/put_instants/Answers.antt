use Rattle.std.proofs.Common.{string_bytes}
use Rattle.luflow.specs.Tables.{outputs_view}
use Rattle.lutab.specs.Aligned.{instant_line}
use Rattle.lutab.proofs.Placing.{piece_more}
use Rattle.lutab.proofs.aligned.put_instants.Goals as goal

pub loop-t-preserved : goal.loop-t-preserved
loop-t-preserved c =
    piece_more (instant_line c.args.types.now c.args.kinds.now (outputs_view c.args.columns.now) c.args.widths.now) c.loop-t.t (string_bytes c.args.out.now) (string_bytes c.loop-t.out) (string_bytes c.put_instant.new.out) c.loop-t.invariant c.in_ok-put_instant.ensures
