use Rattle.std.proofs.Common.{List, ℕ, ap, ap₂, get_or, ◌∙◌, ◌++◌}
use Rattle.std.specs.declared.vec.Vec.{Vec}
use Rattle.std.specs.declared.alloc.Global.{Global}
use Rattle.std.specs.String.{string_bytes}
use Rattle.luflow.specs.declared.data.Status.{Status}
use Rattle.lutab.specs.Text.{status_text}
use Rattle.lutab.proofs.Written.{same_status, statuses_behind}
use Rattle.lutab.proofs.writing.put_row.Goals as goal

pub loop-i-preserved : goal.loop-i-preserved
loop-i-preserved c =
    statuses_behind c.args.types.now c.args.kinds.now c.args.k c.loop-i.i c.args.cells.now c.index-cells-i.result (string_bytes c.args.out.now) (string_bytes c.loop-i.out) (string_bytes c.put_comma.new.out) (string_bytes c.put_status.new.out) c.loop-i-test.true c.loop-i.invariant c.in_ok-put_comma.ensures
    (c.in_ok-put_status.ensures ∙ ap₂ (λ (ns : List (List ℕ)) (s : Status). string_bytes c.put_comma.new.out ++ status_text ns s) c.names_at.ensures (same_status c.args.cells.now c.loop-i.i c.args.k c.index-cells-i.result c.index.result.now c.requires c.loop-i-test.true (c.index.ensures ∙ ap (λ (v : Vec Status Global). get_or v.items c.args.k c.index.result.now) c.index-cells-i.is)))
