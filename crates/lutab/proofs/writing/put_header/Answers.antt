use Rattle.std.proofs.Common.{ap, ◌∙◌, ◌++◌, List, ℕ}
use Rattle.std.specs.String.{string_bytes}
use Rattle.luflow.specs.Tables.{output_view}
use Rattle.lutab.proofs.Joins.{viewed_behind}
use Rattle.lutab.proofs.writing.put_header.Goals as goal

pub loop-i-preserved : goal.loop-i-preserved
loop-i-preserved c =
    viewed_behind (λ o. o.name) output_view c.args.outputs.now c.loop-i.i c.index-outputs-i.result (string_bytes c.args.out.now) (string_bytes c.loop-i.out) (string_bytes c.put_comma.new.out) (string_bytes c.push_str.new.self) c.loop-i-test.true c.loop-i.invariant c.in_ok-put_comma.ensures
    (c.in_ok-push_str.ensures.bytes ∙ ap (λ (t : List ℕ). string_bytes c.put_comma.new.out ++ t) c.deref.ensures)
