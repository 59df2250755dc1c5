use Rattle.std.proofs.Common.{[], ap, ◌∙◌, ◌++◌, List, ℕ, string_bytes}
use Rattle.lutab.proofs.Joins.{field_behind}
use Rattle.lutab.proofs.first_table.header.Goals as goal

pub loop-i-preserved : goal.loop-i-preserved
loop-i-preserved c =
    field_behind (λ x. x.name) c.args.inputs.now c.loop-i.i c.index-inputs-i.result [] (string_bytes c.loop-i.text) (string_bytes c.put_comma.new.out) (string_bytes c.push_str.new.self) c.loop-i-test.true c.loop-i.invariant c.in_ok-put_comma.ensures
    (c.in_ok-push_str.ensures.bytes ∙ ap (λ (t : List ℕ). string_bytes c.put_comma.new.out ++ t) c.as_str.ensures)
