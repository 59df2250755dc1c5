use Rattle.std.proofs.Common.{◌∙◌, ap, [], ◌++◌, string_bytes}
use Rattle.lutab.specs.FirstTable.{first_field}
use Rattle.lutab.proofs.Joins.{field_behind}
use Rattle.lutab.proofs.first_table.line.Goals as goal

pub loop-i-preserved : goal.loop-i-preserved
loop-i-preserved c =
    let put = c.in_ok-put_field.ensures ∙ ap (λ x. string_bytes c.put_comma.new.out ++ first_field c.args.types.now x) c.index-inputs-i.is in
    field_behind (first_field c.args.types.now) c.args.inputs.now c.loop-i.i c.index-inputs-i.result [] (string_bytes c.loop-i.line) (string_bytes c.put_comma.new.out) (string_bytes c.put_field.new.line) c.loop-i-test.true c.loop-i.invariant c.in_ok-put_comma.ensures put
