use Rattle.std.proofs.Common.{[], arith, add-one, ◌∙◌}
use Rattle.std.proofs.lemmas.List.{length-map}
use Rattle.std.proofs.lemmas.Result.{err_from_is_err_and}
use Rattle.lutree.specs.declared.program.Kind.TheVariants.{Int}
use Rattle.luflow.specs.Tables.{column_view, columns_view}
use Rattle.lutab.specs.Table.{sorts_in}
use Rattle.lutab.proofs.Fields.{begins, as_many, one_more, fails, ends, later}
use Rattle.lutab.proofs.row.read_fields.Goals as goal

pub loop-i-init : goal.loop-i-init
loop-i-init c = begins (sorts_in c.args.types.now c.args.kinds.now) c.args.bytes.now (columns_view c.args.columns.now)

pub returns-in_err-rest : goal.returns-in_err-rest
returns-in_err-rest c =
    let p = err_from_is_err_and c.from_residual.result c.from_residual.ensures.1 in
    let is = later c.args.types.now c.args.kinds.now c.loop-i.i c.end_of-end.result (c.end_of-end.ensures c.args.types.now) in
    rw (p.1, p.2) (fails c.args.types.now c.in_err-rest.field-0.0 c.args.kinds.now c.args.bytes.now (columns_view c.args.columns.now) c.loop-i.i c.loop-i.rest.now (columns_view c.loop-i.columns) Int c.end_of-end.result [] [] [] c.loop-i.invariant c.loop-i-test.true is c.in_err-rest.ensures)

pub loop-i-preserved : goal.loop-i-preserved
loop-i-preserved c =
    let is = later c.args.types.now c.args.kinds.now c.loop-i.i c.end_of-end.result (c.end_of-end.ensures c.args.types.now) in
    rw add-one (one_more c.args.types.now c.args.kinds.now c.args.bytes.now (columns_view c.args.columns.now) c.loop-i.i c.loop-i.rest.now c.loop-i.columns Int c.end_of-end.result c.index-columns-i.result c.read_field.new.column c.in_ok-rest.rest
    c.loop-i.invariant c.loop-i-test.true (length-map c.args.columns.now column_view ∙ c.requires) is c.in_ok-rest.ensures)

pub returns : goal.returns
returns c =
    let n = as_many c.args.types.now c.args.kinds.now in
    (c.loop-i.invariant.row, ends (sorts_in c.args.types.now c.args.kinds.now) c.args.bytes.now (columns_view c.args.columns.now) c.loop-i.i c.loop-i.rest.now (columns_view c.loop-i.columns) c.loop-i.invariant (omega (arith, n)), c.loop-i.invariant.filled)
