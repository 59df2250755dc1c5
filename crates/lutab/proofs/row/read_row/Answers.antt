use Rattle.std.proofs.Common.{[], subst, arith}
use Rattle.luflow.specs.Tables.{columns_view}
use Rattle.lutab.specs.Filling.{FillsRow}
use Rattle.lutab.specs.Table.{sorts_in}
use Rattle.lutab.proofs.Fields.{row_none, as_many, empty_row, some_row}
use Rattle.lutab.proofs.row.read_row.Goals as goal

pub returns-in-Some : goal.returns-in-Some
returns-in-Some c = ([], empty_row (sorts_in c.args.types.now c.args.kinds.now) c.args.bytes.now c.in-Some.rest.now (let n = as_many c.args.types.now c.args.kinds.now in omega (arith, n, c.in-empty.len_below)) c.in-Some.ensures, row_none (columns_view c.args.columns.now))

pub returns-in-len1-up : goal.returns-in-len1-up
returns-in-len1-up c =
    let many = as_many c.args.types.now c.args.kinds.now in
    subst (FillsRow (columns_view c.args.columns.now) (columns_view c.read_fields.new.columns) c.read_fields.result)
    (some_row (sorts_in c.args.types.now c.args.kinds.now) c.args.bytes.now (let some = c.in-len1-up.len_at_least in omega (arith, many, some))) c.read_fields.ensures
