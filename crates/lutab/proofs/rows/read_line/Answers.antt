use Rattle.luflow.specs.Tables.{columns_view}
use Rattle.lutab.specs.Table.{sorts_in}
use Rattle.lutab.proofs.Reached.{spelled}
use Rattle.lutab.proofs.rows.read_line.Goals as goal

pub returns : goal.returns
returns c = spelled (sorts_in c.args.types.now c.args.kinds.now) c.args.bytes.now (columns_view c.args.columns.now) (columns_view c.read_row.new.columns) c.read_row.result c.read_row.ensures
