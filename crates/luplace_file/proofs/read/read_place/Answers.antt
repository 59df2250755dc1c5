use Rattle.toml.specs.View.{table_view}
use Rattle.luplace_file.proofs.Drafted.{drafted}
use Rattle.luplace_file.proofs.read.read_place.Goals as goal

pub ruled-requires : goal.ruled-requires
ruled-requires c = drafted (table_view c.in_ok-table.table) c.in_ok-draft.draft c.in_ok-draft.ensures
