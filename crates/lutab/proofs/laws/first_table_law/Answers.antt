use Rattle.lutab.proofs.Spelled.{first_table_law}
use Rattle.lutab.proofs.laws.first_table_law.Goals as goal

pub returns : goal.returns
returns c = first_table_law
