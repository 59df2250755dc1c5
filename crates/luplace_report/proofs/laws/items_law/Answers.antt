use Rattle.luplace_report.proofs.Items.{items_law}
use Rattle.luplace_report.proofs.laws.items_law.Goals as goal

pub returns : goal.returns
returns c = items_law
