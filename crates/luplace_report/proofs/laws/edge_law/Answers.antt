use Rattle.luplace_report.proofs.Edges.{edge_law}
use Rattle.luplace_report.proofs.laws.edge_law.Goals as goal

pub returns : goal.returns
returns c = edge_law
