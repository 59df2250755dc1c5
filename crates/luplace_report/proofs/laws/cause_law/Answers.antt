use Rattle.luplace_report.proofs.Causes.{cause_law}
use Rattle.luplace_report.proofs.laws.cause_law.Goals as goal

pub returns : goal.returns
returns c = cause_law
