use Rattle.lustat_init.proofs.Reporting.{reports}
use Rattle.lustat_init.proofs.laws.least_reports_law.Goals as goal

pub returns : goal.returns
returns c = λ n a least caused. reports n a least caused
