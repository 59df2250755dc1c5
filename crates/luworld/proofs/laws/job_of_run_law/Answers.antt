use Rattle.luworld.proofs.Fitting.{job_of_run}
use Rattle.luworld.proofs.laws.job_of_run_law.Goals as goal

pub returns : goal.returns
returns c = λ job run. job_of_run job run
