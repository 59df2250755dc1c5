use Rattle.lurun.proofs.Answers.{run_outputs, run_stopped}
use Rattle.lurun.proofs.jobs.run_items.Goals as goal

pub returns-clause-outputs : goal.returns-clause-outputs
returns-clause-outputs g c = run_outputs c.args.job.now c.in_ok-stations.stations.items c.run_crew.result (c.run_crew.ensures c.args.job.now c.in_ok-stations.ensures.of)

pub returns-clause-stopped : goal.returns-clause-stopped
returns-clause-stopped g c = run_stopped c.args.job.now c.in_ok-stations.stations.items c.run_crew.result c.in_ok-stations.ensures.complete (c.run_crew.ensures c.args.job.now c.in_ok-stations.ensures.of)
