use Rattle.example_embed.proofs.Ran.{run_of}
use Rattle.example_embed.proofs.running.run_of_design.Goals as goal

pub returns-in-Ok : goal.returns-in-Ok
returns-in-Ok g c = run_of c.in-Ok.job c.table_of.result c.in-Ok.ensures.job c.table_of.ensures
