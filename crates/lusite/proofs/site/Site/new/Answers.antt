use Rattle.std.proofs.Common.{ℕ, subst}
use Rattle.luworld.proofs.Fitting.{job_of_run}
use Rattle.lusite_program.specs.Logs.{IsNewRow}
use Rattle.lusite_program.specs.Programs.{part_of}
use Rattle.lusite.proofs.site.Site.new.Goals as goal

pub begun-requires-clause-job : goal.begun-requires-clause-job
begun-requires-clause-job c = job_of_run c.args.inputs.job c.recall_invariant.ensures

pub begun-requires-clause-each : goal.begun-requires-clause-each
begun-requires-clause-each c k i there y at = subst (λ (n : ℕ). IsNewRow (part_of c.args.program.plan c.args.program.site i).reported n y) c.instants.ensures (c.in_ok-held.ensures.each k i there y at)
