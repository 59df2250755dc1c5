use Rattle.std.proofs.Common.{subst}
use Rattle.lutree.specs.Tree.{program_view}
use Rattle.lustat_rules.specs.Accepted.{IsAccepted}
use Rattle.lustat.specs.Whole.{Whole}
use Rattle.lustat.proofs.checked.Checked.catalog.Goals as goal

pub returns-clause-accepted : goal.returns-clause-accepted
returns-clause-accepted c = subst (λ (w : Whole). IsAccepted (program_view w.program) w.main) c.self.view_is c.self.invariant.accepted
