use Rattle.std.proofs.lemmas.Grind.{common_steps}
use Rattle.std.proofs.Common.{arith}
use Rattle.lusite.proofs.state.SiteState.is_open.Goals as goal

pub returns-then-early : goal.returns-then-early
returns-then-early c = grind (arith, common_steps)
