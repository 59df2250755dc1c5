use Rattle.lueval_lines.specs.declared.cell.Cell.TheVariants.{Absent}
use Rattle.lusite.proofs.Held.{statuses_set}
use Rattle.lusite.proofs.state.clear.Goals as goal

pub returns-then-step-eq0-clause-cleared : goal.returns-then-step-eq0-clause-cleared
returns-then-step-eq0-clause-cleared c _ = statuses_set c.args.shown.now.items c.args.i Absent
