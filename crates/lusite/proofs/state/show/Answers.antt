use Rattle.lusite.proofs.Held.{statuses_set}
use Rattle.lusite.proofs.state.show.Goals as goal

pub returns-clause-shown : goal.returns-clause-shown
returns-clause-shown c = statuses_set c.args.shown.now.items c.args.i c.args.cell
