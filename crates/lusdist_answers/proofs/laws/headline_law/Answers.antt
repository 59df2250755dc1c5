use Rattle.lusdist_answers.proofs.Headlines.{headline}
use Rattle.lusdist_answers.proofs.laws.headline_law.Goals as goal

pub returns : goal.returns
returns g c = headline (g.F.Files.gives c.args.files.now)
