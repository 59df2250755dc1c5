use Rattle.lusdist_answers.proofs.Exclusive.{one_outcome}
use Rattle.lusdist_answers.proofs.laws.one_outcome_law.Goals as goal

pub returns : goal.returns
returns g c = λ settled request text stop answer stopped. one_outcome (g.F.Files.gives c.args.files.now) settled request text stop answer stopped
