use Rattle.lusdist_answers.proofs.OneStatus.{one_status_of}
use Rattle.lusdist_answers.proofs.laws.one_status_law.Goals as goal

pub returns : goal.returns
returns g c = λ settled request one other x y na nb. one_status_of (g.F.Files.gives c.args.files.now) settled request one other x y na nb
