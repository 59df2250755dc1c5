use Rattle.lusdist_answers.proofs.OneRefusal.{one_refusal_of}
use Rattle.lusdist_answers.proofs.laws.one_refusal_law.Goals as goal

pub returns : goal.returns
returns g c = λ settled request one other x y na nb nf. one_refusal_of (g.F.Files.gives c.args.files.now) settled request one other x y na nb nf
