use Rattle.lusdist_answers.proofs.FirstNames.{first_inputs}
use Rattle.lusdist_answers.proofs.laws.first_inputs_law.Goals as goal

pub returns : goal.returns
returns c = first_inputs
