use Rattle.lusyn_grammar.proofs.ViablePrograms.{refused_goes_on}
use Rattle.lusyn_grammar.proofs.laws.beginning_law.Goals as goal

pub returns : goal.returns
returns c = refused_goes_on
