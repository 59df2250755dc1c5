use Rattle.lusyn_grammar.proofs.LocalPrograms.{no_text}
use Rattle.lusyn_grammar.proofs.laws.refusal_law.Goals as goal

pub returns : goal.returns
returns c = no_text
