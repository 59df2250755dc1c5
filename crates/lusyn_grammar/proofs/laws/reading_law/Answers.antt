use Rattle.lusyn_grammar.proofs.SoundPrograms.{all_of-spells}
use Rattle.lusyn_grammar.proofs.CompletePrograms.{all_of-again}
use Rattle.lusyn_grammar.proofs.laws.reading_law.Goals as goal

pub returns : goal.returns
returns c = λ ts found. (all_of-spells ts found, all_of-again ts found)
