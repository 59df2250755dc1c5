use Rattle.std.proofs.Common.{sym, ◌∙◌}
use Rattle.lusyn_grammar.proofs.Pieces.{same_ok}
use Rattle.lusyn_grammar.proofs.CompletePrograms.{all_of-again}
use Rattle.lusyn_grammar.proofs.laws.one_tree_law.Goals as goal

pub returns : goal.returns
returns c = λ ts one other first second. same_ok one other (sym (all_of-again ts one first) ∙ all_of-again ts other second)
