use Rattle.lusyn_grammar.proofs.Printed.{printed-spells}
use Rattle.lusyn_grammar.proofs.laws.printing_law.Goals as goal

pub returns : goal.returns
returns c = printed-spells
