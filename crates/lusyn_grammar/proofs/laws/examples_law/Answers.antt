use Rattle.std.proofs.Common.{refl}
use Rattle.lusyn_grammar.proofs.Examples.{expressions, one_program, one_switch, refusals}
use Rattle.lusyn_grammar.proofs.laws.examples_law.Goals as goal

pub returns : goal.returns
returns c = (expressions, one_program, one_switch, refl, refusals)
