use Rattle.lusyn_grammar.specs.Reading.{tuple_names}
use Rattle.std.proofs.Common.{arith}
use Rattle.std.proofs.lemmas.Grind.{common_steps}
use Rattle.lusyn_parser.proofs.reader.Reader.tuple_names.Goals as goal

pub returns-clause-names : goal.returns-clause-names
unfolding tuple_names
returns-clause-names c = grind (arith, common_steps)
