use Rattle.lusyn_grammar.proofs.ScanningLemmas.{number_refused}
use Rattle.lusyn_grammar.proofs.lexer.number.Goals as goal

pub returns-in-Err : goal.returns-in-Err
returns-in-Err c = number_refused c.args.digits.now c.parse.result _ c.in-Err.is c.parse.ensures.value.0 c.requires.all c.requires.some
