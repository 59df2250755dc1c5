use Rattle.lusyn_grammar.proofs.Printed.{spelled-printable, spelled-bare}
use Rattle.lusyn_grammar.proofs.laws.printable_law.Goals as goal

pub returns : goal.returns
returns c = λ ts found s. (spelled-printable ts found s, spelled-bare ts found s)
