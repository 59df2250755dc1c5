use Rattle.lusyn_printer.proofs.ReadBack.{read_back}
use Rattle.lusyn_printer.proofs.laws.read_back_law.Goals as goal

pub returns : goal.returns
returns c = read_back
