use Rattle.lusyn_printer.proofs.ReadBack.{ascii}
use Rattle.lusyn_printer.proofs.laws.ascii_law.Goals as goal

pub returns : goal.returns
returns c = ascii
