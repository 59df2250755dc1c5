use Rattle.std.proofs.Common.{string_bytes}
use Rattle.lusyn.proofs.Again.{again_if}
use Rattle.lusyn.proofs.print.print_program.Goals as goal

pub returns-clause-again : goal.returns-clause-again
returns-clause-again c = again_if string_bytes c.print_program.result _ c.print_program.ensures.canonical
