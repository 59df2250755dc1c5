use Rattle.std.proofs.Common.{rules}
use Rattle.std.proofs.Common.{arith}
use Rattle.lublock_kernels.proofs.clocked.solve_current.Goals as goal

pub returns-in-Some-On-clause-words : goal.returns-in-Some-On-clause-words
returns-in-Some-On-clause-words c = λ e inputs t i flow b with n l l'. c.hold_on.ensures.words e inputs t i flow (search rules) b with n (omega arith) l'
