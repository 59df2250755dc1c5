use Rattle.std.proofs.Common.{arith, ◌∙◌}
use Rattle.lublock_kernels.proofs.clocked.solve_when.Goals as goal

pub returns-in-On-clause-words : goal.returns-in-On-clause-words
returns-in-On-clause-words c = λ e inputs t i flow clock b with n l l'. c.gather_on.ensures.words e inputs t i flow (clock ∙ c.in-On.is) b with n (omega arith) l'
