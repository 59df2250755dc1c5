use Rattle.std.proofs.Common.{rules, ◌∙◌}
use Rattle.lublock_kernels.proofs.solve.solve_operator.Goals as goal

pub returns-in-Some-clause-words : goal.returns-in-Some-clause-words
returns-in-Some-clause-words c = λ e inputs t i flow kind. c.solve_binary.ensures.words e c.args.flat.now inputs t i flow (search rules) (kind ∙ search rules)
