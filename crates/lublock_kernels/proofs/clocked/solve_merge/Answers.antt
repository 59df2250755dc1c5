use Rattle.std.proofs.Common.{rules}
use Rattle.std.proofs.Common.{arith}
use Rattle.lublock_kernels.proofs.Written.{is_merge}
use Rattle.lublock_kernels.proofs.clocked.solve_merge.Goals as goal

pub returns-in-Some-read-clause-words : goal.returns-in-Some-read-clause-words
returns-in-Some-read-clause-words c = λ e inputs t i flow b with n l l'.
    is_merge c.args.flat.now inputs t c.args.rows.now c.args.spans.now i flow c.args.to c.solve_branches.new.row c.args.c c.in-Some.kind c.args.branches.now c.in-Some-read.z.now (search rules) (search rules) (c.solve_branches.ensures.words e) b with n (omega arith) l'
