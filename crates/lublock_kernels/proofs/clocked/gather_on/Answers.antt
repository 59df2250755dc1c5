use Rattle.std.proofs.Common.{rules}
use Rattle.lublock_kernels.proofs.Written.{is_when}
use Rattle.lublock_kernels.proofs.clocked.gather_on.Goals as goal

pub returns-in-Some-read-2-clause-words : goal.returns-in-Some-read-2-clause-words
returns-in-Some-read-2-clause-words c = λ e inputs t i flow clock.
    is_when c.args.flat.now inputs t c.args.rows.now c.args.spans.now i flow c.args.to c.gather.new.row c.args.c c.args.datum c.in-Some.kind c.in-Some-ticks_at.ticks c.args.a c.in-Some-read.z.now c.in-Some-read-2.x.now clock (search rules) (search rules) (search rules) (search rules) (search rules) (search rules)
