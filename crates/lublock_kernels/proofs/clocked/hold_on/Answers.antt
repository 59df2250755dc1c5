use Rattle.std.proofs.Common.{rules}
use Rattle.lublock_kernels.proofs.Written.{is_current}
use Rattle.lublock_kernels.proofs.clocked.hold_on.Goals as goal

pub returns-in-Some-read-2-clause-words : goal.returns-in-Some-read-2-clause-words
returns-in-Some-read-2-clause-words c = λ e inputs t i flow clock.
    is_current c.args.flat.now inputs t c.args.rows.now c.args.spans.now i flow c.args.to c.hold.new.row c.args.c c.args.datum c.in-Some.kind c.upto_at-limit.result c.args.a c.in-Some-read.z.now c.in-Some-read-2.x.now clock (search rules) (search rules) (search rules) (search rules) (search rules)
