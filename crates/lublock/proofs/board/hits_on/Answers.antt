use Rattle.std.proofs.Common.{rules}
use Rattle.lublock_kernels.proofs.Steps.{is_count_on}
use Rattle.lublock.proofs.board.hits_on.Goals as goal

pub returns-in-Some-read : goal.returns-in-Some-read
returns-in-Some-read c = λ len. is_count_on c.args.flat.now c.args.rows.now c.args.spans.now c.args.c c.in-Some-ticks_at.ticks c.count.result c.args.datum c.in-Some.kind c.in-Some-read.z.now (search rules) (search rules) (search rules) (search rules) c.count.ensures.count len
