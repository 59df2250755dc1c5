use Rattle.std.proofs.Common.{◌+◌, ◌∙◌, ap, arith}
use Rattle.lublock_kernels.specs.Words.{once}
use Rattle.lublock_kernels.specs.Rows.{word_in}
use Rattle.lublock_kernels.proofs.Filling.{kept_put}
use Rattle.lublock_kernels.proofs.Counting.{hits_more, once_few, held_more}
use Rattle.lublock_kernels.proofs.clocks.hold.Goals as goal

pub loop-m-preserved : goal.loop-m-preserved
loop-m-preserved c =
    let inv = c.loop-m.invariant in
    let hits = c.loop-m.hits + c.once-hits.result in
    let one = c.once-hits.ensures ∙ ap once c.has_hit.ensures in
    let count = hits_more c.args.c.now c.args.kind c.args.datum c.loop-m.m c.loop-m.hits c.once-hits.result inv.count one in
    let few = once_few c.has_hit.result in
    record {
      count = count;
      few = omega (arith, few, inv.few, c.once-hits.ensures);
      len = c.carry.ensures.len ∙ inv.len;
      kept = kept_put 0 c.loop-m.m c.args.row.now c.loop-m.row c.carry.new.row (word_in c.args.a.now hits) (omega arith) inv.kept c.carry.ensures.put;
      words = held_more c.args.kind c.args.datum c.loop-m.m hits c.args.limit c.args.c.now c.args.a.now c.loop-m.row c.carry.new.row count c.if-limit-hits.false inv.words c.carry.ensures.put;
    }
