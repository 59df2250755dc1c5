use Rattle.std.proofs.Common.{◌≡◌, ◌∙◌, suc, ap, arith, subst, ℕ, ◌+◌}
use Rattle.lublock_kernels.specs.Words.{once}
use Rattle.lublock_kernels.specs.Rows.{IsPut, word_in}
use Rattle.lublock_kernels.proofs.Filling.{kept_put}
use Rattle.lublock_kernels.proofs.Counting.{hits_more, once_few, gathered_more}
use Rattle.lublock_kernels.proofs.clocks.gather.Goals as goal

pub loop-m-preserved : goal.loop-m-preserved
loop-m-preserved c =
    let inv = c.loop-m.invariant in
    let e : c.loop-m.m + 1 ≡ suc c.loop-m.m = omega arith in
    let put = subst (λ (n : ℕ). IsPut c.loop-m.row c.loop-m.hits (word_in c.args.a.now n) c.carry.new.row) e c.carry.ensures.put in
    let one = c.once-hits.ensures ∙ ap once c.has_hit.ensures in
    let few = once_few c.has_hit.result in
    record {
      count = hits_more c.args.c.now c.args.kind c.args.datum c.loop-m.m c.loop-m.hits c.once-hits.result inv.count one;
      few = omega (arith, few, inv.few, c.once-hits.ensures);
      len = c.carry.ensures.len ∙ inv.len;
      kept = kept_put 0 c.loop-m.hits c.args.row.now c.loop-m.row c.carry.new.row (word_in c.args.a.now (suc c.loop-m.m)) (omega arith) inv.kept put;
      words = gathered_more c.args.kind c.args.datum c.loop-m.m c.loop-m.hits c.args.c.now c.args.a.now c.loop-m.row c.carry.new.row inv.count inv.words put;
    }
