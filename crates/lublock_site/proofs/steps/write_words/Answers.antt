use Rattle.std.proofs.Common.{rules, ◌≡◌, ◌+◌, suc, refl, ◌∙◌}
use Rattle.lublock_kernels.specs.Rows.{word_in}
use Rattle.lublock_site.proofs.Writing.{written_none, written_more, kept_more}
use Rattle.lublock_site.proofs.steps.write_words.Goals as goal

pub loop-k-init : goal.loop-k-init
loop-k-init c = record {
  len = refl;
  kept = λ n l. refl;
  words = written_none c.args.kind c.args.msgs.now c.args.from c.args.row.now;
}

pub loop-k-preserved : goal.loop-k-preserved
loop-k-preserved c =
    let inv = c.loop-k.invariant in
    let is : word_in c.put.new.row (suc (c.args.from + c.loop-k.k)) ≡ c.in-Some.word = search rules in
    record {
      len = c.put.ensures.len ∙ inv.len;
      kept = kept_more c.args.from c.loop-k.k c.args.row.now c.loop-k.row c.put.new.row c.put.ensures.put.others inv.kept;
      words = written_more c.args.kind c.args.msgs.now c.args.from c.loop-k.k c.loop-k.row c.put.new.row c.in-Some.word is c.put.ensures.put.others c.in-Some.ensures inv.words;
    }
