use Rattle.std.proofs.Common.{◌≡◌, length}
use Rattle.lublock_kernels.specs.Rows.{Keeps}
use Rattle.lublock_site.specs.Steps.{AreWordsOf}
use Rattle.lublock_site.proofs.steps.write_words.Given as goal

abbrev pub invariant-loop-k : goal.invariant-loop-k
invariant-loop-k l = record {
  len : length l.row ≡ length l.fn.row;
  kept : Keeps l.from l.fn.row l.row;
  words : AreWordsOf l.kind l.msgs l.from l.row l.k;
}
