use Rattle.std.proofs.Common.{◌≡◌, length}
use Rattle.luflow.specs.Solution.{solution}
use Rattle.lueval_lines.proofs.Noting.{AreNoted}
use Rattle.lueval_lines.proofs.columns.note.Given as goal

abbrev pub invariant-loop-k : goal.invariant-loop-k
invariant-loop-k l = record {
  len : length l.columns.items ≡ length l.initial.columns.items;
  noted : AreNoted l.inputs (solution l.flat l.inputs) l.kept l.columns.items l.t l.k;
}
