use Rattle.std.proofs.Common.{◌≤◌, length}
use Rattle.std.specs.Prelude.{vec_capacity}
use Rattle.lueval_lines.proofs.Keeping.{KeptTo}
use Rattle.lueval_lines.proofs.columns.kept_of.Given as goal

abbrev pub invariant-loop-v : goal.invariant-loop-v
invariant-loop-v l = record {
  room : length l.variables ≤ vec_capacity l.kept;
  kept : KeptTo l.wanted l.variables l.kept.items l.v;
}
