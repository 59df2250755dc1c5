use Rattle.std.proofs.Common.{◌≡◌, ◌≤◌, length}
use Rattle.std.specs.Prelude.{vec_capacity}
use Rattle.lublock_site.specs.Reporting.{AreLess, AreRowsIn}
use Rattle.lublock_site.proofs.reported.output_rows.Given as goal

abbrev pub invariant-loop-k : goal.invariant-loop-k
invariant-loop-k l = record {
  less : AreLess l.fn.columns.items l.columns.items;
  rows : AreRowsIn l.fn.columns.items l.instants l.outputs l.rows.items;
  len : length l.rows.items ≡ l.k;
  room : length l.outputs ≤ vec_capacity l.rows;
}
