use Rattle.std.proofs.Common.{◌≡◌, ◌≤◌, length, take}
use Rattle.std.specs.Prelude.{vec_capacity}
use Rattle.luplace.specs.Placing.{placed_by}
use Rattle.luplace.proofs.placing.rows_of.Given as goal

abbrev pub invariant-loop-variable : goal.invariant-loop-variable
invariant-loop-variable l = record {
  made : l.rows.items ≡ placed_by (take l.variable-index l.variables) l.place;
  room : length l.variables ≤ vec_capacity l.rows;
  len : length l.rows.items ≡ l.variable-index;
}
