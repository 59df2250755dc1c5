use Rattle.std.proofs.Common.{◌≡◌, ◌≤◌, length, map, take}
use Rattle.std.specs.Prelude.{vec_capacity}
use Rattle.luplace.specs.Placing.{variable_names}
use Rattle.luplace.proofs.sought.variable_places.Given as goal

abbrev pub invariant-loop-variable : goal.invariant-loop-variable
invariant-loop-variable l = record {
  made : map (λ n. n.now) l.names.items ≡ variable_names (take l.variable-index l.variables);
  room : length l.variables ≤ vec_capacity l.names;
  len : length l.names.items ≡ l.variable-index;
}
