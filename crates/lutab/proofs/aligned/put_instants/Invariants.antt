use Rattle.std.proofs.Common.{◌≡◌, ◌++◌, flat_map, string_bytes}
use Rattle.std.specs.List.{range_with_len}
use Rattle.luflow.specs.Tables.{outputs_view}
use Rattle.lutab.specs.Aligned.{instant_line}
use Rattle.lutab.proofs.aligned.put_instants.Given as goal

abbrev pub invariant-loop-t : goal.invariant-loop-t
invariant-loop-t l = string_bytes l.out ≡ string_bytes l.initial.out ++ flat_map (instant_line l.types l.kinds (outputs_view l.columns) l.widths) (range_with_len 0 l.t)
