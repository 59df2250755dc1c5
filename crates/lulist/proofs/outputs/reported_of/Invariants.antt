use Rattle.std.proofs.Common.{◌≡◌, map, filter}
use Rattle.std.specs.List.{range_with_len}
use Rattle.luflow.specs.Variables.{is_output_of}
use Rattle.lulist.specs.Rows.{reported_number}
use Rattle.lulist.proofs.outputs.reported_of.Given as goal

abbrev pub invariant-loop-v : goal.invariant-loop-v
invariant-loop-v l = record { so_far : l.reported.items ≡ map (reported_number l.plan l.site l.numbers) (filter (is_output_of l.plan.flat) (range_with_len 0 l.v)) }
