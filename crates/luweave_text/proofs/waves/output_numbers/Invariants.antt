use Rattle.std.proofs.Common.{◌≡◌, filter}
use Rattle.std.specs.List.{range_with_len}
use Rattle.luflow.specs.Variables.{is_output_of}
use Rattle.luweave_text.proofs.waves.output_numbers.Given as goal

abbrev pub invariant-loop-v : goal.invariant-loop-v
invariant-loop-v l = l.numbers.items ≡ filter (is_output_of l.flat) (range_with_len 0 l.v)
