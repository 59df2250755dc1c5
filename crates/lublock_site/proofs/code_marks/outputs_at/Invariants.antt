use Rattle.std.proofs.Common.{◌≡◌, filter, map}
use Rattle.std.specs.List.{range_with_len}
use Rattle.luflow.specs.Variables.{is_output_of}
use Rattle.lublock_site.specs.Codes.{output_at}
use Rattle.lublock_site.proofs.code_marks.outputs_at.Given as goal

abbrev pub invariant-loop-v : goal.invariant-loop-v
invariant-loop-v l = l.outputs.items ≡ map (output_at l.plan l.site) (filter (is_output_of l.plan.flat) (range_with_len 0 l.v))
