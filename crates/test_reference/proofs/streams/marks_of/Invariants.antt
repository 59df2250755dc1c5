use Rattle.std.proofs.Common.{◌≡◌, map}
use Rattle.std.specs.List.{range_with_len}
use Rattle.luflow.specs.Messages.{marks}
use Rattle.luflow.specs.Solution.{solution}
use Rattle.test_reference.proofs.streams.marks_of.Given as goal

abbrev pub invariant-loop-flow : goal.invariant-loop-flow
invariant-loop-flow l = l.rows.items ≡ map (λ i. marks (solution l.flat l.inputs i) l.count) (range_with_len 0 l.flow)
