use Rattle.std.proofs.Common.{refl}
use Rattle.luflow.specs.Solution.{solution}
use Rattle.luflow.proofs.Vectors.{counters_worked, counters_end, sum_worked, division_worked, division_fault, quotient_worked, held_worked, chained_worked, ways_worked}
use Rattle.luflow.proofs.laws.solution_vectors_law.Goals as goal

pub returns : goal.returns
unfolding solution
returns c = record {
  counters = record { worked = counters_worked; a = refl; b = refl; ends = counters_end };
  sums = record { worked = sum_worked; y = refl; z = refl; s = refl };
  divisions = record { worked = division_worked; y = refl; p = refl; z = refl; y_messages = refl; fault = division_fault };
  quotients = record { worked = quotient_worked; y = refl; z = refl };
  samples = record { worked = held_worked; c = refl; s = refl; y = refl; z = refl };
  chains = record { worked = chained_worked; c = refl; z = refl; s = refl; inner = refl };
  ways = record { worked = ways_worked; m = refl; y = refl; b = refl; z = refl; halted = refl };
}
