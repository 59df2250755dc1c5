use Rattle.std.proofs.Common.{refl}
use Rattle.luflow.specs.Solution.{solution}
use Rattle.luworld.specs.Jobs.{link_list}
use Rattle.luworld.proofs.WorkedPlans.{counters_is_run, sum_is_run, shared_is_run, spread_is_run, division_is_run, quotient_is_run, returned_is_run, held_is_run}
use Rattle.luworld.proofs.laws.run_vectors_law.Goals as goal

pub returns : goal.returns
unfolding solution link_list
returns c = record {
  counters = record { is_run = counters_is_run; outputs = refl; items = refl; first_script = refl; second_script = refl; first_list = refl; second_list = refl; alone = refl; waits_for = refl; waits = refl; end = refl; moves = refl; over = refl };
  samples = record { is_run = sum_is_run; outputs = refl; items = refl; first_script = refl; second_script = refl; first_same = refl; second_same = refl; first_list = refl; second_list = refl; left_new = refl; half_way = refl; left_half_way = refl; end = refl; alone = refl; waits_for = refl; waits = refl };
  shared = record { is_run = shared_is_run; items = refl; first_same = refl; second_same = refl; list = refl };
  spread = record { is_run = spread_is_run; items = refl; first_script = refl; second_script = refl; third_script = refl; first_list = refl; second_list = refl; third_list = refl; fourth_list = refl; alone = refl; waits_for = refl; waits = refl; end = refl };
  divisions = record { is_run = division_is_run; outputs = refl; items = refl; first_script = refl; second_script = refl; first_same = refl; second_same = refl; list = refl; left_new = refl; faulting = refl; end = refl; end_waits_for = refl; end_waits = refl; end_left = refl; first_faulted = refl; second_not = refl; alone = refl; waits_for = refl; waits = refl };
  quotients = record { is_run = quotient_is_run; items = refl; first_script = refl; second_script = refl; list = refl; end = refl; end_waits = refl; first_faulted = refl; second_not = refl };
  returned = record { is_run = returned_is_run; items = refl; first_script = refl; second_script = refl; quotient_list = refl; delayed_list = refl; end = refl };
  held = record { is_run = held_is_run; outputs = refl; items = refl; first_script = refl; second_script = refl; first_list = refl; second_list = refl; end = refl };
}
