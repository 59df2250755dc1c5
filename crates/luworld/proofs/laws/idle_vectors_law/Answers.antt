use Rattle.std.proofs.Common.{refl}
use Rattle.luflow.specs.Solution.{solution}
use Rattle.luworld.specs.Jobs.{link_list}
use Rattle.luworld.proofs.WorkedChains.{idle_is_run, lonely_is_run}
use Rattle.luworld.proofs.laws.idle_vectors_law.Goals as goal

pub returns : goal.returns
unfolding solution link_list
returns c = record {
  idle_is = record { is_run = idle_is_run; outputs = refl; first_script = refl; second_script = refl; first_list = refl; second_list = refl; items = refl; statuses = refl; left_new = refl; left_half_way = refl; left_at_end = refl; end = refl; moves = refl; handed_first = refl; handed_second = refl; handed_third = refl; handed_left = refl };
  lonely_is = record { is_run = lonely_is_run; links = refl; second_script = refl; items = refl; left_new = refl; over = refl; moved = refl; not_faulted = refl; enabled = refl; end = refl; enabled_at_end = refl };
  left_is = record { quotient_new = refl; quotient_before = refl; quotient_faulted = refl; sampled_before = refl; sampled_after = refl; sampled_taken = refl; sampled_reached = refl; sampled_closes = refl; sampled_end = refl };
  counts = record { statuses = refl; shared_statuses = refl; stand_counts = refl; lists = refl; faulty_list = refl; first_script = refl; second_script = refl; no_statuses = refl; closes = refl; items = refl };
}
