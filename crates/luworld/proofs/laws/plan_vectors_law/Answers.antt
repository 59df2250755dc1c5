use Rattle.std.proofs.Common.{[], ◌∷◌, refl, arith}
use Rattle.luflow.specs.Solution.{solution}
use Rattle.luworld.specs.Jobs.{link_list}
use Rattle.luworld.proofs.WorkedPlans.{sites_are}
use Rattle.luworld.proofs.WorkedChains.{handed_is_run, chained_is_run}
use Rattle.luworld.proofs.laws.plan_vectors_law.Goals as goal

pub returns : goal.returns
unfolding solution link_list
returns c = record {
  handed_is = record { is_run = handed_is_run; links = refl; outputs = refl; homes = refl; first_script = refl; second_script = refl; third_script = refl; first_list = refl; second_list = refl; third_list = refl; fourth_list = refl; items = refl; statuses = refl; left_new = refl; left_before = refl; left_after = refl; left_at_end = refl; end = refl; alone = refl; no_site = refl; waiting = refl };
  plans = record {
    at_one = sites_are 2 (1 ∷ []) refl;
    at_both = sites_are 2 (0 ∷ 1 ∷ []) refl;
    at_none = λ h. omega (arith, h.some);
    at_no_site = λ h. omega (arith, h.inside 1 (omega arith));
    turned = λ h. omega (arith, h.in_order 0 1 (omega arith) (omega arith));
    twice = λ h. omega (arith, h.in_order 0 1 (omega arith) (omega arith));
    no_room = λ h. omega (arith, h.room);
    too_much_room = λ h. omega (arith, h.small);
  };
  chained_is = record { is_run = chained_is_run; first_script = refl; second_script = refl; third_script = refl; clock_list = refl; sample_list = refl; items = refl; statuses = refl };
}
