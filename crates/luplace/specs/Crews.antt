-- How many workers are likely to be quickest for sites that go by lists.
use Rattle.std.specs.Prelude.{ℕ, Bool, nat_le, cond, count_by}
use Rattle.std.specs.List.{range_with_len, list_all}
use Rattle.luflow.specs.Program.{flows_of}
use Rattle.luworld.specs.Needs.{PlanView, sites_of, stands}

-- the most flows of a site that take less time for an instant than a thread takes to wait for another one
abbrev pub few_flows : ℕ
few_flows = 40

-- how many flows stand at a site
abbrev pub flows_at : PlanView → ℕ → ℕ
flows_at plan s = count_by (λ i. stands plan i s) (range_with_len 0 (flows_of plan.flat))

abbrev pub is_small : PlanView → ℕ → Bool
is_small plan s = nat_le (flows_at plan s) few_flows

abbrev pub are_small : PlanView → Bool
are_small plan = list_all (is_small plan) (range_with_len 0 (sites_of plan))

-- one for all sites where each is small, else one for each
abbrev pub quickest_crew : PlanView → ℕ
quickest_crew plan = cond (are_small plan) 1 (sites_of plan)
