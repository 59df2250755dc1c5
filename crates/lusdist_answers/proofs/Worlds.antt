-- A world has all the sites of its job.
use Rattle.std.proofs.Common.{◌≡◌, ℕ, ◌<◌, List, [], ◌∷◌, ◌++◌, length, sym, ap, ◌∙◌, refl, Some, slice_get, arith}
use Rattle.std.proofs.Math.ListN.{length-set}
use Rattle.std.proofs.lemmas.List.{length-replicate}
use Rattle.luworld.specs.Needs.{PlanView, sites_of}
use Rattle.luworld.specs.Jobs.{JobView, system_of}
use Rattle.lusite.specs.Sites.{SiteView}
use Rattle.luweave.specs.Worlds.{IsNewWorld}
use Rattle.luworld.specs.Systems.{System, ItemCounts, turn, world_after, step, run, reached, new_world}
use Rattle.luworld.specs.declared.turn.Turn.{Turn}
use Rattle.luworld.specs.declared.turn.Turn.TheVariants.{Moved, Blocked, Over}

after_len : (t : Turn) (world : ItemCounts) (site : ℕ) → length (world_after t world site) ≡ length world
after_len Moved world site = simp length-set
after_len Blocked world site = refl
after_len Over world site = refl

-- turns behind others
pub run_on : (sys : System) (world : ItemCounts) (turns more : List ℕ) → run sys world (turns ++ more) ≡ run sys (run sys world turns) more
run_on sys world [] more = refl
run_on sys world (site ∷ turns) more = run_on sys (step sys world site) turns more

run_len : (sys : System) (world : ItemCounts) (schedule : List ℕ) → length (run sys world schedule) ≡ length world
run_len sys world [] = refl
run_len sys world (site ∷ schedule) = run_len sys (step sys world site) schedule ∙ after_len (turn sys world site) world site

pub reached_len : (sys : System) (schedule : List ℕ) → length (reached sys schedule) ≡ sys.sites
reached_len sys schedule = run_len sys (new_world sys) schedule ∙ length-replicate sys.sites 0

first_there : (sites : List SiteView) → 0 < length sites → (v : SiteView) × (slice_get sites 0 ≡ Some v)
first_there [] some = absurd (omega arith)
first_there (v ∷ sites) some = (v, refl)

pub world_plan : (plan : PlanView) (sites : List SiteView) (job : JobView) → IsNewWorld plan sites → ((v : SiteView) → slice_get sites 0 ≡ Some v → job ≡ v.job) → job.plan ≡ plan
world_plan plan sites job new first =
    let (v, there) = first_there sites new.some in
    ap (λ (r : JobView). r.plan) (first v there ∙ (new.each 0 v there).job_is) ∙ sym new.plan_is

-- the world's job is that of its sites
pub world_job : (plan : PlanView) (sites : List SiteView) (job given : JobView) → IsNewWorld plan sites → ((v : SiteView) → slice_get sites 0 ≡ Some v → job ≡ v.job) → ((s : ℕ) (v : SiteView) → slice_get sites s ≡ Some v → v.job ≡ given) → job ≡ given
world_job plan sites job given new first each =
    let (v, there) = first_there sites new.some in
    first v there ∙ each 0 v there

pub world_sites : (plan : PlanView) (job : JobView) (dones turns : List ℕ) → job.plan ≡ plan → dones ≡ reached (system_of job) turns → length dones ≡ sites_of plan
world_sites plan job dones turns is reach = ap length reach ∙ reached_len (system_of job) turns ∙ ap sites_of is
