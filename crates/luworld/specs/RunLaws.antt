-- The laws of runs, of which plans and tables are known.
use Rattle.std.specs.Prelude.{◌≡◌, ℕ, ◌<◌, length}
use Rattle.luworld.specs.Outline.{list_length}
use Rattle.luworld.specs.Jobs.{JobView, IsJobView, IsJob, outline, streams_of, link_list}

-- a run is what the machines of its sites rest on
abbrev pub JobOfRunLaw : Type 0
JobOfRunLaw = (job : JobView) → IsJobView job → IsJob job

-- a link's list is as long as the scripts make it
abbrev pub ListLengthLaw : Type 0
ListLengthLaw = (job : JobView) → IsJob job → (link : ℕ) → link < length job.plan.links
    → list_length (outline job (streams_of job)) link ≡ length (link_list job (streams_of job) link)
