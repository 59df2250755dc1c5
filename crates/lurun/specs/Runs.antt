-- How a job is run: which engine its sites have, and how many workers serve them.
use Rattle.std.specs.Prelude.{◌≡◌, ◌<◌, ◌⊎◌, ℕ, Bool, true, false, Option, Some, None}
use Rattle.luworld.specs.Needs.{PlanView, sites_of}
use Rattle.luworld.specs.Jobs.{JobView, NoFault}
use Rattle.lusite.specs.Machine.{IsFaultAt}
use Rattle.luplace.specs.declared.way.Way.{Way}
use Rattle.luplace.specs.declared.way.Way.TheVariants as ways
use Rattle.luplace.specs.Ways.{IsWayOf}
use Rattle.luplace.specs.Crews.{quickest_crew}
use Rattle.lurun.specs.declared.engine.Engine.{Engine}
use Rattle.lurun.specs.declared.engine.Engine.TheVariants.{Rows, Lists, Items}
use Rattle.lurun.specs.declared.options.Workers.{Workers}
use Rattle.lurun.specs.declared.options.Workers.TheVariants.{EachSite, Auto, Crew}
use Rattle.lurun.specs.declared.error.RunError.{RunError}
use Rattle.lurun.specs.declared.error.RunError.TheVariants.{Fault, OutOfMemory, LinkLost, NoThread}
use Rattle.lurun.specs.declared.error.RunError.TheVariants.{WrongReports}
use Rattle.lurun.specs.Reports.{HasOutput}

-- the engine of a plan's way
abbrev pub engine_of_way : Way → Engine
engine_of_way ways.Rows = Rows
engine_of_way (ways.Parted vs) = Lists
engine_of_way (ways.Nil vs) = Lists

abbrev pub IsEngineOf : PlanView → Engine → Type 0
IsEngineOf plan engine = (way : Way) × IsWayOf plan way × (engine ≡ engine_of_way way)

-- the engine that is asked for, or that of the plan
abbrev pub IsEngineFor : PlanView → Option Engine → Engine → Type 0
IsEngineFor plan None engine = IsEngineOf plan engine
IsEngineFor plan (Some asked) engine = engine ≡ asked

-- how many workers are asked for: one for each site, as many as are quickest, or so many
abbrev pub crew_of : PlanView → Engine → Workers → ℕ
crew_of plan engine EachSite = sites_of plan
crew_of plan Rows Auto = sites_of plan
crew_of plan Lists Auto = quickest_crew plan
crew_of plan Items Auto = sites_of plan
crew_of plan engine (Crew count) = count

-- some worker is asked for
abbrev pub AreSome : Workers → Type 0
AreSome EachSite = Unit {0}
AreSome Auto = Unit {0}
AreSome (Crew count) = 0 < count

-- Why a run of a job has no outputs: a fault at which one of its sites stopped; or no flow breaks, and the
-- main node has no output; or a link was lost, or memory or a thread refused, which says nothing of the job.
abbrev pub IsStopOfJob : JobView → RunError → Type 0
IsStopOfJob job (Fault variable instant kind) =
    (site : ℕ) × IsFaultAt job site (record { variable = variable; instant = instant; kind = kind })
IsStopOfJob job WrongReports = NoFault job × (HasOutput job → ⊥)
IsStopOfJob job OutOfMemory = Unit {0}
IsStopOfJob job LinkLost = Unit {0}
IsStopOfJob job NoThread = Unit {0}

-- memory or a thread was refused
abbrev pub IsRefused : RunError → Type 0
IsRefused error = (error ≡ OutOfMemory) ⊎ (error ≡ NoThread)
