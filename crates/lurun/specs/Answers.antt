-- What a run of stations answers.
use Rattle.std.specs.Prelude.{◌⊎◌, ℕ, List, Result, MatchResult}
use Rattle.luflow.specs.Tables.{OutputColumn}
use Rattle.luworld.specs.Jobs.{JobView, NoFault}
use Rattle.lusite.specs.Machine.{IsFaultAt}
use Rattle.lurun.specs.declared.error.RunError.{RunError}
use Rattle.lurun.specs.declared.error.RunError.TheVariants.{Fault, OutOfMemory, LinkLost, NoThread}
use Rattle.lurun.specs.declared.error.RunError.TheVariants.{WrongReports}
use Rattle.lurun.specs.Reports.{AreComplete, AreIncomplete, AreOutputsOf, HasOutput}
use Rattle.lurun.specs.declared.engine.Engine.TheVariants.{Items}
use Rattle.lurun.specs.Stations.{StationView, AllGoBy, sites_at}

-- Why a run has no outputs: a fault at which one of its sites stopped, or a site that was left before its
-- end, and there is a station of each site, if all go item by item; or memory, or a thread, was refused. Or a
-- station is missing, or stands twice, or is of no site; or no flow breaks, and the main node has no output.
abbrev pub IsStop : JobView → List StationView → RunError → Type 0
IsStop job stations (Fault variable instant kind) = AreComplete job (sites_at stations)
    × ((site : ℕ) × IsFaultAt job site (record { variable = variable; instant = instant; kind = kind }))
IsStop job stations LinkLost = AllGoBy Items stations → AreComplete job (sites_at stations)
IsStop job stations OutOfMemory = Unit {0}
IsStop job stations NoThread = Unit {0}
IsStop job stations WrongReports = AreIncomplete job (sites_at stations) ⊎ (NoFault job × (HasOutput job → ⊥))

-- the whole outputs, where there is a station of each site; or why there are none
abbrev pub IsRunAnswer : JobView → List StationView → Result (List OutputColumn) RunError → Type 0
IsRunAnswer job stations result = MatchResult result (λ outputs. AreComplete job (sites_at stations)
    × AreOutputsOf job outputs) (IsStop job stations)
