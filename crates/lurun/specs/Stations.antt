-- What contracts see of a station: a site, how it goes on, and the ends of links that it was handed.
use Rattle.std.specs.Prelude.{◌≡◌, ℕ, List, Option, Some, None, IsSome, length, map, All, slice_get}
use Rattle.std.specs.List.Sorted.{IsPermutation}
use Rattle.atomic_table.specs.Seated.{TableId}
use Rattle.luworld.specs.Needs.{sites_of}
use Rattle.luworld.specs.Jobs.{JobView}
use Rattle.lulink.specs.Views.{SenderView, ReceiverView}
use Rattle.lusite.specs.Sites.{SiteView}
use Rattle.lurun.specs.declared.engine.Engine.{Engine}
use Rattle.lurun.specs.declared.engine.Engine.TheVariants.{Items}
use Rattle.lurun.specs.Ends.{AreUnusedEnds, AreEndsOf}

pub record StationView : Type 0 where
  pub job : JobView
  pub site : ℕ
  pub engine : Engine
  pub txs : List SenderView
  pub rxs : List ReceiverView

-- the sites of stations, at the start of their scripts
abbrev pub site_at : StationView → SiteView
site_at s = record { job = s.job; site = s.site; done = 0 }

abbrev pub sites_at : List StationView → List SiteView
sites_at stations = map site_at stations

-- the job and the number of a site
abbrev pub place_of : SiteView → JobView × ℕ
place_of v = (v.job, v.site)

abbrev pub places : List StationView → List (JobView × ℕ)
places stations = map (λ (s : StationView). place_of (site_at s)) stations

-- the stations are of this job
abbrev pub AreOf : JobView → List StationView → Type 0
AreOf job stations = All (λ (s : StationView). s.job ≡ job) stations

-- all of them go on like this
abbrev pub AllGoBy : Engine → List StationView → Type 0
AllGoBy engine stations = All (λ (s : StationView). s.engine ≡ engine) stations

-- site s of a job, with the unused ends of all its links, and no others
pub record IsStationOf (job : JobView) (engine : Engine) (s : ℕ) (x : StationView) : Type 0 where
  pub job_is : x.job ≡ job
  pub site_is : x.site ≡ s
  pub engine_is : x.engine ≡ engine
  pub ends : AreUnusedEnds job s x.txs x.rxs

-- each link has one ring, and its ends at both sites are of that
pub record AreLinked (capacity : ℕ) (stations : List StationView) : Type 0 where
  pub rings : List TableId
  pub each : (s : ℕ) (x : StationView) → slice_get stations s ≡ Some x
      → AreEndsOf rings capacity x.txs x.rxs

-- the stations of a job: each site once, in order, all with the same engine
pub record AreStations (job : JobView) (engine : Engine) (stations : List StationView) : Type 0 where
  pub len : length stations ≡ sites_of job.plan
  pub each : (s : ℕ) (x : StationView) → slice_get stations s ≡ Some x → IsStationOf job engine s x
  pub linked : AreLinked job.plan.capacity stations

-- what a station leaves: where it went item by item, or has done its whole part, what its site reports
pub record ReportView : Type 0 where
  pub of : StationView
  pub left : Option SiteView

pub record IsReport (report : ReportView) : Type 0 where
  pub of_site : (v : SiteView) → report.left ≡ Some v → (v.job ≡ report.of.job) × (v.site ≡ report.of.site)
  pub by_items : report.of.engine ≡ Items → IsSome report.left

-- a report of each station, in any order
abbrev pub AreReportsOf : List StationView → List ReportView → Type 0
AreReportsOf stations reports = IsPermutation stations (map (λ (r : ReportView). r.of) reports)

-- the reports of sites that the stations left, all of them
abbrev pub AreLeft : List ReportView → List SiteView → Type 0
AreLeft reports left = map place_of left ≡ places (map (λ (r : ReportView). r.of) reports)
