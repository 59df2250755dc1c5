-- What the reports of a run's sites say together.
use Rattle.std.specs.Prelude.{◌≡◌, ◌≢◌, ◌⊎◌, ℕ, ◌<◌, ◌≤◌, Bool, true, false, ◌&&◌, nat_eq, nat_lt, List, []}
use Rattle.std.specs.Prelude.{◌∷◌, length, map, filter, All, Option, Some, None, slice_get, Result}
use Rattle.std.specs.Prelude.{MatchResult}
use Rattle.std.specs.List.{range_with_len, list_all}
use Rattle.luflow.specs.declared.data.Status.{Status}
use Rattle.luflow.specs.declared.variable.Variable.{Variable}
use Rattle.luflow.specs.Streams.{Known}
use Rattle.luflow.specs.Messages.{marks}
use Rattle.luflow.specs.Tables.{OutputColumn}
use Rattle.luflow.specs.Variables.{outputs_of}
use Rattle.lusource.specs.Source.{SourceStreams}
use Rattle.lusource.specs.RunSources.{IsMeant}
use Rattle.luworld.specs.Needs.{sites_of}
use Rattle.luworld.specs.WorldViews.{IsWhole}
use Rattle.luworld.specs.Jobs.{JobView, NoFault, outputs_of as output_numbers}
use Rattle.lusite.specs.declared.next.Fault.{Fault as SiteFault}
use Rattle.lusite.specs.declared.next.Next.TheVariants.{Ended, Faulted}
use Rattle.lusite.specs.Sites.{SiteView}
use Rattle.lusite.specs.Logs.{IsOutput}
use Rattle.lusite.specs.Machine.{IsNext, IsFaultAt}
use Rattle.lurun.specs.declared.error.RunError.{RunError}
use Rattle.lurun.specs.declared.error.RunError.TheVariants.{Fault, OutOfMemory, LinkLost, NoThread}
use Rattle.lurun.specs.declared.error.RunError.TheVariants.{WrongReports}

-- the reports are of this job
abbrev pub AreReportsOfJob : JobView → List SiteView → Type 0
AreReportsOfJob job reports = All (λ r. r.job ≡ job) reports

-- the main node has an output
abbrev pub HasOutput : JobView → Type 0
HasOutput job = 0 < length (outputs_of job.plan.flat.variables)

abbrev pub is_of : ℕ → SiteView → Bool
is_of s r = nat_eq r.site s

abbrev pub is_one : List SiteView → ℕ → Bool
is_one sites s = nat_eq (length (filter (is_of s) sites)) 1

-- there is one at all, there are as many as a number, and each number below it stands at one of them
abbrev pub are_complete : ℕ → List SiteView → Bool
are_complete count sites = nat_lt 0 (length sites) && nat_eq (length sites) count && list_all (is_one sites)
    (range_with_len 0 count)

-- each site of the job once, and no other
abbrev pub AreComplete : JobView → List SiteView → Type 0
AreComplete job sites = are_complete (sites_of job.plan) sites ≡ true

-- a site is missing, or stands twice, or is none of the job's
abbrev pub AreIncomplete : JobView → List SiteView → Type 0
AreIncomplete job sites = are_complete (sites_of job.plan) sites ≡ false

-- the site ended, faulted, was cut
abbrev pub HasEnded : SiteView → Type 0
HasEnded r = IsNext r.job r.site r.done Ended

abbrev pub HasFaulted : SiteView → Type 0
HasFaulted r = IsNext r.job r.site r.done Faulted

abbrev pub WasCut : SiteView → Type 0
WasCut r = (HasEnded r → ⊥) × (HasFaulted r → ⊥)

abbrev pub NoneFaulted : List SiteView → Type 0
NoneFaulted reports = All (λ r. HasFaulted r → ⊥) reports

-- the fault of the faulted site of least number
pub record IsLeastFault (reports : List SiteView) (site : ℕ) (fault : SiteFault) : Type 0 where
  pub report : SiteView
  pub place : ℕ
  pub there : slice_get reports place ≡ Some report
  pub of_site : report.site ≡ site
  pub faulted : HasFaulted report
  pub fault_is : IsFaultAt report.job site fault
  pub least : All (λ r. HasFaulted r → site ≤ r.site) reports

abbrev pub IsLeast : List SiteView → Option (ℕ × SiteFault) → Type 0
IsLeast reports None = NoneFaulted reports
IsLeast reports (Some x) = IsLeastFault reports x.0 x.1

-- one of the reports is of a site that didn't end
abbrev pub SomeNotEnded : List SiteView → Type 0
SomeNotEnded reports = (k : ℕ) × (r : SiteView) × (slice_get reports k ≡ Some r) × (HasEnded r → ⊥)

abbrev pub SomeCut : List SiteView → Type 0
SomeCut reports = (k : ℕ) × (r : SiteView) × (slice_get reports k ≡ Some r) × WasCut r

-- what one of the sites reports of output k, or nothing where none reports anything
pub data IsReportedBySome (reports : List SiteView) (k : ℕ) (xs : List Status) : Type 0 where
  OneReports : (p : ℕ) (r : SiteView) → slice_get reports p ≡ Some r → 0 < length xs
      → IsOutput r.job r.site r.done k xs → IsReportedBySome reports k xs
  NoneReports : xs ≡ [] → ((p : ℕ) (r : SiteView) → slice_get reports p ≡ Some r
      → IsOutput r.job r.site r.done k []) → IsReportedBySome reports k xs

-- a column for each name: what the sites report of the output of its number
pub record AreColumns (reports : List SiteView) (names : List (List ℕ))
    (columns : List OutputColumn) : Type 0 where
  pub len : length columns ≡ length names
  pub each : (k : ℕ) (x : OutputColumn) → slice_get columns k ≡ Some x → (slice_get names k ≡ Some x.name)
      × IsReportedBySome reports k x.statuses

-- what one site more reports of an output, or what was reported before where it reports nothing
abbrev pub later : List Status → List Status → List Status
later reported [] = reported
later reported (x ∷ xs) = x ∷ xs

-- column k has these statuses now, or those that it had where these are none; the others are as they were
pub record IsFilled (columns : List OutputColumn) (k : ℕ) (xs : List Status)
    (columns' : List OutputColumn) : Type 0 where
  pub len : length columns' ≡ length columns
  pub here : (c : OutputColumn) → slice_get columns k ≡ Some c
      → slice_get columns' k ≡ Some (record { name = c.name; statuses = later c.statuses xs })
  pub others : (j : ℕ) → j ≢ k → slice_get columns' j ≡ slice_get columns j

-- The whole outputs of a run: those of the main node by name, in order of declaration, each with all its
-- statuses in the one solution of the run's program on its inputs; and in each solution of its source. No
-- flow breaks.
pub record AreOutputsOf (job : JobView) (outputs : List OutputColumn) : Type 0 where
  pub named : map (λ (c : OutputColumn). c.name) outputs ≡ map (λ (x : Variable). x.name)
      (outputs_of job.plan.flat.variables)
  pub whole : (k v : ℕ) (c : OutputColumn) → slice_get (output_numbers job.plan) k ≡ Some v
      → slice_get outputs k ≡ Some c → IsWhole job v c.statuses
  pub source : (σ : SourceStreams) → IsMeant job σ → (k : ℕ) (c : OutputColumn) → slice_get outputs k ≡ Some c
      → map Known c.statuses ≡ marks (σ [] c.name) job.inputs.instants
  pub no_fault : NoFault job

-- the whole outputs of a run all of whose sites ended
pub record AreCollected (job : JobView) (reports : List SiteView) (outputs : List OutputColumn) : Type 0 where
  pub complete : AreComplete job reports
  pub ended : All HasEnded reports
  pub are_outputs : AreOutputsOf job outputs

-- all sites of a run ended, and there is no output to report
pub record ReportNothing (job : JobView) (reports : List SiteView) : Type 0 where
  pub complete : AreComplete job reports
  pub ended : All HasEnded reports
  pub no_fault : NoFault job
  pub no_output : HasOutput job → ⊥

-- a refusal, with its reason, where those before it have none
abbrev pub IsRefusalOf : JobView → List SiteView → RunError → Type 0
IsRefusalOf job reports WrongReports = AreIncomplete job reports ⊎ ReportNothing job reports
IsRefusalOf job reports (Fault variable instant kind) = AreComplete job reports
    × ((site : ℕ) × IsLeastFault reports site (record {
      variable = variable;
      instant = instant;
      kind = kind;
    }))
IsRefusalOf job reports LinkLost = AreComplete job reports × NoneFaulted reports × SomeCut reports
IsRefusalOf job reports OutOfMemory = Unit {0}
IsRefusalOf job reports NoThread = ⊥

-- What is collected from reports: of the refusals the first that has a reason, else the whole outputs, of a
-- run without a fault. Out of memory may come in place of any answer.
abbrev pub IsCollected : JobView → List SiteView → Result (List OutputColumn) RunError → Type 0
IsCollected job reports result = MatchResult result (AreCollected job reports) (IsRefusalOf job reports)
