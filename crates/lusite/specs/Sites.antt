-- What contracts see of a site.
use Rattle.std.specs.Prelude.{◌≡◌, ℕ, ◌<◌, Bool, true, false, List, length}
use Rattle.luflow.specs.declared.data.Status.{Status}
use Rattle.luworld.specs.Needs.{sites_of}
use Rattle.luworld.specs.Jobs.{JobView, IsJobView, script, streams_of}
use Rattle.luworld.specs.Sites.{AreWholeOutputs, IsSoundAt}
use Rattle.lusite_program.specs.Programs.{output_names}
use Rattle.lusite.specs.declared.state.SiteState.{SiteState}
use Rattle.lusite.specs.Machine.{IsReadyAt, ReportsFault, is_faulted, done_of, offered}
use Rattle.lusite.specs.declared.next.Next.TheVariants.{Local}
use Rattle.lusite.specs.States.{IsInOrder}

-- the job, the site, and how many items of the site's script are done
pub record SiteView : Type 0 where
  pub job : JobView
  pub site : ℕ
  pub done : ℕ

abbrev pub site_at : SiteState → SiteView
site_at a = record { job = a.inputs.job; site = a.inputs.site; done = done_of a }

-- the machine is in order, and the next item is a computation where it says that it is one
pub record IsSite (a : SiteState) (local : Bool) : Type 0 where
  pub in_order : IsInOrder a
  pub tells : ReportsFault a
  pub ready : is_faulted a ≡ false → IsReadyAt a
  pub offers : local ≡ true → offered a ≡ Local

-- a site that has done its whole script
abbrev pub whole_site : JobView → ℕ → SiteView
whole_site job s = record { job = job; site = s; done = length (script job (streams_of job) s) }

-- what is known of a site that has done its whole script in another way than item by item: all of its
-- outputs, and that no flow breaks that it computes or takes
pub record IsWholeSite (job : JobView) (s sites instants : ℕ) (names : List (List ℕ))
    (rows : List (List Status)) : Type 0 where
  pub run : IsJobView job
  pub inside : s < sites_of job.plan
  pub sites_are : sites ≡ sites_of job.plan
  pub instants_are : instants ≡ job.inputs.instants
  pub names_are : names ≡ output_names job.plan
  pub sound : IsSoundAt job s
  pub whole : AreWholeOutputs job s rows
