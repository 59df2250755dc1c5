-- The statuses of a site's outputs, as far as they were passed.
use Rattle.std.specs.Prelude.{◌≡◌, ℕ, ◌+◌, Bool, false, not, ◌&&◌, nat_lt, List, [], length, Option, Some}
use Rattle.std.specs.Prelude.{None, slice_get}
use Rattle.luflow.specs.declared.data.Status.{Status}
use Rattle.luworld.specs.Needs.{home}
use Rattle.luworld.specs.WorldViews.{IsBegun, IsWhole, AreAllPassed}
use Rattle.luworld.specs.Jobs.{JobView, script, HasNoStop, outputs_of, streams_of}
use Rattle.lusite_program.specs.Logs.{LogView, add_if, log_in, logs_in, IsLogged}
use Rattle.lusite_program.specs.Programs.{part_at}
use Rattle.lusite.specs.declared.state.SiteState.{SiteState}
use Rattle.lusite.specs.Machine.{is_faulted}

abbrev pub logs_of : SiteState → List LogView
logs_of a = logs_in a.program a.logs.items

-- what site s, with n items done, reports of the output that is flow i: its statuses so far, which are those
-- that it has passed
pub record IsReported (job : JobView) (s n i : ℕ) (xs : List Status) : Type 0 where
  pub begun : IsBegun job i xs
  pub passed : AreAllPassed job s n i xs
  pub whole : n ≡ length (script job (streams_of job) s) → HasNoStop job s → IsWhole job i xs

-- output k at site s: reported where the site is the output's home, and nothing elsewhere or where there is
-- no such output
pub record IsOutput (job : JobView) (s n k : ℕ) (xs : List Status) : Type 0 where
  pub reported : (i : ℕ) → slice_get (outputs_of job.plan) k ≡ Some i → home job.plan i ≡ s
      → IsReported job s n i xs
  pub elsewhere : (i : ℕ) → slice_get (outputs_of job.plan) k ≡ Some i → (home job.plan i ≡ s → ⊥) → xs ≡ []
  pub beyond : slice_get (outputs_of job.plan) k ≡ None → xs ≡ []

-- the rank up to which a machine has passed the outputs: a present one is passed with its computation, an
-- absent one with its flow
abbrev pub passed_to : SiteState → ℕ
passed_to a = a.place.value + add_if (nat_lt 0 a.step && not (is_faulted a))

abbrev pub IsLoggedAt : SiteState → Type 0
IsLoggedAt a = IsLogged a.inputs.job a.inputs.site (logs_of a) a.instant (passed_to a)

abbrev pub is_noted : SiteState → ℕ → Bool
is_noted a i = nat_lt a.instant a.inputs.job.inputs.instants && (part_at a.program i).reported

abbrev pub reported_at : SiteState → Option ℕ → Bool
reported_at a None = false
reported_at a (Some i) = (part_at a.program i).reported

abbrev pub log_at : SiteState → Option ℕ → List Status
log_at a o = log_in a.program (logs_of a) o
