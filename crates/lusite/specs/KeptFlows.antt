-- Of which flows a site keeps the past.
use Rattle.std.specs.Prelude.{◌≡◌, ℕ, ◌<◌, Bool, true, false, List, [], ◌∷◌, length, All, Some, slice_get}
use Rattle.std.specs.Prelude.{slice_index, unwrap_or}
use Rattle.luflow.specs.Program.{flow_at}
use Rattle.luflow.specs.declared.form.Flow.{Flow}
use Rattle.luworld.specs.Needs.{PlanView, stands}
use Rattle.luworld.specs.Jobs.{sends}
use Rattle.lueval_lines.specs.Cells.{looks_back}
use Rattle.lueval_lines.specs.Operations.{form_of}
use Rattle.lusite_program.specs.declared.program.SiteFlow.{SiteFlow}
use Rattle.lusite_program.specs.Programs.{places_of}

-- a flow of the site's own looks back at flow i, or the site sends it
pub data IsKept (plan : PlanView) (s i : ℕ) : Type 0 where
  Looked : (j : ℕ) (flow : Flow) → stands plan j s ≡ true → flow_at plan.flat j ≡ Some flow
      → looks_back j flow.form ≡ i ∷ [] → IsKept plan s i
  Sent : 0 < length (sends plan s i) → IsKept plan s i

-- the numbers of these among the flows that the site computes or takes, and maybe those of others, in order
pub record AreKept (plan : PlanView) (s : ℕ) (kept : List ℕ) : Type 0 where
  pub rising : (j k : ℕ) → j < k → k < length kept → slice_index kept j < slice_index kept k
  pub inside : All (λ k. k < length (places_of plan s)) kept
  pub all : (k i : ℕ) → slice_get (places_of plan s) k ≡ Some i → IsKept plan s i
      → (j : ℕ) × (slice_get kept j ≡ Some k)

-- of the first n of these flows, each that is sent is marked, and each at which one looks back
pub record AreMarks (site_flows : List SiteFlow) (marks : List Bool) (n : ℕ) : Type 0 where
  pub len : length marks ≡ length site_flows
  pub looked : (j r : ℕ) (x : SiteFlow) → j < n → slice_get site_flows j ≡ Some x
      → looks_back x.line.place (form_of [] x.line.operation) ≡ r ∷ [] → r < length marks
      → slice_get marks r ≡ Some true
  pub sent : (j : ℕ) (x : SiteFlow) → j < n → slice_get site_flows j ≡ Some x → 0 < x.outs
      → slice_get marks j ≡ Some true

abbrev pub is_marked : List Bool → ℕ → Bool
is_marked marks k = unwrap_or (slice_get marks k) false
