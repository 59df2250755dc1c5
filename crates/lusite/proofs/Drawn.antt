-- The logs of the outputs that a state reports.
use Rattle.std.proofs.Common.{◌≡◌, ℕ, ◌<◌, ◌≤◌, [], length, Option, Some, None, refl, sym, ap, ◌∙◌, subst, arith}
use Rattle.std.specs.Prelude.{slice_get, is_some}
use Rattle.luflow.specs.Program.{flows_of}
use Rattle.luworld.specs.Needs.{PlanView}
use Rattle.luworld.specs.Jobs.{outputs_of}
use Rattle.lusite.specs.declared.state.SiteState.{SiteState}
use Rattle.lusite_program.specs.declared.program.Part.{Part}
use Rattle.lusite_program.specs.Programs.{Reports}
use Rattle.lusite_program.specs.Logs.{row_items, view_items}
use Rattle.lusite.specs.Logs.{logs_of, log_at, reported_at}
use Rattle.lusite.specs.Machine.{IsSet}
use Rattle.lusite_program.proofs.OutputLogs.{unreported, reported, view_row}
use Rattle.lusite_program.proofs.SiteFlows.{output_there, part_there}
use Rattle.lusite.proofs.Rows.{log_row}

-- the log of an output that a state reports
module _ (a : SiteState) (set_up : IsSet a) where
  output_inside : (i : ℕ) (k : ℕ) → slice_get (outputs_of a.program.plan) k ≡ Some i → i < flows_of a.program.plan.flat
  output_inside i k e =
      let first = subst (λ (q : PlanView). length q.flat.variables ≤ flows_of q.flat) (sym set_up.plan_is) set_up.is_job.is_plan.variables_first in
      let l = (output_there a.program.plan k i e).0 in
      omega (arith, first, l)

  pub state_unreported : (k : ℕ) → ((i : ℕ) → slice_get (outputs_of a.program.plan) k ≡ Some i → Reports a.program.plan a.program.site i None) → [] ≡ log_at a (slice_get (outputs_of a.program.plan) k)
  state_unreported k h = sym (unreported a.program output_inside (logs_of a) k h)

  reported_in : (k r : ℕ) (o : Option ℕ) → slice_get (outputs_of a.program.plan) k ≡ o → ((i : ℕ) → o ≡ Some i → Reports a.program.plan a.program.site i (Some r)) → (o ≡ None → ⊥) → log_at a (slice_get (outputs_of a.program.plan) k) ≡ row_items (slice_get a.logs.items r)
  reported_in k r None there h some = absurd (some refl)
  reported_in k r (Some i) there h some =
      let reports = h i refl in
      reported a.program output_inside (logs_of a) k i r there reports ∙ ap view_items (log_row a set_up r i reports.1) ∙ view_row a.logs.items r

  pub state_reported : (k r : ℕ) → ((i : ℕ) → slice_get (outputs_of a.program.plan) k ≡ Some i → Reports a.program.plan a.program.site i (Some r)) → (slice_get (outputs_of a.program.plan) k ≡ None → ⊥) → log_at a (slice_get (outputs_of a.program.plan) k) ≡ row_items (slice_get a.logs.items r)
  state_reported k r h some = reported_in k r (slice_get (outputs_of a.program.plan) k) refl h some

  -- whether it reports an output
  reports_in : (k : ℕ) (o p : Option ℕ) → slice_get (outputs_of a.program.plan) k ≡ o → ((i : ℕ) → o ≡ Some i → Reports a.program.plan a.program.site i p) → (o ≡ None → p ≡ None) → is_some p ≡ reported_at a o
  reports_in k None p there h none = ap is_some (none refl)
  reports_in k (Some i) None there h none = sym (ap (λ (x : Part). x.reported) (part_there a.program i (output_inside i k there)) ∙ h i refl)
  reports_in k (Some i) (Some r) there h none = sym (ap (λ (x : Part). x.reported) (part_there a.program i (output_inside i k there)) ∙ (h i refl).0)

  pub state_reports : (k : ℕ) (p : Option ℕ) → ((i : ℕ) → slice_get (outputs_of a.program.plan) k ≡ Some i → Reports a.program.plan a.program.site i p) → (slice_get (outputs_of a.program.plan) k ≡ None → p ≡ None) → is_some p ≡ reported_at a (slice_get (outputs_of a.program.plan) k)
  state_reports k p h none = reports_in k (slice_get (outputs_of a.program.plan) k) p refl h none
