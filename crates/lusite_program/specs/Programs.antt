-- What of a plan a site runs.
use Rattle.std.specs.Prelude.{◌≡◌, ℕ, ◌+◌, ◌<◌, ◌≤◌, Bool, true, false, ◌&&◌, ◌||◌, nat_eq, List, [], length}
use Rattle.std.specs.Prelude.{map, filter, Option, None, Some, is_some, slice_get, slice_index, unwrap_or}
use Rattle.std.specs.List.{range_with_len}
use Rattle.luflow.specs.Program.{flow_at, flows_of}
use Rattle.luworld.specs.Needs.{PlanView, IsPlan, sites_of, stands, home}
use Rattle.luworld.specs.Jobs.{link_into, sends, outputs_of, knows}
use Rattle.luflow.specs.declared.variable.Variable.{Variable}
use Rattle.std.specs.Option.{option_map}
use Rattle.luflow.specs.declared.form.Clock.{Clock}
use Rattle.luflow.specs.declared.form.Flow.{Flow}
use Rattle.lueval_lines.specs.Cells.{clock_of}
use Rattle.lueval_lines.specs.Moving.{moved_clock, moved_form}
use Rattle.lueval_lines.specs.Operations.{form_of, IsInside}
use Rattle.lusite_program.specs.declared.program.Part.{Part}
use Rattle.lusite_program.specs.declared.program.SiteFlow.{SiteFlow}
use Rattle.luflow.specs.Variables.{is_output_of, is_output, variable_name}

-- the plan and the site that a site's program is of
pub record SiteProgramView : Type 0 where
  pub plan : PlanView
  pub site : ℕ

-- a site's part in a flow: whether it computes it, whether it reports it, the link by which it takes it, and
-- those by which it sends it
abbrev pub part_of : PlanView → ℕ → ℕ → Part
part_of plan s i = record {
  own = stands plan i s;
  reported = nat_eq (home plan i) s
      && is_output_of plan.flat i;
  from = link_into plan s i;
  to = sends plan s i;
}

abbrev pub parts_of : PlanView → ℕ → List Part
parts_of plan s = map (part_of plan s) (range_with_len 0 (flows_of plan.flat))

abbrev pub no_part : Part
no_part = record { own = false; reported = false; from = None; to = [] }

abbrev pub part_at : SiteProgramView → ℕ → Part
part_at p i = unwrap_or (slice_get (parts_of p.plan p.site) i) no_part

-- whether it computes or takes the flow
abbrev pub knows_in : Part → Bool
knows_in part = part.own || is_some part.from

-- the ranks of the flows that a site computes or takes, in order, and the places of these flows
abbrev pub ranks_of : PlanView → ℕ → List ℕ
ranks_of plan s = filter (λ p. knows plan s (slice_index plan.flat.order p))
    (range_with_len 0 (length plan.flat.order))

abbrev pub places_of : PlanView → ℕ → List ℕ
places_of plan s = map (slice_index plan.flat.order) (ranks_of plan s)

-- the rank of number k of them; behind the last the end of all ranks
abbrev pub rank_at : SiteProgramView → ℕ → ℕ
rank_at p k = unwrap_or (slice_get (ranks_of p.plan p.site) k) (length p.plan.flat.order)

-- by its place, the number of each flow that a site computes or takes among these, in order of rank
abbrev pub AreNumbers : PlanView → ℕ → List ℕ → Type 0
AreNumbers plan s numbers = (k i : ℕ) → slice_get (places_of plan s) k ≡ Some i → slice_get numbers i ≡ Some k

-- the clock of the flow of rank p
abbrev pub clock_at_rank : PlanView → ℕ → Option Clock
clock_at_rank plan p = option_map (λ (x : Flow). x.clock) (flow_at plan.flat (slice_index plan.flat.order p))

-- a flow that says so has the clock of the one before it
abbrev pub HaveSame : PlanView → ℕ → List SiteFlow → Type 0
HaveSame plan s site_flows = (k p q : ℕ) (site_flow : SiteFlow) → slice_get (ranks_of plan s) k ≡ Some p
    → slice_get (ranks_of plan s) (k + 1) ≡ Some q → slice_get site_flows (k + 1) ≡ Some site_flow
    → site_flow.same ≡ true → clock_at_rank plan p ≡ clock_at_rank plan q

-- What the machine of a site has of the flow of rank p: its line, with the numbers of the site's flows in
-- place of their places, and the site's part in it. Its branches, where it is a merge, are among these, and
-- so are the links by which the site sends it.
pub record IsSiteFlow (plan : PlanView) (s : ℕ) (branches links : List ℕ) (p : ℕ)
    (site_flow : SiteFlow) : Type 0 where
  pub numbers : List ℕ
  pub numbered : AreNumbers plan s numbers
  pub flow : Flow
  pub there : flow_at plan.flat (slice_index plan.flat.order p) ≡ Some flow
  pub place : site_flow.line.place ≡ slice_index numbers (slice_index plan.flat.order p)
  pub form : form_of branches site_flow.line.operation ≡ moved_form (slice_index numbers) flow.form
  pub inside : IsInside (length branches) site_flow.line.operation
  pub clock : clock_of site_flow.line.clock ≡ moved_clock (slice_index numbers) flow.clock
  pub owner : site_flow.owner ≡ slice_index plan.flat.owners (slice_index plan.flat.order p)
  pub own : site_flow.own ≡ (part_of plan s (slice_index plan.flat.order p)).own
  pub reported : site_flow.reported ≡ (part_of plan s (slice_index plan.flat.order p)).reported
  pub from : site_flow.from ≡ (part_of plan s (slice_index plan.flat.order p)).from
  pub outs : site_flow.outs ≡ length (part_of plan s (slice_index plan.flat.order p)).to
  pub linked : site_flow.first + site_flow.outs ≤ length links
  pub to : (j : ℕ) → j < site_flow.outs → slice_index links (site_flow.first + j) ≡ slice_index
      (part_of plan s (slice_index plan.flat.order p)).to j

-- the same of each flow that the site computes or takes, in order of rank
pub record AreSiteFlows (plan : PlanView) (s : ℕ) (branches links : List ℕ)
    (site_flows : List SiteFlow) : Type 0 where
  pub len : length site_flows ≡ length (ranks_of plan s)
  pub each : (k p : ℕ) (site_flow : SiteFlow) → slice_get (ranks_of plan s) k ≡ Some p
      → slice_get site_flows k ≡ Some site_flow → IsSiteFlow plan s branches links p site_flow
  pub same : HaveSame plan s site_flows

-- the number of an output's flow, where the site reports it
abbrev pub Reports : PlanView → ℕ → ℕ → Option ℕ → Type 0
Reports plan s i None = (part_of plan s i).reported ≡ false
Reports plan s i (Some k) = ((part_of plan s i).reported ≡ true) × (slice_get (places_of plan s) k ≡ Some i)

-- the same for each main output, in order of declaration
pub record AreReported (plan : PlanView) (s : ℕ) (reported : List (Option ℕ)) : Type 0 where
  pub len : length reported ≡ length (outputs_of plan)
  pub each : (k i : ℕ) (o : Option ℕ) → slice_get (outputs_of plan) k ≡ Some i → slice_get reported k ≡ Some o
      → Reports plan s i o

-- the names of the main outputs, in order of declaration
abbrev pub output_names : PlanView → List (List ℕ)
output_names plan = map (variable_name plan.flat) (outputs_of plan)

-- a site's program has what the plan says of the flows that the site computes or takes, and of the main
-- outputs
pub record IsProgram (plan : PlanView) (site ranks_end : ℕ) (ranks places branches links : List ℕ)
    (site_flows : List SiteFlow) (reported : List (Option ℕ)) (sites : ℕ)
    (names : List (List ℕ)) : Type 0 where
  pub plan_is : IsPlan plan
  pub end_is : ranks_end ≡ length plan.flat.order
  pub ranks_are : ranks ≡ ranks_of plan site
  pub places_are : places ≡ places_of plan site
  pub site_flows_are : AreSiteFlows plan site branches links site_flows
  pub reported_are : AreReported plan site reported
  pub sites_are : sites ≡ sites_of plan
  pub names_are : names ≡ output_names plan

-- whether a place of a list of variables is that of an output
abbrev pub role_at : List Variable → ℕ → Bool
role_at variables i =
    unwrap_or (option_map (λ (x : Variable). is_output x.role) (slice_get variables i)) false
