-- The same, for the state of a site.
use Rattle.std.proofs.Common.{inl, inr, ◌≡◌, ℕ, ◌+◌, ◌<◌, ◌≤◌, Bool, true, false, List, length, set, Some, sym, ap, ap₂, ◌∙◌, subst, arith}
use Rattle.std.specs.Prelude.{slice_get, slice_index, All}
use Rattle.std.proofs.lemmas.Bool.{cases_lt}
use Rattle.luflow.specs.declared.data.Status.{Status}
use Rattle.luflow.specs.declared.data.Status.TheVariants.{Absent}
use Rattle.luworld.specs.Needs.{PlanView}
use Rattle.luworld.specs.Jobs.{streams_of, knows, cell, items_before}
use Rattle.lueval_lines.specs.declared.past.Past.{Past}
use Rattle.lusite.specs.declared.state.SiteState.{SiteState}
use Rattle.lueval_lines.specs.Frames.{later}
use Rattle.luflow.specs.Program.{flow_at, flows_of}
use Rattle.lusite_program.specs.Programs.{part_of, part_at}
use Rattle.lusite.specs.KeptFlows.{IsKept}
use Rattle.lusite.specs.Machine.{is_faulted, Stands, StandsAt, IsSet, IsReadyAt, Ready, cell_size, cell_size_of, done_of, shown_of, pasts_of}
use Rattle.lusite.specs.States.{IsGoing}
use Rattle.lusite.proofs.Machine.{there, stands_pass, stands_tick, size_here}
use Rattle.lusite_program.proofs.SiteFlows.{part_there}

-- the facts of a state that goes on, about its job
pub record Going (a : SiteState) : Type 0 where
  pub set : IsSet a
  pub stands : Stands a.inputs.job a.inputs.site (shown_of a) (pasts_of a) a.instant a.place.value a.step false
  pub goes : (is_faulted a) ≡ false

pub going : (a : SiteState) → IsSet a → StandsAt a → (is_faulted a) ≡ false → Going a
going a set st go =
    record { set = set; stands = subst (λ (b : Bool). Stands a.inputs.job a.inputs.site (shown_of a) (pasts_of a) a.instant a.place.value a.step b) go st; goes = go }

pub going_state : (a : SiteState) → IsGoing a → Going a
going_state a h = going a h.in_order.set h.in_order.stands h.going

pub part_here : (a : SiteState) (i : ℕ) → IsSet a → i < flows_of a.inputs.job.plan.flat → part_at a.program i ≡ part_of a.inputs.job.plan a.inputs.site i
part_here a i set li =
    part_there a.program i (subst (λ (q : PlanView). i < flows_of q.flat) (sym set.plan_is) li)
    ∙ ap₂ (λ q s. part_of q s i) set.plan_is set.site_is

-- the flow at hand
pub here_in : (a : SiteState) → IsSet a → a.place.value < length a.inputs.job.plan.flat.order → slice_index a.inputs.job.plan.flat.order a.place.value < flows_of a.inputs.job.plan.flat
here_in a set lp = (there a.inputs.job a.inputs.site set.is_job a.place.value lp).2

pub place_in_job : (a : SiteState) → IsSet a → a.place.value < length a.program.plan.flat.order → a.place.value < length a.inputs.job.plan.flat.order
place_in_job a set lp = subst (λ (q : PlanView). a.place.value < length q.flat.order) set.plan_is lp

pub flow_same : (a : SiteState) → IsSet a → slice_index a.program.plan.flat.order a.place.value ≡ slice_index a.inputs.job.plan.flat.order a.place.value
flow_same a set = ap (λ (q : PlanView). slice_index q.flat.order a.place.value) set.plan_is

pub size_state : (a : SiteState) → Going a → a.place.value < length a.program.plan.flat.order → cell_size a (slice_index a.program.plan.flat.order a.place.value) ≡ length (cell a.inputs.job (streams_of a.inputs.job) a.inputs.site a.instant (slice_index a.inputs.job.plan.flat.order a.place.value))
size_state a g lp =
    let lp' = place_in_job a g.set lp in
    let i = slice_index a.inputs.job.plan.flat.order a.place.value in
    ap (cell_size a) (flow_same a g.set)
    ∙ ap₂ (λ part flow. cell_size_of part flow a.inputs.job.inputs.instants a.instant (shown_of a)) (part_here a i g.set (here_in a g.set lp')) (ap (λ (q : PlanView). flow_at q.flat i) g.set.plan_is)
    ∙ size_here a.inputs.job a.inputs.site g.set.is_job (shown_of a) (pasts_of a) a.instant a.place.value a.step g.stands lp'

pub pass_state : (a : SiteState) (now' : List Status) → Going a → a.place.value < length a.program.plan.flat.order → a.step ≡ cell_size a (slice_index a.program.plan.flat.order a.place.value) → (a.step ≡ 0 → now' ≡ set (shown_of a) (slice_index a.program.plan.flat.order a.place.value) Absent) → (0 < a.step → now' ≡ (shown_of a)) → Stands a.inputs.job a.inputs.site now' (pasts_of a) a.instant (a.place.value + 1) 0 (is_faulted a) × (items_before a.inputs.job (streams_of a.inputs.job) a.inputs.site a.instant (a.place.value + 1) 0 ≡ done_of a)
pass_state a now' g lp all cleared left =
    let lp' = subst (λ (q : PlanView). a.place.value < length q.flat.order) g.set.plan_is lp in
    let r = stands_pass a.inputs.job a.inputs.site g.set.is_job (shown_of a) now' (pasts_of a) a.instant a.place.value a.step g.stands lp' (all ∙ size_state a g lp) (λ e. cleared e ∙ ap (λ (q : PlanView). set (shown_of a) (slice_index q.flat.order a.place.value) Absent) g.set.plan_is) left in
    (subst (λ (b : Bool). Stands a.inputs.job a.inputs.site now' (pasts_of a) a.instant (a.place.value + 1) 0 b) (sym g.goes) r.0, r.1)

-- past the last flow no item is done
pub no_step : (a : SiteState) → Going a → a.place.value ≡ length a.inputs.job.plan.flat.order → a.step ≡ 0
no_step a g end = elim (cases_lt 0 a.step) [ inl l ↦ let w = (g.stands.step_le l).0 in absurd (omega arith) | inr l ↦ omega arith ]

pub tick_state : (a : SiteState) (pasts' : List Past) → Going a → a.place.value ≡ length a.program.plan.flat.order → a.instant < a.inputs.job.inputs.instants → length pasts' ≡ length (pasts_of a) → ((i : ℕ) → i < flows_of a.inputs.job.plan.flat → knows a.inputs.job.plan a.inputs.site i ≡ true → IsKept a.inputs.job.plan a.inputs.site i → (x : Status) (y : Past) → slice_get (shown_of a) i ≡ Some x → slice_get (pasts_of a) i ≡ Some y → slice_get pasts' i ≡ Some (later x y)) → All (λ x. x.count ≤ a.instant + 1) pasts' → Stands a.inputs.job a.inputs.site (shown_of a) pasts' (a.instant + 1) 0 0 (is_faulted a) × (items_before a.inputs.job (streams_of a.inputs.job) a.inputs.site (a.instant + 1) 0 0 ≡ done_of a)
tick_state a pasts' g end lt len each counts =
    let σ = streams_of a.inputs.job in
    let end' = end ∙ ap (λ (q : PlanView). length q.flat.order) g.set.plan_is in
    let step = no_step a g end' in
    let lt' : a.instant < a.inputs.job.inputs.instants = lt in
    let st = subst (λ (p : ℕ). Stands a.inputs.job a.inputs.site (shown_of a) (pasts_of a) a.instant p 0 false) end' (subst (λ (j : ℕ). Stands a.inputs.job a.inputs.site (shown_of a) (pasts_of a) a.instant a.place.value j false) step g.stands) in
    let r = stands_tick a.inputs.job a.inputs.site g.set.is_job (shown_of a) (pasts_of a) pasts' a.instant st lt' len each counts in
    (subst (λ (b : Bool). Stands a.inputs.job a.inputs.site (shown_of a) pasts' (a.instant + 1) 0 0 b) (sym g.goes) r.0, r.1 ∙ ap₂ (items_before a.inputs.job σ a.inputs.site a.instant) (sym end') (sym step))

pub ready_state : (a : SiteState) → Going a → a.place.value < length a.program.plan.flat.order → a.step < cell_size a (slice_index a.program.plan.flat.order a.place.value) → IsReadyAt a
ready_state a g lp l =
    let e = size_state a g lp in
    Ready (subst (λ (q : PlanView). a.place.value < length q.flat.order) g.set.plan_is lp) (omega (arith, e))

pub full_state : (a : SiteState) → Going a → a.place.value < length a.program.plan.flat.order → cell_size a (slice_index a.program.plan.flat.order a.place.value) ≤ a.step → a.step ≡ cell_size a (slice_index a.program.plan.flat.order a.place.value)
full_state a g lp l =
    let e = size_state a g lp in
    elim (cases_lt 0 a.step) [ inl some ↦ let w = (g.stands.step_le some).1 in omega (arith, e) | inr none ↦ omega (arith, e) ]
