-- A site reports a fault exactly where its script stopped at one.
use Rattle.std.proofs.Common.{◌≡◌, ℕ, inl, inr, false, length, ◌∙◌, subst, arith}
use Rattle.std.specs.Prelude.{slice_index, IsSome}
use Rattle.std.proofs.lemmas.Option.{slice_get_within}
use Rattle.luworld.proofs.Outlines.{bool_cases}
use Rattle.luflow.proofs.Solutions.{some_at}
use Rattle.luworld.specs.Jobs.{streams_of, cell, script, HasNoStop}
use Rattle.lusite.specs.declared.state.SiteState.{SiteState}
use Rattle.lusite.specs.Machine.{is_faulted, Stands, IsSet, StandsAt, IsReadyAt, Ready, Over, done_of, shown_of, pasts_of}
use Rattle.lusite.proofs.Machine.{ended}
use Rattle.lusite.proofs.SiteStates.{Going, going}
use Rattle.lusite.proofs.Offers.{Here, hand_next}

-- a site that goes on and has done its whole script has met no stop
free_end : (a : SiteState) → Going a → IsReadyAt a → done_of a ≡ length (script a.inputs.job (streams_of a.inputs.job) a.inputs.site) → HasNoStop a.inputs.job a.inputs.site
free_end a g (Ready lp lj) n =
    let job = a.inputs.job in
    let h : Here a = record { going_on = g; place_lt = lp; step_lt = lj } in
    let x = some_at (cell job (streams_of job) a.inputs.site a.instant (slice_index job.plan.flat.order a.place.value)) a.step lj in
    let l = slice_get_within (script job (streams_of job) a.inputs.site) (done_of a) x.0 (hand_next a h ∙ x.1) in
    absurd (omega (arith, l, n))
free_end a g (Over et ep ej) n =
    let job = a.inputs.job in
    let st = subst (λ (j : ℕ). Stands job a.inputs.site (shown_of a) (pasts_of a) job.inputs.instants (length job.plan.flat.order) j false) ej (subst (λ (p : ℕ). Stands job a.inputs.site (shown_of a) (pasts_of a) job.inputs.instants p a.step false) ep (subst (λ (t : ℕ). Stands job a.inputs.site (shown_of a) (pasts_of a) t a.place.value a.step false) et g.stands)) in
    (ended job a.inputs.site g.set.is_job (shown_of a) (pasts_of a) st).1

pub reported_stopped : (a : SiteState) → StandsAt a → IsSome a.fault → (done_of a ≡ length (script a.inputs.job (streams_of a.inputs.job) a.inputs.site)) × (HasNoStop a.inputs.job a.inputs.site → ⊥)
reported_stopped a st some = st.stopped some

pub stopped_reported : (a : SiteState) → IsSet a → StandsAt a → (is_faulted a ≡ false → IsReadyAt a) → (done_of a ≡ length (script a.inputs.job (streams_of a.inputs.job) a.inputs.site)) × (HasNoStop a.inputs.job a.inputs.site → ⊥) → IsSome a.fault
stopped_reported a set st ready h = elim (bool_cases (is_faulted a)) [
  | inl bad ↦ bad
  | inr go ↦ absurd (h.1 (free_end a (going a set st go) (ready go) h.0))
]
