-- At which instant a site stands.
use Rattle.std.proofs.Common.{◌≡◌, ◌⊎◌, inl, inr, Bool, true, false, refl}
use Rattle.lusite.specs.declared.state.SiteState.{SiteState}
use Rattle.lusite.specs.Machine.{IsAtInstant, IsGoingAt, IsStoppedAt, is_faulted, done_of}
use Rattle.lusite.specs.Sites.{IsSite}

going_or_stopped : (a : SiteState) → {l : Bool} → IsSite a l → (b : Bool) → is_faulted a ≡ b → IsGoingAt a.inputs.job a.inputs.site (done_of a) a.instant a.place.value a.step ⊎ IsStoppedAt a.inputs.job a.inputs.site (done_of a) a.step
going_or_stopped a i true e = inr (record { done = (i.in_order.stands.stopped e).0; stopped = (i.in_order.stands.stopped e).1; computed = i.in_order.stands.stopped_at e })
going_or_stopped a i false e = inl (record { free = i.in_order.stands.no_stop e; ready = i.ready e })

pub state_instant : (a : SiteState) → {l : Bool} → IsSite a l → IsAtInstant a.inputs.job a.inputs.site (done_of a) a.instant
state_instant a i =
    record {
      place = a.place.value;
      step = a.step;
      inside = i.in_order.stands.instant_le;
      step_le = i.in_order.stands.step_le;
      place_le = i.in_order.stands.place_le;
      is = refl;
      here = going_or_stopped a i (is_faulted a) refl;
    }
