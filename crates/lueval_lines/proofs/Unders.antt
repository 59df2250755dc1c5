-- What a mark says of the clock that it stands under.
use Rattle.std.proofs.Common.{◌≡◌, Bool, true, false, Option, Some, None, refl}
use Rattle.luflow.specs.declared.data.Datum.{Datum}
use Rattle.luflow.specs.declared.data.Status.TheVariants.{Absent, Present}
use Rattle.luflow.specs.declared.form.Outcome.{Outcome}
use Rattle.luflow.specs.declared.form.Outcome.TheVariants.{Gives, Faults, Stuck}
use Rattle.luflow.specs.Streams.{Known}
use Rattle.luflow.specs.Values.{under}

pub under_absent : (c : Option Bool) (v : Outcome) → under c v ≡ Known Absent → c ≡ Some false
under_absent None v h = cc
under_absent (Some false) v h = refl
under_absent (Some true) (Faults kind) h = cc
under_absent (Some true) Stuck h = cc
under_absent (Some true) (Gives d) h = cc

pub under_present : (c : Option Bool) (v : Outcome) (d : Datum) → under c v ≡ Known (Present d) → c ≡ Some true
under_present None v d h = cc
under_present (Some false) v d h = cc
under_present (Some true) v d h = refl
