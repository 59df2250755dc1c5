-- What a station holds.
use Rattle.std.specs.Prelude.{◌≡◌, ◌≤◌, false, [], length, vec_capacity}
use Rattle.luworld.specs.Jobs.{outputs_of}
use Rattle.luworld.specs.Sites.{IsSiteOfJob}
use Rattle.lulist.specs.declared.station.ListStation.TheInside as station
use Rattle.lulist.specs.Lists.{IsListing}

-- a site of a run, which goes on unless it is cut, and room for its outputs
pub record IsStation (a : station.Inside) : Type 0 where
  pub at : IsSiteOfJob (record { job = a.inner.inputs.job; site = a.inner.inputs.site })
  pub none : a.outputs.items ≡ []
  pub room : length (outputs_of a.inner.inputs.job.plan) ≤ vec_capacity a.outputs
  pub going : a.cut ≡ false → IsListing a.inner
