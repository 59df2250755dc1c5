-- What a station in rows holds.
use Rattle.std.specs.Prelude.{◌≡◌, ◌≤◌, false, [], length, vec_capacity}
use Rattle.luworld.specs.Sites.{IsSiteOfJob}
use Rattle.lublock_site.specs.declared.station.RowStation.TheInside as station
use Rattle.lublock_site.specs.Codes.{outputs_at}
use Rattle.lublock_site.specs.Going.{IsGoing}

-- a site of a run, which goes on unless it is cut
pub record IsStation (a : station.Inside) : Type 0 where
  pub at : IsSiteOfJob (record { job = a.inner.job.value; site = a.inner.site })
  pub outputs : a.outputs.items ≡ outputs_at a.inner.job.value.plan a.inner.site
  pub none : a.rows.items ≡ []
  pub room : length a.outputs.items ≤ vec_capacity a.rows
  pub going : a.cut ≡ false → IsGoing a.inner
