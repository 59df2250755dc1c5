-- What holds of every placement.
use Rattle.std.specs.Prelude.{◌≡◌, ◌≢◌, ◌≤◌, ◌<◌, ℕ, List, length, true, All, AllPairs}
use Rattle.std.specs.List.Sorted.{IsStrictlyIncreasing}
use Rattle.lubase.specs.Limits.{most_sites, most_capacity}
use Rattle.luplace_file.specs.Content.{PlaceView}
use Rattle.luplace_file.specs.SiteName.{is_site_name}

-- numbers of sites, each greater than the one before
pub record AreSites (count : ℕ) (sites : List ℕ) : Type 0 where
  pub rising : IsStrictlyIncreasing sites
  pub known : All (λ site. site < count) sites

-- from 1 to 16 sites with names that differ, a capacity from 1 to 1,024, and each variable at one of the
-- sites or several
pub record IsLawful (place : PlaceView) : Type 0 where
  pub some_site : 1 ≤ length place.sites
  pub few_sites : length place.sites ≤ most_sites
  pub named : All (λ site. is_site_name site ≡ true) place.sites
  pub sites_differ : AllPairs (λ site other. site ≢ other) place.sites
  pub some_room : 1 ≤ place.capacity
  pub little_room : place.capacity ≤ most_capacity
  pub default_known : AreSites (length place.sites) place.default
  pub entries_known : All (λ placed. AreSites (length place.sites) placed.sites) place.place
  pub entries_stand : All (λ placed. 1 ≤ length placed.sites) place.place
