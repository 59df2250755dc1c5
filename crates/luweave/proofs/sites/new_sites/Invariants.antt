use Rattle.std.proofs.Common.{◌≡◌, ℕ, ◌≤◌, length, Some, slice_get}
use Rattle.std.specs.Prelude.{vec_capacity}
use Rattle.lusite.specs.Sites.{SiteView}
use Rattle.luweave.specs.Worlds.{IsNewSite}
use Rattle.luweave.proofs.sites.new_sites.Given as goal

-- the sites so far are new, and there is room for all
abbrev pub invariant-loop-site : goal.invariant-loop-site
invariant-loop-site l = record {
  len : length l.sites.items ≡ l.site;
  each : (s : ℕ) (v : SiteView) → slice_get l.sites.items s ≡ Some v → IsNewSite l.job s v;
  room : l.count ≤ vec_capacity l.sites;
}
