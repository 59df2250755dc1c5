-- What the keys of a placement's table say together.
use Rattle.std.specs.Prelude.{◌≡◌, ◌≤◌, true, length, codes, Option, Some, None, All, if◌then◌else◌}
use Rattle.toml.specs.Data.{Members, get_member}
use Rattle.luplace_file.specs.declared.choice.Version.{Version}
use Rattle.luplace_file.specs.declared.draft.Draft.{Draft}
use Rattle.luplace_file.specs.SiteName.{is_site_name}
use Rattle.luplace_file.specs.Keys.{are_keys, version_in, sites_in, default_in, capacity_in, place_in, ◌>>=◌}

-- the values of the keys in a file of a version, where each is of its kind
unfoldable pub draft_at : Version → Members → Option Draft
draft_at version table =
    sites_in (get_member (codes "sites") table) >>= λ sites.
    default_in version (get_member (codes "default") table) >>= λ default.
    capacity_in (get_member (codes "capacity") table) >>= λ capacity.
    place_in version (get_member (codes "place") table) >>= λ place.
    Some (record { version = version; sites = sites; default = default; capacity = capacity; place = place })

-- the values of the keys, where the table has no other key
unfoldable pub draft_of : Members → Option Draft
draft_of table = if are_keys table then (version_in (get_member (codes "version") table) >>= λ version.
    draft_at version table) else None

-- what holds of every draft: the names of the sites are spelled as they should, and each variable is to stand
-- somewhere
pub record IsDraft (draft : Draft) : Type 0 where
  pub named : All (λ site. is_site_name site ≡ true) draft.sites
  pub somewhere : All (λ wanted. 1 ≤ length wanted.sites) draft.place
