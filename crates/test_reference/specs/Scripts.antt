-- The scripts of all sites, by site.
use Rattle.std.specs.Prelude.{◌≡◌, ℕ, List, [], map, slice_get, unwrap_or}
use Rattle.luworld.specs.Jobs.{JobView, script, streams_of}
use Rattle.test_reference.specs.declared.item.Item.{Item}
use Rattle.test_reference.specs.AsItem.{as_item}

abbrev pub script_in : List (List Item) → ℕ → List Item
script_in scripts site = unwrap_or (slice_get scripts site) []

-- each site's script, and nothing for what is no site
pub record AreScripts (job : JobView) (scripts : List (List Item)) : Type 0 where
  pub each : (site : ℕ) → map as_item (script_in scripts site) ≡ script job (streams_of job) site
