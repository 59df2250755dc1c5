use Rattle.std.proofs.Common.{refl}
use Rattle.luplace_file.specs.Draft.{draft_at, draft_of}
use Rattle.luplace_file.specs.Rules.{ruled}
use Rattle.luplace_file.proofs.laws.vectors_law.Goals as goal

pub returns : goal.returns
unfolding draft_at draft_of ruled
returns c = record {
  version_two = refl;
  version_one = refl;
  sites_alone = refl;
  no_sites = refl;
  array_in_version_one = refl;
  array_in_version_three = refl;
  negative_version = refl;
  empty_array = refl;
  empty_array_in_version_three = refl;
  no_text = refl;
  site_twice = refl;
  no_site = refl;
  no_site_twice = refl;
  kind_before_range = refl;
  range_before_twice = refl;
  twice_before_unknown = refl;
}
