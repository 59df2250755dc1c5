-- Worked placement files, by their tables: what they say, and which refusal comes first.
use Rattle.std.specs.Prelude.{◌≡◌, ℕ, ℤ, pos, negsuc, List, [], ◌∷◌, codes, Some, Result, Ok, Err}
use Rattle.toml.specs.Data.{Data, string, integer, array, table, Items, no_items, item, Members, no_members}
use Rattle.toml.specs.Data.{member}
use Rattle.luplace_file.specs.declared.error.PlaceError.{PlaceError}
use Rattle.luplace_file.specs.declared.error.PlaceError.TheVariants.{BadKey, UnknownSite, DuplicateSite}
use Rattle.luplace_file.specs.declared.error.PlaceError.TheVariants.{OutOfRange}
use Rattle.luplace_file.specs.Content.{PlaceView}
use Rattle.luplace_file.specs.Placement.{placement_of_table}

-- an array of texts
abbrev pub items : List (List ℕ) → Items
items [] = no_items
items (text ∷ rest) = item (string text) (items rest)

abbrev pub A : List ℕ
A = codes "A"

abbrev pub B : List ℕ
B = codes "B"

abbrev pub C : List ℕ
C = codes "C"

-- the sites, with a number for the version and values for the default and two variables
abbrev pub file : List (List ℕ) → ℤ → Data → Data → Data → Members
file sites version default c z =
    member (codes "default") default (member (codes "place")
    (table (member (codes "c") c (member (codes "z") z no_members)))
    (member (codes "sites") (array (items sites)) (member (codes "version") (integer version) no_members)))

-- what a file is read as, or refused
abbrev pub reported : Members → Result PlaceView PlaceError
reported keys = placement_of_table (Some keys)

abbrev pub two_sites : List (List ℕ)
two_sites = A ∷ B ∷ []

-- the sites A and B, c at both and z at B, and all others at A
abbrev pub both : ℤ → Data → Result PlaceView PlaceError
both version c = reported (file two_sites version (string A) c (string B))

pub record VectorsLaw : Type 0 where
  pub version_two : both (pos 2) (array (items (B ∷ A ∷ []))) ≡ Ok (record {
    sites = two_sites;
    default = 0 ∷ [];
    capacity = 16;
    place = record { variable = codes "c"; sites = 0 ∷ 1 ∷ [] } ∷ record {
      variable = codes "z";
      sites = 1 ∷ [];
    } ∷ [];
  })
  pub version_one : both (pos 1) (string B) ≡ Ok (record {
    sites = two_sites;
    default = 0 ∷ [];
    capacity = 16;
    place = record { variable = codes "c"; sites = 1 ∷ [] } ∷ record { variable = codes "z"; sites = 1 ∷ [] }
        ∷ [];
  })
  pub sites_alone : reported (member (codes "sites") (array (items (A ∷ []))) no_members) ≡ Ok
      (record { sites = A ∷ []; default = []; capacity = 16; place = [] })
  pub no_sites : reported no_members ≡ Err BadKey
  pub array_in_version_one : both (pos 1) (array (items (A ∷ B ∷ []))) ≡ Err BadKey
  pub array_in_version_three : both (pos 3) (array (items (A ∷ B ∷ []))) ≡ Err OutOfRange
  pub negative_version : both (negsuc 0) (string A) ≡ Err OutOfRange
  pub empty_array : both (pos 2) (array no_items) ≡ Err BadKey
  pub empty_array_in_version_three : both (pos 3) (array no_items) ≡ Err BadKey
  pub no_text : both (pos 2) (array (item (string A) (item (integer (pos 1)) no_items))) ≡ Err BadKey
  pub site_twice : both (pos 2) (array (items (A ∷ A ∷ []))) ≡ Err DuplicateSite
  pub no_site : both (pos 2) (array (items (A ∷ C ∷ []))) ≡ Err UnknownSite
  pub no_site_twice : both (pos 2) (array (items (C ∷ C ∷ []))) ≡ Err DuplicateSite
  pub kind_before_range : reported (file two_sites (pos 3) (string A) (string A)
      (integer (pos 1))) ≡ Err BadKey
  pub range_before_twice : reported (file (A ∷ A ∷ []) (pos 3) (string A) (string A)
      (string A)) ≡ Err OutOfRange
  pub twice_before_unknown : reported (file two_sites (pos 2) (string C) (array (items (A ∷ A ∷ [])))
      (string A)) ≡ Err DuplicateSite
