-- The rules on what the keys of a placement say.
use Rattle.std.specs.Prelude.{ℕ, ℤ, pos, negsuc, List, [], ◌∷◌, length, map, Bool, true, false, not, ◌&&◌}
use Rattle.std.specs.Prelude.{nat_le, slice_index_or, Result, Ok, Err, if◌then◌else◌}
use Rattle.std.specs.List.{list_all, list_any, filter, range_with_len}
use Rattle.std.specs.Str.{bytes_eq}
use Rattle.lubase.specs.Limits.{most_sites, most_capacity}
use Rattle.luplace_file.specs.declared.choice.Version.{Version}
use Rattle.luplace_file.specs.declared.choice.Version.TheVariants.{One, Two, Other}
use Rattle.luplace_file.specs.declared.draft.Draft.{Draft}
use Rattle.luplace_file.specs.declared.draft.Wanted.{Wanted}
use Rattle.luplace_file.specs.declared.place.Placed.{Placed}
use Rattle.luplace_file.specs.declared.error.PlaceError.{PlaceError}
use Rattle.luplace_file.specs.declared.error.PlaceError.TheVariants.{UnknownSite, DuplicateSite, OutOfRange}
use Rattle.luplace_file.specs.Content.{PlaceView}

-- ---- the ranges

-- version 1 or 2
abbrev pub is_known : Version → Bool
is_known One = true
is_known Two = true
is_known Other = false

-- from 1 to 1,024 messages
abbrev pub is_capacity : ℤ → Bool
is_capacity (pos n) = nat_le 1 n && nat_le n most_capacity
is_capacity (negsuc n) = false

-- from 1 to 16 sites
abbrev pub is_site_count : ℕ → Bool
is_site_count n = nat_le 1 n && nat_le n most_sites

abbrev pub is_in_range : Draft → Bool
is_in_range draft =
    is_known draft.version && (is_capacity draft.capacity && is_site_count (length draft.sites))

-- ---- the names

-- one of the names is this
abbrev pub is_among : List (List ℕ) → List ℕ → Bool
is_among names name = list_any (λ other. bytes_eq other name) names

-- no two of the names are the same
abbrev pub all_differ : List (List ℕ) → Bool
all_differ [] = true
all_differ (name ∷ rest) = not (is_among rest name) && all_differ rest

-- no two sites have one name, and no value names a site twice
abbrev pub names_differ : Draft → Bool
names_differ draft = all_differ draft.sites && (all_differ draft.default
    && list_all (λ wanted. all_differ wanted.sites) draft.place)

-- each of the names is that of a site
abbrev pub are_sites : List (List ℕ) → List (List ℕ) → Bool
are_sites sites names = list_all (λ name. is_among sites name) names

-- every value names sites that there are
abbrev pub names_are_known : Draft → Bool
names_are_known draft = are_sites draft.sites draft.default
    && list_all (λ wanted. are_sites draft.sites wanted.sites) draft.place

-- ---- the placement

-- the numbers of the sites that are named, in order
abbrev pub numbers_of : List (List ℕ) → List (List ℕ) → List ℕ
numbers_of sites names = filter (λ site. is_among names (slice_index_or sites site []))
    (range_with_len 0 (length sites))

-- a variable at the sites that are named for it
abbrev pub placed_at : List (List ℕ) → Wanted → Placed
placed_at sites wanted = record { variable = wanted.variable; sites = numbers_of sites wanted.sites }

-- the number that a capacity is
abbrev pub size_of : ℤ → ℕ
size_of (pos n) = n
size_of (negsuc n) = 0

-- what a draft says that keeps the rules
abbrev pub stated : Draft → PlaceView
stated draft = record {
  sites = draft.sites;
  default = numbers_of draft.sites draft.default;
  capacity = size_of draft.capacity;
  place = map (placed_at draft.sites) draft.place;
}

-- the placement, or the first rule that the draft breaks
unfoldable pub ruled : Draft → Result PlaceView PlaceError
ruled draft =
    if is_in_range draft
    then (if names_differ draft
    then (if names_are_known draft
    then Ok (stated draft)
    else Err UnknownSite)
    else Err DuplicateSite)
    else Err OutOfRange
