-- The keys of a placement's table, and the value that each may have. None stands where there is no such
-- value.
use Rattle.std.specs.Prelude.{ℕ, ℤ, pos, List, [], ◌∷◌, Bool, true, false, ◌&&◌, ◌||◌, codes, Option, Some}
use Rattle.std.specs.Prelude.{None, if◌then◌else◌}
use Rattle.std.specs.Ordering.{int_eq}
use Rattle.std.specs.Str.{bytes_eq}
use Rattle.lubase.specs.Limits.{usual_capacity}
use Rattle.toml.specs.Data.{Data, string, array, Items, no_items, item, Members, no_members, member, as_str}
use Rattle.toml.specs.Data.{as_integer, as_array, as_table}
use Rattle.luplace_file.specs.declared.draft.Wanted.{Wanted}
use Rattle.luplace_file.specs.declared.choice.Version.{Version}
use Rattle.luplace_file.specs.declared.choice.Version.TheVariants.{One, Two, Other}
use Rattle.luplace_file.specs.SiteName.{is_site_name}

-- the keys that a placement may have
abbrev pub is_key : List ℕ → Bool
is_key key = bytes_eq key (codes "version") || (bytes_eq key (codes "sites")
    || (bytes_eq key (codes "default") || (bytes_eq key (codes "capacity") || bytes_eq key (codes "place"))))

-- the table has no other key
abbrev pub are_keys : Members → Bool
are_keys no_members = true
are_keys (member key value rest) = is_key key && are_keys rest

-- what comes of a value, if there is one
infixl 10 ◌>>=◌
abbrev pub ◌>>=◌ : {A B : Type 0} → Option A → (A → Option B) → Option B
(Some x) >>= f = f x
None >>= f = None

-- ---- the values

-- the site name that a value is
abbrev pub name_in : Data → Option (List ℕ)
name_in value = as_str value >>= λ text. if is_site_name text then Some text else None

-- the site names of an array
abbrev pub names_in : Items → Option (List (List ℕ))
names_in no_items = Some []
names_in (item value rest) = name_in value >>= λ name. names_in rest >>= λ names. Some (name ∷ names)

-- the texts of an array
abbrev pub texts_in : Items → Option (List (List ℕ))
texts_in no_items = Some []
texts_in (item value rest) = as_str value >>= λ text. texts_in rest >>= λ texts. Some (text ∷ texts)

-- the texts of an array that isn't empty
abbrev pub some_texts_in : Items → Option (List (List ℕ))
some_texts_in no_items = None
some_texts_in (item first rest) = texts_in (item first rest)

-- the version that a number is
abbrev pub version_of : ℤ → Version
version_of number = if int_eq number (pos 1) then One else (if int_eq number (pos 2) then Two else Other)

-- a file of version 1 has no array in `default` and `place`
abbrev pub may_have_arrays : Version → Bool
may_have_arrays One = false
may_have_arrays Two = true
may_have_arrays Other = true

-- the sites that a value names, in a file of a version: a text names one, and an array one or more, where the
-- file may have arrays
abbrev pub choice_in : Version → Data → Option (List (List ℕ))
choice_in version (string text) = Some (text ∷ [])
choice_in version (array texts) = if may_have_arrays version then some_texts_in texts else None
choice_in version value = None

-- the sites that each value of a table names, with its key
abbrev pub entries_in : Version → Members → Option (List Wanted)
entries_in version no_members = Some []
entries_in version (member key value rest) = choice_in version value >>= λ sites.
    entries_in version rest >>= λ entries. Some (record { variable = key; sites = sites } ∷ entries)

-- ---- the keys

-- `version`, which is 1 where it is missing
abbrev pub version_in : Option Data → Option Version
version_in None = Some One
version_in (Some value) = as_integer value >>= λ number. Some (version_of number)

-- `sites`, which must be there
abbrev pub sites_in : Option Data → Option (List (List ℕ))
sites_in None = None
sites_in (Some value) = as_array value >>= names_in

-- `default`, which names no site where it is missing
abbrev pub default_in : Version → Option Data → Option (List (List ℕ))
default_in version None = Some []
default_in version (Some value) = choice_in version value

-- `capacity`, which is the usual one where it is missing
abbrev pub capacity_in : Option Data → Option ℤ
capacity_in None = Some (pos usual_capacity)
capacity_in (Some value) = as_integer value

-- `place`, which is empty where it is missing
abbrev pub place_in : Version → Option Data → Option (List Wanted)
place_in version None = Some []
place_in version (Some value) = as_table value >>= entries_in version
