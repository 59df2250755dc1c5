-- What holds of every draft.
use Rattle.std.proofs.Common.{◌≡◌, ℕ, ◌≤◌, List, [], ◌∷◌, length, Option, Some, None, Bool, true, false, Ok, refl, subst, All, arith}
use Rattle.std.specs.Prelude.{codes, if◌then◌else◌}
use Rattle.std.proofs.lemmas.List.Elements.{All-nil, All-cons}
use Rattle.toml.specs.Data.{Data, string, integer, float, boolean, datetime, array, table, Items, no_items, item, Members, no_members, member, get_member, as_str, as_array, as_table}
use Rattle.luplace_file.specs.declared.choice.Version.{Version}
use Rattle.luplace_file.specs.declared.draft.Draft.{Draft}
use Rattle.luplace_file.specs.declared.draft.Wanted.{Wanted}
use Rattle.luplace_file.specs.Answers.{or_bad_key}
use Rattle.luplace_file.specs.SiteName.{is_site_name}
use Rattle.luplace_file.specs.Keys.{◌>>=◌, are_keys, name_in, names_in, texts_in, some_texts_in, may_have_arrays, choice_in, entries_in, version_in, sites_in, default_in, capacity_in, place_in}
use Rattle.luplace_file.specs.Draft.{draft_at, draft_of, IsDraft}
use Rattle.luplace_file.proofs.Walks.{reported_some}

from_bind : {A B : Type 0} (o : Option A) (f : A → Option B) (y : B) → (o >>= f) ≡ Some y → (x : A) × (o ≡ Some x) × (f x ≡ Some y)
from_bind None f y e = absurd cc
from_bind (Some x) f y e = (x, refl, e)

from_if : {A : Type 0} (b : Bool) (o : Option A) (x : A) → (if b then o else None) ≡ Some x → o ≡ Some x
from_if true o x is = is
from_if false o x is = absurd cc

-- ---- the names of the sites

abbrev IsNamed : List (List ℕ) → Type 0
IsNamed sites = All (λ site. is_site_name site ≡ true) sites

picked : (text name : List ℕ) (b : Bool) → is_site_name text ≡ b → (if b then Some text else None) ≡ Some name → is_site_name name ≡ true
picked text name true e is = let same : text ≡ name = cc in subst (λ (t : List ℕ). is_site_name t ≡ true) same e
picked text name false e is = absurd cc

named_one : (value : Data) (name : List ℕ) → name_in value ≡ Some name → is_site_name name ≡ true
named_one value name is =
    let text = from_bind (as_str value) (λ (t : List ℕ). if is_site_name t then Some t else None) name is in
    picked text.0 name (is_site_name text.0) refl text.2

named_all : (values : Items) (names : List (List ℕ)) → names_in values ≡ Some names → IsNamed names
named_all no_items names is = let same : [] ≡ names = cc in subst IsNamed same (All-nil (λ (s : List ℕ). is_site_name s ≡ true))
named_all (item value rest) names is =
    let one = from_bind (name_in value) (λ (name : List ℕ). names_in rest >>= λ others. Some (name ∷ others)) names is in
    let others = from_bind (names_in rest) (λ (xs : List (List ℕ)). Some (one.0 ∷ xs)) names one.2 in
    let made = others.2 in
    let same : one.0 ∷ others.0 ≡ names = cc in
    subst IsNamed same (All-cons (λ (s : List ℕ). is_site_name s ≡ true) one.0 others.0 (named_one value one.0 one.1) (named_all rest others.0 others.1))

named_sites : (value : Option Data) (names : List (List ℕ)) → sites_in value ≡ Some names → IsNamed names
named_sites None names is = absurd cc
named_sites (Some value) names is =
    let items = from_bind (as_array value) names_in names is in
    named_all items.0 names items.2

-- ---- each variable stands somewhere

abbrev IsSome : List (List ℕ) → Type 0
IsSome sites = 1 ≤ length sites

some_texts : (texts : Items) (sites : List (List ℕ)) → some_texts_in texts ≡ Some sites → IsSome sites
some_texts no_items sites is = absurd cc
some_texts (item first rest) sites is =
    let one = from_bind (as_str first) (λ (text : List ℕ). texts_in rest >>= λ others. Some (text ∷ others)) sites is in
    let others = from_bind (texts_in rest) (λ (xs : List (List ℕ)). Some (one.0 ∷ xs)) sites one.2 in
    let made = others.2 in
    let same : one.0 ∷ others.0 ≡ sites = cc in
    subst IsSome same (omega arith)

some_choice : (version : Version) (value : Data) (sites : List (List ℕ)) → choice_in version value ≡ Some sites → IsSome sites
some_choice version (string text) sites is = let same : text ∷ [] ≡ sites = cc in subst IsSome same (omega arith)
some_choice version (array texts) sites is = some_texts texts sites (from_if (may_have_arrays version) (some_texts_in texts) sites is)
some_choice version (integer z) sites is = absurd cc
some_choice version (float x) sites is = absurd cc
some_choice version (boolean b) sites is = absurd cc
some_choice version (datetime d) sites is = absurd cc
some_choice version (table ms) sites is = absurd cc

abbrev Stand : List Wanted → Type 0
Stand entries = All (λ wanted. 1 ≤ length wanted.sites) entries

some_entries : (version : Version) (values : Members) (entries : List Wanted) → entries_in version values ≡ Some entries → Stand entries
some_entries version no_members entries is = let same : [] ≡ entries = cc in subst Stand same (All-nil (λ (w : Wanted). 1 ≤ length w.sites))
some_entries version (member key value rest) entries is =
    let one = from_bind (choice_in version value) (λ (sites : List (List ℕ)). entries_in version rest >>= λ others. Some (record { variable = key; sites = sites } ∷ others)) entries is in
    let wanted : Wanted = record { variable = key; sites = one.0 } in
    let others = from_bind (entries_in version rest) (λ (xs : List Wanted). Some (wanted ∷ xs)) entries one.2 in
    let made = others.2 in
    let same : wanted ∷ others.0 ≡ entries = cc in
    subst Stand same (All-cons (λ (w : Wanted). 1 ≤ length w.sites) wanted others.0 (some_choice version value one.0 one.1) (some_entries version rest others.0 others.1))

some_place : (version : Version) (value : Option Data) (entries : List Wanted) → place_in version value ≡ Some entries → Stand entries
some_place version None entries is = let same : [] ≡ entries = cc in subst Stand same (All-nil (λ (w : Wanted). 1 ≤ length w.sites))
some_place version (Some value) entries is =
    let values = from_bind (as_table value) (entries_in version) entries is in
    some_entries version values.0 entries values.2

-- ---- the draft

drafted_at : (version : Version) (keys : Members) (draft : Draft) → draft_at version keys ≡ Some draft → IsDraft draft
unfolding draft_at
drafted_at version keys draft is =
    let sites = from_bind (sites_in (get_member (codes "sites") keys)) _ draft is in
    let default = from_bind (default_in version (get_member (codes "default") keys)) _ draft sites.2 in
    let capacity = from_bind (capacity_in (get_member (codes "capacity") keys)) _ draft default.2 in
    let place = from_bind (place_in version (get_member (codes "place") keys)) _ draft capacity.2 in
    let made = place.2 in
    let same_sites : sites.0 ≡ draft.sites = cc in
    let same_place : place.0 ≡ draft.place = cc in
    record {
      named = subst IsNamed same_sites (named_sites (get_member (codes "sites") keys) sites.0 sites.1);
      somewhere = subst Stand same_place (some_place version (get_member (codes "place") keys) place.0 place.1);
    }

pub drafted : (keys : Members) (draft : Draft) → or_bad_key (draft_of keys) ≡ Ok draft → IsDraft draft
unfolding draft_of
drafted keys draft reported =
    let is = reported_some (draft_of keys) draft reported in
    let read = from_if (are_keys keys) _ draft is in
    let version = from_bind (version_in (get_member (codes "version") keys)) _ draft read in
    drafted_at version.0 keys draft version.2
