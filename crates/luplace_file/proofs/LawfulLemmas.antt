-- A draft that keeps the rules says a lawful placement.
use Rattle.std.proofs.Common.{◌≡◌, ◌≢◌, ℕ, ℤ, pos, negsuc, ◌≤◌, List, [], ◌∷◌, length, map, Bool, true, false, not, sym, ◌∙◌, arith, All, AllPairs, nat_le}
use Rattle.std.specs.Prelude.{◌&&◌}
use Rattle.std.specs.List.{list_all, list_any}
use Rattle.std.specs.Str.{bytes_eq}
use Rattle.std.proofs.lemmas.Bool.{and_parts, or_parts, not-true, false≢true, leb-true}
use Rattle.std.proofs.lemmas.List.Elements.{All-nil, All-cons, All-head, All-tail}
use Rattle.std.proofs.lemmas.List.Kept.{AllPairs-cons}
use Rattle.std.proofs.lemmas.Slice.Eq.{bytes_eq-Decides}
use Rattle.luplace_file.specs.declared.draft.Draft.{Draft}
use Rattle.luplace_file.specs.declared.draft.Wanted.{Wanted}
use Rattle.luplace_file.specs.declared.place.Placed.{Placed}
use Rattle.luplace_file.specs.Draft.{IsDraft}
use Rattle.luplace_file.specs.Rules.{is_known, is_capacity, is_site_count, is_in_range, is_among, all_differ, names_differ, are_sites, names_are_known, placed_at, size_of, stated}
use Rattle.luplace_file.specs.Lawful.{AreSites, IsLawful}
use Rattle.luplace_file.proofs.Numbers.{numbers_are_sites, some_number}

none_from : {X : Type 0} (p : X → Bool) (P : X → Type 0) → ((x : X) → p x ≡ false → P x) → (xs : List X) → list_any p xs ≡ false → All P xs
none_from p P each [] e = All-nil P
none_from p P each (x ∷ xs) e =
    let parts = or_parts (p x) (list_any p xs) e in
    All-cons P x xs (each x parts.0) (none_from p P each xs parts.1)

differ : (sites : List (List ℕ)) → all_differ sites ≡ true → AllPairs (λ site other. site ≢ other) sites
differ [] e = λ i j d below within. absurd (omega arith)
differ (site ∷ rest) e =
    let parts = and_parts (not (is_among rest site)) (all_differ rest) e in
    AllPairs-cons (λ (s t : List ℕ). s ≢ t) site rest
    (none_from (λ (other : List ℕ). bytes_eq other site) (λ (other : List ℕ). site ≢ other)
    (λ other ne same. false≢true (sym ne ∙ (bytes_eq-Decides other site).1 (sym same))) rest (not-true (is_among rest site) parts.0))
    (differ rest parts.1)

pub room : (capacity : ℤ) → is_capacity capacity ≡ true → (1 ≤ size_of capacity) × (size_of capacity ≤ 1024)
room (pos n) e = let parts = and_parts (nat_le 1 n) (nat_le n 1024) e in (leb-true 1 n parts.0, leb-true n 1024 parts.1)
room (negsuc n) e = absurd (false≢true e)

-- ---- the entries

entries_are_sites : (sites : List (List ℕ)) (place : List Wanted) → All (λ placed. AreSites (length sites) placed.sites) (map (placed_at sites) place)
entries_are_sites sites [] = All-nil (λ (placed : Placed). AreSites (length sites) placed.sites)
entries_are_sites sites (wanted ∷ rest) =
    All-cons (λ (placed : Placed). AreSites (length sites) placed.sites) (placed_at sites wanted) (map (placed_at sites) rest) (numbers_are_sites sites wanted.sites) (entries_are_sites sites rest)

entries_stand : (sites : List (List ℕ)) (place : List Wanted) → All (λ wanted. 1 ≤ length wanted.sites) place → list_all (λ wanted. are_sites sites wanted.sites) place ≡ true
    → All (λ placed. 1 ≤ length placed.sites) (map (placed_at sites) place)
entries_stand sites [] some known = All-nil (λ (placed : Placed). 1 ≤ length placed.sites)
entries_stand sites (wanted ∷ rest) some known =
    let parts = and_parts (are_sites sites wanted.sites) (list_all (λ (w : Wanted). are_sites sites w.sites) rest) known in
    All-cons (λ (placed : Placed). 1 ≤ length placed.sites) (placed_at sites wanted) (map (placed_at sites) rest)
    (some_number sites wanted.sites (All-head (λ (w : Wanted). 1 ≤ length w.sites) wanted rest some) parts.0)
    (entries_stand sites rest (All-tail (λ (w : Wanted). 1 ≤ length w.sites) wanted rest some) parts.1)

-- ---- the draft

pub in_range_parts : (draft : Draft) → is_in_range draft ≡ true → (is_capacity draft.capacity ≡ true) × (is_site_count (length draft.sites) ≡ true)
in_range_parts draft e =
    let parts = and_parts (is_known draft.version) (is_capacity draft.capacity && is_site_count (length draft.sites)) e in
    and_parts (is_capacity draft.capacity) (is_site_count (length draft.sites)) parts.1

pub few : (draft : Draft) → is_in_range draft ≡ true → length draft.sites ≤ 16
few draft e =
    let count = and_parts (nat_le 1 (length draft.sites)) (nat_le (length draft.sites) 16) (in_range_parts draft e).1 in
    leb-true (length draft.sites) 16 count.1

pub stated_is_lawful : (draft : Draft) → IsDraft draft → is_in_range draft ≡ true → names_differ draft ≡ true → names_are_known draft ≡ true → IsLawful (stated draft)
stated_is_lawful draft drafted ranges distinct known =
    let sizes = in_range_parts draft ranges in
    let count = and_parts (nat_le 1 (length draft.sites)) (nat_le (length draft.sites) 16) sizes.1 in
    let differing = and_parts (all_differ draft.sites) (all_differ draft.default && list_all (λ (w : Wanted). all_differ w.sites) draft.place) distinct in
    let stands = and_parts (are_sites draft.sites draft.default) (list_all (λ (w : Wanted). are_sites draft.sites w.sites) draft.place) known in
    record {
      some_site = leb-true 1 (length draft.sites) count.0;
      few_sites = leb-true (length draft.sites) 16 count.1;
      named = drafted.named;
      sites_differ = differ draft.sites differing.0;
      some_room = (room draft.capacity sizes.0).0;
      little_room = (room draft.capacity sizes.0).1;
      default_known = numbers_are_sites draft.sites draft.default;
      entries_known = entries_are_sites draft.sites draft.place;
      entries_stand = entries_stand draft.sites draft.place drafted.somewhere stands.1;
    }
