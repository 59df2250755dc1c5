-- Reports of stations, in any order: whose they are, and whether each site is there once.
use Rattle.std.proofs.Common.{get_or, Option, None, ◌≡◌, ◌≢◌, ℕ, suc, ◌+◌, ◌<◌, ◌≤◌, Bool, true, false, ◌&&◌, cond, nat_eq, List, [], ◌∷◌, length, map, filter, Some, refl, sym, ap, ap₂, ◌∙◌, subst, arith, inl, inr}
use Rattle.std.specs.Prelude.{slice_get, nat_lt}
use Rattle.std.specs.List.{range_with_len, list_all, sum_by}
use Rattle.std.specs.List.Sorted.{IsPermutation}
use Rattle.std.specs.Option.{option_map}
use Rattle.std.proofs.lemmas.Bool.{cases_eq, cases_lt, eq-eqb, ne_eqb, lt-ltb}
use Rattle.std.proofs.lemmas.List.{length-map}
use Rattle.std.proofs.lemmas.List.Elements.{All-map}
use Rattle.std.proofs.lemmas.List.FromFn.{get_or-range_with_len, length-range_with_len}
use Rattle.std.proofs.lemmas.List.Sorted.{length_permutation, All-permutation, IsPermutation-map, sum_by-IsPermutation}
use Rattle.std.proofs.lemmas.List.Sums.{sum_by-cons, list_all-from_AllPass}
use Rattle.std.proofs.lemmas.Option.{slice_get-map}
use Rattle.luworld.specs.Needs.{sites_of}
use Rattle.luworld.specs.Jobs.{JobView}
use Rattle.lusite.specs.Sites.{SiteView}
use Rattle.lurun.specs.Reports.{AreReportsOfJob, AreComplete, is_of, is_one, are_complete}
use Rattle.lurun.specs.declared.engine.Engine.{Engine}
use Rattle.lurun.specs.Stations.{StationView, ReportView, AllGoBy, AreLeft, AreOf, AreReportsOf, AreStations, IsStationOf, site_at, sites_at, place_of, places}
use Rattle.lurun.proofs.Lists.{all_at, all_from}

-- ---- one order or another

abbrev one_at : ℕ → JobView × ℕ → ℕ
one_at s p = cond (nat_eq p.1 s) 1 0

counted_one : (b : Bool) (x : SiteView) (rest : List SiteView) → length (cond b (x ∷ rest) rest) ≡ cond b 1 0 + length rest
counted_one true x rest = omega arith
counted_one false x rest = omega arith

counted : (s : ℕ) (xs : List SiteView) → length (filter (is_of s) xs) ≡ sum_by (one_at s) (map place_of xs)
counted s [] = refl
counted s (x ∷ xs) =
    counted_one (nat_eq x.site s) x (filter (is_of s) xs) ∙ ap (λ n. cond (nat_eq x.site s) 1 0 + n) (counted s xs) ∙ sym (sum_by-cons (one_at s) (place_of x) (map place_of xs))

same_count : (s : ℕ) (xs ys : List SiteView) → IsPermutation (map place_of xs) (map place_of ys) → length (filter (is_of s) ys) ≡ length (filter (is_of s) xs)
same_count s xs ys p = counted s ys ∙ sum_by-IsPermutation (one_at s) (map place_of xs) (map place_of ys) p ∙ sym (counted s xs)

same_all : (p q : ℕ → Bool) → ((s : ℕ) → p s ≡ q s) → (xs : List ℕ) → list_all p xs ≡ list_all q xs
same_all p q h [] = refl
same_all p q h (x ∷ xs) = ap₂ (λ a b. a && b) (h x) (same_all p q h xs)

same_complete : (n : ℕ) (xs ys : List SiteView) → IsPermutation (map place_of xs) (map place_of ys) → are_complete n ys ≡ are_complete n xs
same_complete n xs ys p =
    let len : length ys ≡ length xs = sym (length-map ys place_of) ∙ length_permutation (map place_of xs) (map place_of ys) p ∙ length-map xs place_of in
    ap₂ (λ (k : ℕ) (b : Bool). nat_lt 0 k && nat_eq k n && b) len (same_all (is_one ys) (is_one xs) (λ s. ap (λ k. nat_eq k 1) (same_count s xs ys p)) (range_with_len 0 n))

places_at : (stations : List StationView) → places stations ≡ map place_of (sites_at stations)
places_at [] = refl
places_at (x ∷ xs) = ap (λ (ps : List (JobView × ℕ)). place_of (site_at x) ∷ ps) (places_at xs)

module _ (job : JobView) (stations : List StationView) (reports : List ReportView) (left : List SiteView) (are : AreReportsOf stations reports) (all : AreLeft reports left) where
  moved : IsPermutation (places stations) (map place_of left)
  moved = subst (IsPermutation (places stations)) (sym all) (IsPermutation-map (λ (s : StationView). place_of (site_at s)) stations (map (λ (r : ReportView). r.of) reports) are)

  -- the reports are of the stations' job
  pub reported_of : AreOf job stations → AreReportsOfJob job left
  reported_of of =
      let every = All-permutation (λ (p : JobView × ℕ). p.0 ≡ job) (places stations) (map place_of left) moved (All-map (λ (p : JobView × ℕ). p.0 ≡ job) (λ (s : StationView). place_of (site_at s)) stations of) in
      all_from (λ (r : SiteView). r.job ≡ job) left (λ k r e. all_at (λ (p : JobView × ℕ). p.0 ≡ job) (map place_of left) k (place_of r) every (slice_get-map place_of left k ∙ ap (option_map place_of) e))

  -- and of each site there is as many
  pub complete_as : are_complete (sites_of job.plan) left ≡ are_complete (sites_of job.plan) (sites_at stations)
  complete_as = same_complete (sites_of job.plan) (sites_at stations) left (subst (λ ps. IsPermutation ps (map place_of left)) (places_at stations) moved)

-- stations of one engine have reports of stations of that
pub engine_of_reports : (engine : Engine) (stations : List StationView) (reports : List ReportView) → AreReportsOf stations reports → AllGoBy engine stations → AllGoBy engine (map (λ (r : ReportView). r.of) reports)
engine_of_reports engine stations reports are all = All-permutation (λ (s : StationView). s.engine ≡ engine) stations (map (λ (r : ReportView). r.of) reports) are all

-- ---- the sites of a job in order

abbrev Numbered : ℕ → List SiteView → Type 0
Numbered a xs = (k : ℕ) (x : SiteView) → slice_get xs k ≡ Some x → x.site ≡ a + k

numbered_on : (a : ℕ) (x : SiteView) (xs : List SiteView) → Numbered a (x ∷ xs) → Numbered (a + 1) xs
numbered_on a x xs h k y e = let z = h (suc k) y e in omega (arith, z)

abbrev kept_if : ℕ → SiteView → List SiteView → Bool → ℕ
kept_if s x xs b = length (cond b (x ∷ filter (is_of s) xs) (filter (is_of s) xs))

none_below : (s a : ℕ) (xs : List SiteView) → Numbered a xs → s < a → length (filter (is_of s) xs) ≡ 0
none_below s a [] h l = refl
none_below s a (x ∷ xs) h l =
    ap (kept_if s x xs) (ne_eqb x.site s (λ e. let z = h 0 x refl in omega (arith, z, e, l))) ∙ none_below s (a + 1) xs (numbered_on a x xs h) (omega (arith, l))

next_of : (a s : ℕ) → a ≤ s → a ≢ s → a + 1 ≤ s
next_of a s le other = elim (cases_lt a s) [
  | inl lt ↦ omega (arith, lt)
  | inr ge ↦ absurd (other (omega (arith, le, ge)))
]

one_there : (s a : ℕ) (xs : List SiteView) → Numbered a xs → a ≤ s → s < a + length xs → length (filter (is_of s) xs) ≡ 1
one_there s a [] h le lt = absurd (omega (arith, le, lt))
one_there s a (x ∷ xs) h le lt = elim (cases_eq a s) [
  | inl is ↦
      let here = ap (kept_if s x xs) (eq-eqb x.site s (let z = h 0 x refl in omega (arith, z, is))) in
      let none = none_below s (a + 1) xs (numbered_on a x xs h) (omega (arith, is)) in
      omega (arith, here, none)
  | inr other ↦
      let away = ap (kept_if s x xs) (ne_eqb x.site s (λ e. let z = h 0 x refl in other (omega (arith, z, e)))) in
      let greater : a + 1 ≤ s = next_of a s le other in
      away ∙ one_there s (a + 1) xs (numbered_on a x xs h) greater (omega (arith, lt))
]

all_there : (n : ℕ) (xs : List SiteView) → length xs ≡ n → 0 < n → Numbered 0 xs → are_complete n xs ≡ true
all_there n xs len some h =
    let each = list_all-from_AllPass (is_one xs) (range_with_len 0 n) (λ k d l. one k d l) in
    ap (λ b. b && nat_eq (length xs) n && list_all (is_one xs) (range_with_len 0 n)) (lt-ltb 0 (length xs) (omega (arith, some, len))) ∙ ap (λ b. b && list_all (is_one xs) (range_with_len 0 n)) (eq-eqb (length xs) n len) ∙ each
  where
    one : (k d : ℕ) → k < length (range_with_len 0 n) → is_one xs (get_or (range_with_len 0 n) k d) ≡ true
    one k d l =
        let lk : k < n = (let m = length-range_with_len 0 n in omega (arith, l, m)) in
        subst (λ s. is_one xs s ≡ true) (sym (get_or-range_with_len 0 n k d lk)) (eq-eqb (length (filter (is_of (0 + k)) xs)) 1 (one_there (0 + k) 0 xs h (omega arith) (omega (arith, lk, len))))

-- the stations of a job are of it, and one of each site
pub stations_of : (job : JobView) (engine : Engine) (stations : List StationView) → AreStations job engine stations → AreOf job stations
stations_of job engine stations are = all_from (λ (s : StationView). s.job ≡ job) stations (λ k s e. (are.each k s e).job_is)

pub stations_by : (job : JobView) (engine : Engine) (stations : List StationView) → AreStations job engine stations → AllGoBy engine stations
stations_by job engine stations are = all_from (λ (s : StationView). s.engine ≡ engine) stations (λ k s e. (are.each k s e).engine_is)

pub stations_complete : (job : JobView) (engine : Engine) (stations : List StationView) → AreStations job engine stations → 0 < sites_of job.plan → AreComplete job (sites_at stations)
stations_complete job engine stations are some =
    all_there (sites_of job.plan) (sites_at stations) (length-map stations site_at ∙ are.len) some numbered
  where
    found : (o : Option StationView) (k : ℕ) (v : SiteView) → slice_get stations k ≡ o → option_map site_at o ≡ Some v → v.site ≡ 0 + k
    found None k v at e = absurd cc
    found (Some s) k v at e = let same : site_at s ≡ v = cc in let z = (are.each k s at).site_is in let y = ap (λ (x : SiteView). x.site) same in omega (arith, z, y)

    numbered : Numbered 0 (sites_at stations)
    numbered k v e = found (slice_get stations k) k v refl (sym (slice_get-map site_at stations k) ∙ e)
