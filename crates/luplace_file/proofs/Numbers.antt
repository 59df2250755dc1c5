-- The numbers of the sites that are named.
use Rattle.std.proofs.Common.{◌≡◌, ℕ, zero, suc, ◌<◌, ◌≤◌, ◌+◌, List, [], ◌∷◌, ◌++◌, length, Bool, true, false, cond, refl, sym, ap, ◌∙◌, arith, All, ◌≢◌}
use Rattle.std.specs.Prelude.{slice_index_or}
use Rattle.std.specs.List.{filter, range_with_len}
use Rattle.std.specs.List.Sorted.{IsStrictlyIncreasing}
use Rattle.std.proofs.lemmas.Bool.{and_parts, false≢true}
use Rattle.std.proofs.lemmas.List.{map-id, append-nil}
use Rattle.std.proofs.lemmas.List.Elements.{filter-append, All-nil, All-cons, All-filter}
use Rattle.std.proofs.lemmas.List.Kept.{IsStrictlyIncreasing-filter}
use Rattle.std.proofs.lemmas.List.FromFn.{map-range_with_len_more, length-range_with_len, get_or-range_with_len}
use Rattle.std.proofs.lemmas.Option.{slice_get_within, get_or_from_slice_get}
use Rattle.luplace_file.specs.Rules.{is_among, are_sites, numbers_of}
use Rattle.luplace_file.specs.Lawful.{AreSites}
use Rattle.luplace_file.proofs.Differing.{among, among_at}

range_more : (n : ℕ) → range_with_len 0 (n + 1) ≡ range_with_len 0 n ++ n ∷ []
range_more n =
    sym (map-id (range_with_len 0 (n + 1))) ∙ map-range_with_len_more (λ (k : ℕ). k) 0 n n (omega arith) ∙ ap (λ ks. ks ++ n ∷ []) (map-id (range_with_len 0 n))

-- one number more, which passes the test or doesn't
filter_more : (p : ℕ → Bool) (n : ℕ) → filter p (range_with_len 0 (n + 1)) ≡ filter p (range_with_len 0 n) ++ cond (p n) (n ∷ []) []
filter_more p n = ap (filter p) (range_more n) ∙ filter-append p (range_with_len 0 n) (n ∷ [])

pub filter_kept : (p : ℕ → Bool) (n : ℕ) → p n ≡ true → filter p (range_with_len 0 n) ++ n ∷ [] ≡ filter p (range_with_len 0 (n + 1))
filter_kept p n e = ap (λ b. filter p (range_with_len 0 n) ++ cond b (n ∷ []) []) (sym e) ∙ sym (filter_more p n)

pub filter_left : (p : ℕ → Bool) (n : ℕ) → p n ≡ false → filter p (range_with_len 0 n) ≡ filter p (range_with_len 0 (n + 1))
filter_left p n e = sym (append-nil (filter p (range_with_len 0 n))) ∙ ap (λ b. filter p (range_with_len 0 n) ++ cond b (n ∷ []) []) (sym e) ∙ sym (filter_more p n)

-- ---- they are sites

range_rises : (n : ℕ) → IsStrictlyIncreasing (range_with_len 0 n)
range_rises n k within =
    let long = length-range_with_len 0 n in
    let here = get_or-range_with_len 0 n k 0 (omega arith) in
    let next = get_or-range_with_len 0 n (k + 1) 0 (omega arith) in
    omega arith

below_from : (a n m : ℕ) → a + n ≤ m → All (λ k. k < m) (range_with_len a n)
below_from a zero m le = All-nil (λ (k : ℕ). k < m)
below_from a (suc n) m le = All-cons (λ (k : ℕ). k < m) a (range_with_len (a + 1) n) (omega arith) (below_from (a + 1) n m (omega arith))

pub numbers_are_sites : (sites names : List (List ℕ)) → AreSites (length sites) (numbers_of sites names)
numbers_are_sites sites names =
    let p : ℕ → Bool = λ site. is_among names (slice_index_or sites site []) in
    let numbers = range_with_len 0 (length sites) in
    record {
      rising = IsStrictlyIncreasing-filter p numbers (range_rises (length sites));
      known = All-filter p (λ (site : ℕ). site < length sites) numbers (below_from 0 (length sites) (length sites) (omega arith));
    }

-- ---- there are some

some_step : (p : ℕ → Bool) (k : ℕ) (rest : List ℕ) (b : Bool) → p k ≡ b → (p k ≡ false → 1 ≤ length (filter p rest)) → 1 ≤ length (cond b (k ∷ filter p rest) (filter p rest))
some_step p k rest true e later = omega arith
some_step p k rest false e later = later e

above : (p : ℕ → Bool) (a k : ℕ) → a ≤ k → p k ≡ true → p a ≡ false → a + 1 ≤ k
above p a k le passes fails =
    let ne : k ≢ a = λ same. false≢true (sym fails ∙ ap p (sym same) ∙ passes) in
    omega (arith, ne)

some_kept : (p : ℕ → Bool) (a n k : ℕ) → a ≤ k → k < a + n → p k ≡ true → 1 ≤ length (filter p (range_with_len a n))
some_kept p a zero k le lt e = absurd (omega arith)
some_kept p a (suc n) k le lt e = some_step p a (range_with_len (a + 1) n) (p a) refl (λ fails. some_kept p (a + 1) n k (above p a k le e fails) (omega arith) e)

pub some_number : (sites names : List (List ℕ)) → 1 ≤ length names → are_sites sites names ≡ true → 1 ≤ length (numbers_of sites names)
some_number sites [] some known = absurd (omega arith)
some_number sites (name ∷ rest) some known =
    let place = among_at sites name (and_parts (is_among sites name) (are_sites sites rest) known).0 in
    let here : slice_index_or sites place.0 [] ≡ name = get_or_from_slice_get sites place.0 name [] place.1 in
    let p : ℕ → Bool = λ site. is_among (name ∷ rest) (slice_index_or sites site []) in
    let passes : p place.0 ≡ true = ap (is_among (name ∷ rest)) here ∙ among (name ∷ rest) name 0 refl in
    let within = slice_get_within sites place.0 name place.1 in
    some_kept p 0 (length sites) place.0 (omega arith) (omega arith) passes
