-- The most tokens that stand next to one another without a semicolon.
use Rattle.std.proofs.Common.{◌≡◌, ◌≤◌, ◌+◌, ℕ, max, Bool, true, false, cond, List, [], ◌∷◌, ◌++◌, length, map, refl, ap, sym, subst, ◌∙◌, arith, append_assoc, length-append, if◌then◌else◌}
use Rattle.std.proofs.lemmas.Bool.{and_parts}
use Rattle.std.proofs.lemmas.List.Folds.{list_all-append}
use Rattle.lusyn_grammar.specs.Tokens.{Tok}
use Rattle.lusyn_grammar.specs.Lexing.{Placed}
use Rattle.lusyn_grammar.specs.Runs.{is_of_run, are_of_run, HasShortRuns}

-- in this list, behind so many tokens of its first run
abbrev pub peak : ℕ → List Tok → ℕ
peak k [] = k
peak k (t ∷ ts) = if is_of_run t then peak (k + 1) ts else max k (peak 0 ts)

by_test : (P : ℕ → Type 0) (b : Bool) (x y : ℕ) → (b ≡ true → P x) → (b ≡ false → P y) → P (cond b x y)
by_test P true x y held failed = held refl
by_test P false x y held failed = failed refl

pub peak-within : (k : ℕ) (ts : List Tok) → k ≤ peak k ts
peak-within k [] = omega arith
peak-within k (t ∷ ts) =
    let more : k + 1 ≤ peak (k + 1) ts = peak-within (k + 1) ts in
    by_test (λ n. k ≤ n) (is_of_run t) (peak (k + 1) ts) (max k (peak 0 ts)) (λ e. omega arith) (λ e. omega arith)

both_ways : (b : Bool) (j k m n o : ℕ) → j ≤ k → m ≤ n → cond b m (max j o) ≤ cond b n (max k o)
both_ways true j k m n o h more = more
both_ways false j k m n o h more = omega arith

pub peak-mono : (j k : ℕ) (ts : List Tok) → j ≤ k → peak j ts ≤ peak k ts
peak-mono j k [] h = h
peak-mono j k (t ∷ ts) h = both_ways (is_of_run t) j k (peak (j + 1) ts) (peak (k + 1) ts) (peak 0 ts) h (peak-mono (j + 1) (k + 1) ts (omega arith))

-- a list without its first token has no higher peak
pub peak-tail : (k : ℕ) (t : Tok) (ts : List Tok) → peak 0 ts ≤ peak k (t ∷ ts)
peak-tail k t ts =
    let more : peak 0 ts ≤ peak (k + 1) ts = peak-mono 0 (k + 1) ts (omega arith) in
    by_test (λ n. peak 0 ts ≤ n) (is_of_run t) (peak (k + 1) ts) (max k (peak 0 ts)) (λ e. more) (λ e. omega arith)

pub peak-of_run : (k : ℕ) (t : Tok) (ts : List Tok) → is_of_run t ≡ true → peak k (t ∷ ts) ≡ peak (k + 1) ts
peak-of_run k t ts e = ap (λ (b : Bool). cond b (peak (k + 1) ts) (max k (peak 0 ts))) e

-- ---- no run is longer than 1,000 exactly where the peak is no higher

abbrev of : List Placed → List Tok
of = map (λ x. x.1)

one_more : (run : List Placed) (x : Placed) → are_of_run run ≡ true → is_of_run x.1 ≡ true → are_of_run (run ++ x ∷ []) ≡ true
one_more run x h e = list_all-append (λ (y : Placed). is_of_run y.1) run (x ∷ []) ∙ rw (h, e) refl

short_peak : (all front run ts : List Placed) → HasShortRuns all → front ++ (run ++ ts) ≡ all → are_of_run run ≡ true → peak (length run) (of ts) ≤ 1000
short_peak all front run [] short same h = short front run [] same h
short_peak all front run (x ∷ ts) short same h =
    by_test (λ n. n ≤ 1000) (is_of_run x.1) (peak (length run + 1) (of ts)) (max (length run) (peak 0 (of ts)))
    (λ e.
    let size : length (run ++ x ∷ []) ≡ length run + 1 = length-append run (x ∷ []) in
    let P : ℕ → Type 0 = λ n. peak n (of ts) ≤ 1000 in
    subst P size (short_peak all front (run ++ x ∷ []) ts short (ap (λ (zs : List Placed). front ++ zs) (append_assoc run (x ∷ []) ts) ∙ same) (one_more run x h e)))
    (λ e.
    let here : length run ≤ 1000 = short front run (x ∷ ts) same h in
    let there : peak 0 (of ts) ≤ 1000 = short_peak all (front ++ (run ++ x ∷ [])) [] ts short (append_assoc front (run ++ x ∷ []) ts ∙ ap (λ (zs : List Placed). front ++ zs) (append_assoc run (x ∷ []) ts) ∙ same) refl in
    omega arith)

pub short-peak : (ts : List Placed) → HasShortRuns ts → peak 0 (of ts) ≤ 1000
short-peak ts short = short_peak ts [] [] ts short refl refl

run_peak : (k : ℕ) (run rest : List Placed) → are_of_run run ≡ true → k + length run ≤ peak k (of (run ++ rest))
run_peak k [] rest h = let within : k ≤ peak k (of rest) = peak-within k (of rest) in omega arith
run_peak k (x ∷ run) rest h =
    let parts = and_parts (is_of_run x.1) (are_of_run run) h in
    let more : (k + 1) + length run ≤ peak (k + 1) (of (run ++ rest)) = run_peak (k + 1) run rest parts.1 in
    let same : peak k (of (x ∷ (run ++ rest))) ≡ peak (k + 1) (of (run ++ rest)) = peak-of_run k x.1 (of (run ++ rest)) parts.0 in
    omega (arith, more, same)

front_peak : (front run rest : List Placed) (k : ℕ) → are_of_run run ≡ true → peak k (of (front ++ (run ++ rest))) ≤ 1000 → length run ≤ 1000
front_peak [] run rest k h low = let more : k + length run ≤ peak k (of (run ++ rest)) = run_peak k run rest h in omega arith
front_peak (x ∷ front) run rest k h low =
    let tail : peak 0 (of (front ++ (run ++ rest))) ≤ peak k (of (x ∷ (front ++ (run ++ rest)))) = peak-tail k x.1 (of (front ++ (run ++ rest))) in
    front_peak front run rest 0 h (omega (arith, tail, low))

pub peak-short : (ts : List Placed) → peak 0 (of ts) ≤ 1000 → HasShortRuns ts
peak-short ts low = λ front run rest same h. let P : List Placed → Type 0 = λ us. peak 0 (of us) ≤ 1000 in front_peak front run rest 0 h (subst P (sym same) low)
