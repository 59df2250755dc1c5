-- The names of calls, one behind the other.
use Rattle.std.proofs.Common.{◌≡◌, ◌∙◌, ◌<◌, ◌≤◌, ◌+◌, ◌++◌, ◌∷◌, [], ℕ, zero, suc, List, take, length, get_or, Some, refl, sym, ap, arith, append_assoc}
use Rattle.std.specs.Prelude.{slice_get, codes}
use Rattle.std.specs.Fmt.{decimal}
use Rattle.std.proofs.lemmas.List.{map-append, append-nil, take_more, length-take-le}
use Rattle.lutree.specs.declared.expr.Expr.{Expr}
use Rattle.lutree.specs.Tree.{view, views, trees_of}
use Rattle.lusource.specs.Names.{name_at}
use Rattle.lustat_rules.specs.Naming.{Call, calls_in, calls_in_all}
use Rattle.luinside.specs.Calls.{names_called}
use Rattle.luinside.specs.Names.{steps_from}

-- the name at a place
pub name_at_some : (names : List (List ℕ)) (k : ℕ) (x : List ℕ) → slice_get names k ≡ Some x → name_at names k ≡ x
name_at_some [] k x e = cc
name_at_some (y ∷ names) zero x e = cc
name_at_some (y ∷ names) (suc k) x e = name_at_some names k x e

pub name_at_past : (names : List (List ℕ)) (k : ℕ) → length names ≤ k → name_at names k ≡ []
name_at_past [] k le = refl
name_at_past (y ∷ names) zero le = absurd (omega (arith, le))
name_at_past (y ∷ names) (suc k) le = name_at_past names k (omega (arith, le))

-- THE CALLS OF EXPRESSIONS

abbrev pub called_among : List Expr → List (List ℕ)
called_among es = names_called (calls_in_all (trees_of (views es)))

among_append : (xs ys : List Expr) → called_among (xs ++ ys) ≡ called_among xs ++ called_among ys
among_append [] ys = refl
among_append (x ∷ xs) ys =
    let name = λ (c : Call). c.node in
    map-append name (calls_in (view x)) (calls_in_all (trees_of (views (xs ++ ys)))) ∙ ap (λ r. names_called (calls_in (view x)) ++ r) (among_append xs ys)
    ∙ sym (append_assoc (names_called (calls_in (view x))) (called_among xs) (called_among ys))
    ∙ ap (λ r. r ++ called_among ys) (sym (map-append name (calls_in (view x)) (calls_in_all (trees_of (views xs)))))

among_one : (x : Expr) → called_among (x ∷ []) ≡ names_called (calls_in (view x))
among_one x = ap names_called (append-nil (calls_in (view x)))

pub called_pushed : (old one two : List (List ℕ)) (es : List Expr) (i : ℕ) (e : Expr)
    → i < length es → e ≡ get_or es i e → one ≡ old ++ called_among (take i es) → two ≡ one ++ names_called (calls_in (view e)) → two ≡ old ++ called_among (take (i + 1) es)
called_pushed old one two es i e lt is before now =
    let here = names_called (calls_in (view e)) in
    let more : called_among (take (i + 1) es) ≡ called_among (take i es) ++ here =
    ap called_among (take_more es i e lt ∙ ap (λ x. take i es ++ x ∷ []) (sym is)) ∙ among_append (take i es) (e ∷ []) ∙ ap (λ r. called_among (take i es) ++ r) (among_one e) in
    now ∙ ap (λ r. r ++ here) before ∙ append_assoc old (called_among (take i es)) here ∙ ap (λ r. old ++ r) (sym more)

-- THE STEPS OF AN EQUATION

abbrev pub step : List ℕ → List ℕ → ℕ → List ℕ
step v f n = v ++ (codes "." ++ (f ++ (codes "#" ++ decimal n)))

steps_append : (v : List ℕ) (n : ℕ) (xs ys : List (List ℕ)) → steps_from v n (xs ++ ys) ≡ steps_from v n xs ++ steps_from v (n + length xs) ys
steps_append v n [] ys = let z : n ≡ n + 0 = omega arith in ap (λ m. steps_from v m ys) z
steps_append v n (x ∷ xs) ys =
    let z : suc n + length xs ≡ n + suc (length xs) = omega arith in
    ap (λ l. step v x n ∷ l) (steps_append v (suc n) xs ys ∙ ap (λ m. steps_from v (suc n) xs ++ steps_from v m ys) z)

pub steps_pushed : (old one two : List (List ℕ)) (v : List ℕ) (fs : List (List ℕ)) (k : ℕ) (f name : List ℕ)
    → k < length fs → f ≡ get_or fs k [] → name ≡ step v f (k + 1) → one ≡ old ++ steps_from v 1 (take k fs) → two ≡ one ++ name ∷ [] → two ≡ old ++ steps_from v 1 (take (k + 1) fs)
steps_pushed old one two v fs k f name lt is named before now =
    let here = steps_from v 1 (take k fs) in
    let z : 1 + length (take k fs) ≡ k + 1 = omega (arith, length-take-le k fs) in
    let last : steps_from v (1 + length (take k fs)) (f ∷ []) ≡ name ∷ [] = ap (λ n. step v f n ∷ []) z ∙ ap (λ n. n ∷ []) (sym named) in
    let more : steps_from v 1 (take (k + 1) fs) ≡ here ++ name ∷ [] =
    ap (steps_from v 1) (take_more fs k [] lt ∙ ap (λ x. take k fs ++ x ∷ []) (sym is)) ∙ steps_append v 1 (take k fs) (f ∷ []) ∙ ap (λ l. here ++ l) last in
    now ∙ ap (λ l. l ++ name ∷ []) before ∙ append_assoc old here (name ∷ []) ∙ ap (λ l. old ++ l) (sym more)
