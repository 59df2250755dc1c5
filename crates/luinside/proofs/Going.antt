-- The instances of the calls of one instance, call by call.
use Rattle.std.proofs.Common.{◌≡◌, ◌<◌, ◌≤◌, ◌+◌, ◌-◌, ℕ, zero, suc, List, [], ◌∷◌, ◌++◌, Option, Some, None, length, take, get_or, refl, sym, ap, subst, ◌∙◌, arith, append_assoc}
use Rattle.std.specs.Prelude.{All, slice_get, slice_index}
use Rattle.std.proofs.lemmas.List.{take_more, take_all, append-nil, length-take-le}
use Rattle.lutree.specs.Tree.{NodeTree, ProgramTree}
use Rattle.lucore_laws.specs.Sizes.{size_at, node_size}
use Rattle.lusource.specs.Source.{Path}
use Rattle.luinside.specs.declared.starts.CallStart.{CallStart}
use Rattle.luinside.specs.declared.listing.Instance.{Instance}
use Rattle.luinside.specs.Starts.{starts_in, AreBounds}
use Rattle.luinside.specs.Listing.{each_call, of_node, all_from}
use Rattle.luinside.proofs.Within.{Inside, within_node}

-- what there is of call k, through d further calls at most
abbrev pub inner_of : ProgramTree → List ℕ → ℕ → Path → ℕ → ℕ → CallStart → List Instance
inner_of p counts d path s k c = of_node c.node (λ j. all_from p counts d (path ++ k ∷ []) j (s + c.at))

each_append : (f : ℕ → CallStart → List Instance) (k : ℕ) (xs ys : List CallStart) → each_call f k (xs ++ ys) ≡ each_call f k xs ++ each_call f (k + length xs) ys
each_append f k [] ys = let z : k ≡ k + 0 = omega arith in ap (λ n. each_call f n ys) z
each_append f k (x ∷ xs) ys =
    let z : suc k + length xs ≡ k + suc (length xs) = omega arith in
    ap (λ l. f k x ++ l) (each_append f (suc k) xs ys) ∙ ap (λ n. f k x ++ (each_call f (suc k) xs ++ each_call f n ys)) z
    ∙ sym (append_assoc (f k x) (each_call f (suc k) xs) (each_call f (k + suc (length xs)) ys))

-- one more call
each_more : (f : ℕ → CallStart → List Instance) (cs : List CallStart) (k : ℕ) (d : CallStart) → k < length cs → each_call f 0 (take (k + 1) cs) ≡ each_call f 0 (take k cs) ++ f k (get_or cs k d)
each_more f cs k d lt =
    let z : 0 + length (take k cs) ≡ k = omega (arith, length-take-le k cs) in
    let here = each_call f 0 (take k cs) in
    let c = get_or cs k d in
    ap (each_call f 0) (take_more cs k d lt) ∙ each_append f 0 (take k cs) (c ∷ [])
    ∙ ap (λ l. here ++ l) (append-nil (f (0 + length (take k cs)) c)) ∙ ap (λ n. here ++ f n c) z

pub step : (f : ℕ → CallStart → List Instance) (old mid new more : List Instance) (cs : List CallStart) (k : ℕ) (d : CallStart) → k < length cs → mid ≡ old ++ each_call f 0 (take k cs)
    → new ≡ mid ++ more → more ≡ f k (get_or cs k d) → new ≡ old ++ each_call f 0 (take (k + 1) cs)
step f old mid new more cs k d lt before then is =
    let here = each_call f 0 (take k cs) in
    then ∙ ap (λ l. l ++ more) before ∙ append_assoc old here more ∙ ap (λ l. old ++ (here ++ l)) is ∙ sym (ap (λ l. old ++ l) (each_more f cs k d lt))

-- an instance, and those of all its calls
pub all_calls : (p : ProgramTree) (counts : List ℕ) (d : ℕ) (path : Path) (i s : ℕ) (old mid new : List Instance) (cs : List CallStart) (k : ℕ) → 0 < d → mid ≡ old ++ record { path = path; node = i; start = s } ∷ []
    → cs ≡ starts_in p counts (slice_get p.nodes i) → length cs ≤ k → new ≡ mid ++ each_call (inner_of p counts (d - 1) path s) 0 (take k cs) → new ≡ old ++ all_from p counts d path i s
all_calls p counts zero path i s old mid new cs k lt first are all rest = absurd (omega (arith, lt))
all_calls p counts (suc d) path i s old mid new cs k lt first are all rest =
    let x : Instance = record { path = path; node = i; start = s } in
    let z : suc d - 1 ≡ d = omega arith in
    let each = λ (d : ℕ) (cs : List CallStart). each_call (inner_of p counts d path s) 0 cs in
    rest ∙ ap (λ l. l ++ each (suc d - 1) (take k cs)) first ∙ append_assoc old (x ∷ []) (each (suc d - 1) (take k cs))
    ∙ ap (λ d. old ++ x ∷ each d (take k cs)) z ∙ ap (λ cs. old ++ x ∷ each d cs) (take_all k cs all ∙ are)

-- the instance of a call ends inside the flat list
pub call_fits : (p : ProgramTree) (counts : List ℕ) (i s : ℕ) (cs : List CallStart) (k : ℕ) (d : CallStart) → cs ≡ starts_in p counts (slice_get p.nodes i) → AreBounds p counts
    → s + slice_index counts i ≤ 4096 → k < length cs → s + (get_or cs k d).at + size_at counts (get_or cs k d).node ≤ 4096
call_fits p counts i s cs k d are bounds small lt = go (slice_get p.nodes i) refl cs are lt
  where
    go : (o : Option NodeTree) → slice_get p.nodes i ≡ o → (cs : List CallStart) → cs ≡ starts_in p counts o → k < length cs → s + (get_or cs k d).at + size_at counts (get_or cs k d).node ≤ 4096
    go None e cs same lt = let long = ap length same in absurd (omega (arith, lt, long))
    go (Some n) e cs same lt =
        let b = bounds i n e (omega (arith, small)) in
        let inside = subst (All (Inside p counts (node_size p counts n))) (sym same) (within_node p counts n) k d lt in
        omega (arith, small, b, inside)
