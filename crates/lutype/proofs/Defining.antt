-- Which equations define a variable.
use Rattle.std.proofs.Common.{◌≡◌, ◌∙◌, ◌↔◌, ℕ, zero, suc, ◌+◌, ◌<◌, ◌≤◌, ◌⊎◌, inl, inr, List, [], ◌∷◌, ◌++◌, map, length, get_or, take, Some, refl, sym, ap, subst, arith, length-append, Bor}
use Rattle.std.specs.Prelude.{slice_get, All, Contains}
use Rattle.std.specs.Option.{option_map}
use Rattle.std.proofs.lemmas.Bool.{cases_lt}
use Rattle.std.proofs.lemmas.List.{take_more, map-append, take-map, get_or_append_left, append-nil}
use Rattle.std.proofs.Common.{append_assoc}
use Rattle.std.proofs.Math.Seq.{get_or-append_seam}
use Rattle.std.proofs.lemmas.Grind.{flat_map-append}
use Rattle.std.proofs.lemmas.Option.{slice_get-get_or, slice_get_within, get_or_from_slice_get, slice_get-map}
use Rattle.lutree.specs.declared.program.Equation.{Equation}
use Rattle.lutree.specs.declared.program.Node.{Node}
use Rattle.lutree.specs.Tree.{EquationTree, NodeTree, equation_view, node_view}
use Rattle.lustat_rules.specs.Scope.{IsInput, lefts_of}
use Rattle.lustat_rules.specs.Naming.{DefinesAnew}
use Rattle.lubase.specs.Places.{first_place}
use Rattle.lubase.proofs.Finding.{first_in_middle}
use Rattle.lutype.specs.Starts.{AreStarts, IsAnew}

some_item : {A : Type 0} (x y : A) → Some x ≡ Some y → x ≡ y
some_item x y e = cc

-- what holds of the items before one, and of that one
pub below_item : {A : Type 0} (P : ℕ → A → Type 0) (l : List A) (j : ℕ) (y : A) → slice_get l j ≡ Some y
    → ((k : ℕ) (x : A) → k < j → slice_get l k ≡ Some x → P k x) → P j y
    → (k : ℕ) (x : A) → k < j + 1 → slice_get l k ≡ Some x → P k x
below_item {A} P l j y at h p k x lt there = go (cases_lt k j)
  where
    go : (k < j) ⊎ (j ≤ k) → P k x
    go (inl less) = h k x less there
    go (inr le) =
        let same : k ≡ j = omega (arith, lt, le) in
        let item : x ≡ y = some_item x y (sym there ∙ ap (slice_get l) same ∙ at) in
        subst (λ z. P k z) (sym item) (subst (λ i. P i y) (sym same) p)

-- one equation more
pub lefts_more : (qs : List Equation) (i : ℕ) (q : Equation) → i < length qs → q ≡ get_or qs i q → lefts_of (map equation_view (take (i + 1) qs)) ≡ lefts_of (map equation_view (take i qs)) ++ q.left
lefts_more qs i q lt e =
    ap (λ l. lefts_of (map equation_view l)) (take_more qs i q lt ∙ ap (λ r. take i qs ++ r ∷ []) (sym e))
    ∙ ap lefts_of (map-append equation_view (take i qs) (q ∷ []))
    ∙ flat_map-append (λ (r : EquationTree). r.left) (map equation_view (take i qs)) (equation_view q ∷ [])
    ∙ ap (λ l. lefts_of (map equation_view (take i qs)) ++ l) (append-nil q.left)

pub push_start : (qs : List EquationTree) (n : ℕ) (starts : List ℕ) (s : ℕ) → AreStarts n qs starts → s ≡ length (lefts_of (take n qs)) → AreStarts (n + 1) qs (starts ++ s ∷ [])
push_start qs n starts s h e =
    record {
      count = (let c = h.count in omega (arith, length-append starts (s ∷ []), c));
      at = λ i lt. go i lt (cases_lt i n);
    }
  where
    go : (i : ℕ) → i < n + 1 → (i < n) ⊎ (n ≤ i) → get_or (starts ++ s ∷ []) i 0 ≡ length (lefts_of (take i qs))
    go i lt (inl less) = get_or_append_left starts (s ∷ []) 0 i (let c = h.count in omega (arith, c, less)) ∙ h.at i less
    go i lt (inr le) =
        let same : i ≡ length starts = (let c = h.count in omega (arith, c, lt, le)) in
        let last : i ≡ n = omega (arith, lt, le) in
        ap (λ k. get_or (starts ++ s ∷ []) k 0) same ∙ get_or-append_seam starts s [] 0 ∙ e ∙ ap (λ k. length (lefts_of (take k qs))) (sym last)

length_texts : (names : List (Bor (List ℕ))) → length (map (λ n. n.now) names) ≡ length names
length_texts [] = refl
length_texts (n ∷ names) = ap suc (length_texts names)

pub start_is : (names : List (Bor (List ℕ))) (qs : List Equation) (i : ℕ) → map (λ n. n.now) names ≡ lefts_of (map equation_view (take i qs)) → length names ≡ length (lefts_of (take i (map equation_view qs)))
start_is names qs i e = sym (length_texts names) ∙ ap length (e ∙ ap lefts_of (sym (take-map equation_view i qs)))

-- the row of all left sides round one of them
split_lefts : (qs : List EquationTree) (i : ℕ) (q : EquationTree) → slice_get qs i ≡ Some q → (rest : List (List ℕ)) × (lefts_of qs ≡ lefts_of (take i qs) ++ (q.left ++ rest))
split_lefts [] i q h = absurd (cc)
split_lefts (r ∷ qs) zero q h =
    let same : r ≡ q = some_item r q h in
    (lefts_of qs, ap (λ (p : EquationTree). p.left ++ lefts_of qs) same)
split_lefts (r ∷ qs) (suc i) q h =
    let s = split_lefts qs i q h in
    (s.0, ap (λ l. r.left ++ l) s.1 ∙ sym (append_assoc r.left (lefts_of (take i qs)) (q.left ++ s.0)))

at_item : (P : List ℕ → Type 0) (l : List (List ℕ)) (j : ℕ) (x : List ℕ) → All P l → slice_get l j ≡ Some x → P x
at_item P l j x all at = subst P (get_or_from_slice_get l j x x at) (all j x (slice_get_within l j x at))

pub anew : (n : NodeTree) (i : ℕ) (q : EquationTree) → slice_get n.equations i ≡ Some q
    → ((j : ℕ) (x : List ℕ) → slice_get q.left j ≡ Some x → IsAnew n (lefts_of n.equations) (length (lefts_of (take i n.equations)) + j) x) ↔ DefinesAnew n i q
anew n i q at = (
  λ h. record {
    once = λ j x there. ((middle j x there).0 (h j x there).0).1;
    first = λ k d lt. ((middle k (get_or q.left k d) (slice_get-get_or q.left k d lt)).0 (h k (get_or q.left k d) (slice_get-get_or q.left k d lt)).0).0;
    no_input = λ k d lt. (h k (get_or q.left k d) (slice_get-get_or q.left k d lt)).1;
  },
  λ d j x there. (
    (middle j x there).1 (at_item (λ x. ¬ Contains (lefts_of (take i n.equations)) x) q.left j x d.first there, d.once j x there),
    at_item (λ x. ¬ IsInput n x) q.left j x d.no_input there,
  ),
)
  where
    middle : (j : ℕ) (x : List ℕ) → slice_get q.left j ≡ Some x
        → (first_place (lefts_of n.equations) x ≡ Some (length (lefts_of (take i n.equations)) + j)) ↔ ((¬ Contains (lefts_of (take i n.equations)) x) × (¬ Contains (take j q.left) x))
    middle j x there =
        let s = split_lefts n.equations i q at in
        subst (λ row. (first_place row x ≡ Some (length (lefts_of (take i n.equations)) + j)) ↔ ((¬ Contains (lefts_of (take i n.equations)) x) × (¬ Contains (take j q.left) x)))
        (sym s.1)
        (first_in_middle (lefts_of (take i n.equations)) q.left s.0 x j there)

-- the same of a node in memory
pub anew_in : (n : Node) (i : ℕ) (q : Equation) (row : List (List ℕ)) (start : ℕ) → slice_get n.equations i ≡ Some q
    → row ≡ lefts_of (map equation_view n.equations) → start ≡ length (lefts_of (take i (map equation_view n.equations)))
    → ((j : ℕ) (x : List ℕ) → slice_get q.left j ≡ Some x → IsAnew (node_view n) row (start + j) x) ↔ DefinesAnew (node_view n) i (equation_view q)
anew_in n i q row start at same begins =
    let law = anew (node_view n) i (equation_view q) (slice_get-map equation_view n.equations i ∙ ap (option_map equation_view) at) in (
      λ h. law.0 (λ j x there. subst (λ s. IsAnew (node_view n) (lefts_of (map equation_view n.equations)) (s + j) x) begins (subst (λ r. IsAnew (node_view n) r (start + j) x) same (h j x there))),
      λ d j x there. subst (λ r. IsAnew (node_view n) r (start + j) x) (sym same) (subst (λ s. IsAnew (node_view n) (lefts_of (map equation_view n.equations)) (s + j) x) (sym begins) (law.1 d j x there)),
    )
