-- The owners of variables, looked up by their names.
use Rattle.std.proofs.Common.{◌≡◌, ℕ, suc, Bool, true, false, ◌||◌, cond, List, [], ◌∷◌, ◌++◌, length, map, replicate, Option, Some, None, refl, ap, ◌∙◌}
use Rattle.std.specs.Prelude.{option_map}
use Rattle.std.specs.List.{list_any}
use Rattle.std.specs.Str.{bytes_eq}
use Rattle.lutree.specs.declared.program.Node.{Node}
use Rattle.lutree.specs.declared.program.Declaration.{Declaration}
use Rattle.lutree.specs.Tree.{EquationTree, NodeTree, ProgramTree, node_view}
use Rattle.luflow.specs.declared.form.Flow.{Flow}
use Rattle.lusource.specs.Names.{variables_of, place_of, name_at}
use Rattle.lustat_rules.specs.Scope.{lefts_of, names_of}
use Rattle.lubase.specs.Places.{first_place}
use Rattle.lustat_rules.specs.Scopes.{spellings}
use Rattle.lustat_rules.specs.Faults.{declared_in}
use Rattle.lustat_rules.proofs.Declared.{same_spellings, view_of_declared}
use Rattle.lubase.proofs.Sought.{shifted_first}
use Rattle.lucore_laws.specs.Layout.{owner_of, inner_owners, variable_count, node_owners}
use Rattle.lucore_build.specs.Nodes.{leaders, number_at, owners_found}

later : (v own : ℕ) (vs : List ℕ) (o : Option ℕ) → number_at (v ∷ vs) own (option_map suc o) ≡ number_at vs own o
later v own vs None = refl
later v own vs (Some i) = refl

copy_step : (v own : ℕ) (vs : List ℕ) (o : Option ℕ) (b c : Bool) (other : ℕ) → number_at vs own o ≡ cond c v other → number_at (v ∷ vs) own (cond b (Some 0) (option_map suc o)) ≡ cond (b || c) v other
copy_step v own vs o true c other h = refl
copy_step v own vs o false c other h = later v own vs o ∙ h

copy_found : (v own : ℕ) (xs ys : List (List ℕ)) (vs : List ℕ) (x : List ℕ) →
    number_at (replicate (length xs) v ++ vs) own (first_place (xs ++ ys) x) ≡ cond (list_any (λ y. bytes_eq y x) xs) v (number_at vs own (first_place ys x))
copy_found v own [] ys vs x = refl
copy_found v own (y ∷ xs) ys vs x =
    ap (λ o. number_at (v ∷ (replicate (length xs) v ++ vs)) own (cond (bytes_eq y x) (Some 0) o)) (shifted_first (xs ++ ys) x)
    ∙ copy_step v own (replicate (length xs) v ++ vs) (first_place (xs ++ ys) x) (bytes_eq y x) (list_any (λ y. bytes_eq y x) xs) (number_at vs own (first_place ys x))
    (copy_found v own xs ys vs x)

-- the owner that is looked up is the variable's
owned : (n : NodeTree) (qs : List EquationTree) (x : List ℕ) → number_at (leaders n qs) (place_of (variables_of n) x) (first_place (lefts_of qs) x) ≡ owner_of n qs x
owned n [] x = refl
owned n (q ∷ qs) x =
    let v = place_of (variables_of n) (name_at q.left 0) in
    copy_found v (place_of (variables_of n) x) q.left (lefts_of qs) (leaders n qs) x
    ∙ ap (cond (list_any (λ y. bytes_eq y x) q.left) v) (owned n qs x)

all_owned : (n : NodeTree) (qs : List EquationTree) (xs : List (List ℕ)) → owners_found n (lefts_of qs) (leaders n qs) xs ≡ map (owner_of n qs) xs
all_owned n qs [] = refl
all_owned n qs (x ∷ xs) = ap (λ i. i ∷ owners_found n (lefts_of qs) (leaders n qs) xs) (owned n qs x) ∙ ap (λ is. owner_of n qs x ∷ is) (all_owned n qs xs)

-- the spellings of all variables are their names
declared_names : (n : Node) → spellings (declared_in n) ≡ variables_of (node_view n)
declared_names n = same_spellings (declared_in n) ∙ ap names_of (view_of_declared n)

-- owners that have these parts one behind the other are the node's
pub owners_assembled : (p : ProgramTree) (l : List (List Flow)) (n : Node) (declarations : List Declaration) (names : List (List ℕ)) (known a b c inner : List ℕ) →
    declarations ≡ declared_in n → names ≡ lefts_of (node_view n).equations → known ≡ leaders (node_view n) (node_view n).equations →
    inner ≡ inner_owners p l (node_view n) (node_view n).equations (variable_count p l (node_view n)) →
    a ≡ [] → b ≡ a ++ owners_found (node_view n) names known (spellings declarations) → c ≡ b ++ inner → c ≡ node_owners p l (node_view n)
owners_assembled p l n declarations names known a b c inner is_all is_left is_known is_inner is_a is_b is_c =
    let t = node_view n in
    let qs = t.equations in
    let found = ap (λ ds. owners_found t names known (spellings ds)) is_all ∙ ap (λ xs. owners_found t names known xs) (declared_names n)
    ∙ ap (λ ns. owners_found t ns known (variables_of t)) is_left ∙ ap (λ ks. owners_found t (lefts_of qs) ks (variables_of t)) is_known ∙ all_owned t qs (variables_of t) in
    is_c ∙ ap (λ xs. xs ++ inner) (is_b ∙ ap (λ xs. xs ++ owners_found t names known (spellings declarations)) is_a ∙ found)
    ∙ ap (λ xs. map (owner_of t qs) (variables_of t) ++ xs) is_inner
