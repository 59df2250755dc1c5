-- Names that are pushed, expression by expression.
use Rattle.std.proofs.Common.{◌≡◌, ◌∙◌, ◌<◌, ◌+◌, ◌++◌, ◌∷◌, [], ℕ, List, take, length, get_or, refl, sym, ap, append_assoc}
use Rattle.std.proofs.lemmas.List.{map-append, append-nil, take_more}
use Rattle.lutree.specs.declared.expr.Expr.{Expr}
use Rattle.lutree.specs.Tree.{Tree, Trees, view, views, trees_of}
use Rattle.lutree.specs.Tree as tree
use Rattle.lustat_rules.specs.Naming.{Call, names_in, names_in_all, calls_in, calls_in_all}
use Rattle.lustat_warn.specs.Scans.{nodes_in, nodes_in_all}

-- what is said of several expressions joins what is said of each
abbrev Joins : (Tree → List (List ℕ)) → (Trees → List (List ℕ)) → Type 0
Joins f g = (g tree.none ≡ []) × ((x : Tree) (xs : Trees) → g (tree.more x xs) ≡ f x ++ g xs)

names_join : Joins names_in names_in_all
names_join = (refl, λ x xs. refl)

nodes_join : Joins nodes_in nodes_in_all
nodes_join = (refl, λ x xs. map-append (λ (c : Call). c.node) (calls_in x) (calls_in_all xs))

all_append : (f : Tree → List (List ℕ)) (g : Trees → List (List ℕ)) → Joins f g → (xs ys : List Expr) → g (trees_of (views (xs ++ ys))) ≡ g (trees_of (views xs)) ++ g (trees_of (views ys))
all_append f g joins [] ys = ap (λ r. r ++ g (trees_of (views ys))) (sym joins.0)
all_append f g joins (x ∷ xs) ys =
    joins.1 (view x) (trees_of (views (xs ++ ys))) ∙ ap (λ r. f (view x) ++ r) (all_append f g joins xs ys)
    ∙ sym (append_assoc (f (view x)) (g (trees_of (views xs))) (g (trees_of (views ys)))) ∙ ap (λ r. r ++ g (trees_of (views ys))) (sym (joins.1 (view x) (trees_of (views xs))))

one_of : (f : Tree → List (List ℕ)) (g : Trees → List (List ℕ)) → Joins f g → (x : Expr) → g (trees_of (views (x ∷ []))) ≡ f (view x)
one_of f g joins x = joins.1 (view x) tree.none ∙ ap (λ r. f (view x) ++ r) joins.0 ∙ append-nil (f (view x))

pushed_more : (f : Tree → List (List ℕ)) (g : Trees → List (List ℕ)) → Joins f g → (old one two : List (List ℕ)) (es : List Expr) (i : ℕ) (e : Expr)
    → i < length es → e ≡ get_or es i e → one ≡ old ++ g (trees_of (views (take i es))) → two ≡ one ++ f (view e) → two ≡ old ++ g (trees_of (views (take (i + 1) es)))
pushed_more f g joins old one two es i e lt is before now =
    let more : g (trees_of (views (take (i + 1) es))) ≡ g (trees_of (views (take i es))) ++ f (view e) =
    ap (λ xs. g (trees_of (views xs))) (take_more es i e lt) ∙ all_append f g joins (take i es) (get_or es i e ∷ [])
    ∙ ap (λ r. g (trees_of (views (take i es))) ++ r) (one_of f g joins (get_or es i e) ∙ ap (λ x. f (view x)) (sym is)) in
    now ∙ ap (λ r. r ++ f (view e)) before ∙ append_assoc old (g (trees_of (views (take i es)))) (f (view e)) ∙ ap (λ r. old ++ r) (sym more)

pub names_pushed : (old one two : List (List ℕ)) (es : List Expr) (i : ℕ) (e : Expr)
    → i < length es → e ≡ get_or es i e → one ≡ old ++ names_in_all (trees_of (views (take i es))) → two ≡ one ++ names_in (view e) → two ≡ old ++ names_in_all (trees_of (views (take (i + 1) es)))
names_pushed = pushed_more names_in names_in_all names_join

pub nodes_pushed : (old one two : List (List ℕ)) (es : List Expr) (i : ℕ) (e : Expr)
    → i < length es → e ≡ get_or es i e → one ≡ old ++ nodes_in_all (trees_of (views (take i es))) → two ≡ one ++ nodes_in (view e) → two ≡ old ++ nodes_in_all (trees_of (views (take (i + 1) es)))
nodes_pushed = pushed_more nodes_in nodes_in_all nodes_join
