-- What expressions and equations call.
use Rattle.std.proofs.Common.{◌≡◌, ◌<◌, ◌+◌, ℕ, List, [], ◌∷◌, ◌++◌, map, length, take, get_or, refl, sym, ap, ◌∙◌, append_assoc}
use Rattle.std.specs.Prelude.{Option, flat_map, Vec, Box}
use Rattle.std.specs.Global.{Global}
use Rattle.std.specs.List.{filter_map}
use Rattle.std.proofs.lemmas.List.{map-append, append-nil, take_more}
use Rattle.std.proofs.lemmas.List.Elements.{filter_map-append}
use Rattle.std.proofs.lemmas.Grind.{flat_map-append}
use Rattle.lutree.specs.declared.expr.Infix.{Infix}
use Rattle.lutree.specs.declared.expr.Pattern.{Pattern}
use Rattle.lutree.specs.declared.expr.Expr.{Expr}
use Rattle.lutree.specs.declared.expr.Expr.TheVariants as variant
use Rattle.lutree.specs.declared.program.Equation.{Equation}
use Rattle.lutree.specs.declared.program.Node.{Node}
use Rattle.lutree.specs.Tree.{Tree, EquationTree, ProgramTree, view, views, trees_of, list_of, equation_view, node_view}
use Rattle.lutree.proofs.Views.{viewed-Binary, viewed-If, viewed-Merge, viewed-Call}
use Rattle.lustat_rules.specs.Naming.{Call, calls_in, calls_in_all, called_by}
use Rattle.lutype.specs.CallGraph.{names_called, places_called}

-- the places that a look-up finds for calls
abbrev pub found_for : (List ℕ → Option ℕ) → List Call → List ℕ
found_for look cs = filter_map look (map (λ (c : Call). c.node) cs)

pub found_joined : (look : List ℕ → Option ℕ) (cs ds : List Call) → found_for look (cs ++ ds) ≡ found_for look cs ++ found_for look ds
found_joined look cs ds =
    ap (filter_map look) (map-append (λ (c : Call). c.node) cs ds) ∙ filter_map-append look (map (λ (c : Call). c.node) cs) (map (λ (c : Call). c.node) ds)

-- the calls of an expression, by its form

pub calls-Binary : (op : Infix) (a b : Box Expr Global) → calls_in (view (variant.Binary op a b)) ≡ calls_in (view a.value) ++ calls_in (view b.value)
calls-Binary op a b = ap calls_in (viewed-Binary op a b)

pub calls-Merge : (c : List ℕ) (ps : Box (List Pattern) Global) (es : Vec Expr Global) → calls_in (view (variant.Merge c ps es)) ≡ calls_in_all (trees_of (views es.items))
calls-Merge c ps es = ap calls_in (viewed-Merge c ps es)

pub calls-If : (c a b : Box Expr Global) → calls_in (view (variant.If c a b)) ≡ calls_in (view c.value) ++ (calls_in (view a.value) ++ calls_in (view b.value))
calls-If c a b = ap calls_in (viewed-If c a b)

-- one call
abbrev pub call_of : List ℕ → List Expr → Call
call_of f es = record { node = f; arguments = length (list_of (trees_of (views es))) }

pub calls-Call : (f : List ℕ) (es : Vec Expr Global) → calls_in (view (variant.Call f es)) ≡ calls_in_all (trees_of (views es.items)) ++ call_of f es.items ∷ []
calls-Call f es = ap calls_in (viewed-Call f es)

-- what is pushed for calls, and then for others
pub pushed_both : (look : List ℕ → Option ℕ) (row one two : List ℕ) (cs ds : List Call) → one ≡ row ++ found_for look cs → two ≡ one ++ found_for look ds →
    two ≡ row ++ found_for look (cs ++ ds)
pushed_both look row one two cs ds e f =
    f ∙ ap (λ r. r ++ found_for look ds) e ∙ append_assoc row (found_for look cs) (found_for look ds) ∙ ap (λ r. row ++ r) (sym (found_joined look cs ds))

all_append : (xs ys : List Expr) → calls_in_all (trees_of (views (xs ++ ys))) ≡ calls_in_all (trees_of (views xs)) ++ calls_in_all (trees_of (views ys))
all_append [] ys = refl
all_append (x ∷ xs) ys =
    ap (λ r. calls_in (view x) ++ r) (all_append xs ys) ∙ sym (append_assoc (calls_in (view x)) (calls_in_all (trees_of (views xs))) (calls_in_all (trees_of (views ys))))

all_more : (es : List Expr) (i : ℕ) (e : Expr) → i < length es → e ≡ get_or es i e →
    calls_in_all (trees_of (views (take (i + 1) es))) ≡ calls_in_all (trees_of (views (take i es))) ++ calls_in (view e)
all_more es i e lt is =
    ap (λ xs. calls_in_all (trees_of (views xs))) (take_more es i e lt) ∙ all_append (take i es) (get_or es i e ∷ [])
    ∙ ap (λ r. calls_in_all (trees_of (views (take i es))) ++ r) (append-nil (calls_in (view (get_or es i e))) ∙ ap (λ x. calls_in (view x)) (sym is))

-- one more argument
pub argument_pushed : (look : List ℕ → Option ℕ) (row one two : List ℕ) (es : List Expr) (i : ℕ) (e : Expr) → i < length es → e ≡ get_or es i e →
    one ≡ row ++ found_for look (calls_in_all (trees_of (views (take i es)))) → two ≡ one ++ found_for look (calls_in (view e)) →
    two ≡ row ++ found_for look (calls_in_all (trees_of (views (take (i + 1) es))))
argument_pushed look row one two es i e lt is before now =
    pushed_both look row one two (calls_in_all (trees_of (views (take i es)))) (calls_in (view e)) before now ∙ ap (λ cs. row ++ found_for look cs) (sym (all_more es i e lt is))

-- one more equation
abbrev calls_by : Equation → List (List ℕ)
calls_by q = names_called (view q.right)

pub equation_pushed : (look : List ℕ → Option ℕ) (one two : List ℕ) (qs : List Equation) (i : ℕ) (q : Equation) → i < length qs → q ≡ get_or qs i q →
    one ≡ filter_map look (flat_map calls_by (take i qs)) → two ≡ one ++ filter_map look (names_called (view q.right)) →
    two ≡ filter_map look (flat_map calls_by (take (i + 1) qs))
equation_pushed look one two qs i q lt is before now =
    let last : flat_map calls_by (get_or qs i q ∷ []) ≡ names_called (view q.right) = append-nil (names_called (view (get_or qs i q).right)) ∙ ap calls_by (sym is) in
    now ∙ ap (λ r. r ++ filter_map look (names_called (view q.right))) before ∙ sym (filter_map-append look (flat_map calls_by (take i qs)) (names_called (view q.right)))
    ∙ ap (filter_map look) (sym (ap (flat_map calls_by) (take_more qs i q lt) ∙ flat_map-append calls_by (take i qs) (get_or qs i q ∷ []) ∙ ap (λ r. flat_map calls_by (take i qs) ++ r) last))

-- all equations of a node
calls_viewed : (qs : List Equation) → flat_map calls_by qs ≡ flat_map (λ (q : EquationTree). names_called q.right) (map equation_view qs)
calls_viewed [] = refl
calls_viewed (q ∷ qs) = ap (λ r. calls_by q ++ r) (calls_viewed qs)

pub all_pushed : (look : List ℕ → Option ℕ) (n : Node) → filter_map look (flat_map calls_by n.equations) ≡ filter_map look (called_by (node_view n))
all_pushed look n = ap (filter_map look) (calls_viewed n.equations)

-- the rows of all nodes
pub rows_viewed : (p : ProgramTree) (ns : List Node) → map (λ (n : Node). places_called p (node_view n)) ns ≡ map (places_called p) (map node_view ns)
rows_viewed p [] = refl
rows_viewed p (n ∷ ns) = ap (λ r. places_called p (node_view n) ∷ r) (rows_viewed p ns)
