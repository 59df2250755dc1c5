-- The call of a number, among the calls of operands, arguments and equations.
use Rattle.std.proofs.Common.{◌≡◌, ◌<◌, ◌+◌, ℕ, zero, suc, List, [], ◌∷◌, ◌++◌, length, take, get_or, Some, None, refl, sym, ap, subst, ◌∙◌, arith, length-append, append_assoc}
use Rattle.std.specs.Prelude.{slice_get, flat_map}
use Rattle.std.proofs.lemmas.List.{map-append, length-map, take_more, append-nil}
use Rattle.std.proofs.lemmas.Option.{same_Some, slice_get_within, slice_get_past}
use Rattle.lutree.specs.declared.expr.Expr.{Expr}
use Rattle.lutree.specs.Tree.{Tree, EquationTree, NodeTree, view, views, trees_of}
use Rattle.lustat_rules.specs.Naming.{Call, calls_in, calls_in_all, called_by}
use Rattle.lucore_laws.proofs.Names.{get-front, get-behind}
use Rattle.luinside.specs.declared.texts.Reached.{Reached}
use Rattle.luinside.specs.declared.texts.Reached.TheVariants.{Left, At}
use Rattle.luinside.specs.Calls.{names_called, calls_of, Passes}

-- the call of this number among some has this name
abbrev pub IsAt : List Call → ℕ → List ℕ → Type 0
IsAt calls k name = slice_get (names_called calls) k ≡ Some name

pub first_at : (xs ys : List Call) (k : ℕ) (name : List ℕ) → IsAt xs k name → IsAt (xs ++ ys) k name
first_at xs ys k name e =
    ap (λ l. slice_get l k) (map-append (λ (c : Call). c.node) xs ys) ∙ get-front (names_called xs) (names_called ys) k (slice_get_within (names_called xs) k name e) ∙ e

pub second_at : (xs ys : List Call) (k m : ℕ) (name : List ℕ) → k ≡ length xs + m → IsAt ys m name → IsAt (xs ++ ys) k name
second_at xs ys k m name is e =
    ap (slice_get (names_called (xs ++ ys))) is ∙ ap (λ l. slice_get l (length xs + m)) (map-append (λ (c : Call). c.node) xs ys)
    ∙ get-behind (names_called xs) (names_called ys) (length xs) m (length-map xs (λ (c : Call). c.node)) ∙ e

pub passes_none : (r : Reached) → Passes [] r r
passes_none (Left k) = omega arith
passes_none (At name) = refl

pub passes_both : (xs ys : List Call) (a b c : Reached) → Passes xs a b → Passes ys b c → Passes (xs ++ ys) a c
passes_both xs ys (Left k) (Left m) (Left n) e f = omega (arith, e, f, length-append xs ys)
passes_both xs ys (Left k) (Left m) (At name) e f = second_at xs ys k m name.now e f
passes_both xs ys (Left k) (At name) (Left n) e f = absurd f
passes_both xs ys (Left k) (At name) (At other) e f = first_at xs ys k other.now (e ∙ ap Some f)
passes_both xs ys (At name) (Left m) c e f = absurd e
passes_both xs ys (At name) (At other) (Left n) e f = absurd f
passes_both xs ys (At name) (At other) (At last) e f = e ∙ f

-- AN EXPRESSION IN MEMORY

-- of an expression of this form
pub passes_as : (e t : Tree) (a b : Reached) → e ≡ t → Passes (calls_in t) a b → Passes (calls_in e) a b
passes_as e t a b same h = subst (λ e. Passes (calls_in e) a b) (sym same) h

-- of an expression that is lent
pub lent : (x y : Expr) (a b : Reached) → x ≡ y → Passes (calls_in (view x)) a b → Passes (calls_in (view y)) a b
lent x y a b same h = subst (λ e. Passes (calls_in (view e)) a b) same h

-- ARGUMENTS

abbrev pub calls_among : List Expr → List Call
calls_among es = calls_in_all (trees_of (views es))

among_append : (xs ys : List Expr) → calls_among (xs ++ ys) ≡ calls_among xs ++ calls_among ys
among_append [] ys = refl
among_append (x ∷ xs) ys = ap (λ l. calls_in (view x) ++ l) (among_append xs ys) ∙ sym (append_assoc (calls_in (view x)) (calls_among xs) (calls_among ys))

-- one more argument
pub passes_more : (es : List Expr) (i : ℕ) (e : Expr) (a b c : Reached) → i < length es → e ≡ get_or es i e → Passes (calls_among (take i es)) a b → Passes (calls_in (view e)) b c → Passes (calls_among (take (i + 1) es)) a c
passes_more es i e a b c lt is before then =
    let more = ap calls_among (take_more es i e lt ∙ ap (λ x. take i es ++ x ∷ []) (sym is)) ∙ among_append (take i es) (e ∷ []) ∙ ap (λ l. calls_among (take i es) ++ l) (append-nil (calls_in (view e))) in
    subst (λ l. Passes l a c) (sym more) (passes_both (calls_among (take i es)) (calls_in (view e)) a b c before then)

-- EQUATIONS

names_are : (qs : List EquationTree) → names_called (calls_of qs) ≡ flat_map (λ (q : EquationTree). names_called (calls_in q.right)) qs
names_are [] = refl
names_are (q ∷ qs) = map-append (λ (c : Call). c.node) (calls_in q.right) (calls_of qs) ∙ ap (λ l. names_called (calls_in q.right) ++ l) (names_are qs)

equations_at : (qs : List EquationTree) (i : ℕ) (q : EquationTree) (k m : ℕ) (name : List ℕ) → slice_get qs i ≡ Some q → k ≡ length (calls_of (take i qs)) + m → IsAt (calls_in q.right) m name → IsAt (calls_of qs) k name
equations_at [] i q k m name there is at = cc
equations_at (x ∷ qs) zero q k m name there is at =
    let z : k ≡ m = omega (arith, is) in
    first_at (calls_in x.right) (calls_of qs) k name
    (subst (λ (x : EquationTree). IsAt (calls_in x.right) k name) (sym (same_Some x q there)) (subst (λ k. IsAt (calls_in q.right) k name) (sym z) at))
equations_at (x ∷ qs) (suc i) q k m name there is at =
    let here = calls_in x.right in
    let rest = calls_of (take i qs) in
    let z : k ≡ length here + (length rest + m) = omega (arith, is, length-append here rest) in
    second_at here (calls_of qs) k (length rest + m) name z (equations_at qs i q (length rest + m) m name there refl at)

pub equations_more : (qs : List EquationTree) (i : ℕ) (q : EquationTree) → slice_get qs i ≡ Some q → length (calls_of (take (i + 1) qs)) ≡ length (calls_of (take i qs)) + length (calls_in q.right)
equations_more [] i q there = cc
equations_more (x ∷ qs) zero q there =
    let same = ap (λ (x : EquationTree). length (calls_in x.right)) (same_Some x q there) in
    omega (arith, same, length-append (calls_in x.right) [])
equations_more (x ∷ qs) (suc i) q there =
    let here = calls_in x.right in
    let rest = equations_more qs i q there in
    let z : suc i + 1 ≡ suc (i + 1) = omega arith in
    ap (λ n. length (calls_of (take n (x ∷ qs)))) z ∙ omega (arith, rest, length-append here (calls_of (take (i + 1) qs)), length-append here (calls_of (take i qs)))

-- the call of a node
pub node_at : (node : NodeTree) (i : ℕ) (q : EquationTree) (k m : ℕ) (name : List ℕ) → slice_get node.equations i ≡ Some q → k ≡ length (calls_of (take i node.equations)) + m → IsAt (calls_in q.right) m name
    → slice_get (called_by node) k ≡ Some name
node_at node i q k m name there is at = ap (λ l. slice_get l k) (sym (names_are node.equations)) ∙ equations_at node.equations i q k m name there is at

-- a node has no further calls
pub node_past : (node : NodeTree) (k m : ℕ) → k ≡ length (calls_of node.equations) + m → slice_get (called_by node) k ≡ None
node_past node k m is =
    let long = ap length (sym (names_are node.equations)) ∙ length-map (calls_of node.equations) (λ (c : Call). c.node) in
    slice_get_past (called_by node) k (omega (arith, long, is))
