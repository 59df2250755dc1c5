use Rattle.std.proofs.Common.{◌∙◌, ◌↔◌, IsTrue, List, [], ◌∷◌, All, map, ap, subst}
use Rattle.std.proofs.lemmas.List.Elements.{All-nil, All-cons, All-head, All-tail, All-map}
use Rattle.lutree.specs.declared.program.Equation.{Equation}
use Rattle.lutree.specs.declared.program.Node.{Node}
use Rattle.lutree.specs.Tree.{EquationTree, equation_view, node_view}
use Rattle.lustat_rules.specs.Scope.{IsVariable}
use Rattle.lustat_init.proofs.known.lefts_are_known.Goals as goal

all_of_map : {X Y : Type 0} (P : X → Type 0) (f : Y → X) (ys : List Y) → All P (map f ys) → All (λ y. P (f y)) ys
all_of_map P f [] h = All-nil (λ y. P (f y))
all_of_map P f (y ∷ ys) h = All-cons (λ y. P (f y)) y ys (All-head P (f y) (map f ys) h) (all_of_map P f ys (All-tail P (f y) (map f ys) h))

pub returns : goal.returns
returns c =
    let n = node_view c.args.scope.now in
    let P : EquationTree → Type 0 = λ q. All (IsVariable n) q.left in
    let qs : List Equation = c.args.scope.now.equations in
    let same = c.as_slice.ensures ∙ ap (λ (m : Node). m.equations) c.node.ensures in
    let known = subst (λ xs. IsTrue c.all_known.result ↔ All (λ (q : Equation). All (IsVariable n) q.left) xs) same c.all_known.ensures in
    (λ h. All-map P equation_view qs (known.0 h), λ h. known.1 (all_of_map P equation_view qs h))
