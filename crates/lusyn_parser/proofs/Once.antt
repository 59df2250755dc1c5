-- Resolving a second time changes nothing, and nothing is changed where there are no types.
use Rattle.std.proofs.Common.{◌≡◌, ℕ, List, [], ◌∷◌, map, Option, Some, None, refl, ap, sym, ◌∙◌, length, arith}
use Rattle.lutree.specs.declared.expr.Label.{Label}
use Rattle.lutree.specs.declared.expr.Pattern.{Pattern}
use Rattle.lutree.specs.declared.expr.Pattern.TheVariants as patterns
use Rattle.lutree.specs.declared.expr.Condition.{Condition}
use Rattle.lutree.specs.declared.program.Kind.{Kind}
use Rattle.lutree.specs.declared.program.TypeDeclaration.{TypeDeclaration}
use Rattle.lutree.specs.Tree.{type_view, Tree, Trees, TypeTree, DeclarationTree, EquationTree, NodeTree, ProgramTree, program_of}
use Rattle.lutree.specs.Tree as t
use Rattle.lusyn_parser.specs.Resolved.{labels, label_of, kind_of, or_else, named, resolved_pattern, resolved_condition, resolved_clock, resolved_tree, resolved_trees, resolved_kind, resolved_declaration, resolved_equation, resolved_node, resolved}
use Rattle.lusyn_parser.proofs.Names.{HasName, label-name}

abbrev on : List ℕ → Pattern → Condition
on x p = record { variable = x; pattern = p }

abbrev defined : List (List ℕ) → Tree → EquationTree
defined left right = record { left = left; right = right }

abbrev made : List ℕ → List DeclarationTree → List DeclarationTree → List DeclarationTree → List EquationTree → NodeTree
made v ins outs ls es = record { name = v; inputs = ins; outputs = outs; locals = ls; equations = es }

same_node : (v : List ℕ) (a a' b b' c c' : List DeclarationTree) (d d' : List EquationTree) → a ≡ a' → b ≡ b' → c ≡ c' → d ≡ d' → made v a b c d ≡ made v a' b' c' d'
same_node v a a' b b' c c' d d' h k l m = cc

abbrev whole : List TypeTree → List NodeTree → ProgramTree
whole ds ns = record { types = ds; nodes = ns }

abbrev reported : DeclarationTree → Kind → Option Condition → DeclarationTree
reported d k c = record { name = d.name; kind = k; type_name = d.type_name; clock = c }

map_same : {A : Type 0} (f : A → A) → ((x : A) → f x ≡ x) → (xs : List A) → map f xs ≡ xs
map_same f h [] = refl
map_same f h (x ∷ xs) = ap (λ (y : _). y ∷ map f xs) (h x) ∙ ap (λ (ys : List _). x ∷ ys) (map_same f h xs)

map_twice : {A : Type 0} (f : A → A) → ((x : A) → f (f x) ≡ f x) → (xs : List A) → map f (map f xs) ≡ map f xs
map_twice f h [] = refl
map_twice f h (x ∷ xs) = ap (λ (y : _). y ∷ map f (map f xs)) (h x) ∙ ap (λ (ys : List _). f x ∷ ys) (map_twice f h xs)

module _ (types : List TypeTree) where
  variable_twice : (x : List ℕ) (o : Option Label) → label_of types x ≡ o → resolved_tree types (named x o) ≡ named x o
  variable_twice x None e = ap (named x) e
  variable_twice x (Some l) e = refl

  label_twice : (l : Label) (o : Option Label) → HasName l.name o → label_of types l.name ≡ o → or_else (or_else l o) (label_of types (or_else l o).name) ≡ or_else l o
  label_twice l None h e = ap (or_else l) e
  label_twice l (Some k) h e = ap (or_else k) (ap (label_of types) h ∙ e)

  pattern-twice : (p : Pattern) → resolved_pattern types (resolved_pattern types p) ≡ resolved_pattern types p
  pattern-twice (patterns.Truth b) = refl
  pattern-twice (patterns.Label l) = ap (λ (k : Label). patterns.Label k) (label_twice l (label_of types l.name) (label-name (labels types) l.name) refl)

  condition-twice : (c : Condition) → resolved_condition types (resolved_condition types c) ≡ resolved_condition types c
  condition-twice c = ap (on c.variable) (pattern-twice c.pattern)

  clock-twice : (c : Option Condition) → resolved_clock types (resolved_clock types c) ≡ resolved_clock types c
  clock-twice None = refl
  clock-twice (Some c) = ap (λ (k : Condition). Some k) (condition-twice c)

  mutual
    tree-twice : (a : Tree) → resolved_tree types (resolved_tree types a) ≡ resolved_tree types a
    tree-twice (t.number n) = refl
    tree-twice (t.truth b) = refl
    tree-twice (t.label l) = refl
    tree-twice (t.variable x) = variable_twice x (label_of types x) refl
    tree-twice (t.unary op a) = ap (t.unary op) (tree-twice a)
    tree-twice (t.binary op a b) = let f = tree-twice a in let g = tree-twice b in cc
    tree-twice (t.choice a b c) = let f = tree-twice a in let g = tree-twice b in let h = tree-twice c in cc
    tree-twice (t.when a c) =
        ap (λ (b : Tree). t.when b (resolved_condition types (resolved_condition types c))) (tree-twice a) ∙ ap (t.when (resolved_tree types a)) (condition-twice c)
    tree-twice (t.current x) = refl
    tree-twice (t.merge x ps xs) =
        ap (λ (qs : List Pattern). t.merge x qs (resolved_trees types (resolved_trees types xs))) (map_twice (resolved_pattern types) pattern-twice ps)
        ∙ ap (t.merge x (map (resolved_pattern types) ps)) (trees-twice xs)
    tree-twice (t.call g xs) = ap (t.call g) (trees-twice xs)

    trees-twice : (xs : Trees) → resolved_trees types (resolved_trees types xs) ≡ resolved_trees types xs
    trees-twice t.none = refl
    trees-twice (t.more a xs) = let f = tree-twice a in let g = trees-twice xs in cc

  chosen_twice : (kind : Kind) (o : Option Kind) → or_else (or_else kind o) o ≡ or_else kind o
  chosen_twice kind None = refl
  chosen_twice kind (Some k) = refl

  kind-twice : (kind : Kind) (o : Option (List ℕ)) → resolved_kind types (resolved_kind types kind o) o ≡ resolved_kind types kind o
  kind-twice kind None = refl
  kind-twice kind (Some x) = chosen_twice kind (kind_of types x)

  declaration-twice : (d : DeclarationTree) → resolved_declaration types (resolved_declaration types d) ≡ resolved_declaration types d
  declaration-twice d =
      ap (λ (k : Kind). reported d k (resolved_clock types (resolved_clock types d.clock))) (kind-twice d.kind d.type_name)
      ∙ ap (reported d (resolved_kind types d.kind d.type_name)) (clock-twice d.clock)

  equation-twice : (e : EquationTree) → resolved_equation types (resolved_equation types e) ≡ resolved_equation types e
  equation-twice e = ap (defined e.left) (tree-twice e.right)

  node-twice : (n : NodeTree) → resolved_node types (resolved_node types n) ≡ resolved_node types n
  node-twice n =
      same_node n.name _ _ _ _ _ _ _ _ (map_twice (resolved_declaration types) declaration-twice n.inputs) (map_twice (resolved_declaration types) declaration-twice n.outputs)
      (map_twice (resolved_declaration types) declaration-twice n.locals) (map_twice (resolved_equation types) equation-twice n.equations)

pub resolved-twice : (p : ProgramTree) → resolved (resolved p) ≡ resolved p
resolved-twice p = ap (whole p.types) (map_twice (resolved_node p.types) (node-twice p.types) p.nodes)

-- WITHOUT TYPES

pattern-same : (p : Pattern) → resolved_pattern [] p ≡ p
pattern-same (patterns.Truth b) = refl
pattern-same (patterns.Label l) = refl

condition-same : (c : Condition) → resolved_condition [] c ≡ c
condition-same c = ap (on c.variable) (pattern-same c.pattern)

clock-same : (c : Option Condition) → resolved_clock [] c ≡ c
clock-same None = refl
clock-same (Some c) = ap (λ (k : Condition). Some k) (condition-same c)

mutual
  tree-same : (a : Tree) → resolved_tree [] a ≡ a
  tree-same (t.number n) = refl
  tree-same (t.truth b) = refl
  tree-same (t.label l) = refl
  tree-same (t.variable x) = refl
  tree-same (t.unary op a) = ap (t.unary op) (tree-same a)
  tree-same (t.binary op a b) = let f = tree-same a in let g = tree-same b in cc
  tree-same (t.choice a b c) = let f = tree-same a in let g = tree-same b in let h = tree-same c in cc
  tree-same (t.when a c) = ap (λ (b : Tree). t.when b (resolved_condition [] c)) (tree-same a) ∙ ap (t.when a) (condition-same c)
  tree-same (t.current x) = refl
  tree-same (t.merge x ps xs) = ap (λ (qs : List Pattern). t.merge x qs (resolved_trees [] xs)) (map_same (resolved_pattern []) pattern-same ps) ∙ ap (t.merge x ps) (trees-same xs)
  tree-same (t.call g xs) = ap (t.call g) (trees-same xs)

  trees-same : (xs : Trees) → resolved_trees [] xs ≡ xs
  trees-same t.none = refl
  trees-same (t.more a xs) = let f = tree-same a in let g = trees-same xs in cc

kind-same : (kind : Kind) (o : Option (List ℕ)) → resolved_kind [] kind o ≡ kind
kind-same kind None = refl
kind-same kind (Some x) = refl

declaration-same : (d : DeclarationTree) → resolved_declaration [] d ≡ d
declaration-same d = ap (λ (k : Kind). reported d k (resolved_clock [] d.clock)) (kind-same d.kind d.type_name) ∙ ap (reported d d.kind) (clock-same d.clock)

equation-same : (e : EquationTree) → resolved_equation [] e ≡ e
equation-same e = ap (defined e.left) (tree-same e.right)

node-same : (n : NodeTree) → resolved_node [] n ≡ n
node-same n =
    same_node n.name _ _ _ _ _ _ _ _ (map_same (resolved_declaration []) declaration-same n.inputs) (map_same (resolved_declaration []) declaration-same n.outputs)
    (map_same (resolved_declaration []) declaration-same n.locals) (map_same (resolved_equation []) equation-same n.equations)

pub untyped : (ns : List NodeTree) → resolved (program_of ns) ≡ program_of ns
untyped ns = ap (whole []) (map_same (resolved_node []) node-same ns)

pub nothing-resolved : (p : ProgramTree) (ds : List TypeDeclaration) → p.types ≡ map type_view ds → length ds ≡ 0 → p ≡ resolved p
nothing-resolved p [] e none = ap (λ (types : List TypeTree). whole types p.nodes) e ∙ sym (untyped p.nodes) ∙ ap (λ (types : List TypeTree). resolved (whole types p.nodes)) (sym e)
nothing-resolved p (d ∷ ds) e none = absurd (omega (arith, none))
