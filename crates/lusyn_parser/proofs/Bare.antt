-- Resolving changes nothing but what names stand for.
use Rattle.std.proofs.Common.{◌≡◌, ℕ, List, [], ◌∷◌, map, Option, Some, None, refl, ap, ◌∙◌}
use Rattle.lutree.specs.declared.expr.Label.{Label}
use Rattle.lutree.specs.declared.expr.Pattern.{Pattern}
use Rattle.lutree.specs.declared.expr.Pattern.TheVariants as patterns
use Rattle.lutree.specs.declared.expr.Condition.{Condition}
use Rattle.lutree.specs.declared.program.Kind.{Kind}
use Rattle.lutree.specs.Tree.{Tree, Trees, TypeTree, DeclarationTree, EquationTree, NodeTree, ProgramTree}
use Rattle.lutree.specs.Tree as t
use Rattle.lusyn_grammar.specs.Grammar.{bare_label, WrittenType, declared}
use Rattle.lusyn_grammar.specs.Printing.{bare_pattern, bare_condition, bare_clock, written_type, bare_tree, bare_trees, bare_declaration, bare_equation, bare_node, bare}
use Rattle.lusyn_parser.specs.Resolved.{labels, label_of, or_else, named, resolved_pattern, resolved_condition, resolved_clock, resolved_tree, resolved_trees, resolved_kind, resolved_declaration, resolved_equation, resolved_node, resolved}
use Rattle.lusyn_parser.proofs.Names.{HasName, label-name}

variable_bare : (x : List ℕ) (o : Option Label) → HasName x o → bare_tree (named x o) ≡ t.variable x
variable_bare x None h = refl
variable_bare x (Some l) h = ap t.variable h

label_bare : (l : Label) (o : Option Label) → HasName l.name o → bare_label (or_else l o).name ≡ bare_label l.name
label_bare l None h = refl
label_bare l (Some k) h = ap bare_label h

module _ (types : List TypeTree) where
  pattern-bare : (p : Pattern) → bare_pattern (resolved_pattern types p) ≡ bare_pattern p
  pattern-bare (patterns.Truth b) = refl
  pattern-bare (patterns.Label l) = ap (λ (k : Label). patterns.Label k) (label_bare l (label_of types l.name) (label-name (labels types) l.name))

  patterns-bare : (ps : List Pattern) → map bare_pattern (map (resolved_pattern types) ps) ≡ map bare_pattern ps
  patterns-bare [] = refl
  patterns-bare (p ∷ ps) =
      ap (λ (q : Pattern). q ∷ map bare_pattern (map (resolved_pattern types) ps)) (pattern-bare p) ∙ ap (λ (qs : List Pattern). bare_pattern p ∷ qs) (patterns-bare ps)

  abbrev on : List ℕ → Pattern → Condition
  on x p = record { variable = x; pattern = p }

  condition-bare : (c : Condition) → bare_condition (resolved_condition types c) ≡ bare_condition c
  condition-bare c = ap (on c.variable) (pattern-bare c.pattern)

  clock-bare : (c : Option Condition) → bare_clock (resolved_clock types c) ≡ bare_clock c
  clock-bare None = refl
  clock-bare (Some c) = ap (λ (k : Condition). Some k) (condition-bare c)

  mutual
    tree-bare : (a : Tree) → bare_tree (resolved_tree types a) ≡ bare_tree a
    tree-bare (t.number n) = refl
    tree-bare (t.truth b) = refl
    tree-bare (t.label l) = refl
    tree-bare (t.variable x) = variable_bare x (label_of types x) (label-name (labels types) x)
    tree-bare (t.unary op a) = ap (t.unary op) (tree-bare a)
    tree-bare (t.binary op a b) = let f = tree-bare a in let g = tree-bare b in cc
    tree-bare (t.choice a b c) = let f = tree-bare a in let g = tree-bare b in let h = tree-bare c in cc
    tree-bare (t.when a c) = ap (λ (b : Tree). t.when b (bare_condition (resolved_condition types c))) (tree-bare a) ∙ ap (t.when (bare_tree a)) (condition-bare c)
    tree-bare (t.current x) = refl
    tree-bare (t.merge x ps xs) =
        ap (λ (qs : List Pattern). t.merge x qs (bare_trees (resolved_trees types xs))) (patterns-bare ps) ∙ ap (t.merge x (map bare_pattern ps)) (trees-bare xs)
    tree-bare (t.call g xs) = ap (t.call g) (trees-bare xs)

    trees-bare : (xs : Trees) → bare_trees (resolved_trees types xs) ≡ bare_trees xs
    trees-bare t.none = refl
    trees-bare (t.more a xs) = let f = tree-bare a in let g = trees-bare xs in cc

  type-bare : (kind : Kind) (o : Option (List ℕ)) → written_type (resolved_kind types kind o) o ≡ written_type kind o
  type-bare kind None = refl
  type-bare kind (Some x) = refl

  declaration-bare : (d : DeclarationTree) → bare_declaration (resolved_declaration types d) ≡ bare_declaration d
  declaration-bare d =
      ap (λ (k : WrittenType). declared k (bare_clock (resolved_clock types d.clock)) d.name) (type-bare d.kind d.type_name)
      ∙ ap (λ (c : Option Condition). declared (written_type d.kind d.type_name) c d.name) (clock-bare d.clock)

  declarations-bare : (ds : List DeclarationTree) → map bare_declaration (map (resolved_declaration types) ds) ≡ map bare_declaration ds
  declarations-bare [] = refl
  declarations-bare (d ∷ ds) =
      ap (λ (e : DeclarationTree). e ∷ map bare_declaration (map (resolved_declaration types) ds)) (declaration-bare d) ∙ ap (λ (es : List DeclarationTree). bare_declaration d ∷ es) (declarations-bare ds)

  abbrev defined : List (List ℕ) → Tree → EquationTree
  defined left right = record { left = left; right = right }

  equations-bare : (es : List EquationTree) → map bare_equation (map (resolved_equation types) es) ≡ map bare_equation es
  equations-bare [] = refl
  equations-bare (e ∷ es) =
      ap (λ (a : Tree). defined e.left a ∷ map bare_equation (map (resolved_equation types) es)) (tree-bare e.right) ∙ ap (λ (qs : List EquationTree). bare_equation e ∷ qs) (equations-bare es)

  abbrev made : List ℕ → List DeclarationTree → List DeclarationTree → List DeclarationTree → List EquationTree → NodeTree
  made v ins outs ls es = record { name = v; inputs = ins; outputs = outs; locals = ls; equations = es }

  same_node : (v : List ℕ) (a a' b b' c c' : List DeclarationTree) (d d' : List EquationTree) → a ≡ a' → b ≡ b' → c ≡ c' → d ≡ d' → made v a b c d ≡ made v a' b' c' d'
  same_node v a a' b b' c c' d d' h k l m = cc

  node-bare : (n : NodeTree) → bare_node (resolved_node types n) ≡ bare_node n
  node-bare n = same_node n.name _ _ _ _ _ _ _ _ (declarations-bare n.inputs) (declarations-bare n.outputs) (declarations-bare n.locals) (equations-bare n.equations)

  nodes-bare : (ns : List NodeTree) → map bare_node (map (resolved_node types) ns) ≡ map bare_node ns
  nodes-bare [] = refl
  nodes-bare (n ∷ ns) = ap (λ (m : NodeTree). m ∷ map bare_node (map (resolved_node types) ns)) (node-bare n) ∙ ap (λ (ms : List NodeTree). bare_node n ∷ ms) (nodes-bare ns)

abbrev whole : List TypeTree → List NodeTree → ProgramTree
whole ds ns = record { types = ds; nodes = ns }

pub bare-resolved : (p : ProgramTree) → bare (resolved p) ≡ bare p
bare-resolved p = ap (whole p.types) (nodes-bare p.types p.nodes)
