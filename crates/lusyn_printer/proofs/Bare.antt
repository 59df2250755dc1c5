-- A name is printed alike whatever it stands for.
use Rattle.std.proofs.Common.{◌≡◌, ℕ, List, [], ◌∷◌, ◌++◌, map, Option, Some, None, refl, ap, ◌∙◌, codes}
use Rattle.std.specs.List.{flat_map}
use Rattle.lutree.specs.declared.expr.Pattern.{Pattern}
use Rattle.lutree.specs.declared.expr.Pattern.TheVariants as patterns
use Rattle.lutree.specs.declared.expr.Condition.{Condition}
use Rattle.lutree.specs.declared.program.Kind.{Kind}
use Rattle.lutree.specs.declared.program.Kind.TheVariants as kinds
use Rattle.lutree.specs.Tree.{Tree, Trees, DeclarationTree, EquationTree, NodeTree, ProgramTree}
use Rattle.lutree.specs.Tree as t
use Rattle.lusyn_grammar.specs.Tokens.{left, right}
use Rattle.lusyn_grammar.specs.Grammar.{Written, unary, binary, choice, when, merge, call, more, WrittenType, kind_of, type_name_of}
use Rattle.lusyn_grammar.specs.Printing.{placed, written, writtens, bare_pattern, bare_condition, bare_clock, written_type, bare_tree, bare_trees, bare_declaration, bare_equation, bare_node, bare}
use Rattle.lusyn_printer.specs.Canonical.{pattern_text, clock_text, type_text, declaration, declarations, locals, left_side, equation, node, expression, line, heading, type_declaration, canonical}

pattern-twice : (p : Pattern) → bare_pattern (bare_pattern p) ≡ bare_pattern p
pattern-twice (patterns.Truth b) = refl
pattern-twice (patterns.Label l) = refl

patterns-twice : (ps : List Pattern) → map bare_pattern (map bare_pattern ps) ≡ map bare_pattern ps
patterns-twice [] = refl
patterns-twice (p ∷ ps) = ap (λ (q : Pattern). q ∷ map bare_pattern (map bare_pattern ps)) (pattern-twice p) ∙ ap (λ (qs : List Pattern). bare_pattern p ∷ qs) (patterns-twice ps)

abbrev on : List ℕ → Pattern → Condition
on x p = record { variable = x; pattern = p }

condition-twice : (c : Condition) → bare_condition (bare_condition c) ≡ bare_condition c
condition-twice c = ap (on c.variable) (pattern-twice c.pattern)

mutual
  written-bare : (a : Tree) → written (bare_tree a) ≡ written a
  written-bare (t.number n) = refl
  written-bare (t.truth b) = refl
  written-bare (t.label l) = refl
  written-bare (t.variable x) = refl
  written-bare (t.unary op a) = ap (λ (c : Written). unary op (placed 8 c)) (written-bare a)
  written-bare (t.binary op a b) =
      ap (λ (c : Written). binary op (placed (left op) c) (placed (right op) (written (bare_tree b)))) (written-bare a)
      ∙ ap (λ (c : Written). binary op (placed (left op) (written a)) (placed (right op) c)) (written-bare b)
  written-bare (t.choice a b d) =
      ap (λ (c : Written). choice (placed 0 c) (placed 0 (written (bare_tree b))) (placed 0 (written (bare_tree d)))) (written-bare a)
      ∙ ap (λ (c : Written). choice (placed 0 (written a)) (placed 0 c) (placed 0 (written (bare_tree d)))) (written-bare b)
      ∙ ap (λ (c : Written). choice (placed 0 (written a)) (placed 0 (written b)) (placed 0 c)) (written-bare d)
  written-bare (t.when a clock) =
      ap (λ (c : Written). when (placed 9 c) (bare_condition (bare_condition clock))) (written-bare a) ∙ ap (when (placed 9 (written a))) (condition-twice clock)
  written-bare (t.current x) = refl
  written-bare (t.merge x ps xs) =
      ap (λ (qs : List Pattern). merge x qs (writtens (bare_trees xs))) (patterns-twice ps) ∙ ap (merge x (map bare_pattern ps)) (writtens-bare xs)
  written-bare (t.call g xs) = ap (call g) (writtens-bare xs)

  writtens-bare : (xs : Trees) → writtens (bare_trees xs) ≡ writtens xs
  writtens-bare t.none = refl
  writtens-bare (t.more a xs) = ap (λ (c : Written). more (placed 0 c) (writtens (bare_trees xs))) (written-bare a) ∙ ap (more (placed 0 (written a))) (writtens-bare xs)

type-twice : (kind : Kind) (x : Option (List ℕ)) → (let k : WrittenType = written_type kind x in written_type (kind_of k) (type_name_of k) ≡ k)
type-twice kind (Some x) = refl
type-twice kinds.Int None = refl
type-twice kinds.Bool None = refl
type-twice (kinds.Enum place size) None = refl

pattern-text : (p : Pattern) (x : List ℕ) → pattern_text (bare_pattern p) x ≡ pattern_text p x
pattern-text (patterns.Truth b) x = refl
pattern-text (patterns.Label l) x = refl

clock-text : (c : Option Condition) → clock_text (bare_clock c) ≡ clock_text c
clock-text None = refl
clock-text (Some c) = ap (λ (z : List ℕ). codes " when " ++ z) (pattern-text c.pattern c.variable)

declaration-text : (d : DeclarationTree) → declaration (bare_declaration d) ≡ declaration d
declaration-text d =
    ap (λ (k : WrittenType). d.name ++ codes ": " ++ type_text k ++ clock_text (bare_clock d.clock)) (type-twice d.kind d.type_name)
    ∙ ap (λ (z : List ℕ). d.name ++ codes ": " ++ type_text (written_type d.kind d.type_name) ++ z) (clock-text d.clock)

others-text : (ds : List DeclarationTree) → flat_map (λ d. codes "; " ++ declaration d) (map bare_declaration ds) ≡ flat_map (λ d. codes "; " ++ declaration d) ds
others-text [] = refl
others-text (d ∷ ds) =
    ap (λ (z : List ℕ). (codes "; " ++ z) ++ flat_map (λ e. codes "; " ++ declaration e) (map bare_declaration ds)) (declaration-text d)
    ∙ ap (λ (z : List ℕ). (codes "; " ++ declaration d) ++ z) (others-text ds)

declarations-text : (ds : List DeclarationTree) → declarations (map bare_declaration ds) ≡ declarations ds
declarations-text [] = refl
declarations-text (d ∷ ds) =
    ap (λ (z : List ℕ). z ++ flat_map (λ e. codes "; " ++ declaration e) (map bare_declaration ds)) (declaration-text d)
    ∙ ap (λ (z : List ℕ). declaration d ++ z) (others-text ds)

locals-text : (ds : List DeclarationTree) → locals (map bare_declaration ds) ≡ locals ds
locals-text [] = refl
locals-text (d ∷ ds) = ap (λ (z : List ℕ). line (codes "var " ++ z ++ codes ";")) (declarations-text (d ∷ ds))

equations-text : (es : List EquationTree) → flat_map equation (map bare_equation es) ≡ flat_map equation es
equations-text [] = refl
equations-text (e ∷ es) =
    ap (λ (c : Written). line (codes "  " ++ left_side e.left ++ codes " = " ++ expression c ++ codes ";") ++ flat_map equation (map bare_equation es)) (written-bare e.right)
    ∙ ap (λ (z : List ℕ). equation e ++ z) (equations-text es)

heading-text : (n : NodeTree) → heading (bare_node n) ≡ heading n
heading-text n =
    ap (λ (z : List ℕ). codes "node " ++ n.name ++ codes "(" ++ z ++ codes ") returns (" ++ declarations (map bare_declaration n.outputs) ++ codes ");") (declarations-text n.inputs)
    ∙ ap (λ (z : List ℕ). codes "node " ++ n.name ++ codes "(" ++ declarations n.inputs ++ codes ") returns (" ++ z ++ codes ");") (declarations-text n.outputs)

node-text : (n : NodeTree) → node (bare_node n) ≡ node n
node-text n =
    let last : List ℕ → List ℕ → List ℕ → List ℕ = λ h ls es. line h ++ ls ++ line (codes "let") ++ es ++ line (codes "tel") in
    ap (λ (h : List ℕ). last h (locals (map bare_declaration n.locals)) (flat_map equation (map bare_equation n.equations))) (heading-text n)
    ∙ ap (λ (ls : List ℕ). last (heading n) ls (flat_map equation (map bare_equation n.equations))) (locals-text n.locals)
    ∙ ap (last (heading n) (locals n.locals)) (equations-text n.equations)

nodes-text : (ns : List NodeTree) → flat_map node (map bare_node ns) ≡ flat_map node ns
nodes-text [] = refl
nodes-text (n ∷ ns) = ap (λ (z : List ℕ). z ++ flat_map node (map bare_node ns)) (node-text n) ∙ ap (λ (z : List ℕ). node n ++ z) (nodes-text ns)

pub canonical-bare : (p : ProgramTree) → canonical (bare p) ≡ canonical p
canonical-bare p = ap (λ (z : List ℕ). flat_map type_declaration p.types ++ z) (nodes-text p.nodes)
