-- What is printed of a tree spells it, and only printable trees are spelled.
use Rattle.std.proofs.Common.{◌≡◌, ◌≤◌, ◌⊎◌, ℕ, List, [], ◌∷◌, ◌++◌, Option, Some, None, refl, ap, sym, subst, ◌∙◌, inl, inr, arith, cond, Bool, true, false, nat_le, map}
use Rattle.std.specs.List.{flat_map}
use Rattle.std.proofs.lemmas.Bool.{leb-true}
use Rattle.std.proofs.lemmas.List.{map-append}
use Rattle.lutree.specs.declared.expr.Label.{Label}
use Rattle.lutree.specs.declared.expr.Pattern.{Pattern}
use Rattle.lutree.specs.declared.expr.Pattern.TheVariants as patterns
use Rattle.lutree.specs.declared.expr.Condition.{Condition}
use Rattle.lutree.specs.Tree.{Tree, Trees, TypeTree, DeclarationTree, EquationTree, NodeTree, ProgramTree}
use Rattle.lutree.specs.Tree as t
use Rattle.lusyn_grammar.specs.Tokens.{Tok}
use Rattle.lusyn_grammar.specs.Tokens.{left, right}
use Rattle.lusyn_grammar.specs.Grammar as w
use Rattle.lusyn_grammar.specs.Grammar.{Written, Writtens, paren, tree, trees, level_of, IsProper, AreProper, WrittenType, WrittenDeclaration, WrittenEquation, WrittenNode, WrittenProgram, Each, IsNonempty, IsBare, IsBareLabel, IsBareClock, bare_label, truths, AreAsMany, AreBranches, IsCall, IsDefinedBy, IsProperDeclaration, IsProperEquation, IsProperNode, IsProperProgram, kind_of, type_name_of, declared, declaration_tree, equation_tree, node_tree, program_tree, program, Spells}
use Rattle.lusyn_grammar.specs.Printing.{placed, bare_pattern, bare_condition, bare_clock, written, writtens, written_type, written_declaration, written_equation, written_node, written_program, bare_tree, bare_trees, bare_declaration, bare_equation, bare_node, bare, AreMatched, IsLabel, ArePrintablePatterns, IsPrintableTree, ArePrintable, IsCallTree, IsPrintableEquation, IsPrintableNode, IsPrintable}
use Rattle.lusyn_grammar.proofs.Tables.{left_high, right_high}

tree-placed : (least : ℕ) (c : Written) → tree (placed least c) ≡ tree c
tree-placed least c = by_test (nat_le least (level_of c))
  where
    by_test : (b : Bool) → tree (cond b c (paren c)) ≡ tree c
    by_test true = refl
    by_test false = refl

placed_proper : (least : ℕ) (c : Written) → IsProper c → IsProper (placed least c)
placed_proper least c p = by_test (nat_le least (level_of c))
  where
    by_test : (b : Bool) → IsProper (cond b c (paren c))
    by_test true = p
    by_test false = p

placed_bound : (least : ℕ) (c : Written) → least ≤ 10 → least ≤ level_of (placed least c)
placed_bound least c h = by_test (nat_le least (level_of c)) refl
  where
    by_test : (b : Bool) → nat_le least (level_of c) ≡ b → least ≤ level_of (cond b c (paren c))
    by_test true e = leb-true least (level_of c) e
    by_test false e = h

same_choice : (a a' b b' c c' : Tree) → a ≡ a' → b ≡ b' → c ≡ c' → t.choice a b c ≡ t.choice a' b' c'
same_choice a a' b b' c c' f g h = cc

same_more : (a a' : Tree) (xs xs' : Trees) → a ≡ a' → xs ≡ xs' → t.more a xs ≡ t.more a' xs'
same_more a a' xs xs' f g = cc

mutual
  pub tree-written : (a : Tree) → tree (written a) ≡ bare_tree a
  tree-written (t.number n) = refl
  tree-written (t.truth b) = refl
  tree-written (t.label l) = refl
  tree-written (t.variable x) = refl
  tree-written (t.unary op a) = ap (t.unary op) (tree-placed 8 (written a) ∙ tree-written a)
  tree-written (t.binary op a b) =
      ap (λ (c : Tree). t.binary op c (tree (placed (right op) (written b)))) (tree-placed (left op) (written a) ∙ tree-written a)
      ∙ ap (t.binary op (bare_tree a)) (tree-placed (right op) (written b) ∙ tree-written b)
  tree-written (t.choice a b c) =
      same_choice _ _ _ _ _ _ (tree-placed 0 (written a) ∙ tree-written a) (tree-placed 0 (written b) ∙ tree-written b) (tree-placed 0 (written c) ∙ tree-written c)
  tree-written (t.when a on) = ap (λ (c : Tree). t.when c (bare_condition on)) (tree-placed 9 (written a) ∙ tree-written a)
  tree-written (t.current x) = refl
  tree-written (t.merge x ps xs) = ap (t.merge x (map bare_pattern ps)) (trees-writtens xs)
  tree-written (t.call g xs) = ap (t.call g) (trees-writtens xs)

  pub trees-writtens : (xs : Trees) → trees (writtens xs) ≡ bare_trees xs
  trees-writtens t.none = refl
  trees-writtens (t.more a xs) = same_more _ _ _ _ (tree-placed 0 (written a) ∙ tree-written a) (trees-writtens xs)

pattern_bare : (p : Pattern) → IsBare (bare_pattern p)
pattern_bare (patterns.Truth b) = tt
pattern_bare (patterns.Label l) = refl

clock_bare : (c : Option Condition) → IsBareClock (bare_clock c)
clock_bare None = tt
clock_bare (Some c) = pattern_bare c.pattern

as_many : (xs : Trees) (ps : List Pattern) → AreMatched xs ps → AreAsMany (writtens xs) (map bare_pattern ps)
as_many t.none [] h = tt
as_many t.none (p ∷ ps) h = absurd h
as_many (t.more a xs) [] h = absurd h
as_many (t.more a xs) (p ∷ ps) h = as_many xs ps h

some_map : {A B : Type 0} (f : A → B) (xs : List A) → IsNonempty xs → IsNonempty (map f xs)
some_map f [] h = absurd h
some_map f (x ∷ xs) h = tt

labels_bare : (ps : List Pattern) → Each IsLabel ps → Each IsBareLabel (map bare_pattern ps)
labels_bare [] h = tt
labels_bare (patterns.Truth b ∷ ps) h = absurd h.0
labels_bare (patterns.Label l ∷ ps) h = (refl, labels_bare ps h.1)

patterns_proper : (ps : List Pattern) → ArePrintablePatterns ps → (map bare_pattern ps ≡ truths) ⊎ (IsNonempty (map bare_pattern ps) × Each IsBareLabel (map bare_pattern ps))
patterns_proper ps (inl same) = inl (ap (map bare_pattern) same)
patterns_proper ps (inr (some, labels)) = inr (some_map bare_pattern ps some, labels_bare ps labels)

mutual
  pub written_proper : (a : Tree) → IsPrintableTree a → IsProper (written a)
  written_proper (t.number n) h = tt
  written_proper (t.truth b) h = tt
  written_proper (t.label l) h = tt
  written_proper (t.variable x) h = tt
  written_proper (t.unary op a) h = (placed_bound 8 (written a) (omega arith), placed_proper 8 (written a) (written_proper a h))
  written_proper (t.binary op a b) h = (
    placed_bound (left op) (written a) (omega (arith, left_high op)),
    placed_bound (right op) (written b) (omega (arith, right_high op)),
    placed_proper (left op) (written a) (written_proper a h.0),
    placed_proper (right op) (written b) (written_proper b h.1),
  )
  written_proper (t.choice a b c) h =
      (placed_proper 0 (written a) (written_proper a h.0), placed_proper 0 (written b) (written_proper b h.1), placed_proper 0 (written c) (written_proper c h.2))
  written_proper (t.when a on) h = (placed_bound 9 (written a) (omega arith), placed_proper 9 (written a) (written_proper a h), pattern_bare on.pattern)
  written_proper (t.current x) h = tt
  written_proper (t.merge x ps xs) h = (writtens_proper xs h.0, (as_many xs ps h.1, patterns_proper ps h.2))
  written_proper (t.call g xs) h = writtens_proper xs h

  pub writtens_proper : (xs : Trees) → ArePrintable xs → AreProper (writtens xs)
  writtens_proper t.none h = tt
  writtens_proper (t.more a xs) h = (placed_proper 0 (written a) (written_proper a h.0), writtens_proper xs h.1)

-- DECLARATIONS, EQUATIONS, NODES

declarations-written : (ds : List DeclarationTree) → flat_map declaration_tree (map written_declaration ds) ≡ map bare_declaration ds
declarations-written [] = refl
declarations-written (d ∷ ds) = ap (λ (es : List DeclarationTree). bare_declaration d ∷ es) (declarations-written ds)

declarations_proper : (ds : List DeclarationTree) → Each IsProperDeclaration (map written_declaration ds)
declarations_proper [] = tt
declarations_proper (d ∷ ds) = ((tt, clock_bare d.clock), declarations_proper ds)

equation-written : (e : EquationTree) → equation_tree (written_equation e) ≡ bare_equation e
equation-written e = ap (λ (a : Tree). let q : EquationTree = record { left = e.left; right = a } in q) (tree-written e.right)

equations-written : (es : List EquationTree) → map equation_tree (map written_equation es) ≡ map bare_equation es
equations-written [] = refl
equations-written (e ∷ es) =
    ap (λ (q : EquationTree). q ∷ map equation_tree (map written_equation es)) (equation-written e) ∙ ap (λ (qs : List EquationTree). bare_equation e ∷ qs) (equations-written es)

call_written : (a : Tree) → IsCallTree a → IsCall (written a)
call_written (t.call g xs) h = tt
call_written (t.number n) h = absurd h
call_written _ h = absurd h

defined_along : (xs : List (List ℕ)) (P Q : Type 0) → (P → Q) → IsDefinedBy xs P → IsDefinedBy xs Q
defined_along [] P Q f h = absurd h
defined_along (x ∷ []) P Q f h = tt
defined_along (x ∷ y ∷ zs) P Q f h = f h

equation_proper : (e : EquationTree) → IsPrintableEquation e → IsProperEquation (written_equation e)
equation_proper e h = (defined_along e.left (IsCallTree e.right) (IsCall (written e.right)) (call_written e.right) h.0, written_proper e.right h.1)

equations_proper : (es : List EquationTree) → Each IsPrintableEquation es → Each IsProperEquation (map written_equation es)
equations_proper [] h = tt
equations_proper (e ∷ es) h = (equation_proper e h.0, equations_proper es h.1)

abbrev made : List ℕ → List DeclarationTree → List DeclarationTree → List DeclarationTree → List EquationTree → NodeTree
made v ins outs ls es = record { name = v; inputs = ins; outputs = outs; locals = ls; equations = es }

same_node : (v : List ℕ) (a a' b b' c c' : List DeclarationTree) (d d' : List EquationTree) → a ≡ a' → b ≡ b' → c ≡ c' → d ≡ d' → made v a b c d ≡ made v a' b' c' d'
same_node v a a' b b' c c' d d' h k l m = cc

node-written : (n : NodeTree) → node_tree (written_node n) ≡ bare_node n
node-written n =
    same_node n.name _ _ _ _ _ _ _ _ (declarations-written n.inputs) (declarations-written n.outputs) (declarations-written n.locals) (equations-written n.equations)

node_proper : (n : NodeTree) → IsPrintableNode n → IsProperNode (written_node n)
node_proper n h =
    (declarations_proper n.inputs, some_map written_declaration n.outputs h.0, declarations_proper n.outputs, declarations_proper n.locals, equations_proper n.equations h.1)

nodes-written : (ns : List NodeTree) → map node_tree (map written_node ns) ≡ map bare_node ns
nodes-written [] = refl
nodes-written (n ∷ ns) = ap (λ (m : NodeTree). m ∷ map node_tree (map written_node ns)) (node-written n) ∙ ap (λ (ms : List NodeTree). bare_node n ∷ ms) (nodes-written ns)

nodes_proper : (ns : List NodeTree) → Each IsPrintableNode ns → Each IsProperNode (map written_node ns)
nodes_proper [] h = tt
nodes_proper (n ∷ ns) h = (node_proper n h.0, nodes_proper ns h.1)

abbrev whole : List TypeTree → List NodeTree → ProgramTree
whole ds ns = record { types = ds; nodes = ns }

pub printed-spells : (found : ProgramTree) → IsPrintable found → Spells (program (written_program found) []) (bare found)
printed-spells found h = (written_program found, (some_map written_node found.nodes h.0, nodes_proper found.nodes h.1, h.2), refl, ap (whole found.types) (nodes-written found.nodes))

-- WHAT IS SPELLED IS PRINTABLE, AND NOTHING MORE IS KNOWN OF ITS NAMES

pattern-bare : (p : Pattern) → IsBare p → bare_pattern p ≡ p
pattern-bare (patterns.Truth b) h = refl
pattern-bare (patterns.Label l) h = ap (λ (k : Label). patterns.Label k) (sym h)

abbrev on : List ℕ → Pattern → Condition
on x p = record { variable = x; pattern = p }

condition-bare : (c : Condition) → IsBare c.pattern → bare_condition c ≡ c
condition-bare c h = ap (on c.variable) (pattern-bare c.pattern h)

clock-bare : (c : Option Condition) → IsBareClock c → bare_clock c ≡ c
clock-bare None h = refl
clock-bare (Some c) h = ap (λ (k : Condition). Some k) (condition-bare c h)

labels-bare : (ps : List Pattern) → Each IsBareLabel ps → map bare_pattern ps ≡ ps
labels-bare [] h = refl
labels-bare (patterns.Truth b ∷ ps) h = absurd h.0
labels-bare (patterns.Label l ∷ ps) h =
    ap (λ (p : Pattern). p ∷ map bare_pattern ps) (pattern-bare (patterns.Label l) h.0) ∙ ap (λ (qs : List Pattern). patterns.Label l ∷ qs) (labels-bare ps h.1)

patterns-bare : (cs : Writtens) (ps : List Pattern) → AreBranches cs ps → map bare_pattern ps ≡ ps
patterns-bare cs ps (many, inl same) = let P : List Pattern → Type 0 = λ qs. map bare_pattern qs ≡ qs in subst P (sym same) refl
patterns-bare cs ps (many, inr (some, bare_all)) = labels-bare ps bare_all

each_label : (ps : List Pattern) → Each IsBareLabel ps → Each IsLabel ps
each_label [] h = tt
each_label (patterns.Truth b ∷ ps) h = absurd h.0
each_label (patterns.Label l ∷ ps) h = (tt, each_label ps h.1)

matched : (cs : Writtens) (ps : List Pattern) → AreAsMany cs ps → AreMatched (trees cs) ps
matched w.none [] h = tt
matched w.none (p ∷ ps) h = absurd h
matched (w.more c cs) [] h = absurd h
matched (w.more c cs) (p ∷ ps) h = matched cs ps h

patterns_printable : (cs : Writtens) (ps : List Pattern) → AreBranches cs ps → ArePrintablePatterns ps
patterns_printable cs ps (many, inl same) = inl same
patterns_printable cs ps (many, inr (some, bare_all)) = inr (some, each_label ps bare_all)

mutual
  tree-bare : (c : Written) → IsProper c → bare_tree (tree c) ≡ tree c
  tree-bare (w.number n) h = refl
  tree-bare (w.truth b) h = refl
  tree-bare (w.variable x) h = refl
  tree-bare (w.unary op c) h = ap (t.unary op) (tree-bare c h.1)
  tree-bare (w.binary op a b) h = let f = tree-bare a h.2 in let g = tree-bare b h.3 in cc
  tree-bare (w.choice a b c) h = let f = tree-bare a h.0 in let g = tree-bare b h.1 in let k = tree-bare c h.2 in cc
  tree-bare (w.when c clock) h = ap (λ (a : Tree). t.when a (bare_condition clock)) (tree-bare c h.1) ∙ ap (t.when (tree c)) (condition-bare clock h.2)
  tree-bare (w.current x) h = refl
  tree-bare (w.merge x ps cs) h = ap (λ (qs : List Pattern). t.merge x qs (bare_trees (trees cs))) (patterns-bare cs ps h.1) ∙ ap (t.merge x ps) (trees-bare cs h.0)
  tree-bare (w.call g cs) h = ap (t.call g) (trees-bare cs h)
  tree-bare (w.paren c) h = tree-bare c h

  trees-bare : (cs : Writtens) → AreProper cs → bare_trees (trees cs) ≡ trees cs
  trees-bare w.none h = refl
  trees-bare (w.more c cs) h = let f = tree-bare c h.0 in let g = trees-bare cs h.1 in cc

mutual
  tree_printable : (c : Written) → IsProper c → IsPrintableTree (tree c)
  tree_printable (w.number n) h = tt
  tree_printable (w.truth b) h = tt
  tree_printable (w.variable x) h = tt
  tree_printable (w.unary op c) h = tree_printable c h.1
  tree_printable (w.binary op a b) h = (tree_printable a h.2, tree_printable b h.3)
  tree_printable (w.choice a b c) h = (tree_printable a h.0, tree_printable b h.1, tree_printable c h.2)
  tree_printable (w.when c clock) h = tree_printable c h.1
  tree_printable (w.current x) h = tt
  tree_printable (w.merge x ps cs) h = (trees_printable cs h.0, matched cs ps h.1.0, patterns_printable cs ps h.1)
  tree_printable (w.call g cs) h = trees_printable cs h
  tree_printable (w.paren c) h = tree_printable c h

  trees_printable : (cs : Writtens) → AreProper cs → ArePrintable (trees cs)
  trees_printable w.none h = tt
  trees_printable (w.more c cs) h = (tree_printable c h.0, trees_printable cs h.1)

some_declared : (ds : List WrittenDeclaration) → IsNonempty ds → Each IsProperDeclaration ds → IsNonempty (flat_map declaration_tree ds)
some_declared [] h p = absurd h
some_declared (d ∷ ds) h p = by_names d.names refl p.0.0
  where
    by_names : (xs : List (List ℕ)) → d.names ≡ xs → IsNonempty xs → IsNonempty (map (w.declared d.kind d.clock) xs ++ flat_map declaration_tree ds)
    by_names [] e some = absurd some
    by_names (x ∷ xs) e some = tt

-- a type that is written is written so again
type-bare : (k : WrittenType) → written_type (kind_of k) (type_name_of k) ≡ k
type-bare w.int = refl
type-bare w.bool = refl
type-bare (w.named x) = refl

declared-bare : (k : WrittenType) (c : Option Condition) (xs : List (List ℕ)) → IsBareClock c → map bare_declaration (map (declared k c) xs) ≡ map (declared k c) xs
declared-bare k c [] h = refl
declared-bare k c (x ∷ xs) h =
    ap (λ (d : DeclarationTree). d ∷ map bare_declaration (map (declared k c) xs))
    (ap (λ (j : WrittenType). declared j (bare_clock c) x) (type-bare k) ∙ ap (λ (d : Option Condition). declared k d x) (clock-bare c h))
    ∙ ap (λ (ds : List DeclarationTree). declared k c x ∷ ds) (declared-bare k c xs h)

declarations-bare : (ds : List WrittenDeclaration) → Each IsProperDeclaration ds → map bare_declaration (flat_map declaration_tree ds) ≡ flat_map declaration_tree ds
declarations-bare [] h = refl
declarations-bare (d ∷ ds) h =
    map-append bare_declaration (declaration_tree d) (flat_map declaration_tree ds)
    ∙ ap (λ (es : List DeclarationTree). es ++ map bare_declaration (flat_map declaration_tree ds)) (declared-bare d.kind d.clock d.names h.0.1)
    ∙ ap (λ (es : List DeclarationTree). declaration_tree d ++ es) (declarations-bare ds h.1)

call_tree : (c : Written) → IsCall c → IsCallTree (tree c)
call_tree (w.call g cs) h = tt
call_tree (w.number n) h = absurd h
call_tree _ h = absurd h

abbrev defined : List (List ℕ) → Tree → EquationTree
defined left right = record { left = left; right = right }

equations-bare : (es : List WrittenEquation) → Each IsProperEquation es → map bare_equation (map equation_tree es) ≡ map equation_tree es
equations-bare [] h = refl
equations-bare (e ∷ es) h =
    ap (λ (a : Tree). defined e.left a ∷ map bare_equation (map equation_tree es)) (tree-bare e.right h.0.1) ∙ ap (λ (qs : List EquationTree). equation_tree e ∷ qs) (equations-bare es h.1)

equations_printable : (es : List WrittenEquation) → Each IsProperEquation es → Each IsPrintableEquation (map equation_tree es)
equations_printable [] h = tt
equations_printable (e ∷ es) h =
    ((defined_along e.left (IsCall e.right) (IsCallTree (tree e.right)) (call_tree e.right) h.0.0, tree_printable e.right h.0.1), equations_printable es h.1)

node-bare : (p : WrittenNode) → IsProperNode p → bare_node (node_tree p) ≡ node_tree p
node-bare p h =
    let e1 = declarations-bare p.inputs h.0 in
    let e2 = declarations-bare p.outputs h.2 in
    let e3 = declarations-bare p.locals h.3 in
    let e4 = equations-bare p.equations h.4 in
    same_node p.name _ _ _ _ _ _ _ _ e1 e2 e3 e4

nodes-bare : (ps : List WrittenNode) → Each IsProperNode ps → map bare_node (map node_tree ps) ≡ map node_tree ps
nodes-bare [] h = refl
nodes-bare (p ∷ ps) h = ap (λ (n : NodeTree). n ∷ map bare_node (map node_tree ps)) (node-bare p h.0) ∙ ap (λ (ns : List NodeTree). node_tree p ∷ ns) (nodes-bare ps h.1)

nodes_printable : (ps : List WrittenNode) → Each IsProperNode ps → Each IsPrintableNode (map node_tree ps)
nodes_printable [] h = tt
nodes_printable (p ∷ ps) h = ((some_declared p.outputs h.0.1 h.0.2, equations_printable p.equations h.0.4), nodes_printable ps h.1)

pub spelled-printable : (ts : List Tok) (found : ProgramTree) → Spells ts found → IsPrintable found
spelled-printable ts found (p, proper, spelled, tree_is) = subst IsPrintable tree_is (some_map node_tree p.nodes proper.0, nodes_printable p.nodes proper.1, proper.2)

pub spelled-bare : (ts : List Tok) (found : ProgramTree) → Spells ts found → bare found ≡ found
spelled-bare ts found (p, proper, spelled, tree_is) = ap bare (sym tree_is) ∙ ap (whole p.types) (nodes-bare p.nodes proper.1) ∙ tree_is
