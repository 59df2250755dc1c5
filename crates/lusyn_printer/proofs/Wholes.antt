-- Names that are no keywords and numbers that are in range: those of a tree that is spelled by the tokens of a text.
use Rattle.std.proofs.Common.{◌≡◌, ◌≢◌, ◌<◌, ◌+◌, ◌^◌, ℕ, true, false, List, [], ◌∷◌, ◌++◌, length, map, Option, Some, None, sym, subst}
use Rattle.std.specs.List.{flat_map}
use Rattle.lutree.specs.declared.expr.Pattern.{Pattern}
use Rattle.lutree.specs.declared.expr.Pattern.TheVariants as patterns
use Rattle.lutree.specs.declared.expr.Condition.{Condition}
use Rattle.lutree.specs.Tree.{Tree, Trees, TypeTree, DeclarationTree, EquationTree, NodeTree, ProgramTree}
use Rattle.lutree.specs.Tree as t
use Rattle.lusyn_grammar.specs.declared.token.Fixed.{Fixed}
use Rattle.lusyn_grammar.specs.declared.token.Fixed.TheVariants as f
use Rattle.lusyn_grammar.specs.Tokens.{Tok, identifier, number, fixed, text_of}
use Rattle.lusyn_grammar.specs.Lexing as pieces
use Rattle.lusyn_grammar.specs.Lexing.{is_word_text, IsPiece, IsInRange, Pieces, Placed, placed, before, AreCut}
use Rattle.lusyn_grammar.specs.Grammar as w
use Rattle.lusyn_grammar.specs.Grammar.{Written, Writtens, tree, trees, tokens, further, branches, branch_token, WrittenType, WrittenDeclaration, WrittenEquation, WrittenNode, WrittenProgram, Each, repeated, separated, led, ended, optional, name, pattern_tokens, when_tokens, type_token, clock, declaration, locals, left_tokens, equation, heading, body, node, type_declaration, program, kind_of, type_name_of, declared, declaration_tree, equation_tree, node_tree, program_tree}
use Rattle.lusyn_grammar.specs.Printing.{written_type, bare_pattern, bare_tree, bare_trees}

abbrev pub IsName : List ℕ → Type 0
IsName x = (is_word_text x ≡ true) × ((g : Fixed) → x ≢ text_of g)

abbrev pub IsWhole : Tok → Type 0
IsWhole (identifier x) = IsName x
IsWhole (number n) = n < 2 ^ 63
IsWhole (fixed g) = Unit {0}

abbrev pub AreWhole : List Tok → Type 0
AreWhole = Each IsWhole

-- ---- the tokens of a text

abbrev IsWholeIf : Option Tok → Type 0
IsWholeIf None = Unit {0}
IsWholeIf (Some x) = IsWhole x

piece-whole : (w : List ℕ) (t : Option Tok) → IsPiece w t → IsInRange t → IsWholeIf t
piece-whole w t (pieces.blank b h e k) range = let P : Option Tok → Type 0 = IsWholeIf in subst P (sym k) tt
piece-whole w t (pieces.comment line h e k) range = let P : Option Tok → Type 0 = IsWholeIf in subst P (sym k) tt
piece-whole w t (pieces.spelled g e k) range = let P : Option Tok → Type 0 = IsWholeIf in subst P (sym k) tt
piece-whole w t (pieces.name h free k) range = let P : Option Tok → Type 0 = IsWholeIf in subst P (sym k) (h, free)
piece-whole w t (pieces.digits h k) range =
    let P : Option Tok → Type 0 = IsWholeIf in
    let Q : Option Tok → Type 0 = IsInRange in
    subst P (sym k) (subst Q k range)

before-whole : (at : ℕ) (t : Option Tok) (ts : List Placed) → IsWholeIf t → AreWhole (map (λ x. x.1) ts) → AreWhole (map (λ x. x.1) (before at t ts))
before-whole at None ts h k = k
before-whole at (Some x) ts h k = (h, k)

pub cut-whole : (ps : Pieces) (at : ℕ) → AreCut ps [] → AreWhole (map (λ x. x.1) (placed at ps))
cut-whole [] at cut = tt
cut-whole ((w, t) ∷ ps) at cut = before-whole at t (placed (at + length w) ps) (piece-whole w t cut.0 cut.2) (cut-whole ps (at + length w) cut.3)

-- ---- the names and numbers of a tree

abbrev pub IsWholePattern : Pattern → Type 0
IsWholePattern (patterns.Truth b) = Unit {0}
IsWholePattern (patterns.Label l) = IsName l.name

abbrev pub IsWholeCondition : Condition → Type 0
IsWholeCondition c = IsName c.variable × IsWholePattern c.pattern

abbrev mutual
  pub IsWholeTree : Tree → Type 0
  IsWholeTree (t.number n) = n < 2 ^ 63
  IsWholeTree (t.truth b) = Unit {0}
  IsWholeTree (t.label l) = IsName l.name
  IsWholeTree (t.variable x) = IsName x
  IsWholeTree (t.unary op a) = IsWholeTree a
  IsWholeTree (t.binary op a b) = IsWholeTree a × IsWholeTree b
  IsWholeTree (t.choice a b c) = IsWholeTree a × IsWholeTree b × IsWholeTree c
  IsWholeTree (t.when a c) = IsWholeTree a × IsWholeCondition c
  IsWholeTree (t.current x) = IsName x
  IsWholeTree (t.merge x ps xs) = IsName x × AreWholeBranches xs ps
  IsWholeTree (t.call g xs) = IsName g × AreWholeTrees xs

  pub AreWholeTrees : Trees → Type 0
  AreWholeTrees t.none = Unit {0}
  AreWholeTrees (t.more a xs) = IsWholeTree a × AreWholeTrees xs

  -- those that have a pattern
  pub AreWholeBranches : Trees → List Pattern → Type 0
  AreWholeBranches t.none ps = Unit {0}
  AreWholeBranches (t.more a xs) [] = Unit {0}
  AreWholeBranches (t.more a xs) (p ∷ ps) = IsWholePattern p × IsWholeTree a × AreWholeBranches xs ps

abbrev pub IsWholeClock : Option Condition → Type 0
IsWholeClock None = Unit {0}
IsWholeClock (Some c) = IsWholeCondition c

abbrev pub IsWholeType : WrittenType → Type 0
IsWholeType w.int = Unit {0}
IsWholeType w.bool = Unit {0}
IsWholeType (w.named x) = IsName x

abbrev pub IsWholeDeclaration : DeclarationTree → Type 0
IsWholeDeclaration d = IsName d.name × IsWholeClock d.clock × IsWholeType (written_type d.kind d.type_name)

abbrev pub IsWholeEquation : EquationTree → Type 0
IsWholeEquation e = Each IsName e.left × IsWholeTree e.right

abbrev pub IsWholeNode : NodeTree → Type 0
IsWholeNode n = IsName n.name × Each IsWholeDeclaration n.inputs × Each IsWholeDeclaration n.outputs × Each IsWholeDeclaration n.locals × Each IsWholeEquation n.equations

abbrev pub IsWholeEnumeration : TypeTree → Type 0
IsWholeEnumeration x = IsName x.name × Each IsName x.names

abbrev pub IsWholeProgram : ProgramTree → Type 0
IsWholeProgram p = Each IsWholeEnumeration p.types × Each IsWholeNode p.nodes

-- ---- what a name stands for is no matter

pattern-whole : (p : Pattern) → IsWholePattern p → IsWholePattern (bare_pattern p)
pattern-whole (patterns.Truth b) h = tt
pattern-whole (patterns.Label l) h = h

mutual
  pub bare-whole : (a : Tree) → IsWholeTree a → IsWholeTree (bare_tree a)
  bare-whole (t.number n) h = h
  bare-whole (t.truth b) h = h
  bare-whole (t.label l) h = h
  bare-whole (t.variable x) h = h
  bare-whole (t.unary op a) h = bare-whole a h
  bare-whole (t.binary op a b) h = (bare-whole a h.0, bare-whole b h.1)
  bare-whole (t.choice a b c) h = (bare-whole a h.0, bare-whole b h.1, bare-whole c h.2)
  bare-whole (t.when a c) h = (bare-whole a h.0, (h.1.0, pattern-whole c.pattern h.1.1))
  bare-whole (t.current x) h = h
  bare-whole (t.merge x ps xs) h = (h.0, bare-branches xs ps h.1)
  bare-whole (t.call g xs) h = (h.0, bare-wholes xs h.1)

  bare-wholes : (xs : Trees) → AreWholeTrees xs → AreWholeTrees (bare_trees xs)
  bare-wholes t.none h = tt
  bare-wholes (t.more a xs) h = (bare-whole a h.0, bare-wholes xs h.1)

  bare-branches : (xs : Trees) (ps : List Pattern) → AreWholeBranches xs ps → AreWholeBranches (bare_trees xs) (map bare_pattern ps)
  bare-branches t.none ps h = tt
  bare-branches (t.more a xs) [] h = tt
  bare-branches (t.more a xs) (p ∷ ps) h = (pattern-whole p h.0, bare-whole a h.1, bare-branches xs ps h.2)

-- ---- from the tokens to the tree: those of the part are whole, and so is the rest

when-whole : (c : Condition) (rest : List Tok) → AreWhole (when_tokens c rest) → IsWholeCondition c × AreWhole rest
when-whole c rest h = by_pattern c.pattern h.1
  where
    by_pattern : (p : Pattern) → AreWhole (pattern_tokens p c.variable rest) → (IsName c.variable × IsWholePattern p) × AreWhole rest
    by_pattern (patterns.Truth true) k = ((k.0, tt), k.1)
    by_pattern (patterns.Truth false) k = ((k.1.0, tt), k.1.1)
    by_pattern (patterns.Label l) k = ((k.1.1.0, k.0), k.1.1.1.1)

branch-whole : (p : Pattern) → IsWhole (branch_token p) → IsWholePattern p
branch-whole (patterns.Truth b) h = tt
branch-whole (patterns.Label l) h = h

mutual
  tree-whole : (c : Written) (rest : List Tok) → AreWhole (tokens c rest) → IsWholeTree (tree c) × AreWhole rest
  tree-whole (w.number n) rest h = h
  tree-whole (w.truth b) rest h = h
  tree-whole (w.variable x) rest h = h
  tree-whole (w.unary op c) rest h = tree-whole c rest h.1
  tree-whole (w.binary op a b) rest h =
      let x = tree-whole a _ h in
      let y = tree-whole b rest x.1.1 in
      ((x.0, y.0), y.1)
  tree-whole (w.choice a b c) rest h =
      let x = tree-whole a _ h.1 in
      let y = tree-whole b _ x.1.1 in
      let z = tree-whole c rest y.1.1 in
      ((x.0, y.0, z.0), z.1)
  tree-whole (w.when c on) rest h =
      let x = tree-whole c _ h in
      let y = when-whole on rest x.1 in
      ((x.0, y.0), y.1)
  tree-whole (w.current x) rest h = h.1
  tree-whole (w.merge x ps cs) rest h = let k = branches-whole cs ps rest h.1.1 in ((h.1.0, k.0), k.1)
  tree-whole (w.call g w.none) rest h = ((h.0, tt), h.1.1.1)
  tree-whole (w.call g (w.more c cs)) rest h =
      let x = tree-whole c _ h.1.1 in
      let y = trees-whole cs _ x.1 in
      ((h.0, (x.0, y.0)), y.1.1)
  tree-whole (w.paren c) rest h = let x = tree-whole c _ h.1 in (x.0, x.1.1)

  trees-whole : (cs : Writtens) (rest : List Tok) → AreWhole (further cs rest) → AreWholeTrees (trees cs) × AreWhole rest
  trees-whole w.none rest h = (tt, h)
  trees-whole (w.more c cs) rest h =
      let x = tree-whole c _ h.1 in
      let y = trees-whole cs rest x.1 in
      ((x.0, y.0), y.1)

  branches-whole : (cs : Writtens) (ps : List Pattern) (rest : List Tok) → AreWhole (branches cs ps rest) → AreWholeBranches (trees cs) ps × AreWhole rest
  branches-whole w.none ps rest h = (tt, h)
  branches-whole (w.more c cs) [] rest h = (tt, h)
  branches-whole (w.more c cs) (p ∷ ps) rest h =
      let x = tree-whole c _ h.1.1.1 in
      let y = branches-whole cs ps rest x.1.1 in
      ((branch-whole p h.1.0, x.0, y.0), y.1)

-- ---- lists of parts

each_append : {A : Type 0} (P : A → Type 0) (xs ys : List A) → Each P xs → Each P ys → Each P (xs ++ ys)
each_append P [] ys h k = k
each_append P (x ∷ xs) ys h k = (h.0, each_append P xs ys h.1 k)

-- a part that is read before the rest
abbrev Gives : {W A : Type 0} → (W → List Tok → List Tok) → (W → List A) → (A → Type 0) → Type 0
Gives of view P = (q : _) (rest : List Tok) → AreWhole (of q rest) → Each P (view q) × AreWhole rest

repeated-whole : {W A : Type 0} (of : W → List Tok → List Tok) (view : W → List A) (P : A → Type 0) → Gives of view P
    → (qs : List W) (rest : List Tok) → AreWhole (repeated of qs rest) → Each P (flat_map view qs) × AreWhole rest
repeated-whole of view P one [] rest h = (tt, h)
repeated-whole of view P one (q ∷ qs) rest h =
    let x = one q _ h in
    let y = repeated-whole of view P one qs rest x.1 in
    (each_append P (view q) (flat_map view qs) x.0 y.0, y.1)

separated-whole : {W A : Type 0} (g : Fixed) (of : W → List Tok → List Tok) (view : W → List A) (P : A → Type 0) → Gives of view P
    → (qs : List W) (rest : List Tok) → AreWhole (separated g of qs rest) → Each P (flat_map view qs) × AreWhole rest
separated-whole g of view P one [] rest h = (tt, h)
separated-whole g of view P one (q ∷ qs) rest h =
    let x = one q _ h in
    let y = repeated-whole (led g of) view P (λ p ts k. one p ts k.1) qs rest x.1 in
    (each_append P (view q) (flat_map view qs) x.0 y.0, y.1)

names-whole : (xs : List (List ℕ)) (rest : List Tok) → AreWhole (repeated (led f.Comma name) xs rest) → Each IsName xs × AreWhole rest
names-whole [] rest h = (tt, h)
names-whole (x ∷ xs) rest h = let y = names-whole xs rest h.1.1 in ((h.1.0, y.0), y.1)

apart-whole : (xs : List (List ℕ)) (rest : List Tok) → AreWhole (separated f.Comma name xs rest) → Each IsName xs × AreWhole rest
apart-whole [] rest h = (tt, h)
apart-whole (x ∷ xs) rest h = let y = names-whole xs rest h.1 in ((h.0, y.0), y.1)

-- ---- declarations, equations, nodes

clock-whole : (c : Option Condition) (rest : List Tok) → AreWhole (clock c rest) → IsWholeClock c × AreWhole rest
clock-whole None rest h = (tt, h)
clock-whole (Some c) rest h = when-whole c rest h

type-whole : (k : WrittenType) → IsWhole (type_token k) → IsWholeType (written_type (kind_of k) (type_name_of k))
type-whole w.int h = tt
type-whole w.bool h = tt
type-whole (w.named x) h = h

declared-whole : (kind : WrittenType) (on : Option Condition) (xs : List (List ℕ)) → IsWhole (type_token kind) → IsWholeClock on → Each IsName xs → Each IsWholeDeclaration (map (declared kind on) xs)
declared-whole kind on [] k c h = tt
declared-whole kind on (x ∷ xs) k c h = ((h.0, c, type-whole kind k), declared-whole kind on xs k c h.1)

declaration-whole : Gives declaration declaration_tree IsWholeDeclaration
declaration-whole d rest h =
    let x = apart-whole d.names _ h in
    let y = clock-whole d.clock rest x.1.1.1 in
    (declared-whole d.kind d.clock d.names x.1.1.0 y.0 x.0, y.1)

left-whole : (xs : List (List ℕ)) (rest : List Tok) → AreWhole (left_tokens xs rest) → Each IsName xs × AreWhole rest
left-whole [] rest h = (tt, h.1.1)
left-whole (x ∷ []) rest h = ((h.0, tt), h.1)
left-whole (x ∷ y ∷ zs) rest h = let k = apart-whole (x ∷ y ∷ zs) _ h.1 in (k.0, k.1.1)

equation-whole : (e : WrittenEquation) (rest : List Tok) → AreWhole (equation e rest) → IsWholeEquation (equation_tree e) × AreWhole rest
equation-whole e rest h =
    let x = left-whole e.left _ h in
    let y = tree-whole e.right rest x.1.1 in
    ((x.0, y.0), y.1)

equations-whole : (es : List WrittenEquation) (rest : List Tok) → AreWhole (repeated (ended f.Semicolon equation) es rest) → Each IsWholeEquation (map equation_tree es) × AreWhole rest
equations-whole [] rest h = (tt, h)
equations-whole (e ∷ es) rest h =
    let x = equation-whole e _ h in
    let y = equations-whole es rest x.1.1 in
    ((x.0, y.0), y.1)

optional-whole : (b : _) (rest : List Tok) → AreWhole (optional b rest) → AreWhole rest
optional-whole false rest h = h
optional-whole true rest h = h.1

locals-whole : (ds : List WrittenDeclaration) (rest : List Tok) → AreWhole (locals ds rest) → Each IsWholeDeclaration (flat_map declaration_tree ds) × AreWhole rest
locals-whole [] rest h = (tt, h)
locals-whole (d ∷ ds) rest h =
    repeated-whole (ended f.Semicolon declaration) declaration_tree IsWholeDeclaration (λ p ts k. let x = declaration-whole p _ k in (x.0, x.1.1)) (d ∷ ds) rest h.1

node-whole : (n : WrittenNode) (rest : List Tok) → AreWhole (node n rest) → IsWholeNode (node_tree n) × AreWhole rest
node-whole n rest h =
    let inputs = separated-whole f.Semicolon declaration declaration_tree IsWholeDeclaration declaration-whole n.inputs _ h.1.1.1 in
    let outputs = separated-whole f.Semicolon declaration declaration_tree IsWholeDeclaration declaration-whole n.outputs _ inputs.1.1.1.1 in
    let headed = optional-whole n.is_heading_ended _ outputs.1.1 in
    let inner = locals-whole n.locals _ headed in
    let equations = equations-whole n.equations _ inner.1.1 in
    ((h.1.0, inputs.0, outputs.0, inner.0, equations.0), optional-whole n.is_ended rest equations.1.1)

nodes-whole : (ns : List WrittenNode) → AreWhole (repeated node ns []) → Each IsWholeNode (map node_tree ns)
nodes-whole [] h = tt
nodes-whole (n ∷ ns) h = let x = node-whole n _ h in (x.0, nodes-whole ns x.1)

types-whole : (xs : List TypeTree) (rest : List Tok) → AreWhole (repeated type_declaration xs rest) → Each IsWholeEnumeration xs × AreWhole rest
types-whole [] rest h = (tt, h)
types-whole (x ∷ xs) rest h =
    let y = apart-whole x.names _ h.1.1.1.1.1 in
    let z = types-whole xs rest y.1.1.1 in
    (((h.1.0, y.0), z.0), z.1)

pub program-whole : (p : WrittenProgram) → AreWhole (program p []) → IsWholeProgram (program_tree p)
program-whole p h = let x = types-whole p.types _ h in (x.0, nodes-whole p.nodes x.1)
