-- The canonical form of a tree: parentheses exactly where they are needed, and one name a declaration. The
-- semicolons that may be left out stand after a heading, and not after a node's end. A name of an enumeration
-- is given by its name alone.
use Rattle.std.specs.Prelude.{◌≡◌, ◌⊎◌, ℕ, true, false, nat_le, List, [], ◌∷◌, map, Option, Some, None}
use Rattle.std.specs.Prelude.{if◌then◌else◌}
use Rattle.lutree.specs.declared.expr.Pattern.{Pattern}
use Rattle.lutree.specs.declared.expr.Pattern.TheVariants as patterns
use Rattle.lutree.specs.declared.expr.Condition.{Condition}
use Rattle.lutree.specs.declared.program.Kind.{Kind}
use Rattle.lutree.specs.declared.program.Kind.TheVariants as kinds
use Rattle.lutree.specs.Tree.{Tree, Trees, TypeTree, DeclarationTree, EquationTree, NodeTree, ProgramTree}
use Rattle.lutree.specs.Tree as t
use Rattle.lusyn_grammar.specs.Tokens.{left, right}
use Rattle.lusyn_grammar.specs.Grammar.{Written, Writtens, number, truth, variable, unary, binary, choice}
use Rattle.lusyn_grammar.specs.Grammar.{when, current, merge, call, paren, none, more, level_of, WrittenType}
use Rattle.lusyn_grammar.specs.Grammar.{int, bool, named, WrittenDeclaration, WrittenEquation, WrittenNode}
use Rattle.lusyn_grammar.specs.Grammar.{WrittenProgram, Each, IsNonempty, IsDefinedBy, bare_label, truths}
use Rattle.lusyn_grammar.specs.Grammar.{declared}

-- in parentheses exactly where it binds less tightly than its place asks
abbrev pub placed : ℕ → Written → Written
placed least c = if nat_le least (level_of c) then c else paren c

-- a name, whatever it stands for
abbrev pub bare_pattern : Pattern → Pattern
bare_pattern (patterns.Truth b) = patterns.Truth b
bare_pattern (patterns.Label l) = patterns.Label (bare_label l.name)

abbrev pub bare_condition : Condition → Condition
bare_condition c = record { variable = c.variable; pattern = bare_pattern c.pattern }

abbrev pub bare_clock : Option Condition → Option Condition
bare_clock None = None
bare_clock (Some c) = Some (bare_condition c)

abbrev mutual
  pub written : Tree → Written
  written (t.number n) = number n
  written (t.truth b) = truth b
  written (t.label l) = variable l.name
  written (t.variable x) = variable x
  written (t.unary op a) = unary op (placed 8 (written a))
  written (t.binary op a b) = binary op (placed (left op) (written a)) (placed (right op) (written b))
  written (t.choice a b c) = choice (placed 0 (written a)) (placed 0 (written b)) (placed 0 (written c))
  written (t.when a clock) = when (placed 9 (written a)) (bare_condition clock)
  written (t.current x) = current x
  written (t.merge x patterns xs) = merge x (map bare_pattern patterns) (writtens xs)
  written (t.call g xs) = call g (writtens xs)

  pub writtens : Trees → Writtens
  writtens t.none = none
  writtens (t.more a xs) = more (placed 0 (written a)) (writtens xs)

-- an enumeration by its name; one without a name has none that could be written
abbrev pub written_type : Kind → Option (List ℕ) → WrittenType
written_type kind (Some x) = named x
written_type kinds.Int None = int
written_type kinds.Bool None = bool
written_type (kinds.Enum place size) None = named []

abbrev pub written_declaration : DeclarationTree → WrittenDeclaration
written_declaration d = record {
  names = d.name ∷ [];
  kind = written_type d.kind d.type_name;
  clock = bare_clock d.clock;
}

abbrev pub written_equation : EquationTree → WrittenEquation
written_equation e = record { left = e.left; right = written e.right }

abbrev pub written_node : NodeTree → WrittenNode
written_node n = record {
  name = n.name;
  inputs = map written_declaration n.inputs;
  outputs = map written_declaration n.outputs;
  is_heading_ended = true;
  locals = map written_declaration n.locals;
  equations = map written_equation n.equations;
  is_ended = false;
}

abbrev pub written_program : ProgramTree → WrittenProgram
written_program p = record { types = p.types; nodes = map written_node p.nodes }

-- The tree without what its names of enumerations stand for: each is a variable in an expression, and
-- elsewhere a name of which nothing else is known.

abbrev mutual
  pub bare_tree : Tree → Tree
  bare_tree (t.number n) = t.number n
  bare_tree (t.truth b) = t.truth b
  bare_tree (t.label l) = t.variable l.name
  bare_tree (t.variable x) = t.variable x
  bare_tree (t.unary op a) = t.unary op (bare_tree a)
  bare_tree (t.binary op a b) = t.binary op (bare_tree a) (bare_tree b)
  bare_tree (t.choice a b c) = t.choice (bare_tree a) (bare_tree b) (bare_tree c)
  bare_tree (t.when a clock) = t.when (bare_tree a) (bare_condition clock)
  bare_tree (t.current x) = t.current x
  bare_tree (t.merge x patterns xs) = t.merge x (map bare_pattern patterns) (bare_trees xs)
  bare_tree (t.call g xs) = t.call g (bare_trees xs)

  pub bare_trees : Trees → Trees
  bare_trees t.none = t.none
  bare_trees (t.more a xs) = t.more (bare_tree a) (bare_trees xs)

abbrev pub bare_declaration : DeclarationTree → DeclarationTree
bare_declaration d = declared (written_type d.kind d.type_name) (bare_clock d.clock) d.name

abbrev pub bare_equation : EquationTree → EquationTree
bare_equation e = record { left = e.left; right = bare_tree e.right }

abbrev pub bare_node : NodeTree → NodeTree
bare_node n = record {
  name = n.name;
  inputs = map bare_declaration n.inputs;
  outputs = map bare_declaration n.outputs;
  locals = map bare_declaration n.locals;
  equations = map bare_equation n.equations;
}

abbrev pub bare : ProgramTree → ProgramTree
bare p = record { types = p.types; nodes = map bare_node p.nodes }

-- Which trees can be printed.

-- as many branches as patterns
abbrev pub AreMatched : Trees → List Pattern → Type 0
AreMatched t.none [] = Unit {0}
AreMatched (t.more a xs) (p ∷ ps) = AreMatched xs ps
AreMatched _ _ = ⊥

abbrev pub IsLabel : Pattern → Type 0
IsLabel (patterns.Truth b) = ⊥
IsLabel (patterns.Label l) = Unit {0}

-- the patterns of a merge: both truths in order, or one name and more
abbrev pub ArePrintablePatterns : List Pattern → Type 0
ArePrintablePatterns ps = (ps ≡ truths) ⊎ (IsNonempty ps × Each IsLabel ps)

abbrev mutual
  pub IsPrintableTree : Tree → Type 0
  IsPrintableTree (t.unary op a) = IsPrintableTree a
  IsPrintableTree (t.binary op a b) = IsPrintableTree a × IsPrintableTree b
  IsPrintableTree (t.choice a b c) = IsPrintableTree a × IsPrintableTree b × IsPrintableTree c
  IsPrintableTree (t.when a clock) = IsPrintableTree a
  IsPrintableTree (t.merge x patterns xs) = ArePrintable xs × AreMatched xs patterns
      × ArePrintablePatterns patterns
  IsPrintableTree (t.call g xs) = ArePrintable xs
  IsPrintableTree _ = Unit {0}

  pub ArePrintable : Trees → Type 0
  ArePrintable t.none = Unit {0}
  ArePrintable (t.more a xs) = IsPrintableTree a × ArePrintable xs

abbrev pub IsCallTree : Tree → Type 0
IsCallTree (t.call g xs) = Unit {0}
IsCallTree _ = ⊥

-- one name is defined by any expression, two and more by a call
abbrev pub IsPrintableEquation : EquationTree → Type 0
IsPrintableEquation e = IsDefinedBy e.left (IsCallTree e.right) × IsPrintableTree e.right

-- with at least one output
abbrev pub IsPrintableNode : NodeTree → Type 0
IsPrintableNode n = IsNonempty n.outputs × Each IsPrintableEquation n.equations

-- with at least one name
abbrev pub IsPrintableType : TypeTree → Type 0
IsPrintableType x = IsNonempty x.names

-- with at least one node
abbrev pub IsPrintable : ProgramTree → Type 0
IsPrintable p = IsNonempty p.nodes × Each IsPrintableNode p.nodes × Each IsPrintableType p.types
