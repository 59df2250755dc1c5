-- Which tokens spell which program:
--
--   program  = { typedecl } node { node }
--   typedecl = "type" ident "=" "enum" "{" ident { "," ident } "}" ";"
--   node     = "node" ident "(" [ decls ] ")" "returns" "(" decls ")" [ ";" ] [ "var" decl ";" { decl ";" } ]
--              "let" { equation ";" } "tel" [ ";" ]
--   decls    = decl { ";" decl }
--   decl     = ident { "," ident } ":" ( "int" | "bool" | ident ) [ "when" clock ]
--   clock    = [ "not" ] ident | ident "(" ident ")"
--   equation = ident "=" expr | "(" ident "," ident { "," ident } ")" "=" call
--   expr     = "if" expr "then" expr "else" expr | arrow
--   arrow    = impl [ ( "->" | "fby" ) expr ]
--   impl     = disj [ "=>" impl ]
--   disj     = conj { ( "or" | "xor" ) conj }
--   conj     = comp { "and" comp }
--   comp     = sum [ ( "=" | "<>" | "<" | "<=" | ">" | ">=" ) sum ]
--   sum      = term { ( "+" | "-" ) term }
--   term     = unary { ( "*" | "div" | "mod" ) unary }
--   unary    = ( "not" | "-" | "pre" ) unary | "current" ident | post
--   post     = atom { "when" clock }
--   atom     = ident | number | "true" | "false" | call | "(" expr ")"
--            | "merge" ident "(" "true" "->" expr ")" "(" "false" "->" expr ")"
--            | "merge" ident branch { branch }
--   branch   = "(" ident "->" expr ")"
--   call     = ident "(" [ expr { "," expr } ] ")"
--
-- The rules from `expr` to `atom` are the levels 0 to 10 of `Tokens.antt`: what a rule spells has its level
-- or one above, and a place asks for a rule by its level.
--
-- What a name stands for is none of the grammar's: a name in an expression is a variable, and of a name in a
-- clock or a branch nothing is known but the name.
use Rattle.std.specs.Prelude.{◌≡◌, ◌≤◌, ◌⊎◌, ℕ, Bool, true, false, List, [], ◌∷◌, map, Option, Some, None}
use Rattle.std.specs.List.{flat_map}
use Rattle.lutree.specs.declared.expr.Prefix.{Prefix}
use Rattle.lutree.specs.declared.expr.Infix.{Infix}
use Rattle.lutree.specs.declared.expr.Label.{Label}
use Rattle.lutree.specs.declared.expr.Pattern.{Pattern}
use Rattle.lutree.specs.declared.expr.Pattern.TheVariants as patterns
use Rattle.lutree.specs.declared.expr.Condition.{Condition}
use Rattle.lutree.specs.declared.program.Kind.{Kind}
use Rattle.lutree.specs.declared.program.Kind.TheVariants as kinds
use Rattle.lutree.specs.Tree.{Tree, Trees, TypeTree, DeclarationTree, EquationTree, NodeTree, ProgramTree}
use Rattle.lutree.specs.Tree as t
use Rattle.lusyn_grammar.specs.declared.token.Fixed.{Fixed}
use Rattle.lusyn_grammar.specs.declared.token.Fixed.TheVariants as f
use Rattle.lusyn_grammar.specs.Tokens.{Tok, identifier, fixed}
use Rattle.lusyn_grammar.specs.Tokens as tok
use Rattle.lusyn_grammar.specs.Tokens.{prefix_token, infix_token, level, left, right}

-- AS IT IS WRITTEN

-- an expression, with the parentheses of its text
mutual
  pub data Written : Type 0 where
    number : ℕ → Written
    truth : Bool → Written
    variable : List ℕ → Written
    unary : Prefix → Written → Written
    binary : Infix → Written → Written → Written
    choice : Written → Written → Written → Written
    when : Written → Condition → Written
    current : List ℕ → Written
    merge : List ℕ → List Pattern → Writtens → Written
    call : List ℕ → Writtens → Written
    paren : Written → Written

  -- the arguments of a call, or the branches of a merge
  pub data Writtens : Type 0 where
    none : Writtens
    more : Written → Writtens → Writtens

-- a type, as it is written: one of the two keywords, or a name
pub data WrittenType : Type 0 where
  int : WrittenType
  bool : WrittenType
  named : List ℕ → WrittenType

-- several names, with one type and one clock
pub record WrittenDeclaration : Type 0 where
  pub names : List (List ℕ)
  pub kind : WrittenType
  pub clock : Option Condition

pub record WrittenEquation : Type 0 where
  pub left : List (List ℕ)
  pub right : Written

-- The flags say whether the semicolons stand there that may be left out. No inputs or no locals are none of
-- their text.
pub record WrittenNode : Type 0 where
  pub name : List ℕ
  pub inputs : List WrittenDeclaration
  pub outputs : List WrittenDeclaration
  pub is_heading_ended : Bool
  pub locals : List WrittenDeclaration
  pub equations : List WrittenEquation
  pub is_ended : Bool

pub record WrittenProgram : Type 0 where
  pub types : List TypeTree
  pub nodes : List WrittenNode

-- ITS TOKENS, AND THEN THE REST

-- { piece }
abbrev pub repeated : {A : Type 0} → (A → List Tok → List Tok) → List A → List Tok → List Tok
repeated piece [] rest = rest
repeated piece (x ∷ xs) rest = piece x (repeated piece xs rest)

-- sign piece
abbrev pub led : {A : Type 0} → Fixed → (A → List Tok → List Tok) → A → List Tok → List Tok
led sign piece x rest = fixed sign ∷ piece x rest

-- piece sign
abbrev pub ended : {A : Type 0} → Fixed → (A → List Tok → List Tok) → A → List Tok → List Tok
ended sign piece x rest = piece x (fixed sign ∷ rest)

-- [ piece { sign piece } ]
abbrev pub separated : {A : Type 0} → Fixed → (A → List Tok → List Tok) → List A → List Tok → List Tok
separated sign piece [] rest = rest
separated sign piece (x ∷ xs) rest = piece x (repeated (led sign piece) xs rest)

-- [ ";" ]
abbrev pub optional : Bool → List Tok → List Tok
optional false rest = rest
optional true rest = fixed f.Semicolon ∷ rest

-- ident
abbrev pub name : List ℕ → List Tok → List Tok
name x rest = identifier x ∷ rest

-- "true" | "false"
abbrev pub truth_token : Bool → Fixed
truth_token true = f.True
truth_token false = f.False

-- [ "not" ]
abbrev pub sign_tokens : Bool → List Tok → List Tok
sign_tokens true rest = rest
sign_tokens false rest = fixed f.Not ∷ rest

-- clock
abbrev pub pattern_tokens : Pattern → List ℕ → List Tok → List Tok
pattern_tokens (patterns.Truth sign) x rest = sign_tokens sign (identifier x ∷ rest)
pattern_tokens (patterns.Label l) x rest = identifier l.name ∷ fixed f.Open ∷ identifier x ∷ fixed f.Close
    ∷ rest

-- "when" clock
abbrev pub when_tokens : Condition → List Tok → List Tok
when_tokens c rest = fixed f.When ∷ pattern_tokens c.pattern c.variable rest

-- "true" | "false" | ident
abbrev pub branch_token : Pattern → Tok
branch_token (patterns.Truth b) = fixed (truth_token b)
branch_token (patterns.Label l) = identifier l.name

abbrev mutual
  pub tokens : Written → List Tok → List Tok
  tokens (number n) rest = tok.number n ∷ rest
  tokens (truth b) rest = fixed (truth_token b) ∷ rest
  tokens (variable x) rest = identifier x ∷ rest
  tokens (unary op c) rest = fixed (prefix_token op) ∷ tokens c rest
  tokens (binary op a b) rest = tokens a (fixed (infix_token op) ∷ tokens b rest)
  tokens (choice a b c) rest = fixed f.If ∷ tokens a (fixed f.Then ∷ tokens b (fixed f.Else ∷ tokens c rest))
  tokens (when c clock) rest = tokens c (when_tokens clock rest)
  tokens (current x) rest = fixed f.Current ∷ identifier x ∷ rest
  tokens (merge x patterns cs) rest = fixed f.Merge ∷ identifier x ∷ branches cs patterns rest
  tokens (call g none) rest = identifier g ∷ fixed f.Open ∷ fixed f.Close ∷ rest
  tokens (call g (more c cs)) rest =
      identifier g ∷ fixed f.Open ∷ tokens c (further cs (fixed f.Close ∷ rest))
  tokens (paren c) rest = fixed f.Open ∷ tokens c (fixed f.Close ∷ rest)

  -- { "," expr }
  pub further : Writtens → List Tok → List Tok
  further none rest = rest
  further (more c cs) rest = fixed f.Comma ∷ tokens c (further cs rest)

  -- branch { branch }, where a branch begins with its pattern
  pub branches : Writtens → List Pattern → List Tok → List Tok
  branches none ps rest = rest
  branches (more c cs) [] rest = rest
  branches (more c cs) (p ∷ ps) rest = fixed f.Open ∷ branch_token p ∷ fixed f.Arrow
      ∷ tokens c (fixed f.Close ∷ branches cs ps rest)

-- "int" | "bool" | ident
abbrev pub type_token : WrittenType → Tok
type_token int = fixed f.Int
type_token bool = fixed f.Bool
type_token (named x) = identifier x

-- [ "when" clock ]
abbrev pub clock : Option Condition → List Tok → List Tok
clock None rest = rest
clock (Some c) rest = when_tokens c rest

-- decl
abbrev pub declaration : WrittenDeclaration → List Tok → List Tok
declaration d rest = separated f.Comma name d.names (fixed f.Colon ∷ type_token d.kind ∷ clock d.clock rest)

-- [ "var" decl ";" { decl ";" } ]
abbrev pub locals : List WrittenDeclaration → List Tok → List Tok
locals [] rest = rest
locals (d ∷ ds) rest = fixed f.Var ∷ repeated (ended f.Semicolon declaration) (d ∷ ds) rest

-- ident | "(" ident "," ident { "," ident } ")"
abbrev pub left_tokens : List (List ℕ) → List Tok → List Tok
left_tokens (x ∷ []) rest = identifier x ∷ rest
left_tokens xs rest = fixed f.Open ∷ separated f.Comma name xs (fixed f.Close ∷ rest)

-- equation
abbrev pub equation : WrittenEquation → List Tok → List Tok
equation e rest = left_tokens e.left (fixed f.Equal ∷ tokens e.right rest)

-- "node" ident "(" [ decls ] ")" "returns" "(" decls ")" [ ";" ]
abbrev pub heading : WrittenNode → List Tok → List Tok
heading n rest =
    fixed f.Node ∷ identifier n.name ∷ fixed f.Open ∷ separated f.Semicolon declaration n.inputs
    (fixed f.Close ∷ fixed f.Returns ∷ fixed f.Open
    ∷ separated f.Semicolon declaration n.outputs (fixed f.Close ∷ optional n.is_heading_ended rest))

-- "let" { equation ";" } "tel" [ ";" ]
abbrev pub body : WrittenNode → List Tok → List Tok
body n rest = fixed f.Let ∷ repeated (ended f.Semicolon equation) n.equations (fixed f.Tel
    ∷ optional n.is_ended rest)

-- node
abbrev pub node : WrittenNode → List Tok → List Tok
node n rest = heading n (locals n.locals (body n rest))

-- typedecl
abbrev pub type_declaration : TypeTree → List Tok → List Tok
type_declaration x rest =
    fixed f.Type ∷ identifier x.name ∷ fixed f.Equal ∷ fixed f.Enum ∷ fixed f.OpenBrace
    ∷ separated f.Comma name x.names (fixed f.CloseBrace ∷ fixed f.Semicolon ∷ rest)

-- { typedecl } node { node }
abbrev pub program : WrittenProgram → List Tok → List Tok
program p rest = repeated type_declaration p.types (repeated node p.nodes rest)

-- WHAT THE RULES ASK BESIDES

-- P holds of each
abbrev pub Each : {A : Type 0} → (A → Type 0) → List A → Type 0
Each P [] = Unit {0}
Each P (x ∷ xs) = P x × Each P xs

-- at least one
abbrev pub IsNonempty : {A : Type 0} → List A → Type 0
IsNonempty [] = ⊥
IsNonempty (x ∷ xs) = Unit {0}

-- a name of an enumeration of which nothing is known but the name
abbrev pub bare_label : List ℕ → Label
bare_label x = record { name = x; kind = kinds.Enum 0 0; number = 0 }

-- a truth, or such a name
abbrev pub IsBare : Pattern → Type 0
IsBare (patterns.Truth b) = Unit {0}
IsBare (patterns.Label l) = l ≡ bare_label l.name

abbrev pub IsBareClock : Option Condition → Type 0
IsBareClock None = Unit {0}
IsBareClock (Some c) = IsBare c.pattern

-- such a name
abbrev pub IsBareLabel : Pattern → Type 0
IsBareLabel (patterns.Truth b) = ⊥
IsBareLabel (patterns.Label l) = l ≡ bare_label l.name

-- both truths in order
abbrev pub truths : List Pattern
truths = patterns.Truth true ∷ patterns.Truth false ∷ []

-- as many branches as patterns
abbrev pub AreAsMany : Writtens → List Pattern → Type 0
AreAsMany none [] = Unit {0}
AreAsMany (more c cs) (p ∷ ps) = AreAsMany cs ps
AreAsMany _ _ = ⊥

-- what the branches of a merge begin with: both truths, or one name and more
abbrev pub AreBranches : Writtens → List Pattern → Type 0
AreBranches cs ps = AreAsMany cs ps × ((ps ≡ truths) ⊎ (IsNonempty ps × Each IsBareLabel ps))

abbrev pub level_of : Written → ℕ
level_of (choice a b c) = 0
level_of (binary op a b) = level op
level_of (unary op c) = 8
level_of (current x) = 8
level_of (when c clock) = 9
level_of _ = 10

-- each operand binds as tightly as its place asks
abbrev mutual
  pub IsProper : Written → Type 0
  IsProper (number n) = Unit {0}
  IsProper (truth b) = Unit {0}
  IsProper (variable x) = Unit {0}
  IsProper (unary op c) = (8 ≤ level_of c) × IsProper c
  IsProper (binary op a b) = (left op ≤ level_of a) × (right op ≤ level_of b) × IsProper a × IsProper b
  IsProper (choice a b c) = IsProper a × IsProper b × IsProper c
  IsProper (when c clock) = (9 ≤ level_of c) × IsProper c × IsBare clock.pattern
  IsProper (current x) = Unit {0}
  IsProper (merge x patterns cs) = AreProper cs × AreBranches cs patterns
  IsProper (call g cs) = AreProper cs
  IsProper (paren c) = IsProper c

  pub AreProper : Writtens → Type 0
  AreProper none = Unit {0}
  AreProper (more c cs) = IsProper c × AreProper cs

abbrev pub IsCall : Written → Type 0
IsCall (call g cs) = Unit {0}
IsCall _ = ⊥

-- one name defined by any expression, or two and more by a call
abbrev pub IsDefinedBy : List (List ℕ) → Type 0 → Type 0
IsDefinedBy [] IsCalled = ⊥
IsDefinedBy (x ∷ []) IsCalled = Unit {0}
IsDefinedBy (x ∷ y ∷ zs) IsCalled = IsCalled

abbrev pub IsProperDeclaration : WrittenDeclaration → Type 0
IsProperDeclaration d = IsNonempty d.names × IsBareClock d.clock

abbrev pub IsProperEquation : WrittenEquation → Type 0
IsProperEquation e = IsDefinedBy e.left (IsCall e.right) × IsProper e.right

abbrev pub IsProperNode : WrittenNode → Type 0
IsProperNode n =
    Each IsProperDeclaration n.inputs
    × IsNonempty n.outputs × Each IsProperDeclaration n.outputs
    × Each IsProperDeclaration n.locals
    × Each IsProperEquation n.equations

abbrev pub IsProperType : TypeTree → Type 0
IsProperType x = IsNonempty x.names

abbrev pub IsProperProgram : WrittenProgram → Type 0
IsProperProgram p = IsNonempty p.nodes × Each IsProperNode p.nodes × Each IsProperType p.types

-- THE TREE

-- without the parentheses
abbrev mutual
  pub tree : Written → Tree
  tree (number n) = t.number n
  tree (truth b) = t.truth b
  tree (variable x) = t.variable x
  tree (unary op c) = t.unary op (tree c)
  tree (binary op a b) = t.binary op (tree a) (tree b)
  tree (choice a b c) = t.choice (tree a) (tree b) (tree c)
  tree (when c clock) = t.when (tree c) clock
  tree (current x) = t.current x
  tree (merge x patterns cs) = t.merge x patterns (trees cs)
  tree (call g cs) = t.call g (trees cs)
  tree (paren c) = tree c

  pub trees : Writtens → Trees
  trees none = t.none
  trees (more c cs) = t.more (tree c) (trees cs)

-- a type with a name is an enumeration of which nothing is known but the name
abbrev pub kind_of : WrittenType → Kind
kind_of int = kinds.Int
kind_of bool = kinds.Bool
kind_of (named x) = kinds.Enum 0 0

abbrev pub type_name_of : WrittenType → Option (List ℕ)
type_name_of int = None
type_name_of bool = None
type_name_of (named x) = Some x

abbrev pub declared : WrittenType → Option Condition → List ℕ → DeclarationTree
declared kind clock x = record { name = x; kind = kind_of kind; type_name = type_name_of kind; clock = clock }

-- each name is declared by itself
abbrev pub declaration_tree : WrittenDeclaration → List DeclarationTree
declaration_tree d = map (declared d.kind d.clock) d.names

abbrev pub equation_tree : WrittenEquation → EquationTree
equation_tree e = record { left = e.left; right = tree e.right }

abbrev pub node_tree : WrittenNode → NodeTree
node_tree n = record {
  name = n.name;
  inputs = flat_map declaration_tree n.inputs;
  outputs = flat_map declaration_tree n.outputs;
  locals = flat_map declaration_tree n.locals;
  equations = map equation_tree n.equations;
}

abbrev pub program_tree : WrittenProgram → ProgramTree
program_tree p = record { types = p.types; nodes = map node_tree p.nodes }

-- these tokens, to the last, spell this program
abbrev pub Spells : List Tok → ProgramTree → Type 0
Spells ts found = (p : WrittenProgram) × IsProperProgram p × (program p [] ≡ ts) × (program_tree p ≡ found)
