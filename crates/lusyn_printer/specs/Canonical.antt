-- The canonical text of a program, as its bytes:
--
--   type t = enum { Up, Down };
--   node main(x: int; c: bool; m: t) returns (y: int; z: int when c);
--   var s: int when c;
--   let
--     s = x when c;
--     z = 2 * s;
--     y = merge m (Up -> x when Up(m)) (Down -> pre y when Down(m));
--   tel
--
-- Each line ends with a line feed, and a node follows what stands before it without a blank line. Parentheses
-- stand where `written` puts them, which is where they are needed.
use Rattle.std.specs.Prelude.{ℕ, Bool, true, false, List, [], ◌∷◌, ◌++◌, codes, Option, Some, None}
use Rattle.std.specs.List.{flat_map}
use Rattle.std.specs.Fmt.{decimal}
use Rattle.lutree.specs.declared.expr.Pattern.{Pattern}
use Rattle.lutree.specs.declared.expr.Pattern.TheVariants as patterns
use Rattle.lutree.specs.declared.expr.Condition.{Condition}
use Rattle.lutree.specs.Tree.{TypeTree, DeclarationTree, EquationTree, NodeTree, ProgramTree}
use Rattle.lusyn_grammar.specs.Tokens.{text_of}
use Rattle.lusyn_grammar.specs.Tokens.{prefix_token, infix_token}
use Rattle.lusyn_grammar.specs.Grammar.{Written, Writtens, number, truth, variable, unary, binary, choice}
use Rattle.lusyn_grammar.specs.Grammar.{when, current, merge, call, paren, none, more, WrittenType, int, bool}
use Rattle.lusyn_grammar.specs.Grammar.{named}
use Rattle.lusyn_grammar.specs.Printing.{written, written_type}

-- all of them in order, with this text between each two
abbrev pub joined : {A : Type 0} → List ℕ → (A → List ℕ) → List A → List ℕ
joined between text [] = []
joined between text (x ∷ xs) = text x ++ flat_map (λ y. between ++ text y) xs

-- a text and a line feed
abbrev pub line : List ℕ → List ℕ
line text = text ++ 10 ∷ []

-- EXPRESSIONS

-- nothing, or `not `
abbrev pub sign_text : Bool → List ℕ
sign_text true = []
sign_text false = codes "not "

-- `c`, `not c` or `A(c)`
abbrev pub pattern_text : Pattern → List ℕ → List ℕ
pattern_text (patterns.Truth sign) x = sign_text sign ++ x
pattern_text (patterns.Label l) x = l.name ++ codes "(" ++ x ++ codes ")"

-- ` when c`, ` when not c` or ` when A(c)`
abbrev pub when_text : Condition → List ℕ
when_text c = codes " when " ++ pattern_text c.pattern c.variable

abbrev pub truth_text : Bool → List ℕ
truth_text true = codes "true"
truth_text false = codes "false"

-- what a branch begins with: `true`, `false` or `A`
abbrev pub branch_text : Pattern → List ℕ
branch_text (patterns.Truth b) = truth_text b
branch_text (patterns.Label l) = l.name

abbrev mutual
  pub expression : Written → List ℕ
  expression (number n) = decimal n
  expression (truth b) = truth_text b
  expression (variable x) = x
  expression (unary op c) = text_of (prefix_token op) ++ codes " " ++ expression c
  expression (binary op a b) = expression a ++ codes " " ++ text_of (infix_token op) ++ codes " "
      ++ expression b
  expression (choice a b c) = codes "if " ++ expression a ++ codes " then " ++ expression b ++ codes " else "
      ++ expression c
  expression (when c clock) = expression c ++ when_text clock
  expression (current x) = codes "current " ++ x
  expression (merge x ps cs) = codes "merge " ++ x ++ branches cs ps
  expression (call g cs) = g ++ codes "(" ++ operands cs ++ codes ")"
  expression (paren c) = codes "(" ++ expression c ++ codes ")"

  -- `a, b`
  pub operands : Writtens → List ℕ
  operands none = []
  operands (more c cs) = expression c ++ further cs

  -- `, a, b`
  pub further : Writtens → List ℕ
  further none = []
  further (more c cs) = codes ", " ++ expression c ++ further cs

  -- ` (A -> a) (B -> b)`
  pub branches : Writtens → List Pattern → List ℕ
  branches none ps = []
  branches (more c cs) [] = []
  branches (more c cs) (p ∷ ps) = codes " (" ++ branch_text p ++ codes " -> " ++ expression c ++ codes ")"
      ++ branches cs ps

-- DECLARATIONS, EQUATIONS AND NODES

-- `int`, `bool`, or the name of an enumeration
abbrev pub type_text : WrittenType → List ℕ
type_text int = codes "int"
type_text bool = codes "bool"
type_text (named x) = x

-- nothing, or ` when c`, ` when not c` or ` when A(c)`
abbrev pub clock_text : Option Condition → List ℕ
clock_text None = []
clock_text (Some c) = when_text c

-- `x: int`
abbrev pub declaration : DeclarationTree → List ℕ
declaration d = d.name ++ codes ": " ++ type_text (written_type d.kind d.type_name) ++ clock_text d.clock

-- `x: int; y: bool`
abbrev pub declarations : List DeclarationTree → List ℕ
declarations = joined (codes "; ") declaration

-- `node f(x: int; y: bool) returns (z: int);`
abbrev pub heading : NodeTree → List ℕ
heading n = codes "node " ++ n.name ++ codes "(" ++ declarations n.inputs ++ codes ") returns ("
    ++ declarations n.outputs ++ codes ");"

-- the line `var x: int; y: bool;`, or no line where nothing is declared
abbrev pub locals : List DeclarationTree → List ℕ
locals [] = []
locals (d ∷ ds) = line (codes "var " ++ declarations (d ∷ ds) ++ codes ";")

-- `x`, or `(x, y)`
abbrev pub left_side : List (List ℕ) → List ℕ
left_side (x ∷ []) = x
left_side xs = codes "(" ++ joined (codes ", ") (λ x. x) xs ++ codes ")"

-- the line `  x = e;`
abbrev pub equation : EquationTree → List ℕ
equation e = line (codes "  " ++ left_side e.left ++ codes " = " ++ expression (written e.right) ++ codes ";")

abbrev pub node : NodeTree → List ℕ
node n = line (heading n) ++ locals n.locals ++ line (codes "let") ++ flat_map equation n.equations
    ++ line (codes "tel")

-- the line `type t = enum { A, B };`
abbrev pub type_declaration : TypeTree → List ℕ
type_declaration x = line (codes "type " ++ x.name ++ codes " = enum { " ++ joined (codes ", ")
    (λ y. y) x.names ++ codes " };")

-- the text of a whole program
abbrev pub canonical : ProgramTree → List ℕ
canonical p = flat_map type_declaration p.types ++ flat_map node p.nodes
