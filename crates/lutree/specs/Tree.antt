-- Programs without where they lie in memory and without places in a text.
use Rattle.std.specs.Prelude.{ℕ, Bool, List, [], ◌∷◌, map, Option, None}
use Rattle.lutree.specs.declared.expr.Prefix.{Prefix}
use Rattle.lutree.specs.declared.expr.Infix.{Infix}
use Rattle.lutree.specs.declared.expr.Label.{Label}
use Rattle.lutree.specs.declared.expr.Pattern.{Pattern}
use Rattle.lutree.specs.declared.expr.Pattern.TheVariants as patterns
use Rattle.lutree.specs.declared.expr.Condition.{Condition}
use Rattle.lutree.specs.declared.expr.Expr.{Expr, fold-Expr}
use Rattle.lutree.specs.declared.expr.Expr.TheOpen.{Expr-F}
use Rattle.lutree.specs.declared.program.Kind.{Kind}
use Rattle.lutree.specs.declared.program.DeclaredName.{DeclaredName}
use Rattle.lutree.specs.declared.program.TypeDeclaration.{TypeDeclaration}
use Rattle.lutree.specs.declared.program.Declaration.{Declaration}
use Rattle.lutree.specs.declared.program.Equation.{Equation}
use Rattle.lutree.specs.declared.program.Node.{Node}
use Rattle.lutree.specs.declared.program.Program.{Program}

-- An expression; a name is its bytes. `choice` is `if`, `truth` is `true` or `false`, `label` is a name of an
-- enumeration as a constant.
-- A merge has the patterns of its branches, and as many branches.
mutual
  pub data Tree : Type 0 where
    number : ℕ → Tree
    truth : Bool → Tree
    label : Label → Tree
    variable : List ℕ → Tree
    unary : Prefix → Tree → Tree
    binary : Infix → Tree → Tree → Tree
    choice : Tree → Tree → Tree → Tree
    when : Tree → Condition → Tree
    current : List ℕ → Tree
    merge : List ℕ → List Pattern → Trees → Tree
    call : List ℕ → Trees → Tree

  -- the arguments of a call, or the branches of a merge
  pub data Trees : Type 0 where
    none : Trees
    more : Tree → Trees → Trees

abbrev pub trees_of : List Tree → Trees
trees_of [] = none
trees_of (x ∷ xs) = more x (trees_of xs)

abbrev pub list_of : Trees → List Tree
list_of none = []
list_of (more x xs) = x ∷ list_of xs

-- the constant that a clock's variable has to be
abbrev pub constant_of : Pattern → Tree
constant_of (patterns.Truth b) = truth b
constant_of (patterns.Label x) = label x

-- an enumeration: its name and its names
pub record TypeTree : Type 0 where
  pub name : List ℕ
  pub names : List (List ℕ)

-- a declared variable, its type, how that is written where it is the name of an enumeration, and its clock
pub record DeclarationTree : Type 0 where
  pub name : List ℕ
  pub kind : Kind
  pub type_name : Option (List ℕ)
  pub clock : Option Condition

-- the defined variables and the right side
pub record EquationTree : Type 0 where
  pub left : List (List ℕ)
  pub right : Tree

pub record NodeTree : Type 0 where
  pub name : List ℕ
  pub inputs : List DeclarationTree
  pub outputs : List DeclarationTree
  pub locals : List DeclarationTree
  pub equations : List EquationTree

-- a program: its types and its nodes, each in order of text
pub record ProgramTree : Type 0 where
  pub types : List TypeTree
  pub nodes : List NodeTree

-- the program of these nodes, without types
abbrev pub program_of : List NodeTree → ProgramTree
program_of ns = record { types = []; nodes = ns }

-- a declared variable whose type is no enumeration
abbrev pub declared : List ℕ → Kind → Option Condition → DeclarationTree
declared x kind clock = record { name = x; kind = kind; type_name = None; clock = clock }

-- one level of an expression, with its operands already seen as trees
abbrev pub view_step : Expr-F Tree → Tree
view_step (Expr-F.Number n) = number n
view_step (Expr-F.Truth b) = truth b
view_step (Expr-F.Label x) = label x
view_step (Expr-F.Variable x) = variable x
view_step (Expr-F.Unary op a) = unary op a.value
view_step (Expr-F.Binary op a b) = binary op a.value b.value
view_step (Expr-F.If a b c) = choice a.value b.value c.value
view_step (Expr-F.When a c) = when a.value c
view_step (Expr-F.Current x) = current x
view_step (Expr-F.Merge c patterns branches) = merge c patterns.value (trees_of branches.items)
view_step (Expr-F.Call f arguments) = call f (trees_of arguments.items)

-- what an expression in memory is
abbrev pub view : Expr → Tree
view = fold-Expr Tree view_step

abbrev pub views : List Expr → List Tree
views = map view

abbrev pub declaration_view : Declaration → DeclarationTree
declaration_view d = record { name = d.name; kind = d.kind; type_name = d.type_name; clock = d.clock }

abbrev pub declarations_view : List Declaration → List DeclarationTree
declarations_view = map declaration_view

abbrev pub equation_view : Equation → EquationTree
equation_view e = record { left = e.left; right = view e.right }

abbrev pub node_view : Node → NodeTree
node_view n = record {
  name = n.name;
  inputs = declarations_view n.inputs;
  outputs = declarations_view n.outputs;
  locals = declarations_view n.locals;
  equations = map equation_view n.equations;
}

abbrev pub type_view : TypeDeclaration → TypeTree
type_view t = record { name = t.name; names = map (λ (x : DeclaredName). x.name) t.names }

-- what a program in memory is
abbrev pub program_view : Program → ProgramTree
program_view p = record { types = map type_view p.types; nodes = map node_view p.nodes }
