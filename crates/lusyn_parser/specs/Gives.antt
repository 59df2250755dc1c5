-- What the functions of the parser answer, against the reading of the grammar.
use Rattle.std.specs.Prelude.{◌≡◌, ◌++◌, ◌∷◌, ℕ, true, false, List, [], map, drop, Option, Some, None, Result}
use Rattle.std.specs.Prelude.{Ok, Err}
use Rattle.lutree.specs.Tree.{Tree, TypeTree, EquationTree, NodeTree, view, type_view as enumeration_view}
use Rattle.lutree.specs.Tree.{declarations_view, equation_view, node_view}
use Rattle.lutree.specs.declared.program.DeclaredName.{DeclaredName}
use Rattle.lutree.specs.declared.program.TypeDeclaration.{TypeDeclaration}
use Rattle.lutree.specs.declared.program.Equation.{Equation}
use Rattle.lutree.specs.declared.program.Node.{Node}
use Rattle.lusyn_grammar.specs.declared.token.Lexeme.{Lexeme}
use Rattle.lutree.specs.Tree as t
use Rattle.lusyn_grammar.specs.declared.token.Fixed.TheVariants as f
use Rattle.lusyn_grammar.specs.Tokens.{Tok, identifier, number, fixed, toks}
use Rattle.lusyn_grammar.specs.Grammar as grammar
use Rattle.lusyn_grammar.specs.Reading.{Read, ◌>>=◌}
use Rattle.lusyn_grammar.specs.Reading as reading
use Rattle.lusyn_parser.specs.declared.error.Stop.{Stop}
use Rattle.lusyn_parser.specs.declared.error.Stop.TheVariants.{Refused, OutOfMemory}
use Rattle.lusyn_parser.specs.declared.pieces.Next.{Next}
use Rattle.lusyn_parser.specs.declared.pieces.Next.TheVariants as n
use Rattle.lusyn_parser.specs.declared.pieces.Operand.{Operand}
use Rattle.lusyn_parser.specs.declared.pieces.Heading.{Heading}
use Rattle.lusyn_parser.specs.declared.pieces.Branch.{Branch}
use Rattle.lusyn_parser.specs.declared.pieces.WrittenType.{WrittenType}
use Rattle.lusyn_parser.specs.declared.pieces.WrittenType.TheVariants as y

-- the tokens from a place on
abbrev pub ahead : List Lexeme → ℕ → List Tok
ahead ls at = toks (drop at ls)

-- reading is refused at this very token; where memory ran out nothing is said
abbrev pub Fails : {Y : Type 0} → List Lexeme → Stop → Result Y (List Tok) → Type 0
Fails ls (Refused at) read = read ≡ Err (ahead ls at)
Fails ls OutOfMemory read = Unit {0}

-- what was answered, seen by `view`, is what reading gives, unless memory ran out
abbrev pub Gives : {X Y : Type 0} → List Lexeme → (X → Y) → Result X Stop → Result Y (List Tok) → Type 0
Gives ls view (Ok x) read = read ≡ Ok (view x)
Gives ls view (Err e) read = Fails ls e read

-- the place that was answered is the one after what had to stand at the place `at`, or there is none
abbrev pub GivesPlace : List Lexeme → ℕ → Option ℕ → Result (List Tok) (List Tok) → Type 0
GivesPlace ls at None read = read ≡ Err (ahead ls at)
GivesPlace ls at (Some next) read = read ≡ Ok (ahead ls next)

-- how an expression goes on
abbrev pub next_view : Next → reading.Next
next_view (n.Operator op) = reading.operator op
next_view n.Clock = reading.clock
next_view n.Parenthesis = reading.parenthesis
next_view n.Nothing = reading.nothing

abbrev pub operand_view : List Lexeme → Operand → ℕ × Tree × List Tok
operand_view ls x = (x.level, view x.found, ahead ls x.next)

abbrev pub names_view : List DeclaredName → List (List ℕ)
names_view = map (λ x. x.name)

-- a type, as it is written
abbrev pub type_view : WrittenType → grammar.WrittenType
type_view y.Int = grammar.int
type_view y.Bool = grammar.bool
type_view (y.Named x) = grammar.named x

-- a branch of a merge with its name
abbrev pub branch_view : Branch → List ℕ × Tree
branch_view b = (b.label, view b.value)

abbrev pub branches_view : List Branch → List (List ℕ × Tree)
branches_view = map branch_view

abbrev pub types_view : List TypeDeclaration → List TypeTree
types_view = map enumeration_view

-- a name, behind those found
abbrev pub name_behind : List (List ℕ) → List Tok → Read (List (List ℕ))
name_behind found ts = reading.name ts >>= λ x. Ok (found ++ x.0 ∷ [], x.1)

abbrev pub equations_view : List Equation → List EquationTree
equations_view = map equation_view

abbrev pub nodes_view : List Node → List NodeTree
nodes_view = map node_view

abbrev pub heading_view : Heading → NodeTree
heading_view h = record {
  name = h.name;
  inputs = declarations_view h.inputs.items;
  outputs = declarations_view h.outputs.items;
  locals = [];
  equations = [];
}

-- a name or a constant alone
abbrev pub atom : List Tok → Read Tree
atom (identifier x ∷ rest) = Ok (t.variable x, rest)
atom (number n ∷ rest) = Ok (t.number n, rest)
atom (fixed f.True ∷ rest) = Ok (t.truth true, rest)
atom (fixed f.False ∷ rest) = Ok (t.truth false, rest)
atom ts = Err ts

-- a name before these tokens isn't called, and an operand of the greatest level before them ends there in a
-- place that asks for this level
pub record EndsOperand (least : ℕ) (ts : List Tok) : Type 0 where
  pub uncalled : reading.begins f.Open ts ≡ false
  pub stays : (read : ℕ → List Tok → Read Tree) (turns : ℕ) (found : Tree)
      → reading.climb read turns least 10 found ts ≡ Ok (found, ts)

-- What was read, seen by `view`, and the place behind it are what a reading function of the grammar gives of
-- the tokens from a place on.
abbrev pub Reads : {X Y : Type 0} → List Lexeme → ℕ → (X → Y) → Result (X × ℕ) Stop → (List Tok → Read Y)
    → Type 0
Reads ls at view result reader = Gives ls (λ x. (view x.0, ahead ls x.1)) result (reader (ahead ls at))

-- The same where what was read was put behind what had been found, and the place alone is answered.
abbrev pub ReadsInto : {Y : Type 0} → List Lexeme → ℕ → Y → Result ℕ Stop → (List Tok → Read Y) → Type 0
ReadsInto ls at found result reader = Gives ls (λ next. (found, ahead ls next)) result (reader (ahead ls at))
