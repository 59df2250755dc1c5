-- Worked readings of single expressions and of two whole programs, one of them with its canonical tokens.
use Rattle.std.specs.Prelude.{◌≡◌, ℕ, suc, Bool, true, false, List, [], ◌∷◌, length, codes, Some, Ok, Err}
use Rattle.std.specs.Prelude.{None}
use Rattle.lutree.specs.declared.expr.UnaryOperator.TheVariants as u
use Rattle.lutree.specs.declared.expr.BinaryOperator.TheVariants as b
use Rattle.lutree.specs.declared.expr.Prefix.TheVariants as p
use Rattle.lutree.specs.declared.expr.Infix.TheVariants as i
use Rattle.lutree.specs.declared.expr.Pattern.TheVariants as patterns
use Rattle.lutree.specs.declared.expr.Condition.{Condition}
use Rattle.lutree.specs.Tree.{Tree, number, truth, variable, unary, binary, choice, when, current, merge}
use Rattle.lutree.specs.Tree.{call, none, more, NodeTree, ProgramTree, program_of}
use Rattle.lusyn_grammar.specs.declared.token.Fixed.TheVariants as f
use Rattle.lusyn_grammar.specs.Tokens.{Tok, identifier, fixed}
use Rattle.lusyn_grammar.specs.Tokens as tok
use Rattle.lusyn_grammar.specs.Grammar.{int, bool, named, bare_label, truths, declared, program}
use Rattle.lusyn_grammar.specs.Reading.{Read, expr, all_of}
use Rattle.lusyn_grammar.specs.Printing.{written_program}

abbrev pub reading : List Tok → Read Tree
reading ts = expr (suc (length ts)) 0 ts

abbrev x : List ℕ
x = codes "x"

abbrev y : List ℕ
y = codes "y"

abbrev z : List ℕ
z = codes "z"

-- x op y other z
abbrev pub three : Tok → Tok → List Tok
three op other = identifier x ∷ op ∷ identifier y ∷ other ∷ identifier z ∷ []

abbrev pub is_on : Bool → Condition
is_on sign = record { variable = y; pattern = patterns.Truth sign }

-- y(z)
abbrev pub is_at : List ℕ → List ℕ → Condition
is_at label v = record { variable = v; pattern = patterns.Label (bare_label label) }

-- (label -> token)
abbrev pub branch : List ℕ → Tok → List Tok → List Tok
branch label t rest = fixed f.Open ∷ identifier label ∷ fixed f.Arrow ∷ t ∷ fixed f.Close ∷ rest

pub record ExpressionsAre : Type 0 where
  -- x - y - z is (x - y) - z, x -> y -> z is x -> (y -> z), and x < y < z ends before the second <
  pub left_first : reading (three (fixed f.Minus) (fixed f.Minus)) ≡ Ok (
    binary (i.Data b.Subtract)
        (binary (i.Data b.Subtract) (variable x) (variable y)) (variable z),
    [],
  )
  pub right_first : reading (three (fixed f.Arrow) (fixed f.Arrow)) ≡ Ok (
    binary i.Arrow (variable x)
        (binary i.Arrow (variable y) (variable z)),
    [],
  )
  pub no_group : reading (three (fixed f.Less) (fixed f.Less)) ≡ Ok (
    binary (i.Data b.Less) (variable x)
        (variable y),
    fixed f.Less ∷ identifier z ∷ [],
  )
  -- x and y or z is (x and y) or z, and x => y or z is x => (y or z)
  pub tighter_left : reading (three (fixed f.And) (fixed f.Or)) ≡ Ok (
    binary (i.Data b.Or)
        (binary (i.Data b.And) (variable x) (variable y)) (variable z),
    [],
  )
  pub tighter_right : reading (three (fixed f.Implies) (fixed f.Or)) ≡ Ok (
    binary (i.Data b.Implies)
        (variable x) (binary (i.Data b.Or) (variable y) (variable z)),
    [],
  )
  -- pre x when not y is pre (x when not y), and current x when y ends before when
  pub clock_first : reading (fixed f.Pre ∷ identifier x ∷ fixed f.When ∷ fixed f.Not ∷ identifier y ∷ []) ≡ Ok
      (unary p.Pre (when (variable x) (is_on false)), [])
  pub current_ends : reading (fixed f.Current ∷ identifier x ∷ fixed f.When ∷ identifier y ∷ []) ≡ Ok
      (current x, fixed f.When ∷ identifier y ∷ [])
  -- x + y * z is x + (y * z), x div y mod z is (x div y) mod z, - x * y is (- x) * y, and x + y < z is (x +
  -- y) < z
  pub product_first : reading (three (fixed f.Plus) (fixed f.Star)) ≡ Ok (
    binary (i.Data b.Add) (variable x)
        (binary (i.Data b.Multiply) (variable y) (variable z)),
    [],
  )
  pub quotient_first : reading (three (fixed f.Divide) (fixed f.Modulo)) ≡ Ok (
    binary (i.Data b.Modulo)
        (binary (i.Data b.Divide) (variable x) (variable y)) (variable z),
    [],
  )
  pub sign_first : reading (fixed f.Minus ∷ identifier x ∷ fixed f.Star ∷ identifier y ∷ []) ≡ Ok
      (binary (i.Data b.Multiply) (unary (p.Data u.Minus) (variable x)) (variable y), [])
  pub sum_first : reading (three (fixed f.Plus) (fixed f.Less)) ≡ Ok (
    binary (i.Data b.Less)
        (binary (i.Data b.Add) (variable x) (variable y)) (variable z),
    [],
  )
  -- not x = y is (not x) = y, x = y and z is (x = y) and z, x xor y and z is x xor (y and z), and x => y => z
  -- is x => (y => z)
  pub negation_first : reading (fixed f.Not ∷ identifier x ∷ fixed f.Equal ∷ identifier y ∷ []) ≡ Ok
      (binary (i.Data b.Equal) (unary (p.Data u.Not) (variable x)) (variable y), [])
  pub equality_first : reading (three (fixed f.Equal) (fixed f.And)) ≡ Ok (
    binary (i.Data b.And)
        (binary (i.Data b.Equal) (variable x) (variable y)) (variable z),
    [],
  )
  pub conjunction_first : reading (three (fixed f.Xor) (fixed f.And)) ≡ Ok (
    binary (i.Data b.Xor) (variable x)
        (binary (i.Data b.And) (variable y) (variable z)),
    [],
  )
  pub implication_last : reading (three (fixed f.Implies) (fixed f.Implies)) ≡ Ok (
    binary (i.Data b.Implies)
        (variable x) (binary (i.Data b.Implies) (variable y) (variable z)),
    [],
  )
  -- x => y fby z is (x => y) fby z, and if x then y else z -> x is if x then y else (z -> x)
  pub arrows_last : reading (three (fixed f.Implies) (fixed f.FollowedBy)) ≡ Ok
      (binary i.FollowedBy (binary (i.Data b.Implies) (variable x) (variable y)) (variable z), [])
  pub choice_last : reading (fixed f.If ∷ identifier x ∷ fixed f.Then ∷ identifier y ∷ fixed f.Else
      ∷ identifier z ∷ fixed f.Arrow ∷ identifier x ∷ []) ≡ Ok (
        choice (variable x) (variable y)
            (binary i.Arrow (variable z) (variable x)),
        [],
      )
  -- (x - y) when z, merge x (true -> y) (false -> 7), and x(y, true)
  pub parentheses : reading (fixed f.Open ∷ identifier x ∷ fixed f.Minus ∷ identifier y ∷ fixed f.Close
      ∷ fixed f.When ∷ identifier z ∷ []) ≡ Ok (
        when (binary (i.Data b.Subtract) (variable x) (variable y))
            (record { variable = z; pattern = patterns.Truth true }),
        [],
      )
  pub branches : reading (fixed f.Merge ∷ identifier x ∷ fixed f.Open ∷ fixed f.True ∷ fixed f.Arrow
      ∷ identifier y ∷ fixed f.Close ∷ fixed f.Open ∷ fixed f.False ∷ fixed f.Arrow ∷ tok.number 7
      ∷ fixed f.Close ∷ []) ≡ Ok (merge x truths (more (variable y) (more (number 7) none)), [])
  -- x when y(z), merge x (y -> z) (z -> 7), merge x (y -> z), and x when y(z) when not y
  pub label_clock : reading (identifier x ∷ fixed f.When ∷ identifier y ∷ fixed f.Open ∷ identifier z
      ∷ fixed f.Close ∷ []) ≡ Ok (when (variable x) (is_at y z), [])
  pub labels : reading (fixed f.Merge ∷ identifier x ∷ branch y (identifier z)
      (branch z (tok.number 7) [])) ≡ Ok (
        merge x (patterns.Label (bare_label y)
            ∷ patterns.Label (bare_label z) ∷ []) (more (variable z) (more (number 7) none)),
        [],
      )
  pub one_label : reading (fixed f.Merge ∷ identifier x ∷ branch y (identifier z) []) ≡ Ok
      (merge x (patterns.Label (bare_label y) ∷ []) (more (variable z) none), [])
  pub clock_again : reading (identifier x ∷ fixed f.When ∷ identifier y ∷ fixed f.Open ∷ identifier z
      ∷ fixed f.Close ∷ fixed f.When ∷ fixed f.Not ∷ identifier y ∷ []) ≡ Ok (
        when (when (variable x)
            (is_at y z)) (is_on false),
        [],
      )
  pub operands : reading (identifier x ∷ fixed f.Open ∷ identifier y ∷ fixed f.Comma ∷ fixed f.True
      ∷ fixed f.Close ∷ []) ≡ Ok (call x (more (variable y) (more (truth true) none)), [])
  -- x + if y .. is none
  pub no_choice : reading (identifier x ∷ fixed f.Plus ∷ fixed f.If ∷ identifier y ∷ fixed f.Then
      ∷ identifier y ∷ fixed f.Else ∷ identifier z ∷ []) ≡ Err (fixed f.If ∷ identifier y ∷ fixed f.Then
      ∷ identifier y ∷ fixed f.Else ∷ identifier z ∷ [])

-- node x(y, z: bool) returns (x: int when not y); let (y, z) = x(y); tel
abbrev pub program_tokens : List Tok
program_tokens =
    fixed f.Node ∷ identifier x ∷ fixed f.Open ∷ identifier y ∷ fixed f.Comma ∷ identifier z ∷ fixed f.Colon
    ∷ fixed f.Bool ∷ fixed f.Close
    ∷ fixed f.Returns ∷ fixed f.Open ∷ identifier x ∷ fixed f.Colon ∷ fixed f.Int ∷ fixed f.When ∷ fixed f.Not
    ∷ identifier y ∷ fixed f.Close ∷ fixed f.Semicolon
    ∷ fixed f.Let ∷ fixed f.Open ∷ identifier y ∷ fixed f.Comma ∷ identifier z ∷ fixed f.Close ∷ fixed f.Equal
    ∷ identifier x ∷ fixed f.Open ∷ identifier y ∷ fixed f.Close ∷ fixed f.Semicolon
    ∷ fixed f.Tel ∷ []

abbrev pub program_node : NodeTree
program_node = record {
  name = x;
  inputs = declared bool None y ∷ declared bool None z ∷ [];
  outputs = declared int (Some (is_on false)) x ∷ [];
  locals = [];
  equations = record { left = y ∷ z ∷ []; right = call x (more (variable y) none) } ∷ [];
}

abbrev main : List ℕ
main = codes "main"

abbrev m : List ℕ
m = codes "m"

abbrev the_type : List ℕ
the_type = codes "t"

abbrev up : List ℕ
up = codes "Up"

abbrev down : List ℕ
down = codes "Down"

-- type t = enum { Up, Down };
abbrev pub type_tokens : List Tok → List Tok
type_tokens rest =
    fixed f.Type ∷ identifier the_type ∷ fixed f.Equal ∷ fixed f.Enum ∷ fixed f.OpenBrace ∷ identifier up
    ∷ fixed f.Comma ∷ identifier down ∷ fixed f.CloseBrace ∷ fixed f.Semicolon ∷ rest

-- type t = enum { Up, Down };
-- node main(m: t; x: int) returns (y: int); let y = merge m (Up -> x when Up(m)) (Down -> (0 - x) when
-- Down(m)); tel
abbrev pub switch_tokens : List Tok
switch_tokens = type_tokens (
    fixed f.Node ∷ identifier main ∷ fixed f.Open ∷ identifier m ∷ fixed f.Colon ∷ identifier the_type
    ∷ fixed f.Semicolon ∷ identifier x ∷ fixed f.Colon ∷ fixed f.Int ∷ fixed f.Close
    ∷ fixed f.Returns ∷ fixed f.Open ∷ identifier y ∷ fixed f.Colon ∷ fixed f.Int ∷ fixed f.Close
    ∷ fixed f.Semicolon
    ∷ fixed f.Let ∷ identifier y ∷ fixed f.Equal ∷ fixed f.Merge ∷ identifier m
    ∷ fixed f.Open ∷ identifier up ∷ fixed f.Arrow ∷ identifier x ∷ fixed f.When ∷ identifier up
    ∷ fixed f.Open ∷ identifier m ∷ fixed f.Close ∷ fixed f.Close
    ∷ fixed f.Open ∷ identifier down ∷ fixed f.Arrow ∷ fixed f.Open ∷ tok.number 0 ∷ fixed f.Minus
    ∷ identifier x ∷ fixed f.Close ∷ fixed f.When ∷ identifier down ∷ fixed f.Open ∷ identifier m
    ∷ fixed f.Close ∷ fixed f.Close
    ∷ fixed f.Semicolon ∷ fixed f.Tel ∷ [])

abbrev pub switch_node : NodeTree
switch_node = record {
  name = main;
  inputs = declared (named the_type) None m ∷ declared int None x ∷ [];
  outputs = declared int None y ∷ [];
  locals = [];
  equations = record {
    left = y ∷ [];
    right = merge m (patterns.Label (bare_label up) ∷ patterns.Label (bare_label down) ∷ [])
        (more (when (variable x) (is_at up m))
        (more (when (binary (i.Data b.Subtract) (number 0) (variable x)) (is_at down m)) none));
  } ∷ [];
}

abbrev pub switch : ProgramTree
switch = record { types = record { name = the_type; names = up ∷ down ∷ [] } ∷ []; nodes = switch_node ∷ [] }

-- node x() returns (y: int) ..
abbrev pub heading_then : List Tok → List Tok
heading_then rest =
    fixed f.Node ∷ identifier x ∷ fixed f.Open ∷ fixed f.Close ∷ fixed f.Returns ∷ fixed f.Open ∷ identifier y
    ∷ fixed f.Colon ∷ fixed f.Int ∷ fixed f.Close ∷ rest

abbrev pub equation_then : List Tok → List Tok
equation_then rest = heading_then (fixed f.Let ∷ identifier y ∷ fixed f.Equal ∷ rest)

-- where texts are refused
pub record RefusalsAre : Type 0 where
  -- y = x < y < .., at the second <
  pub second_comparison : all_of (equation_then (three (fixed f.Less) (fixed f.Less))) ≡ Err (fixed f.Less
      ∷ identifier z ∷ [])
  -- y = x + if .., at if
  pub inner_choice : all_of (equation_then (identifier x ∷ fixed f.Plus ∷ fixed f.If ∷ identifier y ∷ [])) ≡
      Err (fixed f.If ∷ identifier y ∷ [])
  -- y = current x when .., at when
  pub clock_of_current : all_of (equation_then (fixed f.Current ∷ identifier x ∷ fixed f.When ∷ identifier y
      ∷ [])) ≡ Err (fixed f.When ∷ identifier y ∷ [])
  -- y = x), at )
  pub closed_too_much : all_of (equation_then (identifier x ∷ fixed f.Close ∷ fixed f.Semicolon ∷ [])) ≡ Err
      (fixed f.Close ∷ fixed f.Semicolon ∷ [])
  -- (y) .., at )
  pub one_name : all_of (heading_then (fixed f.Let ∷ fixed f.Open ∷ identifier y ∷ fixed f.Close
      ∷ fixed f.Equal ∷ [])) ≡ Err (fixed f.Close ∷ fixed f.Equal ∷ [])
  -- (y, z) = x; at ;
  pub no_call : all_of (heading_then (fixed f.Let ∷ fixed f.Open ∷ identifier y ∷ fixed f.Comma ∷ identifier z
      ∷ fixed f.Close ∷ fixed f.Equal ∷ identifier x ∷ fixed f.Semicolon ∷ [])) ≡ Err (fixed f.Semicolon ∷ [])
  -- var let, at let
  pub no_locals : all_of (heading_then (fixed f.Var ∷ fixed f.Let ∷ fixed f.Tel ∷ [])) ≡ Err (fixed f.Let
      ∷ fixed f.Tel ∷ [])
  -- let tel tel, at the second tel
  pub no_node : all_of (heading_then (fixed f.Let ∷ fixed f.Tel ∷ fixed f.Tel ∷ [])) ≡ Err (fixed f.Tel ∷ [])
  -- let y = x, at the end
  pub too_short : all_of (equation_then (identifier x ∷ [])) ≡ Err []
  -- y = x when y(), at )
  pub no_variable : all_of (equation_then (identifier x ∷ fixed f.When ∷ identifier y ∷ fixed f.Open
      ∷ fixed f.Close ∷ [])) ≡ Err (fixed f.Close ∷ [])
  -- y = x when not y(, at (
  pub negated_label : all_of (equation_then (identifier x ∷ fixed f.When ∷ fixed f.Not ∷ identifier y
      ∷ fixed f.Open ∷ [])) ≡ Err (fixed f.Open ∷ [])
  -- y = merge x (true -> y) (z .., at z, and y = merge x (y -> z) (true .., at true
  pub label_second : all_of (equation_then (fixed f.Merge ∷ identifier x ∷ fixed f.Open ∷ fixed f.True
      ∷ fixed f.Arrow ∷ identifier y ∷ fixed f.Close ∷ fixed f.Open ∷ identifier z ∷ [])) ≡ Err (identifier z
      ∷ [])
  pub truth_second : all_of (equation_then (fixed f.Merge ∷ identifier x ∷ branch y (identifier z)
      (fixed f.Open ∷ fixed f.True ∷ []))) ≡ Err (fixed f.True ∷ [])
  -- y = merge x (false .., at false
  pub false_first : all_of (equation_then (fixed f.Merge ∷ identifier x ∷ fixed f.Open ∷ fixed f.False
      ∷ [])) ≡ Err (fixed f.False ∷ [])
  -- type t = enum { }, at }
  pub no_names : all_of (fixed f.Type ∷ identifier the_type ∷ fixed f.Equal ∷ fixed f.Enum ∷ fixed f.OpenBrace
      ∷ fixed f.CloseBrace ∷ []) ≡ Err (fixed f.CloseBrace ∷ [])
  -- types alone, at the end
  pub types_alone : all_of (type_tokens []) ≡ Err []
  -- a type behind a node, at type
  pub type_last : all_of (heading_then (fixed f.Let ∷ fixed f.Tel ∷ type_tokens [])) ≡ Err (type_tokens [])

abbrev pub ExamplesLaw : Type 0
ExamplesLaw =
    ExpressionsAre
    × (all_of program_tokens ≡ Ok (program_of (program_node ∷ [])))
    × (all_of switch_tokens ≡ Ok switch)
    × (program (written_program switch) [] ≡ switch_tokens)
    × RefusalsAre
