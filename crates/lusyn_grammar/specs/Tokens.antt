-- Tokens, the spelling of those that have one, and the table of operators.
use Rattle.std.specs.Prelude.{ℕ, min, List, [], ◌∷◌, map, codes, Option, Some, None, if◌then◌else◌}
use Rattle.std.specs.Str.{bytes_eq}
use Rattle.lutree.specs.declared.expr.UnaryOperator.TheVariants as u
use Rattle.lutree.specs.declared.expr.BinaryOperator.TheVariants as b
use Rattle.lutree.specs.declared.expr.Prefix.{Prefix}
use Rattle.lutree.specs.declared.expr.Prefix.TheVariants as p
use Rattle.lutree.specs.declared.expr.Infix.{Infix}
use Rattle.lutree.specs.declared.expr.Infix.TheVariants as i
use Rattle.lusyn_grammar.specs.declared.token.Fixed.{Fixed}
use Rattle.lusyn_grammar.specs.declared.token.Fixed.TheVariants as f
use Rattle.lusyn_grammar.specs.declared.token.Token.{Token}
use Rattle.lusyn_grammar.specs.declared.token.Token.TheVariants as k
use Rattle.lusyn_grammar.specs.declared.token.Lexeme.{Lexeme}

-- an identifier by its bytes, a number by its value, a keyword or a sign by itself
pub data Tok : Type 0 where
  identifier : List ℕ → Tok
  number : ℕ → Tok
  fixed : Fixed → Tok

-- how each keyword and sign is spelled
abbrev pub text_of : Fixed → List ℕ
text_of f.Node = codes "node"
text_of f.Returns = codes "returns"
text_of f.Var = codes "var"
text_of f.Let = codes "let"
text_of f.Tel = codes "tel"
text_of f.Int = codes "int"
text_of f.Bool = codes "bool"
text_of f.True = codes "true"
text_of f.False = codes "false"
text_of f.If = codes "if"
text_of f.Then = codes "then"
text_of f.Else = codes "else"
text_of f.Pre = codes "pre"
text_of f.FollowedBy = codes "fby"
text_of f.Current = codes "current"
text_of f.When = codes "when"
text_of f.Merge = codes "merge"
text_of f.Not = codes "not"
text_of f.And = codes "and"
text_of f.Or = codes "or"
text_of f.Xor = codes "xor"
text_of f.Divide = codes "div"
text_of f.Modulo = codes "mod"
text_of f.Type = codes "type"
text_of f.Enum = codes "enum"
text_of f.Open = codes "("
text_of f.Close = codes ")"
text_of f.OpenBrace = codes "{"
text_of f.CloseBrace = codes "}"
text_of f.Comma = codes ","
text_of f.Semicolon = codes ";"
text_of f.Colon = codes ":"
text_of f.Equal = codes "="
text_of f.Unequal = codes "<>"
text_of f.Less = codes "<"
text_of f.LessEqual = codes "<="
text_of f.Greater = codes ">"
text_of f.GreaterEqual = codes ">="
text_of f.Plus = codes "+"
text_of f.Minus = codes "-"
text_of f.Star = codes "*"
text_of f.Arrow = codes "->"
text_of f.Implies = codes "=>"

-- those that are spelled like identifiers
abbrev pub keywords : List Fixed
keywords =
    f.Node ∷ f.Returns ∷ f.Var ∷ f.Let ∷ f.Tel ∷ f.Int ∷ f.Bool ∷ f.True ∷ f.False ∷ f.If ∷ f.Then ∷ f.Else
    ∷ f.Pre ∷ f.FollowedBy ∷ f.Current ∷ f.When ∷ f.Merge ∷ f.Not ∷ f.And ∷ f.Or ∷ f.Xor ∷ f.Divide
    ∷ f.Modulo ∷ f.Type ∷ f.Enum ∷ []

abbrev pub keyword_among : List Fixed → List ℕ → Option Fixed
keyword_among [] x = None
keyword_among (g ∷ gs) x = if bytes_eq x (text_of g) then Some g else keyword_among gs x

-- the keyword that is spelled so
abbrev pub keyword : List ℕ → Option Fixed
keyword = keyword_among keywords

-- a token in memory; a number above the greatest one, which no text has, stands for the greatest
abbrev pub tok : Token → Tok
tok (k.Name x) = identifier x.now
tok (k.Number n) = number (min n 9223372036854775807)
tok (k.Fixed g) = fixed g

abbrev pub toks : List Lexeme → List Tok
toks = map (λ l. tok l.token)

-- tokens with their places
abbrev pub located : List Lexeme → List (ℕ × Tok)
located = map (λ l. (l.place, tok l.token))

-- OPERATORS

-- How tightly each form binds, and how tightly the forms at its places have to. A greater level binds more
-- tightly. A rule of the grammar has the forms of its level and of all above.
--
--   level  rule   form                            its operands
--   0      expr   if then else                    0, 0, 0
--   1      arrow  -> fby                          left 2, right 0
--   2      impl   =>                              left 3, right 2
--   3      disj   or xor                          left 3, right 4
--   4      conj   and                             left 4, right 5
--   5      comp   = <> < <= > >=                  left 6, right 6
--   6      sum    + -                             left 6, right 7
--   7      term   * div mod                       left 7, right 8
--   8      unary  not, - before an operand, pre   8
--          unary  current                         a name
--   9      post   when                            9, and a clock
--   10     atom   names, numbers, true, false, calls, parentheses, merge; 0 for arguments, in parentheses and
-- for branches

-- the token of each operator
abbrev pub prefix_token : Prefix → Fixed
prefix_token (p.Data u.Minus) = f.Minus
prefix_token (p.Data u.Not) = f.Not
prefix_token p.Pre = f.Pre

abbrev pub infix_token : Infix → Fixed
infix_token i.Arrow = f.Arrow
infix_token i.FollowedBy = f.FollowedBy
infix_token (i.Data b.Implies) = f.Implies
infix_token (i.Data b.Or) = f.Or
infix_token (i.Data b.Xor) = f.Xor
infix_token (i.Data b.And) = f.And
infix_token (i.Data b.Equal) = f.Equal
infix_token (i.Data b.Unequal) = f.Unequal
infix_token (i.Data b.Less) = f.Less
infix_token (i.Data b.LessEqual) = f.LessEqual
infix_token (i.Data b.Greater) = f.Greater
infix_token (i.Data b.GreaterEqual) = f.GreaterEqual
infix_token (i.Data b.Add) = f.Plus
infix_token (i.Data b.Subtract) = f.Minus
infix_token (i.Data b.Multiply) = f.Star
infix_token (i.Data b.Divide) = f.Divide
infix_token (i.Data b.Modulo) = f.Modulo

-- the operator of each token
abbrev pub prefix_of : Fixed → Option Prefix
prefix_of f.Minus = Some (p.Data u.Minus)
prefix_of f.Not = Some (p.Data u.Not)
prefix_of f.Pre = Some p.Pre
prefix_of _ = None

abbrev pub infix_of : Fixed → Option Infix
infix_of f.Arrow = Some i.Arrow
infix_of f.FollowedBy = Some i.FollowedBy
infix_of f.Implies = Some (i.Data b.Implies)
infix_of f.Or = Some (i.Data b.Or)
infix_of f.Xor = Some (i.Data b.Xor)
infix_of f.And = Some (i.Data b.And)
infix_of f.Equal = Some (i.Data b.Equal)
infix_of f.Unequal = Some (i.Data b.Unequal)
infix_of f.Less = Some (i.Data b.Less)
infix_of f.LessEqual = Some (i.Data b.LessEqual)
infix_of f.Greater = Some (i.Data b.Greater)
infix_of f.GreaterEqual = Some (i.Data b.GreaterEqual)
infix_of f.Plus = Some (i.Data b.Add)
infix_of f.Minus = Some (i.Data b.Subtract)
infix_of f.Star = Some (i.Data b.Multiply)
infix_of f.Divide = Some (i.Data b.Divide)
infix_of f.Modulo = Some (i.Data b.Modulo)
infix_of _ = None

-- a rule of the grammar that has operators between two operands
pub data Rule : Type 0 where
  arrow : Rule
  impl : Rule
  disj : Rule
  conj : Rule
  comp : Rule
  sum : Rule
  term : Rule

-- the rule of each operator
abbrev pub rule : Infix → Rule
rule i.Arrow = arrow
rule i.FollowedBy = arrow
rule (i.Data b.Implies) = impl
rule (i.Data b.Or) = disj
rule (i.Data b.Xor) = disj
rule (i.Data b.And) = conj
rule (i.Data b.Equal) = comp
rule (i.Data b.Unequal) = comp
rule (i.Data b.Less) = comp
rule (i.Data b.LessEqual) = comp
rule (i.Data b.Greater) = comp
rule (i.Data b.GreaterEqual) = comp
rule (i.Data b.Add) = sum
rule (i.Data b.Subtract) = sum
rule (i.Data b.Multiply) = term
rule (i.Data b.Divide) = term
rule (i.Data b.Modulo) = term

-- the level of two operands and what stands between them
abbrev pub level_by : Rule → ℕ
level_by arrow = 1
level_by impl = 2
level_by disj = 3
level_by conj = 4
level_by comp = 5
level_by sum = 6
level_by term = 7

abbrev pub level : Infix → ℕ
level op = level_by (rule op)

-- what its left operand has to be
abbrev pub left_by : Rule → ℕ
left_by arrow = 2
left_by impl = 3
left_by disj = 3
left_by conj = 4
left_by comp = 6
left_by sum = 6
left_by term = 7

abbrev pub left : Infix → ℕ
left op = left_by (rule op)

-- what its right operand has to be
abbrev pub right_by : Rule → ℕ
right_by arrow = 0
right_by impl = 2
right_by disj = 4
right_by conj = 5
right_by comp = 6
right_by sum = 7
right_by term = 8

abbrev pub right : Infix → ℕ
right op = right_by (rule op)
