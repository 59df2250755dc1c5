-- Reading from left to right, by the levels of the operators. Where the tokens don't begin so, the answer is
-- the rest of the tokens from the refused one on, which is the first that isn't what has to stand there; it
-- is empty where tokens are missing. What is found of several pieces is put behind what was found before.
use Rattle.std.specs.Prelude.{ℕ, zero, suc, Bool, true, false, ◌&&◌, ◌||◌, nat_le, List, [], ◌∷◌, ◌++◌, map}
use Rattle.std.specs.Prelude.{length, Option, Some, None, Result, Ok, Err, if◌then◌else◌}
use Rattle.std.specs.Result.{is_ok}
use Rattle.std.specs.Str.{bytes_eq}
use Rattle.lutree.specs.declared.expr.Prefix.{Prefix}
use Rattle.lutree.specs.declared.expr.Infix.{Infix}
use Rattle.lutree.specs.declared.expr.Pattern.TheVariants as patterns
use Rattle.lutree.specs.declared.expr.Condition.{Condition}
use Rattle.lutree.specs.Tree.{Tree, none, more, trees_of, TypeTree, DeclarationTree, EquationTree, NodeTree}
use Rattle.lutree.specs.Tree.{ProgramTree}
use Rattle.lutree.specs.Tree as t
use Rattle.lusyn_grammar.specs.declared.token.Fixed.{Fixed}
use Rattle.lusyn_grammar.specs.declared.token.Fixed.TheVariants as f
use Rattle.lusyn_grammar.specs.Tokens.{Tok, identifier, number, fixed, text_of}
use Rattle.lusyn_grammar.specs.Tokens.{infix_of, prefix_of, level, left, right}
use Rattle.lusyn_grammar.specs.Grammar.{WrittenType, int, bool, named as named_type, bare_label}
use Rattle.lusyn_grammar.specs.Grammar.{truths as both_truths, declared}

-- what was read, and what follows it; or the rest from the refused token on
abbrev pub Read : Type 0 → Type 0
Read A = Result (A × List Tok) (List Tok)

infixl 10 ◌>>=◌
abbrev pub ◌>>=◌ : {A B E : Type 0} → Result A E → (A → Result B E) → Result B E
(Err e) >>= go = Err e
(Ok x) >>= go = go x

-- whether two keywords or signs are one, which is whether they are spelled alike
abbrev pub same : Fixed → Fixed → Bool
same g h = bytes_eq (text_of g) (text_of h)

-- what follows this token, which has to stand here
abbrev pub after : Fixed → List Tok → Result (List Tok) (List Tok)
after g [] = Err []
after g (identifier x ∷ rest) = Err (identifier x ∷ rest)
after g (number n ∷ rest) = Err (number n ∷ rest)
after g (fixed h ∷ rest) = if same g h then Ok rest else Err (fixed h ∷ rest)

abbrev pub begins : Fixed → List Tok → Bool
begins g ts = is_ok (after g ts)

-- what follows a token that may be left out
abbrev pub past_by : List Tok → Result (List Tok) (List Tok) → List Tok
past_by ts (Err us) = ts
past_by ts (Ok rest) = rest

abbrev pub past : Fixed → List Tok → List Tok
past g ts = past_by ts (after g ts)

abbrev pub name : List Tok → Read (List ℕ)
name [] = Err []
name (identifier x ∷ rest) = Ok (x, rest)
name (number n ∷ rest) = Err (number n ∷ rest)
name (fixed h ∷ rest) = Err (fixed h ∷ rest)

abbrev pub begins_name : List Tok → Bool
begins_name ts = is_ok (name ts)

-- `x` or `not x`, and `label(x)`
abbrev pub on_truth : Bool → List ℕ → Condition
on_truth sign x = record { variable = x; pattern = patterns.Truth sign }

abbrev pub on_label : List ℕ → List ℕ → Condition
on_label label x = record { variable = x; pattern = patterns.Label (bare_label label) }

-- the variable of a clock with a label, after the parenthesis that opens it, up to the one that closes it
abbrev pub labelled_clock : List ℕ → List Tok → Read Condition
labelled_clock label ts = name ts >>= λ x. after f.Close x.1 >>= λ rest. Ok (on_label label x.0, rest)

-- after a name: it is the variable, unless a parenthesis follows it
abbrev pub clock_from_by : List ℕ → List Tok → Result (List Tok) (List Tok) → Read Condition
clock_from_by x ts (Err us) = Ok (on_truth true x, ts)
clock_from_by x ts (Ok rest) = labelled_clock x rest

abbrev pub clock_from : List ℕ → List Tok → Read Condition
clock_from x ts = clock_from_by x ts (after f.Open ts)

-- after `not`: the variable
abbrev pub negated : List Tok → Read Condition
negated ts = name ts >>= λ x. Ok (on_truth false x.0, x.1)

-- after `when`: the variable, with `not` before it or without, or a label and the variable in parentheses
abbrev pub condition_by : List Tok → Result (List Tok) (List Tok) → Read Condition
condition_by ts (Err us) = name ts >>= λ x. clock_from x.0 x.1
condition_by ts (Ok rest) = negated rest

abbrev pub condition : List Tok → Read Condition
condition ts = condition_by ts (after f.Not ts)

-- pieces, as long as the test holds; the number bounds how many there are
module _ {A : Type 0} (test : List Tok → Bool) (piece : List A → List Tok → Read (List A)) where
  unfoldable pub many : ℕ → List A → List Tok → Read (List A)
  many zero found ts = Err ts
  many (suc n) found ts = if test ts then (piece found ts >>= λ x. many n x.0 x.1) else Ok (found, ts)

-- EXPRESSIONS

-- what a token does after an operand
pub data Next : Type 0 where
  operator : Infix → Next
  clock : Next
  parenthesis : Next
  nothing : Next

abbrev pub of_infix : Option Infix → Next
of_infix None = nothing
of_infix (Some op) = operator op

abbrev pub next_by : Tok → Next
next_by (identifier x) = nothing
next_by (number n) = nothing
next_by (fixed f.When) = clock
next_by (fixed f.Open) = parenthesis
next_by (fixed g) = of_infix (infix_of g)

abbrev pub next : List Tok → Next
next [] = nothing
next (x ∷ rest) = next_by x

abbrev pub tail : List Tok → List Tok
tail [] = []
tail (x ∷ rest) = rest

-- an operand before any operator follows it, with its level
abbrev pub at_level : ℕ → Read Tree → Result (ℕ × Tree × List Tok) (List Tok)
at_level at (Err us) = Err us
at_level at (Ok x) = Ok (at, x.0, x.1)

-- the same, where its place asks for a level that it has
abbrev pub allowed : ℕ → ℕ → List Tok → Read Tree → Result (ℕ × Tree × List Tok) (List Tok)
allowed at least all found = if nat_le least at then at_level at found else Err all

-- and the closing parenthesis after it
abbrev pub closed : {A : Type 0} → Read A → Read A
closed (Err us) = Err us
closed (Ok x) = after f.Close x.1 >>= λ rest. Ok (x.0, rest)

-- the merge on this variable with these branches, each with its name
abbrev pub merged : List ℕ → List (List ℕ × Tree) → Tree
merged v branches = t.merge v (map (λ b. patterns.Label (bare_label b.0)) branches)
    (trees_of (map (λ b. b.1) branches))

-- after `current`
abbrev pub current : List Tok → Read Tree
current ts = name ts >>= λ x. Ok (t.current x.0, x.1)

-- `read` reads an expression of the given level or above
module _ (read : ℕ → List Tok → Read Tree) where
  -- one operator after an operand of the level `at`, where `go` reads those after it
  abbrev pub step : (ℕ → Tree → List Tok → Read Tree) → ℕ → ℕ → Tree → List Tok → Next → Read Tree
  step go least at found ts nothing = Ok (found, ts)
  step go least at found ts parenthesis = Ok (found, ts)
  step go least at found ts (operator op) =
      if nat_le least (level op) && nat_le (left op) at
      then (read (right op) (tail ts) >>= λ x. go (level op) (t.binary op found x.0) x.1)
      else Ok (found, ts)
  step go least at found ts clock =
      if nat_le least 9 && nat_le 9 at
      then (condition (tail ts) >>= λ x. go 9 (t.when found x.0) x.1)
      else Ok (found, ts)

  -- the operators after an operand; the first number bounds how many there are
  unfoldable pub climb : ℕ → ℕ → ℕ → Tree → List Tok → Read Tree
  climb zero least at found ts = Ok (found, ts)
  climb (suc n) least at found ts = step (climb n least) least at found ts (next ts)

  -- the operands after those found, each with a comma before it
  abbrev pub further_operand : List Tree → List Tok → Read (List Tree)
  further_operand found ts = after f.Comma ts >>= λ rest. read 0 rest >>= λ x. Ok (found ++ x.0 ∷ [], x.1)

  -- after the parenthesis that opens them
  abbrev pub operands_by : ℕ → List Tok → Result (List Tok) (List Tok) → Read (List Tree)
  operands_by n ts (Ok rest) = Ok ([], rest)
  operands_by n ts (Err us) =
      closed (read 0 ts >>= λ x. many (begins f.Comma) further_operand n (x.0 ∷ []) x.1)

  unfoldable pub operands : ℕ → List Tok → Read (List Tree)
  operands n ts = operands_by n ts (after f.Close ts)

  -- after a name
  abbrev pub named_by : ℕ → List ℕ → List Tok → Result (List Tok) (List Tok) → Read Tree
  named_by n x ts (Err us) = Ok (t.variable x, ts)
  named_by n x ts (Ok rest) = operands n rest >>= λ found. Ok (t.call x (trees_of found.0), found.1)

  unfoldable pub named : ℕ → List ℕ → List Tok → Read Tree
  named n x ts = named_by n x ts (after f.Open ts)

  -- after `if`
  unfoldable pub choice : List Tok → Read Tree
  choice ts = do
    test ← read 0 ts
    then_part ← after f.Then test.1
    first ← read 0 then_part
    else_part ← after f.Else first.1
    second ← read 0 else_part
    Ok (t.choice test.0 first.0 second.0, second.1)

  -- up to the parenthesis that closes it
  unfoldable pub inside : List Tok → Read Tree
  inside ts = closed (read 0 ts)

  -- a branch of `merge`, with the truth that it begins with
  unfoldable pub branch : Fixed → List Tok → Read Tree
  branch sign ts = do
    a ← after f.Open ts
    b ← after sign a
    c ← after f.Arrow b
    inside c

  -- after `merge v (true`, up to the end of the second branch
  unfoldable pub by_truths : List ℕ → List Tok → Read Tree
  by_truths v ts = do
    a ← after f.Arrow ts
    first ← inside a
    second ← branch f.False first.1
    Ok (t.merge v both_truths (more first.0 (more second.0 none)), second.1)

  -- after the parenthesis that opens it, a branch of `merge` with the name that it begins with
  unfoldable pub labelled : List (List ℕ × Tree) → List Tok → Read (List (List ℕ × Tree))
  labelled found ts = do
    x ← name ts
    a ← after f.Arrow x.1
    e ← inside a
    Ok (found ++ (x.0, e.0) ∷ [], e.1)

  abbrev pub further_branch : List (List ℕ × Tree) → List Tok → Read (List (List ℕ × Tree))
  further_branch found ts = after f.Open ts >>= labelled found

  -- after `merge v (`, up to the end of the last branch
  unfoldable pub by_labels : ℕ → List ℕ → List Tok → Read Tree
  by_labels n v ts = do
    first ← labelled [] ts
    all ← many (begins f.Open) further_branch n first.0 first.1
    Ok (merged v all.0, all.1)

  abbrev pub merge_by : ℕ → List ℕ → List Tok → Result (List Tok) (List Tok) → Read Tree
  merge_by n v ts (Err us) = by_labels n v ts
  merge_by n v ts (Ok rest) = by_truths v rest

  -- after `merge`
  unfoldable pub merge : ℕ → List Tok → Read Tree
  merge n ts = do
    x ← name ts
    a ← after f.Open x.1
    merge_by n x.0 a (after f.True a)

  -- after an operator that stands before its operand
  abbrev pub prefixed : List Tok → Option Prefix → List Tok → Read Tree
  prefixed all None ts = Err all
  prefixed all (Some op) ts = read 8 ts >>= λ x. Ok (t.unary op x.0, x.1)

  abbrev pub head_by : ℕ → ℕ → Tok → List Tok → Result (ℕ × Tree × List Tok) (List Tok)
  head_by n least (identifier x) rest = at_level 10 (named n x rest)
  head_by n least (number k) rest = at_level 10 (Ok (t.number k, rest))
  head_by n least (fixed f.True) rest = at_level 10 (Ok (t.truth true, rest))
  head_by n least (fixed f.False) rest = at_level 10 (Ok (t.truth false, rest))
  head_by n least (fixed f.Merge) rest = at_level 10 (merge n rest)
  head_by n least (fixed f.Open) rest = at_level 10 (inside rest)
  head_by n least (fixed f.If) rest = allowed 0 least (fixed f.If ∷ rest) (choice rest)
  head_by n least (fixed f.Current) rest = allowed 8 least (fixed f.Current ∷ rest) (current rest)
  head_by n least (fixed g) rest =
      allowed 8 least (fixed g ∷ rest) (prefixed (fixed g ∷ rest) (prefix_of g) rest)

  unfoldable pub head : ℕ → ℕ → List Tok → Result (ℕ × Tree × List Tok) (List Tok)
  head n least [] = Err []
  head n least (x ∷ rest) = head_by n least x rest

  unfoldable pub whole : ℕ → ℕ → List Tok → Read Tree
  whole n least ts = head n least ts >>= λ x. climb n least x.0 x.1 x.2

-- of this level or above, with expressions nested no deeper than the first number
unfoldable pub expr : ℕ → ℕ → List Tok → Read Tree
expr zero least ts = Err ts
expr (suc n) least ts = whole (expr n) n least ts

-- DECLARATIONS

abbrev pub further_name : List (List ℕ) → List Tok → Read (List (List ℕ))
further_name found ts = after f.Comma ts >>= λ rest. name rest >>= λ x. Ok (found ++ x.0 ∷ [], x.1)

unfoldable pub names : ℕ → List Tok → Read (List (List ℕ))
names n ts = name ts >>= λ x. many (begins f.Comma) further_name n (x.0 ∷ []) x.1

abbrev pub kind : List Tok → Read WrittenType
kind (fixed f.Int ∷ rest) = Ok (int, rest)
kind (fixed f.Bool ∷ rest) = Ok (bool, rest)
kind (identifier x ∷ rest) = Ok (named_type x, rest)
kind ts = Err ts

-- a clock, where one is written
abbrev pub clock_by : List Tok → Result (List Tok) (List Tok) → Read (Option Condition)
clock_by ts (Err us) = Ok (None, ts)
clock_by ts (Ok rest) = condition rest >>= λ x. Ok (Some x.0, x.1)

abbrev pub clocked : List Tok → Read (Option Condition)
clocked ts = clock_by ts (after f.When ts)

unfoldable pub declaration : ℕ → List DeclarationTree → List Tok → Read (List DeclarationTree)
declaration n found ts = do
  xs ← names n ts
  a ← after f.Colon xs.1
  k ← kind a
  c ← clocked k.1
  Ok (found ++ map (declared k.0 c.0) xs.0, c.1)

abbrev pub further_declaration : ℕ → List DeclarationTree → List Tok → Read (List DeclarationTree)
further_declaration n found ts = after f.Semicolon ts >>= declaration n found

unfoldable pub declarations : ℕ → List Tok → Read (List DeclarationTree)
declarations n ts = declaration n [] ts >>= λ x. many (begins f.Semicolon) (further_declaration n) n x.0 x.1

-- none before the closing parenthesis
unfoldable pub inputs : ℕ → List Tok → Read (List DeclarationTree)
inputs n ts = if begins f.Close ts then Ok ([], ts) else declarations n ts

-- and the semicolon after it
abbrev pub ended : {A : Type 0} → Read A → Read A
ended (Err us) = Err us
ended (Ok x) = after f.Semicolon x.1 >>= λ rest. Ok (x.0, rest)

abbrev pub ended_declaration : ℕ → List DeclarationTree → List Tok → Read (List DeclarationTree)
ended_declaration n found ts = ended (declaration n found ts)

abbrev pub locals_by : ℕ → List Tok → Result (List Tok) (List Tok) → Read (List DeclarationTree)
locals_by n ts (Err us) = Ok ([], ts)
locals_by n ts (Ok rest) =
    ended_declaration n [] rest >>= λ x. many begins_name (ended_declaration n) n x.0 x.1

unfoldable pub locals : ℕ → List Tok → Read (List DeclarationTree)
locals n ts = locals_by n ts (after f.Var ts)

-- EQUATIONS

-- a name and its right side
unfoldable pub single : ℕ → List Tok → Read EquationTree
single n ts = do
  x ← name ts
  a ← after f.Equal x.1
  e ← expr n 0 a
  Ok (record { left = x.0 ∷ []; right = e.0 }, e.1)

unfoldable pub call : ℕ → List Tok → Read Tree
call n ts = do
  g ← name ts
  a ← after f.Open g.1
  xs ← operands (expr n) n a
  Ok (t.call g.0 (trees_of xs.0), xs.1)

-- after the parenthesis that opens them, two names and more up to the one that closes them
unfoldable pub tuple_names : ℕ → List Tok → Read (List (List ℕ))
tuple_names n ts = do
  x ← name ts
  y ← further_name (x.0 ∷ []) x.1
  zs ← many (begins f.Comma) further_name n y.0 y.1
  rest ← after f.Close zs.1
  Ok (zs.0, rest)

-- names in parentheses, after the one that opens, and a call
unfoldable pub tuple : ℕ → List Tok → Read EquationTree
tuple n ts = do
  xs ← tuple_names n ts
  a ← after f.Equal xs.1
  e ← call n a
  Ok (record { left = xs.0; right = e.0 }, e.1)

abbrev pub equation_by : ℕ → List Tok → Result (List Tok) (List Tok) → Read EquationTree
equation_by n ts (Err us) = single n ts
equation_by n ts (Ok rest) = tuple n rest

unfoldable pub equation : ℕ → List Tok → Read EquationTree
equation n ts = equation_by n ts (after f.Open ts)

abbrev pub ended_equation : ℕ → List EquationTree → List Tok → Read (List EquationTree)
ended_equation n found ts = ended (equation n ts) >>= λ x. Ok (found ++ x.0 ∷ [], x.1)

abbrev pub begins_equation : List Tok → Bool
begins_equation ts = begins_name ts || begins f.Open ts

unfoldable pub equations : ℕ → List Tok → Read (List EquationTree)
equations n ts = many begins_equation (ended_equation n) n [] ts

-- NODES

-- a node before its locals and its equations
unfoldable pub heading : ℕ → List Tok → Read NodeTree
heading n ts = do
  a ← after f.Node ts
  x ← name a
  b ← after f.Open x.1
  ins ← inputs n b
  c ← after f.Close ins.1
  d ← after f.Returns c
  e ← after f.Open d
  outs ← declarations n e
  rest ← after f.Close outs.1
  Ok (
    record {
      name = x.0;
      inputs = ins.0;
      outputs = outs.0;
      locals = [];
      equations = [];
    },
    past f.Semicolon rest,
  )

unfoldable pub body : ℕ → List Tok → Read (List EquationTree)
body n ts = do
  a ← after f.Let ts
  es ← equations n a
  rest ← after f.Tel es.1
  Ok (es.0, past f.Semicolon rest)

unfoldable pub node : ℕ → List Tok → Read NodeTree
node n ts = do
  h ← heading n ts
  ls ← locals n h.1
  es ← body n ls.1
  Ok (
    record {
      name = h.0.name;
      inputs = h.0.inputs;
      outputs = h.0.outputs;
      locals = ls.0;
      equations = es.0;
    },
    es.1,
  )

abbrev pub further_node : ℕ → List NodeTree → List Tok → Read (List NodeTree)
further_node n found ts = node n ts >>= λ x. Ok (found ++ x.0 ∷ [], x.1)

-- the nodes of a program
unfoldable pub nodes : ℕ → List Tok → Read (List NodeTree)
nodes n ts = further_node n [] ts >>= λ x. many (begins f.Node) (further_node n) n x.0 x.1

-- PROGRAMS

unfoldable pub type_declaration : ℕ → List TypeTree → List Tok → Read (List TypeTree)
type_declaration n found ts = do
  a ← after f.Type ts
  x ← name a
  b ← after f.Equal x.1
  c ← after f.Enum b
  d ← after f.OpenBrace c
  xs ← names n d
  e ← after f.CloseBrace xs.1
  rest ← after f.Semicolon e
  Ok (found ++ (record { name = x.0; names = xs.0 }) ∷ [], rest)

-- the types of a program
unfoldable pub types : ℕ → List Tok → Read (List TypeTree)
types n ts = many (begins f.Type) (type_declaration n) n [] ts

unfoldable pub program : ℕ → List Tok → Read ProgramTree
program n ts = do
  xs ← types n ts
  ns ← nodes n xs.1
  Ok (record { types = xs.0; nodes = ns.0 }, ns.1)

abbrev pub to_the_end : ProgramTree × List Tok → Result ProgramTree (List Tok)
to_the_end (p, []) = Ok p
to_the_end (p, t ∷ ts) = Err (t ∷ ts)

-- all of the tokens, or the rest from the refused one on
unfoldable pub all_of : List Tok → Result ProgramTree (List Tok)
all_of ts = program (suc (length ts)) ts >>= to_the_end
