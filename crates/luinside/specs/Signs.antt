-- The signs of a text: its tokens but parentheses and commas; and those of a program's expressions.
use Rattle.std.specs.Prelude.{◌≡◌, ℕ, zero, suc, Bool, true, false, ◌&&◌, nat_le, List, [], ◌∷◌, ◌++◌, filter, map}
use Rattle.std.specs.Prelude.{take, Option, Some, None, option_and_then, slice_get, Result, OnOk, IfOk, IfSome}
use Rattle.lutree.specs.declared.expr.Pattern.{Pattern}
use Rattle.lutree.specs.declared.expr.Pattern.TheVariants as patterns
use Rattle.lutree.specs.declared.expr.Condition.{Condition}
use Rattle.lutree.specs.Tree.{Tree, Trees, list_of, trees_of, EquationTree}
use Rattle.lutree.specs.Tree as tree
use Rattle.lusyn_grammar.specs.declared.token.Fixed.{Fixed}
use Rattle.lusyn_grammar.specs.declared.token.Fixed.TheVariants as f
use Rattle.lusyn_grammar.specs.declared.token.Token.{Token}
use Rattle.lusyn_grammar.specs.Tokens.{Tok, identifier, number, fixed, prefix_token, infix_token, tok}
use Rattle.lusyn_grammar.specs.Grammar.{truth_token}
use Rattle.lusyn_grammar.specs.Lexing.{Placed}
use Rattle.lusyn_grammar.specs.Refusals.{IsLexed}
use Rattle.luinside.specs.Parts.{operands}

-- OF A TEXT

-- neither a parenthesis nor a comma
abbrev pub is_sign : Tok → Bool
is_sign (fixed f.Open) = false
is_sign (fixed f.Close) = false
is_sign (fixed f.Comma) = false
is_sign _ = true

-- those of some tokens that stand at this byte or behind it
abbrev pub signs_from : ℕ → List Placed → List Placed
signs_from begin = filter (λ p. nat_le begin p.0 && is_sign p.1)

-- signs put behind others, unless memory ran out
abbrev pub Pushes : {X E : Type 0} → Result X E → List Token → List Token → List Tok → Type 0
Pushes result old new more = OnOk result (map tok new ≡ map tok old ++ more)

-- the same where something is answered
abbrev pub PushesTo : {X E : Type 0} → Result (Option X) E → List Token → List Token → List Tok → Type 0
PushesTo result old new more = IfOk result (λ o. IfSome o (λ x. map tok new ≡ map tok old ++ more))

-- OF AN EXPRESSION

-- `c`, `not c` or `A(c)`
abbrev pub pattern_signs : Pattern → List ℕ → List Tok
pattern_signs (patterns.Truth true) x = identifier x ∷ []
pattern_signs (patterns.Truth false) x = fixed f.Not ∷ identifier x ∷ []
pattern_signs (patterns.Label l) x = identifier l.name ∷ identifier x ∷ []

-- `true`, `false` or `A`, and the arrow
abbrev pub branch_signs : Pattern → List Tok
branch_signs (patterns.Truth b) = fixed (truth_token b) ∷ fixed f.Arrow ∷ []
branch_signs (patterns.Label l) = identifier l.name ∷ fixed f.Arrow ∷ []

abbrev mutual
  pub signs : Tree → List Tok
  signs (tree.number n) = number n ∷ []
  signs (tree.truth b) = fixed (truth_token b) ∷ []
  signs (tree.label l) = identifier l.name ∷ []
  signs (tree.variable x) = identifier x ∷ []
  signs (tree.unary op a) = fixed (prefix_token op) ∷ signs a
  signs (tree.binary op a b) = signs a ++ (fixed (infix_token op) ∷ signs b)
  signs (tree.choice c a b) = fixed f.If ∷ (signs c ++ (fixed f.Then ∷ (signs a ++ (fixed f.Else ∷ signs b))))
  signs (tree.when a c) = signs a ++ (fixed f.When ∷ pattern_signs c.pattern c.variable)
  signs (tree.current x) = fixed f.Current ∷ identifier x ∷ []
  signs (tree.merge x ps all) = fixed f.Merge ∷ identifier x ∷ all_branch_signs ps all
  signs (tree.call g all) = identifier g ∷ all_signs all

  -- those of a call's arguments
  pub all_signs : Trees → List Tok
  all_signs tree.none = []
  all_signs (tree.more a all) = signs a ++ all_signs all

  -- those of a merge's branches
  pub all_branch_signs : List Pattern → Trees → List Tok
  all_branch_signs ps tree.none = []
  all_branch_signs [] (tree.more a all) = []
  all_branch_signs (p ∷ ps) (tree.more a all) = branch_signs p ++ (signs a ++ all_branch_signs ps all)

-- AN OPERATOR IN ITS EQUATION

-- what a branch begins with, by its pattern
abbrev pub begun : Option Pattern → List Tok
begun None = []
begun (Some p) = branch_signs p

-- the signs of an expression before its operand of a number
abbrev pub signs_to : Tree → ℕ → List Tok
signs_to (tree.number m) n = []
signs_to (tree.truth b) n = []
signs_to (tree.label l) n = []
signs_to (tree.variable x) n = []
signs_to (tree.unary op a) n = fixed (prefix_token op) ∷ []
signs_to (tree.binary op a b) zero = []
signs_to (tree.binary op a b) (suc n) = signs a ++ fixed (infix_token op) ∷ []
signs_to (tree.choice c a b) zero = fixed f.If ∷ []
signs_to (tree.choice c a b) (suc zero) = fixed f.If ∷ (signs c ++ fixed f.Then ∷ [])
signs_to (tree.choice c a b) (suc (suc n)) = fixed f.If ∷ (signs c ++ (fixed f.Then ∷ (signs a ++ fixed f.Else ∷ [])))
signs_to (tree.when a c) n = []
signs_to (tree.current x) n = []
signs_to (tree.merge x ps all) n =
    fixed f.Merge ∷ identifier x ∷ (all_branch_signs ps (trees_of (take n (list_of all))) ++ begun (slice_get ps n))
signs_to (tree.call g all) n = identifier g ∷ all_signs (trees_of (take n (list_of all)))

-- the part of an expression at these numbers: each goes into the operand of its number
abbrev pub expression_at : Tree → List ℕ → Option Tree
expression_at e [] = Some e
expression_at e (n ∷ rest) = option_and_then (λ a. expression_at a rest) (slice_get (operands e) n)

-- the signs before the part of an expression, if there is one
abbrev pub signs_before : Option Tree → List ℕ → List Tok
signs_before None part = []
signs_before (Some e) [] = []
signs_before (Some e) (n ∷ rest) = signs_to e n ++ signs_before (slice_get (operands e) n) rest

-- the signs of an operator's first operand that stand before it
abbrev pub front : Tree → List Tok
front (tree.binary op a b) = signs a
front _ = []

-- the sign of an operator
abbrev pub operator_sign : Tree → Option Tok
operator_sign (tree.unary op a) = Some (fixed (prefix_token op))
operator_sign (tree.binary op a b) = Some (fixed (infix_token op))
operator_sign _ = None

-- a left side and its `=`
abbrev pub left_signs : List (List ℕ) → List Tok
left_signs left = map identifier left ++ fixed f.Equal ∷ []

-- among these tokens this sign, at this byte, is the first behind those
pub record IsBehind (tokens : List Placed) (signs : List Tok) (sign : Tok) (byte : ℕ) : Type 0 where
  pub before : List Placed
  pub behind : List Placed
  pub all : tokens ≡ before ++ (byte, sign) ∷ behind
  pub before_are : map (λ (p : Placed). p.1) before ≡ signs

-- The operator at this part of an equation stands at this byte: from the byte at which the equation begins on,
-- the signs of the text are those of the left side, of what stands before the part, and of its first operand;
-- and the next is the operator's.
pub record StandsAt (text : List ℕ) (begin : ℕ) (q : EquationTree) (part : List ℕ) (e : Tree)
    (byte : ℕ) : Type 0 where
  pub tokens : List Placed
  pub are_tokens : IsLexed text tokens
  pub sign : Tok
  pub sign_is : operator_sign e ≡ Some sign
  pub first_behind : IsBehind (signs_from begin tokens)
      (left_signs q.left ++ (signs_before (Some q.right) part ++ front e)) sign byte
