-- Divisions in the branches of an `if`.
use Rattle.std.specs.Prelude.{Bool, true, false, ◌||◌}
use Rattle.lutree.specs.declared.expr.BinaryOperator.TheVariants.{Divide, Modulo}
use Rattle.lutree.specs.declared.expr.Infix.{Infix}
use Rattle.lutree.specs.declared.expr.Infix.TheVariants.{Data}
use Rattle.lutree.specs.Tree.{Tree, Trees}
use Rattle.lutree.specs.Tree as tree

-- some expression in an expression, the whole of it or one at any depth, passes a test
module _ (test : Tree → Bool) where
  abbrev mutual
    pub some_in : Tree → Bool
    some_in (tree.number n) = test (tree.number n)
    some_in (tree.truth b) = test (tree.truth b)
    some_in (tree.label l) = test (tree.label l)
    some_in (tree.variable x) = test (tree.variable x)
    some_in (tree.unary op a) = test (tree.unary op a) || some_in a
    some_in (tree.binary op a b) = test (tree.binary op a b) || (some_in a || some_in b)
    some_in (tree.choice c a b) = test (tree.choice c a b) || (some_in c || (some_in a || some_in b))
    some_in (tree.when a c) = test (tree.when a c) || some_in a
    some_in (tree.current x) = test (tree.current x)
    some_in (tree.merge c ps all) = test (tree.merge c ps all) || some_in_all all
    some_in (tree.call f all) = test (tree.call f all) || some_in_all all

    pub some_in_all : Trees → Bool
    some_in_all tree.none = false
    some_in_all (tree.more a all) = some_in a || some_in_all all

-- `div` and `mod`
abbrev pub is_dividing : Infix → Bool
is_dividing (Data Divide) = true
is_dividing (Data Modulo) = true
is_dividing op = false

-- an expression is `a div b` or `a mod b`
abbrev pub is_division : Tree → Bool
is_division (tree.binary op a b) = is_dividing op
is_division e = false

-- it has such an expression in it
abbrev pub has_division : Tree → Bool
has_division = some_in is_division

-- an expression is an `if`, and one of its two branches has a division in it; its condition doesn't count
abbrev pub is_dividing_choice : Tree → Bool
is_dividing_choice (tree.choice c a b) = has_division a || has_division b
is_dividing_choice e = false

-- it has such an `if` in it
abbrev pub has_dividing_branch : Tree → Bool
has_dividing_branch = some_in is_dividing_choice
