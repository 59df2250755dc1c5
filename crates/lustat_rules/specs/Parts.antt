-- The parts of an expression that speak of enumerations and of clocks.
use Rattle.std.specs.Prelude.{ℕ, List, length}
use Rattle.lutree.specs.declared.expr.Label.{Label}
use Rattle.lutree.specs.declared.expr.Pattern.{Pattern}
use Rattle.lutree.specs.declared.expr.Condition.{Condition}
use Rattle.lutree.specs.Tree.{Tree, Trees, list_of}
use Rattle.lutree.specs.Tree as tree

-- a name of an enumeration as a constant, a clock after `when`, or a merge: its variable, the patterns of its
-- branches, and how many branches it has
pub data Part : Type 0 where
  label : Label → Part
  clock : Condition → Part
  merge : List ℕ → List Pattern → ℕ → Part

-- each part of an expression keeps P
module _ (P : Part → Type 0) where
  abbrev mutual
    pub EachPart : Tree → Type 0
    EachPart (tree.number n) = Unit {0}
    EachPart (tree.truth b) = Unit {0}
    EachPart (tree.label l) = P (label l)
    EachPart (tree.variable x) = Unit {0}
    EachPart (tree.unary op a) = EachPart a
    EachPart (tree.binary op a b) = EachPart a × EachPart b
    EachPart (tree.choice c a b) = EachPart c × EachPart a × EachPart b
    EachPart (tree.when a c) = EachPart a × P (clock c)
    EachPart (tree.current x) = Unit {0}
    EachPart (tree.merge c ps all) = P (merge c ps (length (list_of all))) × EachPartOf all
    EachPart (tree.call f all) = EachPartOf all

    pub EachPartOf : Trees → Type 0
    EachPartOf tree.none = Unit {0}
    EachPartOf (tree.more a all) = EachPart a × EachPartOf all
