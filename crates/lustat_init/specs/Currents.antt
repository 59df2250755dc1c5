-- Uses of `current`, form by form.
use Rattle.std.specs.Prelude.{ℕ, List}
use Rattle.lutree.specs.Tree.{Tree, Trees, NodeTree}
use Rattle.lutree.specs.Tree as tree
use Rattle.lustat_rules.specs.Classes.{ClockIsTrueAtFirst}

-- what is true of each name after `current`
abbrev mutual
  pub EachCurrent : (List ℕ → Type 0) → Tree → Type 0
  EachCurrent P (tree.number n) = Unit {0}
  EachCurrent P (tree.truth b) = Unit {0}
  EachCurrent P (tree.label l) = Unit {0}
  EachCurrent P (tree.variable x) = Unit {0}
  EachCurrent P (tree.unary op a) = EachCurrent P a
  EachCurrent P (tree.binary op a b) = EachCurrent P a × EachCurrent P b
  EachCurrent P (tree.choice c a b) = EachCurrent P c × EachCurrent P a × EachCurrent P b
  EachCurrent P (tree.when a c) = EachCurrent P a
  EachCurrent P (tree.current x) = P x
  EachCurrent P (tree.merge c ps all) = EachCurrentOfAll P all
  EachCurrent P (tree.call f all) = EachCurrentOfAll P all

  pub EachCurrentOfAll : (List ℕ → Type 0) → Trees → Type 0
  EachCurrentOfAll P tree.none = Unit {0}
  EachCurrentOfAll P (tree.more a all) = EachCurrent P a × EachCurrentOfAll P all

-- the clock of a variable, if it has one, is true at first
pub record IsStarted (n : NodeTree) (x : List ℕ) : Type 0 where
  pub clock : ClockIsTrueAtFirst n x
