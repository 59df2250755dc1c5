-- Which nodes an expression calls, form by form.
use Rattle.std.specs.Prelude.{◌≡◌, ℕ, List}
use Rattle.lutree.specs.Tree.{Tree, Trees}
use Rattle.lutree.specs.Tree as tree

-- a name is another than this one
pub record IsOther (name f : List ℕ) : Type 0 where
  pub differs : ¬ (f ≡ name)

-- what is true of the name of each node that is called
abbrev mutual
  pub EachCall : (List ℕ → Type 0) → Tree → Type 0
  EachCall P (tree.number n) = Unit {0}
  EachCall P (tree.truth b) = Unit {0}
  EachCall P (tree.label l) = Unit {0}
  EachCall P (tree.variable x) = Unit {0}
  EachCall P (tree.unary op a) = EachCall P a
  EachCall P (tree.binary op a b) = EachCall P a × EachCall P b
  EachCall P (tree.choice c a b) = EachCall P c × EachCall P a × EachCall P b
  EachCall P (tree.when a c) = EachCall P a
  EachCall P (tree.current x) = Unit {0}
  EachCall P (tree.merge c ps all) = EachCallOfAll P all
  EachCall P (tree.call f all) = EachCallOfAll P all × P f

  pub EachCallOfAll : (List ℕ → Type 0) → Trees → Type 0
  EachCallOfAll P tree.none = Unit {0}
  EachCallOfAll P (tree.more a all) = EachCall P a × EachCallOfAll P all
