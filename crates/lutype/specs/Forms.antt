-- What each name and each call of an expression keeps, form by form.
use Rattle.std.specs.Prelude.{ℕ, List, length}
use Rattle.lutree.specs.Tree.{Tree, Trees, list_of}
use Rattle.lutree.specs.Tree as tree
use Rattle.lustat_rules.specs.Naming.{Call}

-- each name in an expression keeps P
module _ (P : List ℕ → Type 0) where
  abbrev mutual
    pub EachName : Tree → Type 0
    EachName (tree.number n) = Unit {0}
    EachName (tree.truth b) = Unit {0}
    EachName (tree.label l) = Unit {0}
    EachName (tree.variable x) = P x
    EachName (tree.unary op a) = EachName a
    EachName (tree.binary op a b) = EachName a × EachName b
    EachName (tree.choice c a b) = EachName c × (EachName a × EachName b)
    EachName (tree.when a c) = EachName a × P c.variable
    EachName (tree.current x) = P x
    EachName (tree.merge c ps all) = P c × EachNameOf all
    EachName (tree.call f all) = EachNameOf all

    pub EachNameOf : Trees → Type 0
    EachNameOf tree.none = Unit {0}
    EachNameOf (tree.more a all) = EachName a × EachNameOf all

-- each call in an expression keeps P
module _ (P : Call → Type 0) where
  abbrev mutual
    pub EachCall : Tree → Type 0
    EachCall (tree.number n) = Unit {0}
    EachCall (tree.truth b) = Unit {0}
    EachCall (tree.label l) = Unit {0}
    EachCall (tree.variable x) = Unit {0}
    EachCall (tree.unary op a) = EachCall a
    EachCall (tree.binary op a b) = EachCall a × EachCall b
    EachCall (tree.choice c a b) = EachCall c × (EachCall a × EachCall b)
    EachCall (tree.when a c) = EachCall a
    EachCall (tree.current x) = Unit {0}
    EachCall (tree.merge c ps all) = EachCallOf all
    EachCall (tree.call f all) = EachCallOf all × P (record { node = f; arguments = length (list_of all) })

    pub EachCallOf : Trees → Type 0
    EachCallOf tree.none = Unit {0}
    EachCallOf (tree.more a all) = EachCall a × EachCallOf all
