-- The one clock that an expression can fit, where it doesn't fit all clocks or none.
use Rattle.std.specs.Prelude.{List, ℕ, Option, Some, None}
use Rattle.lutree.specs.Tree.{Tree, Trees, NodeTree}
use Rattle.lutree.specs.Tree as tree
use Rattle.lustat_rules.specs.Scope.{Clock, clock_of}

-- the first of two, if it is there
abbrev pub or_else : Option Clock → Option Clock → Option Clock
or_else None o = o
or_else (Some k) o = Some k

-- the clock of a clock's variable
abbrev pub clock_below : NodeTree → Option Clock → Option Clock
clock_below n (Some (Some c)) = clock_of n c.variable
clock_below n o = None

abbrev pub current_anchor : NodeTree → List ℕ → Option Clock
current_anchor n x = clock_below n (clock_of n x)

-- the clock that the first part with one asks for
abbrev mutual
  pub anchor : NodeTree → Tree → Option Clock
  anchor n (tree.number a) = None
  anchor n (tree.truth b) = None
  anchor n (tree.label l) = None
  anchor n (tree.variable x) = clock_of n x
  anchor n (tree.unary op a) = anchor n a
  anchor n (tree.binary op a b) = or_else (anchor n a) (anchor n b)
  anchor n (tree.choice c a b) = or_else (anchor n c) (or_else (anchor n a) (anchor n b))
  anchor n (tree.when a c) = Some (Some c)
  anchor n (tree.current x) = current_anchor n x
  anchor n (tree.merge c ps all) = clock_of n c
  anchor n (tree.call f all) = anchor_of_all n all

  pub anchor_of_all : NodeTree → Trees → Option Clock
  anchor_of_all n tree.none = None
  anchor_of_all n (tree.more a all) = or_else (anchor n a) (anchor_of_all n all)
