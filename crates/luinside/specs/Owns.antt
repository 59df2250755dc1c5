-- Where the own flows of an expression and of its parts stand, by the sizes of all nodes.
use Rattle.std.specs.Prelude.{◌≡◌, ℕ, ◌+◌, ◌-◌, ◌<◌, ◌≤◌, Bool, true, false, List, [], ◌∷◌, ◌++◌, length}
use Rattle.std.specs.List.{list_any}
use Rattle.std.specs.Str.{bytes_eq}
use Rattle.lutree.specs.declared.expr.Infix.TheVariants.{Data, Arrow, FollowedBy}
use Rattle.lutree.specs.Tree.{Tree, EquationTree, NodeTree, ProgramTree}
use Rattle.lutree.specs.Tree as tree
use Rattle.lusource.specs.Names.{variables_of}
use Rattle.lucore_laws.specs.Sizes.{size_of, root_size, made_size, equations_size}
use Rattle.luinside.specs.Parts.{operands, calls_among, rights}

-- an operand among others: those before it, as many as its number says, and those behind it
pub record Among (all : List Tree) (n : ℕ) : Type 0 where
  pub front : List Tree
  pub operand : Tree
  pub back : List Tree
  pub are : all ≡ front ++ operand ∷ back
  pub number : n ≡ length front

-- how many calls an expression is itself
abbrev pub own_calls : Tree → ℕ
own_calls (tree.call f all) = 1
own_calls e = 0

-- given the sizes of all nodes
module _ (p : ProgramTree) (sizes : List ℕ) where
  -- how many flows an expression makes behind those of its operands: a call makes the list of its node, and
  -- `a fby b` is `a -> pre b`
  abbrev pub own_size : Tree → ℕ
  own_size (tree.number n) = 1
  own_size (tree.truth b) = 1
  own_size (tree.label x) = 1
  own_size (tree.variable x) = 0
  own_size (tree.unary op a) = 1
  own_size (tree.binary (Data op) a b) = 1
  own_size (tree.binary Arrow a b) = 1
  own_size (tree.binary FollowedBy a b) = 2
  own_size (tree.choice c a b) = 1
  own_size (tree.when a c) = 1
  own_size (tree.current x) = 1
  own_size (tree.merge c ps all) = 1
  own_size (tree.call f all) = size_of p sizes f

  -- how many flows some expressions make
  abbrev pub sum_made : List Tree → ℕ
  sum_made [] = 0
  sum_made (a ∷ all) = made_size p sizes a + sum_made all

  -- In an expression whose flows begin at place s, where i calls stand before, the part at these numbers is
  -- f: its own flows begin at place b, c calls stand before them, and the target is among them.
  abbrev pub IsOwn : ℕ → Tree → ℕ → ℕ → List ℕ → Tree → ℕ → ℕ → Type 0
  IsOwn target e s i [] f b c =
      (f ≡ e) × (b ≡ s + sum_made (operands e)) × (c ≡ i + calls_among (operands e)) × (b ≤ target)
      × (target < b + own_size e)
  IsOwn target e s i (n ∷ rest) f b c =
      (a : Among (operands e) n)
      × IsOwn target a.operand (s + sum_made a.front) (i + calls_among a.front) rest f b c

-- an equation among others
pub record EquationAmong (all : List EquationTree) (n : ℕ) : Type 0 where
  pub front : List EquationTree
  pub equation : EquationTree
  pub back : List EquationTree
  pub are : all ≡ front ++ equation ∷ back
  pub number : n ≡ length front

-- whether a variable stands on the left side of an equation
abbrev pub is_defined : List ℕ → EquationTree → Bool
is_defined x q = list_any (λ y. bytes_eq y x) q.left

-- none of some equations defines a variable
abbrev pub NoneDefines : List ℕ → List EquationTree → Type 0
NoneDefines x [] = Unit {0}
NoneDefines x (q ∷ qs) = (is_defined x q ≡ false) × NoneDefines x qs

module _ (p : ProgramTree) (sizes : List ℕ) (node : NodeTree) where
  -- the place at which the inner flows of an equation begin, behind those of some equations
  abbrev pub behind_equations : List EquationTree → ℕ
  behind_equations qs = length (variables_of node) + equations_size p sizes qs

  -- The target is an inner flow of an equation, and an own flow of the part at these numbers, of which the
  -- first is the equation's.
  pub record InnerAt (target : ℕ) (numbers : List ℕ) (f : Tree) (b c : ℕ) : Type 0 where
    pub number : ℕ
    pub rest : List ℕ
    pub numbers_are : numbers ≡ number ∷ rest
    pub x : EquationAmong node.equations number
    pub is_own : IsOwn p sizes target x.equation.right (behind_equations x.front)
        (calls_among (rights x.front)) rest f b c
    pub inside : target < behind_equations x.front
        + (made_size p sizes x.equation.right - root_size x.equation.right)

  -- The equation at this number is the first that defines the variable: f is its right side, and all its
  -- flows but the root's end before place b.
  pub record RootAt (variable : List ℕ) (numbers : List ℕ) (f : Tree) (b : ℕ) : Type 0 where
    pub number : ℕ
    pub numbers_are : numbers ≡ number ∷ []
    pub x : EquationAmong node.equations number
    pub first : NoneDefines variable x.front
    pub defines : is_defined variable x.equation ≡ true
    pub found : f ≡ x.equation.right
    pub behind : b ≡ behind_equations x.front
        + (made_size p sizes x.equation.right - root_size x.equation.right)
