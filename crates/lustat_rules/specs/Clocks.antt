-- The rules of clocks.
use Rattle.std.specs.Prelude.{◌≡◌, ◌⊎◌, ◌↔◌, ℕ, Bool, List, [], ◌∷◌, ◌++◌, Option, Some, None, IfSome, All}
use Rattle.lutree.specs.declared.expr.Label.{Label}
use Rattle.lutree.specs.declared.expr.Pattern.{Pattern}
use Rattle.lutree.specs.declared.expr.Pattern.TheVariants as patterns
use Rattle.lutree.specs.declared.expr.Condition.{Condition}
use Rattle.lutree.specs.declared.expr.Prefix.{Prefix}
use Rattle.lutree.specs.declared.expr.Infix.{Infix}
use Rattle.lutree.specs.declared.program.Kind.{Kind}
use Rattle.lutree.specs.declared.program.Kind.TheVariants.{Bool as Truths, Enum}
use Rattle.lutree.specs.Tree.{Tree, Trees, DeclarationTree, EquationTree, NodeTree, ProgramTree}
use Rattle.lutree.specs.Tree as tree
use Rattle.lustat_rules.specs.Scope.{Clock, clock_of, kind_of, node_called, IsInput, IsOutput}
use Rattle.lustat_rules.specs.Naming.{Call, calls_in}
use Rattle.lustat_rules.specs.Parts.{Part, EachPart}
use Rattle.lustat_rules.specs.Parts as part

-- FITTING

abbrev pub base : Clock
base = None

-- the clock of a variable with a pattern
abbrev pub on : List ℕ → Pattern → Clock
on c pattern = Some (record { variable = c; pattern = pattern })

-- the variable has the clock
abbrev pub HasClock : NodeTree → List ℕ → Clock → Type 0
HasClock n x k = clock_of n x ≡ Some k

-- An expression fits a clock by these cases, and by no other. A clock variable has the one clock of its
-- declaration, so two clocks are the same chain of variables and patterns where their first variables and
-- patterns are the same.
mutual
  pub data FitsClock (n : NodeTree) : Tree → Clock → Type 0 where
    number : (a : ℕ) (k : Clock) → FitsClock n (tree.number a) k
    truth : (b : Bool) (k : Clock) → FitsClock n (tree.truth b) k
    label : (l : Label) (k : Clock) → FitsClock n (tree.label l) k
    variable : (x : List ℕ) (k : Clock) → HasClock n x k → FitsClock n (tree.variable x) k
    unary : (op : Prefix) (a : Tree) (k : Clock) → FitsClock n a k → FitsClock n (tree.unary op a) k
    binary : (op : Infix) (a b : Tree) (k : Clock) → FitsClock n a k → FitsClock n b k
        → FitsClock n (tree.binary op a b) k
    choice : (c a b : Tree) (k : Clock) → FitsClock n c k → FitsClock n a k → FitsClock n b k
        → FitsClock n (tree.choice c a b) k
    when : (a : Tree) (c : Condition) (j : Clock) → HasClock n c.variable j → FitsClock n a j
        → FitsClock n (tree.when a c) (Some c)
    current : (x : List ℕ) (c : Condition) (k : Clock) → HasClock n x (Some c) → HasClock n c.variable k
        → FitsClock n (tree.current x) k
    merge : (c : List ℕ) (ps : List Pattern) (all : Trees) (k : Clock) → HasClock n c k
        → BranchesFit n c ps all → FitsClock n (tree.merge c ps all) k
    call : (f : List ℕ) (all : Trees) (k : Clock) → AllFit n all k → FitsClock n (tree.call f all) k

  -- each argument fits the clock
  pub data AllFit (n : NodeTree) : Trees → Clock → Type 0 where
    none : (k : Clock) → AllFit n tree.none k
    more : (a : Tree) (all : Trees) (k : Clock) → FitsClock n a k → AllFit n all k
        → AllFit n (tree.more a all) k

  -- each branch of a merge fits the clock of its pattern, and there are as many branches as patterns
  pub data BranchesFit (n : NodeTree) : List ℕ → List Pattern → Trees → Type 0 where
    no_branch : (c : List ℕ) → BranchesFit n c [] tree.none
    branch : (c : List ℕ) (p : Pattern) (ps : List Pattern) (a : Tree) (all : Trees) → FitsClock n a (on c p)
        → BranchesFit n c ps all → BranchesFit n c (p ∷ ps) (tree.more a all)

-- what fitting asks of an expression, form by form
abbrev mutual
  pub FitsClockInside : NodeTree → Tree → Clock → Type 0
  FitsClockInside n (tree.number a) k = Unit {0}
  FitsClockInside n (tree.truth b) k = Unit {0}
  FitsClockInside n (tree.label l) k = Unit {0}
  FitsClockInside n (tree.variable x) k = HasClock n x k
  FitsClockInside n (tree.unary op a) k = FitsClockInside n a k
  FitsClockInside n (tree.binary op a b) k = FitsClockInside n a k × FitsClockInside n b k
  FitsClockInside n (tree.choice c a b) k = FitsClockInside n c k × FitsClockInside n a k
      × FitsClockInside n b k
  FitsClockInside n (tree.when a c) k =
      (k ≡ Some c) × ((j : Clock) × HasClock n c.variable j × FitsClockInside n a j)
  FitsClockInside n (tree.current x) k = (c : Condition) × HasClock n x (Some c) × HasClock n c.variable k
  FitsClockInside n (tree.merge c ps all) k = HasClock n c k × BranchesFitInside n c ps all
  FitsClockInside n (tree.call f all) k = AllFitInside n all k

  pub AllFitInside : NodeTree → Trees → Clock → Type 0
  AllFitInside n tree.none k = Unit {0}
  AllFitInside n (tree.more a all) k = FitsClockInside n a k × AllFitInside n all k

  pub BranchesFitInside : NodeTree → List ℕ → List Pattern → Trees → Type 0
  BranchesFitInside n c [] tree.none = Unit {0}
  BranchesFitInside n c [] (tree.more a all) = ⊥
  BranchesFitInside n c (p ∷ ps) tree.none = ⊥
  BranchesFitInside n c (p ∷ ps) (tree.more a all) =
      FitsClockInside n a (on c p) × BranchesFitInside n c ps all

-- the two say the same
abbrev pub FitsClockLaw : Type 0
FitsClockLaw = (n : NodeTree) (e : Tree) (k : Clock) → FitsClock n e k ↔ FitsClockInside n e k

-- E20: the variables on the left have one clock, and the right side fits it
abbrev pub ClocksAgree : NodeTree → EquationTree → Type 0
ClocksAgree n q = (k : Clock) × All (λ x. HasClock n x k) q.left × FitsClock n q.right k

-- E21: a clock's variable has the type that its pattern asks for, and its chain of clocks ends

-- from variable to clock the base clock is reached
pub data Ends (n : NodeTree) : Clock → Type 0 where
  at_base : Ends n base
  after : (c : Condition) (k : Clock) → HasClock n c.variable k → Ends n k → Ends n (Some c)

-- the type of what a pattern may be
abbrev pub pattern_kind : Pattern → Kind
pattern_kind (patterns.Truth b) = Truths
pattern_kind (patterns.Label l) = l.kind

-- a clock's variable has the type of its pattern
abbrev pub IsTypedClock : NodeTree → Condition → Type 0
IsTypedClock n c = kind_of n c.variable ≡ Some (pattern_kind c.pattern)

-- a merge may be on a bool or on a variable of an enumeration
abbrev pub CanMerge : Option Kind → Type 0
CanMerge (Some Truths) = Unit {0}
CanMerge (Some (Enum place size)) = Unit {0}
CanMerge kind = ⊥

-- the clocks that a part of an expression names are clocks: that of `when`, and those of the branches of a
-- merge
abbrev pub NamesClocks : NodeTree → Part → Type 0
NamesClocks n (part.label l) = Unit {0}
NamesClocks n (part.clock c) = IsTypedClock n c
NamesClocks n (part.merge c ps count) =
    CanMerge (kind_of n c) × All (λ p. IsTypedClock n (record { variable = c; pattern = p })) ps

-- the names that stand after `when` or `merge` in an expression
abbrev mutual
  pub clocks_in : Tree → List (List ℕ)
  clocks_in (tree.number n) = []
  clocks_in (tree.truth b) = []
  clocks_in (tree.label l) = []
  clocks_in (tree.variable x) = []
  clocks_in (tree.unary op a) = clocks_in a
  clocks_in (tree.binary op a b) = clocks_in a ++ clocks_in b
  clocks_in (tree.choice c a b) = clocks_in c ++ (clocks_in a ++ clocks_in b)
  clocks_in (tree.when a c) = clocks_in a ++ c.variable ∷ []
  clocks_in (tree.current x) = []
  clocks_in (tree.merge c ps all) = c ∷ clocks_in_all all
  clocks_in (tree.call f all) = clocks_in_all all

  pub clocks_in_all : Trees → List (List ℕ)
  clocks_in_all tree.none = []
  clocks_in_all (tree.more a all) = clocks_in a ++ clocks_in_all all

-- a declared clock is one
pub record IsClock (n : NodeTree) (d : DeclarationTree) : Type 0 where
  pub typed : IfSome d.clock (IsTypedClock n)
  pub ends : Ends n d.clock

-- what an equation names as clocks are clocks
abbrev pub ClocksAreTyped : NodeTree → EquationTree → Type 0
ClocksAreTyped n q = EachPart (NamesClocks n) q.right

-- E22: inputs, and outputs of a node that isn't the main one, are on the base clock; and a main node with a
-- clocked output isn't called

abbrev pub IsUnclocked : List ℕ → NodeTree → DeclarationTree → Type 0
IsUnclocked main n d =
    (IsInput n d.name → d.clock ≡ base) × (IsOutput n d.name → (¬ (n.name ≡ main)) → d.clock ≡ base)

abbrev pub HasUnclockedOutputs : NodeTree → Type 0
HasUnclockedOutputs n = All (λ (d : DeclarationTree). d.clock ≡ base) n.outputs

-- a node that is called has its outputs on its base clock
abbrev pub CallsAreUnclocked : ProgramTree → List ℕ → EquationTree → Type 0
CallsAreUnclocked p main q =
    All (λ (c : Call). c.node ≡ main → IfSome (node_called p c.node) HasUnclockedOutputs) (calls_in q.right)

-- E23: an output of the main node is on no clock that a local names
abbrev pub IsVisible : List ℕ → NodeTree → DeclarationTree → Type 0
IsVisible main n d = n.name ≡ main → IsOutput n d.name
    → IfSome d.clock (λ c. IsInput n c.variable ⊎ IsOutput n c.variable)
