-- The rules of initialisation: what of class 0 is never nil; what is of class 1 is nil at most at the first
-- instant of its clock.
use Rattle.std.specs.Prelude.{◌≡◌, ℕ, Bool, true, false, ◌||◌, List, [], ◌∷◌, ◌++◌, Some, IsTrue, IsFalse}
use Rattle.std.specs.Prelude.{IfSome, All, Contains}
use Rattle.lutree.specs.declared.expr.Pattern.{Pattern}
use Rattle.lutree.specs.declared.expr.Condition.{Condition}
use Rattle.lutree.specs.declared.expr.Prefix.TheVariants.{Data as Data1, Pre}
use Rattle.lutree.specs.declared.expr.Infix.TheVariants.{Data as Data2, Arrow, FollowedBy}
use Rattle.lutree.specs.Tree.{Tree, Trees, DeclarationTree, EquationTree, NodeTree, ProgramTree}
use Rattle.lutree.specs.Tree as tree
use Rattle.lustat_rules.specs.Scope.{declarations_of, clock_of, IsInput, IsOutput}
use Rattle.lustat_rules.specs.Clocks.{clocks_in}

-- CLASSES

-- an assignment of classes to the variables of a node: true is class 1
abbrev pub Classes : Type 0
Classes = List ℕ → Bool

-- whether an expression is of class 1
abbrev pub is_one : Classes → Tree → Bool
is_one a (tree.number n) = false
is_one a (tree.truth b) = false
is_one a (tree.label l) = false
is_one a (tree.variable x) = a x
is_one a (tree.unary (Data1 op) e) = is_one a e
is_one a (tree.unary Pre e) = true
is_one a (tree.binary (Data2 op) d e) = is_one a d || is_one a e
is_one a (tree.binary Arrow d e) = is_one a d
is_one a (tree.binary FollowedBy d e) = is_one a d
is_one a (tree.choice c d e) = is_one a c || (is_one a d || is_one a e)
is_one a (tree.when e c) = is_one a e
is_one a (tree.current x) = false
is_one a (tree.merge c ps all) = false
is_one a (tree.call f all) = false

abbrev pub IsZero : Classes → Tree → Type 0
IsZero a e = IsFalse (is_one a e)

-- what an expression needs in class 0 is there: what stands after `pre`, on the right of `fby` and in a
-- branch of `merge`, the variable after `current`, and the arguments of calls
abbrev mutual
  pub NeedsMet : Classes → Tree → Type 0
  NeedsMet a (tree.number n) = Unit {0}
  NeedsMet a (tree.truth b) = Unit {0}
  NeedsMet a (tree.label l) = Unit {0}
  NeedsMet a (tree.variable x) = Unit {0}
  NeedsMet a (tree.unary (Data1 op) e) = NeedsMet a e
  NeedsMet a (tree.unary Pre e) = IsZero a e × NeedsMet a e
  NeedsMet a (tree.binary (Data2 op) d e) = NeedsMet a d × NeedsMet a e
  NeedsMet a (tree.binary Arrow d e) = NeedsMet a d × NeedsMet a e
  NeedsMet a (tree.binary FollowedBy d e) = NeedsMet a d × IsZero a e × NeedsMet a e
  NeedsMet a (tree.choice c d e) = NeedsMet a c × NeedsMet a d × NeedsMet a e
  NeedsMet a (tree.when e c) = NeedsMet a e
  NeedsMet a (tree.current x) = IsFalse (a x)
  NeedsMet a (tree.merge c ps all) = AllReady a all
  NeedsMet a (tree.call f all) = AllReady a all

  pub AllReady : Classes → Trees → Type 0
  AllReady a tree.none = Unit {0}
  AllReady a (tree.more e all) = IsZero a e × NeedsMet a e × AllReady a all

-- a variable has a class not below that of its right side
abbrev pub IsRaised : Classes → EquationTree → Type 0
IsRaised a q = IsTrue (is_one a q.right) → All (λ x. IsTrue (a x)) q.left

-- inputs and outputs are of class 0, and so is what a declared clock names
pub record IsHeld (a : Classes) (n : NodeTree) (d : DeclarationTree) : Type 0 where
  pub input : IsInput n d.name → IsFalse (a d.name)
  pub output : IsOutput n d.name → IsFalse (a d.name)
  pub clock : IfSome d.clock (λ c. IsFalse (a c.variable))

-- what `when` and `merge` name in an equation is of class 0
abbrev pub SamplersAreZero : Classes → EquationTree → Type 0
SamplersAreZero a q = All (λ x. IsFalse (a x)) (clocks_in q.right)

-- an assignment meets all rules of classes
pub record Meets (a : Classes) (n : NodeTree) : Type 0 where
  pub raised : All (IsRaised a) n.equations
  pub needs : All (λ (q : EquationTree). NeedsMet a q.right) n.equations
  pub held : All (IsHeld a n) (declarations_of n)
  pub sampled : All (SamplersAreZero a) n.equations

-- E30: some assignment meets all rules
abbrev pub HasClasses : NodeTree → Type 0
HasClasses n = (a : Classes) × Meets a n

-- WHERE A REFUSAL POINTS

-- the least assignment that meets the rules but the needs
pub record IsLeast (a : Classes) (n : NodeTree) : Type 0 where
  pub raised : All (IsRaised a) n.equations
  pub least : (b : Classes) → All (IsRaised b) n.equations → (x : List ℕ) → IsTrue (a x) → IsTrue (b x)

-- some assignment meets all rules exactly where the least one does
abbrev pub LeastDecides : Type 0
LeastDecides = (n : NodeTree) (a : Classes) → IsLeast a n → HasClasses n → Meets a n

-- CURRENT

-- the variables after `current` in an expression
abbrev mutual
  pub currents_in : Tree → List (List ℕ)
  currents_in (tree.number n) = []
  currents_in (tree.truth b) = []
  currents_in (tree.label l) = []
  currents_in (tree.variable x) = []
  currents_in (tree.unary op a) = currents_in a
  currents_in (tree.binary op a b) = currents_in a ++ currents_in b
  currents_in (tree.choice c a b) = currents_in c ++ (currents_in a ++ currents_in b)
  currents_in (tree.when a c) = currents_in a
  currents_in (tree.current x) = x ∷ []
  currents_in (tree.merge c ps all) = currents_in_all all
  currents_in (tree.call f all) = currents_in_all all

  pub currents_in_all : Trees → List (List ℕ)
  currents_in_all tree.none = []
  currents_in_all (tree.more a all) = currents_in a ++ currents_in_all all

-- what begins with the constant of a pattern: `true -> e` or `true fby e`; likewise for `false` and for a
-- name of an enumeration
pub data StartsWith (pattern : Pattern) : Tree → Type 0 where
  arrow : (e : Tree) → StartsWith pattern (tree.binary Arrow (tree.constant_of pattern) e)
  followed : (e : Tree) → StartsWith pattern (tree.binary FollowedBy (tree.constant_of pattern) e)

-- a clock is true at the first instant of its own clock, by the form of its variable's equation
abbrev pub IsTrueAtFirst : NodeTree → Condition → Type 0
IsTrueAtFirst n c = (q : EquationTree) × Contains n.equations q × (q.left ≡ c.variable ∷ [])
    × StartsWith c.pattern q.right

-- the clock of a variable is true at first, if it has one
abbrev pub ClockIsTrueAtFirst : NodeTree → List ℕ → Type 0
ClockIsTrueAtFirst n x = (c : Condition) → clock_of n x ≡ Some (Some c) → IsTrueAtFirst n c

-- E31: `current` is of variables whose clock is true at first
abbrev pub CurrentsStart : NodeTree → EquationTree → Type 0
CurrentsStart n q = All (ClockIsTrueAtFirst n) (currents_in q.right)
