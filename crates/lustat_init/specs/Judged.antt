-- Where a node has no classes, by equation.
use Rattle.std.specs.Prelude.{ℕ, List, [], ◌∷◌, ◌++◌, map, Some, None, IsTrue, All, Contains}
use Rattle.std.specs.Borrow.{Bor}
use Rattle.lutree.specs.Tree.{DeclarationTree, EquationTree, NodeTree}
use Rattle.lustat_rules.specs.Scope.{Clock, declarations_of, IsInput, IsOutput}
use Rattle.lustat_rules.specs.Clocks.{clocks_in}
use Rattle.lustat_rules.specs.Classes.{Classes, is_one, NeedsMet, Meets, HasClasses, IsLeast}
use Rattle.lustat_init.specs.Assigned.{IsCaused}

-- names that are lent
abbrev pub spelled : List (Bor (List ℕ)) → List (List ℕ)
spelled = map (λ x. x.now)

-- the name in a declared clock
abbrev pub clock_names_of : Clock → List (List ℕ)
clock_names_of None = []
clock_names_of (Some c) = c.variable ∷ []

-- the names in declared clocks
abbrev pub clock_names : List DeclarationTree → List (List ℕ)
clock_names [] = []
clock_names (d ∷ ds) = clock_names_of d.clock ++ clock_names ds

-- what `when` and `merge` name in equations
abbrev pub sampler_names : List EquationTree → List (List ℕ)
sampler_names [] = []
sampler_names (q ∷ qs) = clocks_in q.right ++ sampler_names qs

-- the variables of a node that clocks name: the clocks of declarations, and `when` and `merge`
abbrev pub clock_variables : NodeTree → List (List ℕ)
clock_variables n = clock_names (declarations_of n) ++ sampler_names n.equations

-- a variable is no input and no output, and no clock names it
pub record IsFree (n : NodeTree) (x : List ℕ) : Type 0 where
  pub input : ¬ IsInput n x
  pub output : ¬ IsOutput n x
  pub clock : ¬ Contains (clock_variables n) x

-- An equation keeps the rules of classes: what its right side needs is there, and where it is of class 1 it
-- defines no input, no output and no variable that a clock names.
pub record KeepsClasses (a : Classes) (n : NodeTree) (q : EquationTree) : Type 0 where
  pub needs : NeedsMet a q.right
  pub held : IsTrue (is_one a q.right) → All (IsFree n) q.left

-- with the least classes, a node has classes exactly where all its equations keep the rules
pub record LeastReports (n : NodeTree) (a : Classes) : Type 0 where
  pub kept : All (KeepsClasses a n) n.equations → Meets a n
  pub broken : (q : EquationTree) → Contains n.equations q → (¬ KeepsClasses a n q) → ¬ HasClasses n

abbrev pub LeastReportsLaw : Type 0
LeastReportsLaw = (n : NodeTree) (a : Classes) → IsLeast a n → IsCaused a n → LeastReports n a
