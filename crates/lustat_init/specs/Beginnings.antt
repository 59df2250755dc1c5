-- Equations that begin with a constant.
use Rattle.std.specs.Prelude.{◌↔◌, ℕ, Bool, List, [], ◌∷◌, ◌++◌, map, Option, Some, None, IsTrue, Contains}
use Rattle.lutree.specs.declared.expr.Infix.TheVariants.{Arrow, FollowedBy}
use Rattle.lutree.specs.declared.expr.Pattern.{Pattern}
use Rattle.lutree.specs.declared.expr.Pattern.TheVariants as patterns
use Rattle.lutree.specs.Tree.{Tree, EquationTree}
use Rattle.lutree.specs.Tree as tree
use Rattle.lustat_rules.specs.Scope.{Clock}
use Rattle.lustat_rules.specs.ClockRefs.{the_pattern}
use Rattle.lustat_init.specs.declared.begun.Beginning.{Beginning}

-- a variable, and the pattern whose constant its equation begins with
pub record Begun : Type 0 where
  pub name : List ℕ
  pub pattern : Pattern

-- the pattern whose constant an expression is
abbrev pub pattern_of : Tree → Option Pattern
pattern_of (tree.truth b) = Some (patterns.Truth b)
pattern_of (tree.label l) = Some (patterns.Label l)
pattern_of e = None

-- the pattern whose constant an expression begins with, by `->` or `fby`
abbrev pub start_of : Tree → Option Pattern
start_of (tree.binary Arrow a e) = pattern_of a
start_of (tree.binary FollowedBy a e) = pattern_of a
start_of e = None

-- what defines one variable so
abbrev pub begun_by : List (List ℕ) → Option Pattern → List Begun
begun_by (x ∷ []) (Some p) = record { name = x; pattern = p } ∷ []
begun_by left start = []

-- the variable that an equation defines alone, if it begins with a constant
abbrev pub begun_of : EquationTree → List Begun
begun_of q = begun_by q.left (start_of q.right)

-- those of some equations, in order
abbrev pub all_begun : List EquationTree → List Begun
all_begun [] = []
all_begun (q ∷ qs) = begun_of q ++ all_begun qs

-- one as the code has it
abbrev pub begun_view : Beginning → Begun
begun_view b = record { name = b.name.now; pattern = the_pattern b.pattern }

abbrev pub spelled : List Beginning → List (List ℕ)
spelled = map (λ b. b.name.now)

-- the variable of a clock, if it isn't the base clock, begins with the constant of the clock's pattern
abbrev pub IsBegun : List Begun → Clock → Type 0
IsBegun bs None = Unit {0}
IsBegun bs (Some c) = Contains bs (record { name = c.variable; pattern = c.pattern })

-- a mark for each of some clocks, which says what holds of it
abbrev pub AreMarked : (Clock → Type 0) → List Bool → List Clock → Type 0
AreMarked P [] [] = Unit {0}
AreMarked P [] (k ∷ ks) = ⊥
AreMarked P (b ∷ bs) [] = ⊥
AreMarked P (b ∷ bs) (k ∷ ks) = (IsTrue b ↔ P k) × AreMarked P bs ks
