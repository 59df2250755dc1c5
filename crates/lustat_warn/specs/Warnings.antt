-- The warnings of a program.
use Rattle.std.specs.Prelude.{◌≡◌, ◌≢◌, ◌<◌, ◌⊎◌, ℕ, List, [], ◌∷◌, ◌++◌, flat_map, Some, None, IsTrue}
use Rattle.std.specs.Prelude.{All, AllPairs, Contains, slice_get}
use Rattle.lutree.specs.declared.program.Declaration.{Declaration}
use Rattle.lutree.specs.declared.program.Equation.{Equation}
use Rattle.lutree.specs.declared.program.Node.{Node}
use Rattle.lutree.specs.declared.program.Program.{Program}
use Rattle.lutree.specs.Tree.{NodeTree, ProgramTree, view, node_view, program_view}
use Rattle.lustat_rules.specs.Scope.{Clock, declarations_of}
use Rattle.lustat_rules.specs.Naming.{names_in, called_by}
use Rattle.lustat_warn.specs.declared.warning.WarningKind.{WarningKind}
use Rattle.lustat_warn.specs.declared.warning.WarningKind.TheVariants.{UnusedNode, UnusedInput, UnusedLocal}
use Rattle.lustat_warn.specs.declared.warning.WarningKind.TheVariants.{DividingBranch}
use Rattle.lustat_warn.specs.declared.warning.Warning.{Warning}
use Rattle.lustat_warn.specs.Dividing.{has_dividing_branch}

-- WHAT IS READ, AND WHAT IS CALLED

-- the variable that a clock names; the base clock names none
abbrev pub clock_variables : Clock → List (List ℕ)
clock_variables None = []
clock_variables (Some c) = c.variable ∷ []

-- the names that a node reads: those on the right sides of its equations, and those in the clocks of its
-- declarations
abbrev pub names_read : NodeTree → List (List ℕ)
names_read n = flat_map (λ q. names_in q.right) n.equations
    ++ flat_map (λ d. clock_variables d.clock) (declarations_of n)

-- the names that the equations of all nodes call
abbrev pub names_called : ProgramTree → List (List ℕ)
names_called p = flat_map called_by p.nodes

-- WARNINGS

-- the warning of some place of a list
abbrev pub Among : {A : Type 0} → List A → (ℕ → A → Warning → Type 0) → Warning → Type 0
Among {A} xs Is w = (j : ℕ) × (x : A) × (slice_get xs j ≡ Some x) × Is j x w

-- the warning of the node at a place, which isn't the main node and is none of those that are called
pub record UnusedNodeAt (called : List (List ℕ)) (main : List ℕ) (i : ℕ) (n : Node) (w : Warning)
    : Type 0 where
  pub is : w ≡ record { kind = UnusedNode; node = i; number = 0; byte = n.byte }
  pub other : n.name ≢ main
  pub uncalled : ¬ Contains called n.name

-- the warning of the input or local variable at a place of the node at a place, which is none of those that
-- are read
pub record UnreadIn (read : List (List ℕ)) (kind : WarningKind) (i j : ℕ) (d : Declaration) (w : Warning)
    : Type 0 where
  pub is : w ≡ record { kind = kind; node = i; number = j; byte = d.byte }
  pub unread : ¬ Contains read d.name

-- the warning of the equation at a place of the node at a place, whose right side has an `if` with a division
-- in a branch
pub record DividingIn (i j : ℕ) (q : Equation) (w : Warning) : Type 0 where
  pub is : w ≡ record { kind = DividingBranch; node = i; number = j; byte = q.byte }
  pub divides : IsTrue (has_dividing_branch (view q.right))

-- a warning of the node at a place: of itself, of an input, of a local variable or of an equation
abbrev pub InNode : List (List ℕ) → List ℕ → ℕ → Node → Warning → Type 0
InNode called main i n w =
    UnusedNodeAt called main i n w
    ⊎ (Among n.inputs (UnreadIn (names_read (node_view n)) UnusedInput i) w
    ⊎ (Among n.locals (UnreadIn (names_read (node_view n)) UnusedLocal i) w
    ⊎ Among n.equations (DividingIn i) w))

-- a warning of a program with a main node of this name
abbrev pub IsWarning : Program → List ℕ → Warning → Type 0
IsWarning p main = Among p.nodes (InNode (names_called (program_view p)) main)

-- ORDER OF TEXT

-- the parts of a node in order of text: its name, its inputs, its local variables, its equations
abbrev pub part : WarningKind → ℕ
part UnusedNode = 0
part UnusedInput = 1
part UnusedLocal = 2
part DividingBranch = 3

-- the first is of a node before that of the second, or of the same node and a part before, or of the same
-- part and a place in it before
abbrev pub IsBefore : Warning → Warning → Type 0
IsBefore v w = (v.node < w.node) ⊎ ((v.node ≡ w.node) × ((part v.kind < part w.kind)
    ⊎ ((part v.kind ≡ part w.kind) × (v.number < w.number))))

-- these are all warnings of a program, each once, in order of text
pub record AreWarnings (p : Program) (main : List ℕ) (warnings : List Warning) : Type 0 where
  pub only : All (IsWarning p main) warnings
  pub all : (w : Warning) → IsWarning p main w → Contains warnings w
  pub in_order : AllPairs IsBefore warnings
