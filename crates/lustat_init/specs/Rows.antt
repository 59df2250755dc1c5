-- The classes of all nodes of a program.
use Rattle.std.specs.Prelude.{◌≡◌, ◌<◌, ℕ, Bool, List, [], Option, Some, None, All, length, map, slice_get}
use Rattle.std.specs.Prelude.{unwrap_or, Vec}
use Rattle.std.specs.Global.{Global}
use Rattle.lutree.specs.declared.program.Node.{Node}
use Rattle.lutree.specs.Tree.{NodeTree, ProgramTree, node_view}
use Rattle.lustat_rules.specs.Accepted.{IsNamed}
use Rattle.lustat_rules.specs.Classes.{IsLeast, Meets}
use Rattle.lustat_rules.specs.declared.error.StatError.{StatError}
use Rattle.lustat_init.specs.Assigned.{assigned, LeftsKnown, IsCaused}
use Rattle.lustat_init.specs.declared.search.Initialised.{Initialised}
use Rattle.lustat_init.specs.declared.search.Initialised.TheVariants.{Kept, Broken}

-- the marks of each node, in order of text
abbrev pub Rows : Type 0
Rows = List (List Bool)

-- rows in memory
abbrev pub plain : List (Vec Bool Global) → Rows
plain = map (λ row. row.items)

-- the marks of the node at a place; none behind the last
abbrev pub row_at : Rows → ℕ → List Bool
row_at rows i = unwrap_or (slice_get rows i) []

-- marks give the least classes of a node
pub record GiveLeast (n : NodeTree) (marks : List Bool) : Type 0 where
  pub least : IsLeast (assigned n marks) n
  pub caused : IsCaused (assigned n marks) n

-- for each node below a place there are marks that give its least classes
pub record GiveLeastBelow (k : ℕ) (nodes : List Node) (rows : Rows) : Type 0 where
  pub long : length rows ≡ k
  pub each : (i : ℕ) (n : Node) → i < k → slice_get nodes i ≡ Some n → GiveLeast (node_view n) (row_at rows i)

-- there is a row for each node, and with its classes the node meets all rules of classes
pub record AreClasses (p : ProgramTree) (rows : Rows) : Type 0 where
  pub long : length rows ≡ length p.nodes
  pub meets : (i : ℕ) (n : NodeTree) → slice_get p.nodes i ≡ Some n → Meets (assigned n (row_at rows i)) n

-- a fact of the classes, if all is kept
abbrev pub IfKept : Initialised → (Rows → Type 0) → Type 0
IfKept (Kept rows) P = P (plain rows.items)
IfKept (Broken e) P = Unit {0}

-- a fact of the fault, if there is one
abbrev pub IfBroken : Initialised → (StatError → Type 0) → Type 0
IfBroken (Kept rows) P = Unit {0}
IfBroken (Broken e) P = P e

-- the fault that is reported
abbrev pub fault_of : Initialised → Option StatError
fault_of (Kept rows) = None
fault_of (Broken e) = Some e

-- in a program that keeps the rules of names, all that the equations define is declared
abbrev pub LeftsLaw : Type 0
LeftsLaw = (p : ProgramTree) (main : List ℕ) → IsNamed p main → All LeftsKnown p.nodes
