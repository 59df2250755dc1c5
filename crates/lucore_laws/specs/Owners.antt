-- The main variable in whose equation an occurrence stands.
use Rattle.std.specs.Prelude.{◌≡◌, ℕ, List, [], ◌∷◌, Option, Some, None, slice_get}
use Rattle.lutree.specs.Tree.{EquationTree, NodeTree, ProgramTree}
use Rattle.luflow.specs.Program.{FlatView}
use Rattle.luflow.specs.Rank.{reads_of, Chain}
use Rattle.lusource.specs.Names.{variables_of, place_of, name_at}
use Rattle.lustat_rules.specs.Scope.{node_called}
use Rattle.lustat_rules.specs.Accepted.{IsAccepted}
use Rattle.lucore_laws.specs.Layout.{owner_of, IsLaidOut}
use Rattle.lucore_laws.specs.ListLaws.{DefineSomething}
use Rattle.lucore_laws.specs.Reads.{Position, Path, Occurrence, Leads}
use Rattle.lucore_laws.specs.Reads.Occurrence.{variable, operator}

-- the equation of the main node in which a position of an instance stands: that of the first call on the way
-- there
abbrev pub outermost : Position → Path → ℕ
outermost t [] = t.equation
outermost t (c ∷ path) = outermost c path

-- the number of an equation's first variable
abbrev pub first_left : NodeTree → Option EquationTree → ℕ
first_left node None = 0
first_left node (Some q) = place_of (variables_of node) (name_at q.left 0)

-- The number of the main variable that owns an occurrence: the first on the left side of the equation that
-- defines it, or in which it stands; an input owns itself.
abbrev pub owner : NodeTree → Occurrence → ℕ
owner node (variable [] x) = owner_of node node.equations x
owner node (variable (t ∷ path) x) = first_left node (slice_get node.equations (outermost t path))
owner node (operator path t) = first_left node (slice_get node.equations (outermost t path))

-- where a flow of the flat list lies on a cycle, its owner owns an occurrence that lies on one
abbrev pub OwnerLaw : Type 0
OwnerLaw =
    (p : ProgramTree) (main : List ℕ) (flat : FlatView) (node : NodeTree) → IsAccepted p main
    → DefineSomething p → IsLaidOut p main flat → node_called p main ≡ Some node
    → (x v : ℕ) → Chain (reads_of flat) x x → slice_get flat.owners x ≡ Some v
    → (o : Occurrence) × Leads p main o o × (owner node o ≡ v)
