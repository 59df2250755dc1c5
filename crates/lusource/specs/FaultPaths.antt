-- In which instances the operators that are at fault stand.
use Rattle.std.specs.Prelude.{◌≡◌, ℕ, ◌+◌, ◌<◌, ◌≤◌, ◌⊎◌, List, [], ◌∷◌, ◌++◌, Some}
use Rattle.lutree.specs.Tree.{EquationTree, NodeTree, ProgramTree}
use Rattle.luflow.specs.declared.form.FaultKind.{FaultKind}
use Rattle.luflow.specs.Program.{InputsView}
use Rattle.luflow.specs.Streams.{Stream, Ticks}
use Rattle.lustat_rules.specs.Scope.{node_called}
use Rattle.lusource.specs.Names.{name_at}
use Rattle.lusource.specs.Source.{Path, SourceStreams, InstanceHolds, IsSourceSolution, calls}
use Rattle.lusource.specs.Instances.{instance_at}
use Rattle.lusource.specs.Faults.{EquationFails, There, IsSourceFault}

-- call number n stands in the one of these equations that has v as its first variable; i calls stand before
-- the first of them
abbrev pub CallStands : List EquationTree → ℕ → List ℕ → ℕ → Type 0
CallStands [] i v n = ⊥
CallStands (q ∷ qs) i v n =
    ((name_at q.left 0 ≡ v) × (i ≤ n) × (n < i + calls q.right)) ⊎ CallStands qs (i + calls q.right) v n

-- the equation of the main node with v as its first variable has the operator in it, which stands in the
-- equation of w of its node, or the first call on the path to the operator
abbrev pub StandsIn : ProgramTree → List ℕ → List ℕ → List ℕ → Path → Type 0
StandsIn program main v w [] = v ≡ w
StandsIn program main v w (n ∷ path) =
    There (node_called program main) (λ node. CallStands node.equations 0 v n)

-- no call
abbrev pub NoCall : List ℕ → Ticks → ℕ → Type 0
NoCall f k i = ⊥

-- In a solution, what is at fault is an operator of an instance that stands at a path of calls, on the
-- instance's base clock.
abbrev pub FaultPathsLaw : Type 0
FaultPathsLaw =
    (program : ProgramTree) (main : List ℕ) (inputs : InputsView) (σ : SourceStreams) (v : List ℕ) (t : ℕ)
    (kind : FaultKind)
    → IsSourceSolution program main inputs σ → IsSourceFault program main inputs σ v t kind
    → (path : Path) × (node : NodeTree) × (base : Ticks) × (given : List Stream) × (w : List ℕ)
    × (instance_at program main path ≡ Some node)
    × InstanceHolds program node base given (σ path) (λ i. σ (path ++ i ∷ []))
    × EquationFails program node base (σ path) (λ i. σ (path ++ i ∷ [])) t kind NoCall node.equations 0 w
    × StandsIn program main v w path
