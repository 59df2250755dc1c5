-- What a variable has at an instant doesn't change with what the inputs have later.
use Rattle.std.specs.Prelude.{◌≡◌, ℕ, ◌<◌, List, Some, Contains}
use Rattle.lutree.specs.Tree.{NodeTree, ProgramTree}
use Rattle.luflow.specs.Program.{FlatView, InputsView, IsOrdered}
use Rattle.luflow.specs.Prefixes.{AgreeTo}
use Rattle.lusource.specs.Agreement.{InstancesHaveFlows}
use Rattle.lusource.specs.Instances.{instance_at}
use Rattle.lusource.specs.Names.{variables_of}
use Rattle.lusource.specs.Source.{Path, SourceStreams, IsSourceSolution}

-- At two tables that agree on the first n instants, every variable of every instance has the same there in each
-- solution at the one and each at the other, wherever the variables of the program's instances have flows of a
-- flat program whose reads come first.
abbrev pub CausalLaw : Type 0
CausalLaw =
    (program : ProgramTree) (main : List ℕ) (flat : FlatView) (one other : InputsView) (n : ℕ)
    → IsOrdered flat → InstancesHaveFlows program main flat → AgreeTo n one other
    → (σ σ' : SourceStreams) → IsSourceSolution program main one σ → IsSourceSolution program main other σ'
    → (path : Path) (node : NodeTree) (x : List ℕ) (t : ℕ)
    → instance_at program main path ≡ Some node → Contains (variables_of node) x → t < n
    → σ path x t ≡ σ' path x t
