-- Which node the instance at a path of calls is of: this is said of the program's text alone, without
-- streams.
use Rattle.std.specs.Prelude.{◌≡◌, ℕ, List, [], ◌∷◌, ◌++◌, map, Option, Some, None, option_and_then}
use Rattle.std.specs.Prelude.{slice_get}
use Rattle.lutree.specs.Tree.{NodeTree, ProgramTree}
use Rattle.luflow.specs.Program.{InputsView}
use Rattle.luflow.specs.Streams.{Stream, Ticks}
use Rattle.lustat_rules.specs.Scope.{node_called}
use Rattle.lustat_rules.specs.Naming.{called_by}
use Rattle.lusource.specs.Source.{Named, CallInstance, Path, SourceStreams, InstanceHolds, IsSourceSolution}
use Rattle.lusource.specs.Source.{sites_of}

-- the names of the nodes that a node calls, in order of the calls' numbers
abbrev pub called_in : Option NodeTree → List (List ℕ)
called_in None = []
called_in (Some node) = called_by node

-- the node of the instance at a path, from an instance of the node called f on
abbrev pub instance_at : ProgramTree → List ℕ → Path → Option NodeTree
instance_at program f [] = node_called program f
instance_at program f (i ∷ path) =
    option_and_then (λ g. instance_at program g path) (slice_get (called_in (node_called program f)) i)

-- whatever the streams of an instance are, its calls are of these nodes
abbrev pub CalledLaw : Type 0
CalledLaw =
    (program : ProgramTree) (node : Option NodeTree) (base : Ticks) (var : Named) (inner : ℕ → Named)
    → map (λ (site : CallInstance). site.node) (sites_of program node base var inner) ≡ called_in node

-- In each solution, what stands at a path is an instance of that node, on some base clock and with some
-- streams for its inputs.
abbrev pub InstanceLaw : Type 0
InstanceLaw =
    (program : ProgramTree) (main : List ℕ) (inputs : InputsView) (σ : SourceStreams) (path : Path)
    (node : NodeTree)
    → IsSourceSolution program main inputs σ → instance_at program main path ≡ Some node
    → (base : Ticks) × (given : List Stream) × InstanceHolds program node base given (σ path)
    (λ i. σ (path ++ i ∷ []))
