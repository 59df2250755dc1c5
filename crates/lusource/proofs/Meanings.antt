-- What agrees with one solution has one meaning.
use Rattle.std.proofs.Common.{◌≡◌, ℕ, ◌≤◌, List, [], length, Some, sym, ap, ◌∙◌, arith}
use Rattle.std.specs.Prelude.{slice_get, Contains}
use Rattle.std.proofs.lemmas.Option.{slice_get_within}
use Rattle.lutree.specs.Tree.{NodeTree, ProgramTree}
use Rattle.luflow.specs.declared.variable.Variable.{Variable}
use Rattle.luflow.specs.Program.{FlatView, InputsView, IsOrdered, flows_of}
use Rattle.luflow.specs.Streams.{Stream}
use Rattle.luflow.specs.Solution.{solution}
use Rattle.luflow.proofs.Solutions.{IsSolution-solution, solutions_same}
use Rattle.lusource.specs.Names.{variables_of}
use Rattle.lusource.specs.Source.{Path, SourceStreams, IsSourceSolution}
use Rattle.lusource.specs.Instances.{instance_at}
use Rattle.lusource.specs.Agreement.{Agrees, InstancesHaveFlows, HasOneMainMeaning, HasOneMeaning}

module _ (program : ProgramTree) (main : List ℕ) (inputs : InputsView) (flat : FlatView) (ordered : IsOrdered flat) (agrees : Agrees program main inputs flat) where
  -- the solution of the source that the flat program's one gives
  some : (σ : SourceStreams) × IsSourceSolution program main inputs σ
  some =
      let s = agrees.to_source (solution flat inputs) (IsSolution-solution flat inputs ordered) in
      (s.0, s.1)

  module _ (first : length flat.variables ≤ flows_of flat) where
    -- a main variable's stream in a solution of the source is the one of the flat program
    pub as_flat : (σ : SourceStreams) → IsSourceSolution program main inputs σ → (v t : ℕ) (x : Variable) → slice_get flat.variables v ≡ Some x → σ [] x.name t ≡ solution flat inputs v t
    as_flat σ solves v t x at =
        let f = agrees.to_flat σ solves in
        let l = slice_get_within flat.variables v x at in
        sym (ap (λ (s : Stream). s t) (f.2 v x at)) ∙ solutions_same flat inputs f.0 (solution flat inputs) ordered f.1 (IsSolution-solution flat inputs ordered) v t (omega (arith, l, first))

    pub one_main_meaning : HasOneMainMeaning program main inputs flat
    one_main_meaning =
        record { some = some; same = λ σ σ' a b v t x at. as_flat σ a v t x at ∙ sym (as_flat σ' b v t x at) }

  module _ (flows : InstancesHaveFlows program main flat) where
    -- a variable's stream in a solution of the source is that of its flow
    pub as_flow : (σ : SourceStreams) → IsSourceSolution program main inputs σ → (path : Path) (node : NodeTree) (x : List ℕ) (t : ℕ) → (here : instance_at program main path ≡ Some node) → (has : Contains (variables_of node) x) → σ path x t ≡ solution flat inputs (flows path node x here has).0 t
    as_flow σ solves path node x t here has =
        (flows path node x here has).1.same inputs σ (solution flat inputs) solves (IsSolution-solution flat inputs ordered) t

    pub one_meaning : HasOneMeaning program main inputs
    one_meaning =
        record { some = some; same = λ σ σ' a b path node x t here has. as_flow σ a path node x t here has ∙ sym (as_flow σ' b path node x t here has) }
