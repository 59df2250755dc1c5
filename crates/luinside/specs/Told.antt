-- What is told of a fault.
use Rattle.std.specs.Prelude.{◌≡◌, ◌⊎◌, ℕ, List, [], Option, Some, None, option_map, slice_get, unwrap_or}
use Rattle.std.specs.Prelude.{string_bytes}
use Rattle.lutree.specs.declared.program.Equation.{Equation}
use Rattle.lutree.specs.declared.program.Node.{Node}
use Rattle.lutree.specs.declared.program.Program.{Program}
use Rattle.lutree.specs.Places.{NodePlaces, ProgramPlaces}
use Rattle.lutree.specs.Tree.{Tree, EquationTree, NodeTree, ProgramTree}
use Rattle.luflow.specs.declared.form.FaultKind.{FaultKind}
use Rattle.luflow.specs.Program.{FlatView, InputsView}
use Rattle.luflow.specs.Variables.{variable_name}
use Rattle.lusource.specs.Source.{SourceStreams, IsSourceSolution}
use Rattle.lueval.specs.Whole.{HasNoFault}
use Rattle.lueval.specs.declared.faults.FoundFault.{FoundFault}
use Rattle.luinside.specs.declared.first.FirstFault.{FirstFault}
use Rattle.lueval.specs.Faults.{TellsFirstFault}
use Rattle.luinside.specs.First.{IsOperatorOf}
use Rattle.luinside.specs.declared.told.Telling.{Telling}
use Rattle.luinside.specs.declared.told.Telling.TheVariants.{Whole, Other, Unclear}
use Rattle.luinside.specs.declared.told.ToldFault.{ToldFault}
use Rattle.luinside.specs.Signs.{expression_at, StandsAt}
use Rattle.luinside.specs.Words.{told_lines}

-- the main variable in whose equation a flow stands
abbrev pub owner_name : FlatView → ℕ → List ℕ
owner_name flat place = unwrap_or (option_map (variable_name flat) (slice_get flat.owners place)) []

-- a fault is told by the main variable in whose equation it stands, its instant and its kind
pub record IsLineOf (flat : FlatView) (x : FoundFault) (variable : List ℕ) (t : ℕ) (kind : FaultKind) : Type 0 where
  pub named : owner_name flat x.place ≡ variable
  pub at_instant : x.instant ≡ t
  pub by_kind : x.kind ≡ kind

-- the fault that is told so is the first of the program at the table
abbrev pub IsFirstTold : FlatView → InputsView → FoundFault → List ℕ → ℕ → FaultKind → Type 0
IsFirstTold flat inputs x variable t kind = TellsFirstFault flat inputs (Some x) × IsLineOf flat x variable t kind

-- it isn't: another fault is the first, or there is none
abbrev pub IsNotFirst : FlatView → InputsView → List ℕ → ℕ → FaultKind → Type 0
IsNotFirst flat inputs variable t kind =
    ((x : FoundFault) × TellsFirstFault flat inputs (Some x) × ¬ IsLineOf flat x variable t kind)
    ⊎ HasNoFault flat inputs

-- the equation at these places of a program, with its byte in the text
pub record IsEquationAt (p : Program) (node equation : ℕ) (x : Equation) : Type 0 where
  pub inside : Node
  pub is_inside : slice_get p.nodes node ≡ Some inside
  pub is_equation : slice_get inside.equations equation ≡ Some x

-- It is told of the operator of a fault: its sign stands at the byte in the text, and the lines say where it
-- stands and what it reads.
pub record IsToldAs (text : List ℕ) (p : ProgramTree) (places : ProgramPlaces) (main : List ℕ)
    (flat : FlatView) (inputs : InputsView) (x : FirstFault) (byte : ℕ) (lines : List ℕ) : Type 0 where
  pub node : NodeTree
  pub is_node : slice_get p.nodes x.site.node ≡ Some node
  pub equation : EquationTree
  pub is_equation : slice_get node.equations x.site.equation ≡ Some equation
  pub operator : Tree
  pub is_operator : expression_at equation.right x.site.part ≡ Some operator
  pub node_places : NodePlaces
  pub are_places : slice_get places.nodes x.site.node ≡ Some node_places
  pub begin : ℕ
  pub begins : slice_get node_places.equations x.site.equation ≡ Some begin
  pub stands : StandsAt text begin equation x.site.part operator byte
  pub lines_are : lines ≡ told_lines p main flat inputs x.site.path equation operator x.found

-- in each solution of the source the operator is at fault, with the operands that are told
abbrev pub IsAlwaysOperator : ProgramTree → List ℕ → InputsView → FirstFault → Type 0
IsAlwaysOperator p main inputs x =
    (σ : SourceStreams) → IsSourceSolution p main inputs σ → IsOperatorOf p main σ x

-- what is told of the fault that is reported so: the whole, where it is the first
abbrev pub Tells : List ℕ → ProgramTree → ProgramPlaces → List ℕ → FlatView → InputsView → List ℕ → ℕ
    → FaultKind → Telling → Type 0
Tells text p places main flat inputs variable t kind (Whole told) =
    (x : FirstFault) × IsFirstTold flat inputs x.found variable t kind × IsAlwaysOperator p main inputs x
    × IsToldAs text p places main flat inputs x told.byte (string_bytes told.lines)
Tells text p places main flat inputs variable t kind Other = IsNotFirst flat inputs variable t kind
Tells text p places main flat inputs variable t kind Unclear = Unit {0}
