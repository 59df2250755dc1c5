-- Which variables an evaluation shows.
use Rattle.std.specs.Prelude.{◌≡◌, ◌<◌, ◌≤◌, ℕ, ◌+◌, Bool, true, false, ◌||◌, List, [], ◌∷◌, ◌++◌, map, length}
use Rattle.std.specs.Prelude.{All, Some, slice_get, if◌then◌else◌}
use Rattle.lutree.specs.declared.program.Kind.{Kind}
use Rattle.lutree.specs.Tree.{ProgramTree}
use Rattle.luflow.specs.declared.variable.Variable.{Variable}
use Rattle.luflow.specs.Program.{FlatView, InputsView, flows_of}
use Rattle.luflow.specs.Solution.{IsSolution}
use Rattle.luflow.specs.Streams.{Streams}
use Rattle.luflow.specs.Variables.{is_output}
use Rattle.lusource.specs.Agreement.{Agrees}
use Rattle.lusource.specs.Source.{SourceStreams, IsSourceSolution}
use Rattle.luinside.specs.declared.listing.Instance.{Instance}
use Rattle.luinside.specs.Listed.{AreInstances}
use Rattle.luinside.specs.declared.variables.DeepVariable.{DeepVariable}
use Rattle.luinside.specs.Names.{path_name}
use Rattle.luinside.specs.Variables.{InstanceVariable, all_variables, deep_variable}
use Rattle.lusdist_shell.specs.declared.request.EvalRequest.{EvalRequest}
use Rattle.lusdist_shell.specs.Files.{FileFacts}
use Rattle.lusdist_call.specs.Asked.{HasFlat}

-- all main variables, or the outputs among them, of which the first has its flow at place i
abbrev pub main_from : Bool → ℕ → List Variable → List InstanceVariable
main_from all i [] = []
main_from all i (x ∷ xs) =
    (if all || is_output x.role then record { path = []; variable = x; flow = i } ∷ [] else [])
    ++ main_from all (i + 1) xs

-- the same by their names in the main node
abbrev pub listed_from : Bool → ℕ → List Variable → List DeepVariable
listed_from all i [] = []
listed_from all i (x ∷ xs) =
    (if all || is_output x.role then record { variable = x; flow = i } ∷ [] else [])
    ++ listed_from all (i + 1) xs

-- With `--deep` the variables of all instances, instance by instance; else those of the main node: all of them
-- with `--all`, or the outputs alone.
abbrev pub AreShownIf : Bool → Bool → ProgramTree → List ℕ → FlatView → List InstanceVariable → Type 0
AreShownIf true all tree main flat shown =
    (instances : List Instance) × AreInstances tree main flat instances
    × (shown ≡ all_variables tree instances)
AreShownIf false all tree main flat shown = shown ≡ main_from all 0 flat.variables

abbrev pub AreShown : EvalRequest → ProgramTree → FlatView → List InstanceVariable → Type 0
AreShown request tree flat shown =
    AreShownIf request.deep request.all tree request.main.now flat shown

-- the names by which they are shown: of a main variable its own, of another the path of calls to it
abbrev pub names_of : ProgramTree → List ℕ → List InstanceVariable → List (List ℕ)
names_of tree main = map (λ (x : InstanceVariable). path_name tree main x.path x.variable.name)

abbrev pub kinds_of : List InstanceVariable → List Kind
kinds_of = map (λ (x : InstanceVariable). x.variable.kind)

abbrev pub listed_names : List DeepVariable → List (List ℕ)
listed_names = map (λ (d : DeepVariable). d.variable.name)

abbrev pub listed_kinds : List DeepVariable → List Kind
listed_kinds = map (λ (d : DeepVariable). d.variable.kind)

-- OF A FLAT PROGRAM

-- a list of such variables, which can be read of a flat program
abbrev pub IsListFor : Bool → Bool → FlatView → List DeepVariable → Type 0
IsListFor true all flat list =
    (length flat.variables ≤ length list) × All (λ d. d.flow < flows_of flat) list
IsListFor false all flat list = list ≡ listed_from all 0 flat.variables

-- The list of the variables that an evaluation shows: where a flat program agrees with the source, the flow of
-- each has what every solution of the source gives it.
pub record IsListOf (request : EvalRequest) (tree : ProgramTree) (flat : FlatView)
    (list : List DeepVariable) : Type 0 where
  pub shown : List InstanceVariable
  pub are_shown : AreShown request tree flat shown
  pub listed : list ≡ map (deep_variable tree request.main.now) shown
  pub meant : (inputs : InputsView) → Agrees tree request.main.now inputs flat → (σ : SourceStreams)
      → IsSourceSolution tree request.main.now inputs σ
      → (τ : Streams) × IsSolution flat inputs τ × ((k t : ℕ) (x : InstanceVariable)
      → slice_get shown k ≡ Some x → τ x.flow t ≡ σ x.path x.variable.name t)

-- the flat program that a text has, and the list of the variables that an evaluation of it shows
pub record HasShown (text : List ℕ) (request : EvalRequest) (flat : FlatView)
    (list : List DeepVariable) : Type 0 where
  pub has : HasFlat text request.main.now flat
  pub list_of : IsListOf request has.tree flat list

-- the same of the text that the file of a request gave
pub record IsShownAt (gives : FileFacts) (request : EvalRequest) (flat : FlatView)
    (list : List DeepVariable) : Type 0 where
  pub program : List ℕ
  pub given : gives request.program.now (Some program)
  pub has : HasShown program request flat list
