-- The columns of the variables of instances.
use Rattle.std.specs.Prelude.{◌≡◌, ℕ, List, map, length, Some, slice_get}
use Rattle.lutree.specs.Tree.{ProgramTree}
use Rattle.luflow.specs.Program.{FlatView, InputsView}
use Rattle.luflow.specs.Tables.{OutputColumn}
use Rattle.luflow.specs.Streams.{Known, Streams}
use Rattle.luflow.specs.Messages.{marks}
use Rattle.luflow.specs.Solution.{IsSolution}
use Rattle.luflow.specs.Flats.{IsFlat}
use Rattle.lusource.specs.Source.{SourceStreams, IsSourceSolution}
use Rattle.luinside.specs.declared.listing.Instance.{Instance}
use Rattle.luinside.specs.Listed.{AreInstances}
use Rattle.luinside.specs.declared.variables.DeepVariable.{DeepVariable}
use Rattle.luinside.specs.Names.{path_name}
use Rattle.luinside.specs.Variables.{InstanceVariable, all_variables, AreDeepVariables}

-- a column for each variable, in order: its name, and the statuses that its flow has in the solution, one
-- for each instant of the table
pub record AreFlowColumns (flat : FlatView) (inputs : InputsView) (variables : List DeepVariable)
    (columns : List OutputColumn) : Type 0 where
  pub names : map (λ (c : OutputColumn). c.name) columns
      ≡ map (λ (d : DeepVariable). d.variable.name) variables
  pub streams : (σ : Streams) → IsSolution flat inputs σ → (k : ℕ) (d : DeepVariable) (c : OutputColumn)
      → slice_get variables k ≡ Some d → slice_get columns k ≡ Some c
      → map Known c.statuses ≡ marks (σ d.flow) inputs.instants

-- the column of a variable of an instance: the name of its path, and what it has in each solution of the
-- source
pub record IsDeepColumn (p : ProgramTree) (main : List ℕ) (inputs : InputsView) (x : InstanceVariable)
    (c : OutputColumn) : Type 0 where
  pub name : c.name ≡ path_name p main x.path x.variable.name
  pub stream : (σ : SourceStreams) → IsSourceSolution p main inputs σ
      → map Known c.statuses ≡ marks (σ x.path x.variable.name) inputs.instants

-- a column for each variable of each instance, instance by instance
pub record AreDeepColumns (p : ProgramTree) (main : List ℕ) (flat : FlatView) (inputs : InputsView)
    (columns : List OutputColumn) : Type 0 where
  pub instances : List Instance
  pub are_instances : AreInstances p main flat instances
  pub count : length columns ≡ length (all_variables p instances)
  pub each : (k : ℕ) (x : InstanceVariable) (c : OutputColumn)
      → slice_get (all_variables p instances) k ≡ Some x → slice_get columns k ≡ Some c
      → IsDeepColumn p main inputs x c

-- so it is with the columns of all variables
abbrev pub DeepColumnsLaw : Type 0
DeepColumnsLaw =
    (p : ProgramTree) (main : List ℕ) (flat : FlatView) (inputs : InputsView) (list : List DeepVariable)
    (columns : List OutputColumn)
    → IsFlat flat → AreDeepVariables p main flat list → AreFlowColumns flat inputs list columns
    → AreDeepColumns p main flat inputs columns
