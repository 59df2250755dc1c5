-- The variables of all instances.
use Rattle.std.specs.Prelude.{◌≡◌, ℕ, suc, ◌<◌, ◌≤◌, List, [], ◌∷◌, map, flat_map, length, take, Option, Some}
use Rattle.std.specs.Prelude.{None, slice_get, All}
use Rattle.lutree.specs.Tree.{NodeTree, ProgramTree}
use Rattle.luflow.specs.declared.variable.Variable.{Variable}
use Rattle.luflow.specs.Program.{FlatView, flows_of}
use Rattle.lusource.specs.Source.{Path}
use Rattle.lusource.specs.Agreement.{IsFlowOf}
use Rattle.lucore_laws.specs.Layout.{main_variables}
use Rattle.lucore.specs.Result.{IsFlatOf}
use Rattle.luinside.specs.declared.listing.Instance.{Instance}
use Rattle.luinside.specs.Listed.{AreInstances}
use Rattle.luinside.specs.declared.variables.DeepVariable.{DeepVariable}
use Rattle.luinside.specs.Names.{path_name, role_at}

-- a variable of the instance at a path, as its node declares it, and the place of its flow
pub record InstanceVariable : Type 0 where
  pub path : Path
  pub variable : Variable
  pub flow : ℕ

-- some variables of the instance at a path, of which the first has its flow at place i
abbrev pub variables_from : Path → ℕ → List Variable → List InstanceVariable
variables_from path i [] = []
variables_from path i (x ∷ xs) =
    record { path = path; variable = x; flow = i } ∷ variables_from path (suc i) xs

-- the variables of a node: inputs, outputs and locals, each in order of declaration
abbrev pub variables_in : Option NodeTree → List Variable
variables_in None = []
variables_in (Some node) = main_variables node

-- the variables of an instance
abbrev pub instance_variables : ProgramTree → Instance → List InstanceVariable
instance_variables p x = variables_from x.path x.start (variables_in (slice_get p.nodes x.node))

-- those of some instances, instance by instance
abbrev pub all_variables : ProgramTree → List Instance → List InstanceVariable
all_variables p = flat_map (instance_variables p)

-- it by the name of its path, of the type that is declared
abbrev pub deep_variable : ProgramTree → List ℕ → InstanceVariable → DeepVariable
deep_variable p main x =
    record {
      variable =
          record {
            name = path_name p main x.path x.variable.name;
            role = role_at x.path x.variable.role;
            kind = x.variable.kind;
          };
      flow = x.flow;
    }

abbrev pub names_and_types : List DeepVariable → List Variable
names_and_types = map (λ (d : DeepVariable). d.variable)

-- All variables of all instances, instance by instance, each by the name of its path, with its flow. The
-- first ones are the main variables of the flat program.
pub record AreDeepVariables (p : ProgramTree) (main : List ℕ) (flat : FlatView)
    (list : List DeepVariable) : Type 0 where
  pub instances : List Instance
  pub are_instances : AreInstances p main flat instances
  pub are : list ≡ map (deep_variable p main) (all_variables p instances)
  pub flows : All (λ x. IsFlowOf p main flat x.path x.variable.name x.flow) (all_variables p instances)
  pub inside : All (λ d. d.flow < flows_of flat) list
  pub main_first : take (length flat.variables) (names_and_types list) ≡ flat.variables
  pub enough : length flat.variables ≤ length list

-- so it is with every flat program of the source
abbrev pub ListsDeepVariables : ProgramTree → List ℕ → List DeepVariable → Type 0
ListsDeepVariables p main list = (flat : FlatView) → IsFlatOf p main flat → AreDeepVariables p main flat list
