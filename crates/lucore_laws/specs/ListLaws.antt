-- What holds of the layout.
use Rattle.std.specs.Prelude.{◌≡◌, ℕ, ◌<◌, ◌≤◌, List, length, All, Some, slice_get}
use Rattle.lutree.specs.Tree.{EquationTree, NodeTree, ProgramTree}
use Rattle.luflow.specs.declared.form.Flow.{Flow}
use Rattle.luflow.specs.declared.form.Form.TheVariants.{Input}
use Rattle.luflow.specs.declared.form.Clock.TheVariants.{Base}
use Rattle.luflow.specs.declared.variable.Variable.{Variable}
use Rattle.luflow.specs.declared.variable.Role.TheVariants as role
use Rattle.luflow.specs.Program.{FlatView, InputsView, IsOrdered, flow_at, flows_of, places, clock_reads}
use Rattle.lustat_rules.specs.Scope.{node_called}
use Rattle.lusource.specs.Agreement.{Agrees, InstancesHaveFlows}
use Rattle.lustat_rules.specs.Accepted.{Rule, Keeps, IsAccepted}
use Rattle.lucore_laws.specs.Layout.{AreLists, IsLaidOut}

-- each equation has a variable on its left side, as in every program that is read from a text
abbrev pub DefineSomething : ProgramTree → Type 0
DefineSomething p =
    (i j : ℕ) (node : NodeTree) (q : EquationTree) → slice_get p.nodes i ≡ Some node
    → slice_get node.equations j ≡ Some q → 0 < length q.left

-- the table has a column for each input of the main node
abbrev pub HasColumns : ProgramTree → List ℕ → InputsView → Type 0
HasColumns p main inputs = (node : NodeTree) → node_called p main ≡ Some node
    → length node.inputs ≤ length inputs.columns

-- The flat list of an accepted program has the same solutions as its source, wherever its flows have an order
-- of rank. (Where two variables are copies of each other, the source leaves open whether they are there at
-- all, and the flat program doesn't.)
abbrev pub AgreesLaw : Type 0
AgreesLaw =
    (p : ProgramTree) (main : List ℕ) (inputs : InputsView) (flat : FlatView)
    → IsAccepted p main → DefineSomething p → IsLaidOut p main flat → IsOrdered flat
    → HasColumns p main inputs → Agrees p main inputs flat

-- Each variable of each instance has a flow of that list, at a place that depends neither on the table nor on
-- a solution.
abbrev pub InstancesLaw : Type 0
InstancesLaw =
    (p : ProgramTree) (main : List ℕ) (flat : FlatView) → IsAccepted p main → DefineSomething p
    → IsLaidOut p main flat → IsOrdered flat → InstancesHaveFlows p main flat

-- what two flat lists of a program have in common
pub record SameList (a b : FlatView) : Type 0 where
  pub flows : a.flows ≡ b.flows
  pub owners : a.owners ≡ b.owners
  pub variables : a.variables ≡ b.variables
  pub types : a.types ≡ b.types

-- A program none of whose nodes reaches itself by calls has at most one flat list.
abbrev pub OneListLaw : Type 0
OneListLaw =
    (p : ProgramTree) (main : List ℕ) (a b : FlatView) → Keeps p main Rule.recursive_node → IsLaidOut p main a
    → IsLaidOut p main b → SameList a b

-- Such a program has lists: each node's list is made of the lists of the nodes that it calls.
abbrev pub ListsLaw : Type 0
ListsLaw = (p : ProgramTree) (main : List ℕ) → Keeps p main Rule.recursive_node → (lists : List (List Flow))
    × AreLists p lists

-- So an accepted program has a flat list.
abbrev pub FlatListLaw : Type 0
FlatListLaw = (p : ProgramTree) (main : List ℕ) → IsAccepted p main
    → (flat : FlatView) × IsLaidOut p main flat

-- What a flow names is a flow, each flow has a main variable as its owner, and the main variables are the
-- first flows, on clocks that name main variables. The inputs among them are the flows that read the table,
-- column by column.
pub record IsClosed (flat : FlatView) : Type 0 where
  pub places_in : (i : ℕ) (flow : Flow) → flow_at flat i ≡ Some flow → All (λ r. r < flows_of flat)
      (places flow.form)
  pub clocks_in : (i : ℕ) (flow : Flow) → flow_at flat i ≡ Some flow → All (λ r. r < flows_of flat)
      (clock_reads flow.clock)
  pub owners_len : length flat.owners ≡ flows_of flat
  pub owners_in : All (λ v. v < length flat.variables) flat.owners
  pub main_clocks : (v : ℕ) (flow : Flow) → v < length flat.variables → flow_at flat v ≡ Some flow
      → All (λ c. c < length flat.variables) (clock_reads flow.clock)
  pub variables_first : length flat.variables ≤ flows_of flat
  pub input_there : (i c : ℕ) (flow : Flow) → flow_at flat i ≡ Some flow → flow.form ≡ Input c
      → (c ≡ i) × (flow.clock ≡ Base) × (x : Variable) × (slice_get flat.variables i ≡ Some x)
      × (x.role ≡ role.Input)
  pub input_is : (v : ℕ) (x : Variable) → slice_get flat.variables v ≡ Some x → x.role ≡ role.Input
      → (flow : Flow) × (flow_at flat v ≡ Some flow) × (flow.form ≡ Input v)

-- so it is for every accepted program
abbrev pub ClosedLaw : Type 0
ClosedLaw = (p : ProgramTree) (main : List ℕ) (flat : FlatView) → IsAccepted p main → DefineSomething p
    → IsLaidOut p main flat → IsClosed flat
