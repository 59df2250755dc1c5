-- What a place of a node's list is of.
use Rattle.std.specs.Prelude.{◌≡◌, ℕ, ◌<◌, ◌≤◌, ◌⊎◌, List, length, Option, Some, None, slice_get}
use Rattle.lutree.specs.Tree.{NodeTree, ProgramTree, view}
use Rattle.lusource.specs.Names.{variables_of}
use Rattle.lucore_laws.specs.Sizes.{node_size}
use Rattle.luinside.specs.declared.passing.Own.{Own}
use Rattle.luinside.specs.declared.target.Standing.{Standing}
use Rattle.luinside.specs.declared.target.Standing.TheVariants.{Nothing, Root, Inner}
use Rattle.luinside.specs.Owns.{NoneDefines, InnerAt, RootAt}

-- this variable of the node stands at the target, and is no input
pub record VariableAt (node : NodeTree) (target : ℕ) (name : List ℕ) : Type 0 where
  pub named : slice_get (variables_of node) target ≡ Some name
  pub no_input : length node.inputs ≤ target

-- given the sizes of all nodes
module _ (p : ProgramTree) (sizes : List ℕ) (node : NodeTree) where
  -- the target is an inner flow, or stands behind the list
  abbrev pub FindsInner : ℕ → List ℕ → Option Own → Type 0
  FindsInner target numbers None = node_size p sizes node ≤ target
  FindsInner target numbers (Some x) =
      InnerAt p sizes node target numbers (view x.expression.now) x.here.place x.here.calls

  -- the equation that defines a variable, if one does
  abbrev pub FindsRoot : List ℕ → List ℕ → Option Own → Type 0
  FindsRoot name numbers None = NoneDefines name node.equations
  FindsRoot name numbers (Some x) = RootAt p sizes node name numbers (view x.expression.now) x.here.place

  -- the target is an input, a variable that no equation defines, or behind the list
  abbrev pub IsNothing : ℕ → Type 0
  IsNothing target =
      (target < length node.inputs)
      ⊎ (((name : List ℕ) × VariableAt node target name × NoneDefines name node.equations)
      ⊎ (node_size p sizes node ≤ target))

  abbrev pub Stands : ℕ → List ℕ → Standing → Type 0
  Stands target numbers Nothing = IsNothing target
  Stands target numbers (Root x) =
      (name : List ℕ) × VariableAt node target name × FindsRoot name numbers (Some x)
  Stands target numbers (Inner x) = FindsInner target numbers (Some x)
