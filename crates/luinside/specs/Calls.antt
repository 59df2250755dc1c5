-- Where the calls of a node stand in its text.
use Rattle.std.specs.Prelude.{◌≡◌, ℕ, ◌+◌, List, length, map, flat_map, take, Some, slice_get}
use Rattle.lutree.specs.Tree.{EquationTree, NodeTree}
use Rattle.lustat_rules.specs.Naming.{Call, calls_in}
use Rattle.luinside.specs.declared.texts.TextCall.{TextCall}
use Rattle.luinside.specs.declared.texts.Reached.{Reached}
use Rattle.luinside.specs.declared.texts.Reached.TheVariants.{Left, At}

abbrev pub names_called : List Call → List (List ℕ)
names_called = map (λ (c : Call). c.node)

-- the calls of some equations, in order of their numbers
abbrev pub calls_of : List EquationTree → List Call
calls_of = flat_map (λ (q : EquationTree). calls_in q.right)

-- some calls passed: all of them, or up to the one that is looked for
abbrev pub Passes : List Call → Reached → Reached → Type 0
Passes calls (Left k) (Left m) = k ≡ length calls + m
Passes calls (Left k) (At name) = slice_get (names_called calls) k ≡ Some name.now
Passes calls (At name) (Left m) = ⊥
Passes calls (At name) (At other) = name.now ≡ other.now

-- The call of a number in a node: as many calls stand before it, in the equations before and in its own.
pub record IsCallAt (node : NodeTree) (number : ℕ) (call : TextCall) : Type 0 where
  pub equation : EquationTree
  pub is_equation : slice_get node.equations call.equation ≡ Some equation
  pub called : slice_get (names_called (calls_in equation.right)) call.number ≡ Some call.name.now
  pub before : number ≡ length (calls_of (take call.equation node.equations)) + call.number
