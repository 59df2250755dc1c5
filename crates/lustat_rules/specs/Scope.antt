-- What a name means in a node, and which node a call means.
use Rattle.std.specs.Prelude.{◌≡◌, ℕ, if◌then◌else◌, List, [], ◌∷◌, ◌++◌, map, flat_map, take, Option, Some}
use Rattle.std.specs.Prelude.{None, IsSome, option_map, slice_get, Contains}
use Rattle.std.specs.Str.{bytes_eq}
use Rattle.lutree.specs.declared.expr.Condition.{Condition}
use Rattle.lutree.specs.declared.program.Kind.{Kind}
use Rattle.lutree.specs.Tree.{TypeTree, DeclarationTree, EquationTree, NodeTree, ProgramTree}

-- the variables of a node: inputs, outputs and locals, each in order of declaration
abbrev pub declarations_of : NodeTree → List DeclarationTree
declarations_of n = n.inputs ++ (n.outputs ++ n.locals)

abbrev pub names_of : List DeclarationTree → List (List ℕ)
names_of = map (λ d. d.name)

-- the first declaration of a name in a list
abbrev pub first_declared : List DeclarationTree → List ℕ → Option DeclarationTree
first_declared [] x = None
first_declared (d ∷ ds) x = if bytes_eq d.name x then Some d else first_declared ds x

-- what a name means in a node: the first declaration of it
abbrev pub meaning : NodeTree → List ℕ → Option DeclarationTree
meaning n x = first_declared (declarations_of n) x

abbrev pub IsVariable : NodeTree → List ℕ → Type 0
IsVariable n x = IsSome (meaning n x)

abbrev pub IsInput : NodeTree → List ℕ → Type 0
IsInput n x = Contains (names_of n.inputs) x

abbrev pub IsOutput : NodeTree → List ℕ → Type 0
IsOutput n x = Contains (names_of n.outputs) x

-- the type of a variable
abbrev pub kind_of : NodeTree → List ℕ → Option Kind
kind_of n x = option_map (λ (d : DeclarationTree). d.kind) (meaning n x)

-- a clock: a variable with a pattern, or none, which is the base clock
abbrev pub Clock : Type 0
Clock = Option Condition

-- the clock of a variable; none where the name is no variable, and some base clock where it is one without a
-- clock
abbrev pub clock_of : NodeTree → List ℕ → Option Clock
clock_of n x = option_map (λ (d : DeclarationTree). d.clock) (meaning n x)

-- the first node of a name in a list
abbrev pub first_named : List NodeTree → List ℕ → Option NodeTree
first_named [] f = None
first_named (n ∷ ns) f = if bytes_eq n.name f then Some n else first_named ns f

-- the node that a call means: the first of the name
abbrev pub node_called : ProgramTree → List ℕ → Option NodeTree
node_called p f = first_named p.nodes f

abbrev pub IsNode : ProgramTree → List ℕ → Type 0
IsNode p f = IsSome (node_called p f)

-- the names of some enumerations, type by type
abbrev pub labels_of : List TypeTree → List (List ℕ)
labels_of = flat_map (λ t. t.names)

-- the variables that some equations define, in order
abbrev pub lefts_of : List EquationTree → List (List ℕ)
lefts_of = flat_map (λ q. q.left)

-- a name at a place of a list stands at none before it
abbrev pub IsNew : List (List ℕ) → ℕ → List ℕ → Type 0
IsNew names i x = ¬ Contains (take i names) x

-- no name stands twice
abbrev pub AreDistinct : List (List ℕ) → Type 0
AreDistinct names = (i : ℕ) (x : List ℕ) → slice_get names i ≡ Some x → IsNew names i x
