-- Names, and what a program says of them.
use Rattle.std.specs.Prelude.{◌≡◌, ℕ, zero, suc, if◌then◌else◌, List, [], ◌∷◌, Option, Some, None, slice_get}
use Rattle.std.specs.Str.{bytes_eq}
use Rattle.lutree.specs.declared.expr.Condition.{Condition}
use Rattle.lutree.specs.Tree.{DeclarationTree, NodeTree, ProgramTree}
use Rattle.lustat_rules.specs.Scope.{declarations_of, names_of, node_called}

-- the names of a node's variables
abbrev pub variables_of : NodeTree → List (List ℕ)
variables_of node = names_of (declarations_of node)

-- the place of a name's first occurrence in a list, or the list's length
abbrev pub place_of : List (List ℕ) → List ℕ → ℕ
place_of [] x = 0
place_of (y ∷ ys) x = if bytes_eq y x then 0 else suc (place_of ys x)

-- the name at a place, or the empty name
abbrev pub name_at : List (List ℕ) → ℕ → List ℕ
name_at [] j = []
name_at (x ∷ xs) zero = x
name_at (x ∷ xs) (suc j) = name_at xs j

-- no name occurs twice
abbrev pub AreDistinct : List (List ℕ) → Type 0
AreDistinct names = (i j : ℕ) (x : List ℕ) → slice_get names i ≡ Some x → slice_get names j ≡ Some x → i ≡ j

abbrev pub clock_in : List DeclarationTree → List ℕ → Option Condition
clock_in [] x = None
clock_in (d ∷ ds) x = if bytes_eq d.name x then d.clock else clock_in ds x

-- the declared clock of a variable; none is the base clock
abbrev pub clock_of : NodeTree → List ℕ → Option Condition
clock_of node x = clock_in (declarations_of node) x

abbrev pub outputs_in : Option NodeTree → List (List ℕ)
outputs_in None = []
outputs_in (Some node) = names_of node.outputs

-- the name of output j of the node called f
abbrev pub output_name : ProgramTree → List ℕ → ℕ → List ℕ
output_name program f j = name_at (outputs_in (node_called program f)) j
