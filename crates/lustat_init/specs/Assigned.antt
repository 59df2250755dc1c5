-- Classes by place of declaration.
use Rattle.std.specs.Prelude.{ℕ, Bool, false, List, Option, Some, None, slice_index_or, IsTrue, All, Contains}
use Rattle.lutree.specs.Tree.{EquationTree, NodeTree}
use Rattle.lustat_rules.specs.Scope.{declarations_of, names_of, IsVariable}
use Rattle.lustat_rules.specs.Classes.{Classes, is_one}
use Rattle.lubase.specs.Places.{first_place}

-- the place of a variable's declaration
abbrev pub place_of : NodeTree → List ℕ → Option ℕ
place_of n x = first_place (names_of (declarations_of n)) x

abbrev pub class_at : List Bool → Option ℕ → Bool
class_at marks None = false
class_at marks (Some i) = slice_index_or marks i false

-- the class of a variable is the mark at its place; what isn't declared is of class 0
abbrev pub assigned : NodeTree → List Bool → Classes
assigned n marks x = class_at marks (place_of n x)

-- what equations define is declared
abbrev pub LeftsKnown : NodeTree → Type 0
LeftsKnown n = All (λ (q : EquationTree). All (IsVariable n) q.left) n.equations

-- a variable of class 1 has an equation whose right side is of class 1
abbrev pub IsCaused : Classes → NodeTree → Type 0
IsCaused a n = (x : List ℕ) → IsTrue (a x) → (q : EquationTree) × Contains n.equations q × Contains q.left x
    × IsTrue (is_one a q.right)
