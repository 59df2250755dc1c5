-- The names of the variables of instances, by the text of the program: a variable of the main node has its
-- own, and `x` of another instance the name `STEP.STEP. .. .x`, with a step for each call of the path.
use Rattle.std.specs.Prelude.{ℕ, suc, ◌++◌, List, [], ◌∷◌, flat_map, Option, Some, None, codes}
use Rattle.std.specs.Fmt.{decimal}
use Rattle.lutree.specs.Tree.{EquationTree, NodeTree, ProgramTree}
use Rattle.luflow.specs.declared.variable.Role.{Role}
use Rattle.luflow.specs.declared.variable.Role.TheVariants.{Local}
use Rattle.lustat_rules.specs.Scope.{node_called}
use Rattle.lustat_rules.specs.Naming.{calls_in}
use Rattle.lusource.specs.Names.{name_at}
use Rattle.lusource.specs.Source.{Path}
use Rattle.lusource.specs.Instances.{called_in}
use Rattle.luinside.specs.Calls.{names_called}

-- The step of a call is `V.F#N`: the first variable on the left side of its equation, the called node, and
-- the number of the call among those of the equation.
abbrev pub steps_from : List ℕ → ℕ → List (List ℕ) → List (List ℕ)
steps_from v n [] = []
steps_from v n (f ∷ fs) = (v ++ (codes "." ++ (f ++ (codes "#" ++ decimal n)))) ∷ steps_from v (suc n) fs

-- the steps of the calls of an equation, counted from 1
abbrev pub equation_steps : EquationTree → List (List ℕ)
equation_steps q = steps_from (name_at q.left 0) 1 (names_called (calls_in q.right))

-- those of a node, in order of the calls' numbers
abbrev pub steps_of : NodeTree → List (List ℕ)
steps_of node = flat_map equation_steps node.equations

abbrev pub steps_in : Option NodeTree → List (List ℕ)
steps_in None = []
steps_in (Some node) = steps_of node

-- the steps of a path, each with a point behind it, from an instance of the node called f on
abbrev pub prefix : ProgramTree → List ℕ → Path → List ℕ
prefix p f [] = []
prefix p f (k ∷ path) =
    name_at (steps_in (node_called p f)) k
    ++ (codes "." ++ prefix p (name_at (called_in (node_called p f)) k) path)

-- the name of variable x of the instance at a path
abbrev pub path_name : ProgramTree → List ℕ → Path → List ℕ → List ℕ
path_name p main path x = prefix p main path ++ x

-- how it stands in the main node: there as it is declared, and in another instance as a local
abbrev pub role_at : Path → Role → Role
role_at [] role = role
role_at (k ∷ path) role = Local
