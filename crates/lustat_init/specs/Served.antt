-- What the tests of the equations of a node share.
use Rattle.std.specs.Prelude.{◌≡◌, ℕ, Bool, List, Some, length, slice_get}
use Rattle.lutree.specs.declared.program.Node.{Node}
use Rattle.lutree.specs.Tree.{node_view}
use Rattle.lustat_rules.specs.Classes.{IsLeast}
use Rattle.lustat_init.specs.Assigned.{assigned}
use Rattle.lustat_init.specs.Judged.{clock_variables}
use Rattle.lustat_init.specs.Rows.{Rows, row_at}

-- the names are those that clocks name in the node, the table of first values is the node's, and the marks
-- give its least classes
pub record Serves (n : Node) (named : List (List ℕ)) (firsts : Node) (marks : List Bool) : Type 0 where
  pub named_by_clocks : named ≡ clock_variables (node_view n)
  pub own : firsts ≡ n
  pub least : IsLeast (assigned (node_view n) marks) (node_view n)

-- there is a row of marks for each node, which gives its least classes
pub record AreLeast (nodes : List Node) (rows : Rows) : Type 0 where
  pub long : length rows ≡ length nodes
  pub each : (i : ℕ) (n : Node) → slice_get nodes i ≡ Some n
      → IsLeast (assigned (node_view n) (row_at rows i)) (node_view n)
