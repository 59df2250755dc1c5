-- The variables of a node, the nodes of a program and its types, in memory.
use Rattle.std.specs.Prelude.{◌≡◌, ◌<◌, ℕ, List, map, take, length, slice_index}
use Rattle.lutree.specs.declared.program.DeclaredName.{DeclaredName}
use Rattle.lutree.specs.declared.program.TypeDeclaration.{TypeDeclaration}
use Rattle.lutree.specs.declared.program.Declaration.{Declaration}
use Rattle.lutree.specs.declared.program.Node.{Node}
use Rattle.lutree.specs.Tree.{TypeTree}
use Rattle.lustat_rules.specs.Scope.{Clock, labels_of}

abbrev pub spellings : List Declaration → List (List ℕ)
spellings = map (λ (d : Declaration). d.name)

abbrev pub clock_list : List Declaration → List Clock
clock_list = map (λ (d : Declaration). d.clock)

abbrev pub node_spellings : List Node → List (List ℕ)
node_spellings = map (λ (n : Node). n.name)

abbrev pub type_spellings : List TypeDeclaration → List (List ℕ)
type_spellings = map (λ (t : TypeDeclaration). t.name)

abbrev pub label_spellings : List DeclaredName → List (List ℕ)
label_spellings = map (λ (x : DeclaredName). x.name)

-- of the first types, where the names of each begin in the row of the names of all
pub record AreStarts (n : ℕ) (types : List TypeTree) (starts : List ℕ) : Type 0 where
  pub count : length starts ≡ n
  pub at : (i : ℕ) → i < n → slice_index starts i ≡ length (labels_of (take i types))
