-- How class 1 spreads: from variables to the equations that read them, and from equations to the variables
-- that they define.
-- A variable is known by the place of its declaration, an equation by its place behind all declarations.
use Rattle.std.specs.Prelude.{◌≡◌, ◌<◌, ◌↔◌, ◌+◌, ℕ, List, [], ◌∷◌, ◌++◌, Option, Some, None, slice_get}
use Rattle.std.specs.Prelude.{IsTrue, Contains}
use Rattle.lutree.specs.declared.expr.Prefix.TheVariants.{Data as Data1, Pre}
use Rattle.lutree.specs.declared.expr.Infix.TheVariants.{Data as Data2, Arrow, FollowedBy}
use Rattle.lutree.specs.Tree.{Tree, EquationTree, NodeTree}
use Rattle.lutree.specs.Tree as tree
use Rattle.lustat_rules.specs.Classes.{is_one}
use Rattle.lubase.specs.declared.link.Link.{Link}
use Rattle.lubase.specs.Reach.{link}
use Rattle.lustat_init.specs.Assigned.{place_of}
use Rattle.lustat_init.specs.Sources.{zero_classes}

abbrev pub read_link : Option ℕ → ℕ → List Link
read_link None w = []
read_link (Some v) w = link v w ∷ []

abbrev pub write_link : ℕ → Option ℕ → List Link
write_link w None = []
write_link w (Some v) = link w v ∷ []

-- links to an equation from what its right side takes its class from
abbrev pub reads_in : NodeTree → ℕ → Tree → List Link
reads_in n w (tree.number a) = []
reads_in n w (tree.truth b) = []
reads_in n w (tree.label l) = []
reads_in n w (tree.variable x) = read_link (place_of n x) w
reads_in n w (tree.unary (Data1 op) e) = reads_in n w e
reads_in n w (tree.unary Pre e) = []
reads_in n w (tree.binary (Data2 op) d e) = reads_in n w d ++ reads_in n w e
reads_in n w (tree.binary Arrow d e) = reads_in n w d
reads_in n w (tree.binary FollowedBy d e) = reads_in n w d
reads_in n w (tree.choice c d e) = reads_in n w c ++ (reads_in n w d ++ reads_in n w e)
reads_in n w (tree.when e c) = reads_in n w e
reads_in n w (tree.current x) = []
reads_in n w (tree.merge c ps all) = []
reads_in n w (tree.call f all) = []

-- links from an equation to what it defines
abbrev pub writes_in : NodeTree → ℕ → List (List ℕ) → List Link
writes_in n w [] = []
writes_in n w (x ∷ xs) = write_link w (place_of n x) ++ writes_in n w xs

-- the links of equations, of which the first is known by a number
abbrev pub links_in : NodeTree → ℕ → List EquationTree → List Link
links_in n w [] = []
links_in n w (q ∷ qs) = (reads_in n w q.right ++ writes_in n w q.left) ++ links_in n (w + 1) qs

-- the equations, of those before a place, that are of class 1 by themselves; the first of all is known by a
-- number
abbrev pub AreStarts : List EquationTree → ℕ → ℕ → List ℕ → Type 0
AreStarts qs first k starts =
    (w : ℕ) → Contains starts w ↔ ((i : ℕ) × (q : EquationTree) × (w ≡ first + i) × (i < k)
    × (slice_get qs i ≡ Some q) × IsTrue (is_one zero_classes q.right))
