-- The operands of a call or a merge, one after another.
use Rattle.std.proofs.Common.{◌≡◌, List, [], ◌∷◌, map, refl, ap}
use Rattle.lutree.specs.Tree.{Tree, Trees, TypeTree, trees_of}
use Rattle.lutree.specs.Tree as t
use Rattle.lusyn_parser.specs.Resolved.{resolved_tree, resolved_trees}

pub trees-resolved : (types : List TypeTree) (xs : List Tree) → trees_of (map (resolved_tree types) xs) ≡ resolved_trees types (trees_of xs)
trees-resolved types [] = refl
trees-resolved types (a ∷ others) = ap (λ (rest : Trees). t.more (resolved_tree types a) rest) (trees-resolved types others)
