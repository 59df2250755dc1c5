-- The count of a node is no less than its list is long by the counts.
use Rattle.std.proofs.Common.{◌≡◌, ◌≤◌, ℕ, zero, suc, List, [], ◌∷◌, Option, Some, None, map, refl, sym, ap, ◌∙◌, arith, subst}
use Rattle.std.specs.Prelude.{slice_index}
use Rattle.std.proofs.lemmas.Option.{get_or_from_slice_get}
use Rattle.lutree.specs.declared.expr.Infix.TheVariants.{Data, Arrow, FollowedBy}
use Rattle.lutree.specs.Tree.{Tree, Trees, EquationTree, NodeTree, ProgramTree}
use Rattle.lutree.specs.Tree as tree
use Rattle.lustat_rules.specs.Naming.{node_place}
use Rattle.lucore_laws.specs.Sizes.{size_at, made_size, all_size, equations_size, node_size}
use Rattle.lucore_build.specs.Counted.{capped, AreCounted}
use Rattle.luinside.specs.Starts.{AreBounds}

capped_less : (n : ℕ) → capped n ≤ n
capped_less n = omega arith

capped_same : (n : ℕ) → capped n ≤ 4096 → n ≡ capped n
capped_same n le = omega (arith, le)

pub less_at : (sizes : List ℕ) (j : ℕ) → slice_index (map capped sizes) j ≤ slice_index sizes j
less_at [] j = omega arith
less_at (n ∷ sizes) zero = capped_less n
less_at (n ∷ sizes) (suc j) = less_at sizes j

same_at : (sizes : List ℕ) (j : ℕ) → slice_index (map capped sizes) j ≤ 4096 → slice_index sizes j ≡ slice_index (map capped sizes) j
same_at [] j le = refl
same_at (n ∷ sizes) zero le = capped_same n le
same_at (n ∷ sizes) (suc j) le = same_at sizes j le

module _ (p : ProgramTree) (s t : List ℕ) (less : (j : ℕ) → slice_index s j ≤ slice_index t j) where
  less_of : (o : Option ℕ) → size_at s o ≤ size_at t o
  less_of None = omega arith
  less_of (Some j) = less j

  mutual
    made_less : (e : Tree) → made_size p s e ≤ made_size p t e
    made_less (tree.number n) = omega arith
    made_less (tree.truth b) = omega arith
    made_less (tree.label x) = omega arith
    made_less (tree.variable x) = omega arith
    made_less (tree.unary op a) = omega (arith, made_less a)
    made_less (tree.binary (Data op) a b) = omega (arith, made_less a, made_less b)
    made_less (tree.binary Arrow a b) = omega (arith, made_less a, made_less b)
    made_less (tree.binary FollowedBy a b) = omega (arith, made_less a, made_less b)
    made_less (tree.choice c a b) = omega (arith, made_less c, made_less a, made_less b)
    made_less (tree.when a c) = omega (arith, made_less a)
    made_less (tree.current x) = omega arith
    made_less (tree.merge c ps all) = omega (arith, all_less all)
    made_less (tree.call f all) = omega (arith, all_less all, less_of (node_place p f))

    all_less : (all : Trees) → all_size p s all ≤ all_size p t all
    all_less tree.none = omega arith
    all_less (tree.more a all) = omega (arith, made_less a, all_less all)

  equations_less : (qs : List EquationTree) → equations_size p s qs ≤ equations_size p t qs
  equations_less [] = omega arith
  equations_less (q ∷ qs) = omega (arith, made_less q.right, equations_less qs)

  node_less : (node : NodeTree) → node_size p s node ≤ node_size p t node
  node_less node = omega (arith, equations_less node.equations)

pub bounds : (p : ProgramTree) (counts : List ℕ) → AreCounted p counts → AreBounds p counts
bounds p counts (sizes, are, same) i node there le =
    let cs = map capped sizes in
    let le' : slice_index cs i ≤ 4096 = subst (λ xs. slice_index xs i ≤ 4096) same le in
    let less = node_less p cs sizes (less_at sizes) node in
    let size = get_or_from_slice_get sizes i (node_size p sizes node) 0 (are.each i node there) in
    let at = same_at sizes i le' in
    subst (λ xs. node_size p xs node ≤ slice_index xs i) (sym same) (omega (arith, less, size, at))

-- the count of a node that is at most 4,096 is its size
pub exact : (counts sizes : List ℕ) → counts ≡ map capped sizes → (o : Option ℕ) → size_at counts o ≤ 4096 → size_at sizes o ≡ size_at counts o
exact counts sizes same None le = refl
exact counts sizes same (Some j) le = same_at sizes j (subst (λ xs. slice_index xs j ≤ 4096) same le) ∙ sym (ap (λ xs. slice_index xs j) same)
