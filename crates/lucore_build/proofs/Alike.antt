-- The count of an expression, and that it is the same by sizes and by their counts.
use Rattle.std.proofs.Common.{◌≡◌, ◌+◌, ◌-◌, ℕ, suc, List, [], ◌∷◌, ◌++◌, Some, length, refl, sym, ap, ◌∙◌, arith}
use Rattle.std.specs.Prelude.{slice_get, All, Contains}
use Rattle.lutree.specs.declared.expr.Infix.TheVariants.{Data, Arrow, FollowedBy}
use Rattle.lutree.specs.Tree.{Tree, Trees, list_of as trees_in, EquationTree, NodeTree, ProgramTree}
use Rattle.lutree.specs.Tree as tree
use Rattle.lusource.specs.Names.{variables_of}
use Rattle.lustat_rules.specs.Naming.{Call, calls_in, calls_in_all, called_by}
use Rattle.lucore_laws.specs.Sizes.{size_of, root_size, made_size, all_size, equations_size, node_size}
use Rattle.lucore_laws.proofs.Names.{all_left, all_right, all_head, all_of}
use Rattle.lucore_laws.proofs.Same.{called_in}
use Rattle.lucore_build.specs.Counted.{capped, further}
use Rattle.lucore_build.proofs.Capped.{sum_alike}

-- how many flows an expression makes before its root
abbrev pub inside : ProgramTree → List ℕ → Tree → ℕ
inside p s (tree.number n) = 0
inside p s (tree.truth b) = 0
inside p s (tree.label x) = 0
inside p s (tree.variable x) = 0
inside p s (tree.unary op a) = made_size p s a
inside p s (tree.binary op a b) = made_size p s a + made_size p s b + further op
inside p s (tree.choice c a b) = made_size p s c + made_size p s a + made_size p s b
inside p s (tree.when a c) = made_size p s a
inside p s (tree.current x) = 0
inside p s (tree.merge c ps all) = all_size p s all
inside p s (tree.call f all) = all_size p s all + size_of p s f

-- all that it makes are those and its root
pub made_is : (p : ProgramTree) (s : List ℕ) (e : Tree) → made_size p s e ≡ inside p s e + root_size e
made_is p s (tree.number n) = refl
made_is p s (tree.truth b) = refl
made_is p s (tree.label x) = refl
made_is p s (tree.variable x) = refl
made_is p s (tree.unary op a) = refl
made_is p s (tree.binary (Data op) a b) = omega arith
made_is p s (tree.binary Arrow a b) = omega arith
made_is p s (tree.binary FollowedBy a b) = omega arith
made_is p s (tree.choice c a b) = refl
made_is p s (tree.when a c) = refl
made_is p s (tree.current x) = refl
made_is p s (tree.merge c ps all) = refl
made_is p s (tree.call f all) = omega arith

pub inside_is : (p : ProgramTree) (s : List ℕ) (e : Tree) → made_size p s e - root_size e ≡ inside p s e
inside_is p s e = omega (arith, made_is p s e)

module _ (p : ProgramTree) (s t : List ℕ) where
  -- the called node has the same count
  abbrev Alike : Call → Type 0
  Alike c = capped (size_of p s c.node) ≡ capped (size_of p t c.node)

  made_alike : (e : Tree) → capped (inside p s e) ≡ capped (inside p t e) → capped (made_size p s e) ≡ capped (made_size p t e)
  made_alike e h =
      ap capped (made_is p s e) ∙ sum_alike (inside p s e) (root_size e) (inside p t e) (root_size e) h refl ∙ sym (ap capped (made_is p t e))

  mutual
    inside_alike : (e : Tree) → All Alike (calls_in e) → capped (inside p s e) ≡ capped (inside p t e)
    inside_alike (tree.number n) h = refl
    inside_alike (tree.truth b) h = refl
    inside_alike (tree.label x) h = refl
    inside_alike (tree.variable x) h = refl
    inside_alike (tree.unary op a) h = made_alike a (inside_alike a h)
    inside_alike (tree.binary op a b) h =
        let one = made_alike a (inside_alike a (all_left Alike (calls_in a) (calls_in b) h)) in
        let two = made_alike b (inside_alike b (all_right Alike (calls_in a) (calls_in b) h)) in
        sum_alike (made_size p s a + made_size p s b) (further op) (made_size p t a + made_size p t b) (further op)
        (sum_alike (made_size p s a) (made_size p s b) (made_size p t a) (made_size p t b) one two) refl
    inside_alike (tree.choice c a b) h =
        let rest = all_right Alike (calls_in c) (calls_in a ++ calls_in b) h in
        let zero = made_alike c (inside_alike c (all_left Alike (calls_in c) (calls_in a ++ calls_in b) h)) in
        let one = made_alike a (inside_alike a (all_left Alike (calls_in a) (calls_in b) rest)) in
        let two = made_alike b (inside_alike b (all_right Alike (calls_in a) (calls_in b) rest)) in
        sum_alike (made_size p s c + made_size p s a) (made_size p s b) (made_size p t c + made_size p t a) (made_size p t b)
        (sum_alike (made_size p s c) (made_size p s a) (made_size p t c) (made_size p t a) zero one) two
    inside_alike (tree.when a c) h = made_alike a (inside_alike a h)
    inside_alike (tree.current x) h = refl
    inside_alike (tree.merge c ps all) h = all_alike all h
    inside_alike (tree.call f all) h =
        let c : Call = record { node = f; arguments = length (trees_in all) } in
        sum_alike (all_size p s all) (size_of p s f) (all_size p t all) (size_of p t f)
        (all_alike all (all_left Alike (calls_in_all all) (c ∷ []) h)) (all_head Alike c [] (all_right Alike (calls_in_all all) (c ∷ []) h))

    all_alike : (all : Trees) → All Alike (calls_in_all all) → capped (all_size p s all) ≡ capped (all_size p t all)
    all_alike tree.none h = refl
    all_alike (tree.more a all) h =
        sum_alike (made_size p s a) (all_size p s all) (made_size p t a) (all_size p t all)
        (made_alike a (inside_alike a (all_left Alike (calls_in a) (calls_in_all all) h))) (all_alike all (all_right Alike (calls_in a) (calls_in_all all) h))

  equations_alike : (qs : List EquationTree) → ((j : ℕ) (q : EquationTree) → slice_get qs j ≡ Some q → All Alike (calls_in q.right)) →
      capped (equations_size p s qs) ≡ capped (equations_size p t qs)
  equations_alike [] h = refl
  equations_alike (q ∷ qs) h =
      let here = ap capped (inside_is p s q.right) ∙ inside_alike q.right (h 0 q refl) ∙ sym (ap capped (inside_is p t q.right)) in
      sum_alike (made_size p s q.right - root_size q.right) (equations_size p s qs) (made_size p t q.right - root_size q.right) (equations_size p t qs)
      here (equations_alike qs (λ j q e. h (suc j) q e))

  -- a node has the same count where all nodes that it calls have
  pub node_alike : (n : NodeTree) → ((f : List ℕ) → Contains (called_by n) f → capped (size_of p s f) ≡ capped (size_of p t f)) →
      capped (node_size p s n) ≡ capped (node_size p t n)
  node_alike n h =
      sum_alike (length (variables_of n)) (equations_size p s n.equations) (length (variables_of n)) (equations_size p t n.equations) refl
      (equations_alike n.equations (λ j q at_j. all_of Alike (calls_in q.right) (λ k c there. h c.node (called_in n.equations j k q c at_j there))))
