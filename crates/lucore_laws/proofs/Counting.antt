-- The flat list is as long as the sizes say.
use Rattle.std.proofs.Common.{◌≡◌, ℕ, suc, ◌+◌, List, [], ◌∷◌, ◌++◌, length, Option, Some, None, refl, sym, ap, ◌∙◌, subst, arith, length-append}
use Rattle.std.specs.Prelude.{slice_get, All}
use Rattle.std.proofs.lemmas.List.{length-map}
use Rattle.std.proofs.lemmas.Option.{get_or_from_slice_get}
use Rattle.lutree.specs.declared.expr.Pattern.{Pattern}
use Rattle.lutree.specs.declared.expr.Condition.{Condition}
use Rattle.lutree.specs.declared.expr.Prefix.TheVariants.{Data as Data1, Pre as Before}
use Rattle.lutree.specs.declared.expr.Infix.TheVariants.{Data as Data2, Arrow as Starts, FollowedBy}
use Rattle.lutree.specs.Tree.{Tree, Trees, list_of as trees_in, EquationTree, NodeTree, ProgramTree}
use Rattle.lutree.specs.Tree as tree
use Rattle.luflow.specs.declared.form.Form.TheVariants.{Unary, Binary, If, Pre, Arrow, When, Merge}
use Rattle.luflow.specs.declared.form.Flow.{Flow}
use Rattle.lusource.specs.Names.{clock_of}
use Rattle.lustat_rules.specs.Scope.{node_called}
use Rattle.lusource.specs.Source.{condition, first_pattern, next_patterns}
use Rattle.lustat_rules.specs.Naming.{Call, Calls, Reaches, calls_in, calls_in_all}
use Rattle.lucore_laws.specs.Layout.{Walking, root_flows, made, place, behind, leaf, after, moved, instance, list_at, list_of, clock_place, flow_of, variable_place, walk, walk_all, walk_branches, walk_right, left_clock, inner_flows, variable_count, node_flows, AreLists}
use Rattle.lucore_laws.specs.Sizes.{size_at, size_of, root_size, made_size, all_size, equations_size, node_size, AreSizes, CountLaw}
use Rattle.lucore_laws.proofs.Names.{all_left, all_right, all_head, all_of, listed, placed}
use Rattle.lucore_laws.proofs.Roots.{parts, front, length-front}
use Rattle.lucore_laws.proofs.Same.{no_place, called_in}
use Rattle.lucore_laws.proofs.ByCalls.{by_calls, none_reaches}

-- a walk makes m flows, r of them at its root
abbrev Sized : Walking → ℕ → ℕ → Type 0
Sized w m r = (s : ℕ) → (length (w s).inner + r ≡ m) × (length (root_flows (w s).root) ≡ r)

sized_after : (a : Walking) (rest : ℕ → Walking) (ma ra m r : ℕ) → Sized a ma ra → ((x : ℕ) → Sized (rest x) m r) → Sized (after a rest) (ma + m) r
sized_after a rest ma ra m r first then s =
    let f = first s in
    let t = then (place s (a s)) (behind s (a s)) in
    let e = f.0 in
    let e' = f.1 in
    let g = t.0 in
    (omega (arith, length-append (a s).inner (root_flows (a s).root), length-append (made (a s)) (rest (place s (a s)) (behind s (a s))).inner), t.1)

sized_as : (w : Walking) (m n r : ℕ) → m ≡ n → Sized w m r → Sized w n r
sized_as w m n r e h = subst (λ m. Sized w m r) e h

sized_leaf : (f : Flow) → Sized (leaf f) 1 1
sized_leaf f s = (refl, refl)

sized_two : (a b : Walking) (operator : ℕ → ℕ → Flow) (ma ra mb rb : ℕ) → Sized a ma ra → Sized b mb rb → Sized (after a (λ x. after b (λ y. leaf (operator x y)))) (ma + mb + 1) 1
sized_two a b operator ma ra mb rb first second =
    let z : ma + (mb + 1) ≡ ma + mb + 1 = omega arith in
    sized_as (after a (λ x. after b (λ y. leaf (operator x y)))) (ma + (mb + 1)) (ma + mb + 1) 1 z
    (sized_after a (λ x. after b (λ y. leaf (operator x y))) ma ra (mb + 1) 1 first (λ x. sized_after b (λ y. leaf (operator x y)) mb rb 1 1 second (λ y. sized_leaf (operator x y))))

module _ (p : ProgramTree) (lists : List (List Flow)) (sizes : List ℕ) (node : NodeTree) where
  -- the size of a node is the length of its list
  abbrev Counts : Call → Type 0
  Counts c = length (list_of p lists c.node) ≡ size_of p sizes c.node

  mutual
    sized : (e : Tree) (k : Option Condition) → All Counts (calls_in e) → Sized (walk p lists node e k) (made_size p sizes e) (root_size e)
    sized (tree.number n) k h = λ s. (refl, refl)
    sized (tree.truth c) k h = λ s. (refl, refl)
    sized (tree.label x) k h = λ s. (refl, refl)
    sized (tree.variable x) k h = λ s. (refl, refl)
    sized (tree.unary (Data1 op) x) k h =
        sized_after (walk p lists node x k) (λ i. leaf (flow_of p lists node (tree.unary (Data1 op) x) k (Unary op i))) (made_size p sizes x) (root_size x) 1 1 (sized x k h) (λ i s. (refl, refl))
    sized (tree.unary Before x) k h =
        sized_after (walk p lists node x k) (λ i. leaf (flow_of p lists node (tree.unary Before x) k (Pre i))) (made_size p sizes x) (root_size x) 1 1 (sized x k h) (λ i s. (refl, refl))
    sized (tree.binary (Data2 op) x y) k h =
        sized_two (walk p lists node x k) (walk p lists node y k) (λ i j. flow_of p lists node (tree.binary (Data2 op) x y) k (Binary op i j)) (made_size p sizes x) (root_size x) (made_size p sizes y) (root_size y) (sized x k (all_left Counts (calls_in x) (calls_in y) h)) (sized y k (all_right Counts (calls_in x) (calls_in y) h))
    sized (tree.binary Starts x y) k h =
        sized_two (walk p lists node x k) (walk p lists node y k) (λ i j. flow_of p lists node (tree.binary Starts x y) k (Arrow i j)) (made_size p sizes x) (root_size x) (made_size p sizes y) (root_size y) (sized x k (all_left Counts (calls_in x) (calls_in y) h)) (sized y k (all_right Counts (calls_in x) (calls_in y) h))
    sized (tree.binary FollowedBy x y) k h =
        let pre = λ (j : ℕ). leaf (flow_of p lists node (tree.unary Before y) k (Pre j)) in
        let root = λ (i j : ℕ). flow_of p lists node (tree.binary FollowedBy x y) k (Arrow i j) in
        let mx = made_size p sizes x in
        let my = made_size p sizes y in
        let z : mx + (my + (1 + 1)) ≡ mx + my + 2 = omega arith in
        sized_as (walk p lists node (tree.binary FollowedBy x y) k) (mx + (my + (1 + 1))) (mx + my + 2) 1 z
        (sized_after (walk p lists node x k) (λ i. after (walk p lists node y k) (λ j. after (pre j) (λ l. leaf (root i l)))) mx (root_size x) (my + (1 + 1)) 1 (sized x k (all_left Counts (calls_in x) (calls_in y) h))
        (λ i. sized_after (walk p lists node y k) (λ j. after (pre j) (λ l. leaf (root i l))) my (root_size y) (1 + 1) 1 (sized y k (all_right Counts (calls_in x) (calls_in y) h))
        (λ j. sized_after (pre j) (λ l. leaf (root i l)) 1 1 1 1 (λ s. (refl, refl)) (λ l s. (refl, refl)))))
    sized (tree.choice c x y) k h =
        let h' = all_right Counts (calls_in c) (calls_in x ++ calls_in y) h in
        let root = λ (l i j : ℕ). flow_of p lists node (tree.choice c x y) k (If l i j) in
        let mc = made_size p sizes c in
        let mx = made_size p sizes x in
        let my = made_size p sizes y in
        let z : mc + (mx + my + 1) ≡ mc + mx + my + 1 = omega arith in
        sized_as (walk p lists node (tree.choice c x y) k) (mc + (mx + my + 1)) (mc + mx + my + 1) 1 z
        (sized_after (walk p lists node c k) (λ l. after (walk p lists node x k) (λ i. after (walk p lists node y k) (λ j. leaf (root l i j)))) mc (root_size c) (mx + my + 1) 1 (sized c k (all_left Counts (calls_in c) (calls_in x ++ calls_in y) h))
        (λ l. sized_two (walk p lists node x k) (walk p lists node y k) (root l) mx (root_size x) my (root_size y) (sized x k (all_left Counts (calls_in x) (calls_in y) h')) (sized y k (all_right Counts (calls_in x) (calls_in y) h'))))
    sized (tree.when x c) k h =
        sized_after (walk p lists node x (clock_of node c.variable)) (λ i. leaf (flow_of p lists node (tree.when x c) (Some c) (When i))) (made_size p sizes x) (root_size x) 1 1 (sized x (clock_of node c.variable) h) (λ i s. (refl, refl))
    sized (tree.current x) k h = λ s. (refl, refl)
    sized (tree.merge c ps all) k h =
        sized_branches c ps all (λ xs. leaf (flow_of p lists node (tree.merge c ps all) k (Merge (variable_place p lists node c) xs))) 1 1 h (λ xs s. (refl, refl))
    sized (tree.call f all) k h =
        let c : Call = record { node = f; arguments = length (trees_in all) } in
        let count = all_head Counts c [] (all_right Counts (calls_in_all all) (c ∷ []) h) in
        let ck = clock_place node k in
        sized_all all k (λ xs. instance p lists f ck xs) (size_of p sizes f) 0 (all_left Counts (calls_in_all all) (c ∷ []) h)
        (λ xs s. ((let l = length-map (list_of p lists f) (moved s ck xs) in omega (arith, count)), refl))

    sized_all : (all : Trees) (k : Option Condition) (rest : List ℕ → Walking) (m r : ℕ) → All Counts (calls_in_all all) → ((xs : List ℕ) → Sized (rest xs) m r) → Sized (walk_all p lists node all k rest) (all_size p sizes all + m) r
    sized_all tree.none k rest m r h rests = let z : m ≡ 0 + m = omega arith in sized_as (rest []) m (0 + m) r z (rests [])
    sized_all (tree.more x all) k rest m r h rests =
        let mx = made_size p sizes x in
        let ma = all_size p sizes all in
        let z : mx + (ma + m) ≡ mx + ma + m = omega arith in
        sized_as (walk_all p lists node (tree.more x all) k rest) (mx + (ma + m)) (mx + ma + m) r z
        (sized_after (walk p lists node x k) (λ i. walk_all p lists node all k (λ xs. rest (i ∷ xs))) mx (root_size x) (ma + m) r (sized x k (all_left Counts (calls_in x) (calls_in_all all) h))
        (λ i. sized_all all k (λ xs. rest (i ∷ xs)) m r (all_right Counts (calls_in x) (calls_in_all all) h) (λ xs. rests (i ∷ xs))))

    sized_branches : (c : List ℕ) (ps : List Pattern) (all : Trees) (rest : List ℕ → Walking) (m r : ℕ) → All Counts (calls_in_all all) → ((xs : List ℕ) → Sized (rest xs) m r) → Sized (walk_branches p lists node c ps all rest) (all_size p sizes all + m) r
    sized_branches c ps tree.none rest m r h rests = let z : m ≡ 0 + m = omega arith in sized_as (rest []) m (0 + m) r z (rests [])
    sized_branches c ps (tree.more x all) rest m r h rests =
        let k = condition c (first_pattern ps) in
        let qs = next_patterns ps in
        let mx = made_size p sizes x in
        let ma = all_size p sizes all in
        let z : mx + (ma + m) ≡ mx + ma + m = omega arith in
        sized_as (walk_branches p lists node c ps (tree.more x all) rest) (mx + (ma + m)) (mx + ma + m) r z
        (sized_after (walk p lists node x k) (λ i. walk_branches p lists node c qs all (λ xs. rest (i ∷ xs))) mx (root_size x) (ma + m) r (sized x k (all_left Counts (calls_in x) (calls_in_all all) h))
        (λ i. sized_branches c qs all (λ xs. rest (i ∷ xs)) m r (all_right Counts (calls_in x) (calls_in_all all) h) (λ xs. rests (i ∷ xs))))

  abbrev AllCount : List EquationTree → Type 0
  AllCount qs = (j : ℕ) (q : EquationTree) → slice_get qs j ≡ Some q → All Counts (calls_in q.right)

  inner_counted : (qs : List EquationTree) (s : ℕ) → AllCount qs → length (inner_flows p lists node qs s) ≡ equations_size p sizes qs
  inner_counted [] s h = refl
  inner_counted (q ∷ qs) s h =
      let w = walk_right p lists node q s in
      let here = (sized q.right (left_clock p lists node q) (h 0 q refl) s).0 in
      let rest = inner_counted qs (s + length w.inner) (λ j q e. h (suc j) q e) in
      omega (arith, length-append w.inner (inner_flows p lists node qs (s + length w.inner)))

  pub node_counted : AllCount node.equations → length (node_flows p lists node) ≡ node_size p sizes node
  node_counted h =
      let nv = variable_count p lists node in
      let e = inner_counted node.equations nv h in
      let f = length-front p lists node in
      let l = ap length (parts p lists node) in
      omega (arith, length-append (front p lists node) (inner_flows p lists node node.equations nv))

module _ (p : ProgramTree) (lists : List (List Flow)) (sizes : List ℕ) (are : AreLists p lists) (sizes_are : AreSizes p sizes) (never : (f : List ℕ) → ¬ Reaches p f f) where
  abbrev IsCounted : List ℕ → Type 0
  IsCounted f = length (list_of p lists f) ≡ size_of p sizes f

  step : (f : List ℕ) → ((g : List ℕ) → Calls p f g → IsCounted g) → IsCounted f
  step f h = go (node_called p f) refl
    where
      go : (o : Option NodeTree) → node_called p f ≡ o → IsCounted f
      go None e = ap (λ o. length (list_at lists o)) (no_place p f e) ∙ sym (ap (size_at sizes) (no_place p f e))
      go (Some n) e =
          let here = placed p f n e in
          let calls = λ (j : ℕ) (q : EquationTree) (at_j : slice_get n.equations j ≡ Some q). all_of (Counts p lists sizes n) (calls_in q.right) (λ k c there. h c.node (n, e, called_in n.equations j k q c at_j there)) in
          ap length (listed p lists are f n e) ∙ node_counted p lists sizes n calls
          ∙ sym (ap (size_at sizes) here.at_place ∙ get_or_from_slice_get sizes here.place (node_size p sizes n) 0 (sizes_are.each here.place n here.node))

  pub counted : (f : List ℕ) → IsCounted f
  counted = by_calls p never IsCounted step

pub count_law : CountLaw
count_law p main flat sizes keeps out are =
    let never = none_reaches p (λ i n e. keeps.nodes i n e) in
    ap length out.flows ∙ sym (ap length (listed p out.lists out.are_lists main out.node out.is_main)) ∙ counted p out.lists sizes out.are_lists are never main
