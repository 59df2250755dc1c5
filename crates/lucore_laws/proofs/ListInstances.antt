-- Where the variables of instances stand in a list.
use Rattle.std.proofs.Common.{◌≡◌, ℕ, ◌+◌, ◌<◌, ◌≤◌, List, [], ◌∷◌, ◌++◌, length, map, Option, Some, None, refl, sym, ap, ◌∙◌, subst, arith, length-append, append_assoc}
use Rattle.std.specs.Prelude.{slice_get, option_map, option_and_then, flat_map, Contains, All}
use Rattle.std.proofs.lemmas.List.{append-nil, length-map, map-append}
use Rattle.std.proofs.lemmas.List.Elements.{All-append, All-cons, All-nil}
use Rattle.std.proofs.lemmas.Option.{slice_get-map, same_Some}
use Rattle.lutree.specs.declared.expr.Pattern.{Pattern}
use Rattle.lutree.specs.declared.expr.Condition.{Condition}
use Rattle.lutree.specs.declared.expr.Prefix.TheVariants.{Data as Data1, Pre as Before}
use Rattle.lutree.specs.declared.expr.Infix.TheVariants.{Data as Data2, Arrow as Starts, FollowedBy}
use Rattle.lutree.specs.Tree.{Tree, Trees, list_of as trees_in, EquationTree, NodeTree, ProgramTree}
use Rattle.lutree.specs.Tree as tree
use Rattle.luflow.specs.declared.form.Clock.{Clock}
use Rattle.luflow.specs.declared.form.Form.TheVariants.{Unary, Binary, If, Pre, Arrow, When, Merge}
use Rattle.luflow.specs.declared.form.Flow.{Flow}
use Rattle.luflow.specs.Streams.{Streams}
use Rattle.lusource.specs.Names.{variables_of, place_of, clock_of}
use Rattle.lustat_rules.specs.Scope.{node_called}
use Rattle.lustat_rules.specs.Naming.{Call, calls_in, calls_in_all}
use Rattle.lusource.specs.Source.{Path, SourceStreams, condition, first_pattern, next_patterns}
use Rattle.lusource.specs.Instances.{called_in, instance_at}
use Rattle.lucore_laws.specs.Layout.{Walking, root_flows, made, place, behind, leaf, after, list_of, instance, moved, clock_place, flow_of, variable_place, walk, walk_all, walk_branches, walk_right, left_clock, inner_flows, variable_count, node_flows, AreLists}
use Rattle.lucore_laws.proofs.Each.{Each, each_at}
use Rattle.lucore_laws.proofs.Names.{contains_at, all_at, all_imp, place_in, listed}
use Rattle.lucore_laws.proofs.Roots.{front, parts, length-front}
use Rattle.lucore_laws.proofs.Spots.{Spot, spots_after, no_spots, spot_at, spots, spots_all, spots_branches, equation_spots, node_spots, place_named, spots_in}

abbrev pub spot_place : Option Spot → (Spot → ℕ) → ℕ
spot_place None f = 0
spot_place (Some spot) f = f spot

-- the place of a variable of the instance at a path, in the list of the node called f
abbrev pub flow_place : ProgramTree → List (List Flow) → List ℕ → Path → List ℕ → ℕ
flow_place p lists f [] x = place_named (node_called p f) x
flow_place p lists f (i ∷ path) x =
    spot_place (slice_get (spots_in p lists (node_called p f)) i) (λ spot. spot.at + flow_place p lists spot.node path x)

-- each variable of each instance has its stream at its place
abbrev pub HasInstances : ProgramTree → List (List Flow) → List ℕ → Streams → SourceStreams → Type 0
HasInstances p lists f τ σ =
    (path : Path) (node : NodeTree) (x : List ℕ) → instance_at p f path ≡ Some node → Contains (variables_of node) x → τ (flow_place p lists f path x) ≡ σ path x

-- THE SPOTS OF A LIST

abbrev pub spot_node : Spot → List ℕ
spot_node spot = spot.node

abbrev call_node : Call → List ℕ
call_node c = c.node

module _ (p : ProgramTree) (lists : List (List Flow)) where
  -- the instance at a spot ends before this place
  abbrev Ends : ℕ → Spot → Type 0
  Ends n spot = spot.at + length (list_of p lists spot.node) ≤ n

  ends_all : (m n : ℕ) (xs : List Spot) → m ≤ n → All (Ends m) xs → All (Ends n) xs
  ends_all m n xs le = all_imp (Ends m) (Ends n) xs (λ spot h. omega (arith, le, h))

  -- wherever a walk begins, its spots are of these calls, and lie among its inner flows
  abbrev Found : Walking → (ℕ → List Spot) → List Call → Type 0
  Found w sp calls = (s : ℕ) → (map spot_node (sp s) ≡ map call_node calls) × All (Ends (s + length (w s).inner)) (sp s)

  found_none : (w : Walking) → Found w no_spots []
  found_none w s = (refl, All-nil (Ends (s + length (w s).inner)))

  found_after : (a : Walking) (rest : ℕ → Walking) (spa spr : ℕ → List Spot) (X Y : List Call) → Found a spa X → ((x : ℕ) → Found (rest x) spr Y) → Found (after a rest) (spots_after a spa spr) (X ++ Y)
  found_after a rest spa spr X Y first then s =
      let S = behind s (a s) in
      let r = rest (place s (a s)) S in
      let f = first s in
      let t = then (place s (a s)) S in
      let n = s + length (made (a s) ++ r.inner) in
      let lf : s + length (a s).inner ≤ n = omega (arith, length-append (made (a s)) r.inner, length-append (a s).inner (root_flows (a s).root)) in
      let lt : S + length r.inner ≤ n = omega (arith, length-append (made (a s)) r.inner) in (
        map-append spot_node (spa s) (spr S) ∙ ap (λ l. l ++ map spot_node (spr S)) f.0 ∙ ap (λ l. map call_node X ++ l) t.0 ∙ sym (map-append call_node X Y),
        All-append (Ends n) (spa s) (spr S) (ends_all (s + length (a s).inner) n (spa s) lf f.1) (ends_all (S + length r.inner) n (spr S) lt t.1),
      )

  found_one : (a : Walking) (operator : ℕ → Flow) (spa : ℕ → List Spot) (X : List Call) → Found a spa X → Found (after a (λ x. leaf (operator x))) (spots_after a spa no_spots) X
  found_one a operator spa X first =
      subst (Found (after a (λ x. leaf (operator x))) (spots_after a spa no_spots)) (append-nil X)
      (found_after a (λ x. leaf (operator x)) spa no_spots X [] first (λ x. found_none (leaf (operator x))))

  found_two : (a b : Walking) (operator : ℕ → ℕ → Flow) (spa spb : ℕ → List Spot) (X Y : List Call) → Found a spa X → Found b spb Y → Found (after a (λ x. after b (λ y. leaf (operator x y)))) (spots_after a spa (spots_after b spb no_spots)) (X ++ Y)
  found_two a b operator spa spb X Y first second =
      found_after a (λ x. after b (λ y. leaf (operator x y))) spa (spots_after b spb no_spots) X Y first (λ x. found_one b (operator x) spb Y second)

  found_instance : (f : List ℕ) (k : Clock) (xs : List ℕ) (n : ℕ) → Found (instance p lists f k xs) (spot_at f) (record { node = f; arguments = n } ∷ [])
  found_instance f k xs n s =
      let spot : Spot = record { node = f; at = s } in
      let e = length-map (list_of p lists f) (moved s k xs) in
      let n' = s + length (map (moved s k xs) (list_of p lists f)) in
      (refl, All-cons (Ends n') spot [] (omega (arith, e)) (All-nil (Ends n')))

  module _ (node : NodeTree) where
    mutual
      found : (e : Tree) (k : Option Condition) → Found (walk p lists node e k) (spots p lists node e k) (calls_in e)
      found (tree.number n) k = found_none (walk p lists node (tree.number n) k)
      found (tree.truth b) k = found_none (walk p lists node (tree.truth b) k)
      found (tree.label x) k = found_none (walk p lists node (tree.label x) k)
      found (tree.variable x) k = found_none (walk p lists node (tree.variable x) k)
      found (tree.unary (Data1 op) a) k =
          found_one (walk p lists node a k) (λ x. flow_of p lists node (tree.unary (Data1 op) a) k (Unary op x)) (spots p lists node a k) (calls_in a) (found a k)
      found (tree.unary Before a) k =
          found_one (walk p lists node a k) (λ x. flow_of p lists node (tree.unary Before a) k (Pre x)) (spots p lists node a k) (calls_in a) (found a k)
      found (tree.binary (Data2 op) a b) k =
          found_two (walk p lists node a k) (walk p lists node b k) (λ x y. flow_of p lists node (tree.binary (Data2 op) a b) k (Binary op x y)) (spots p lists node a k) (spots p lists node b k) (calls_in a) (calls_in b) (found a k) (found b k)
      found (tree.binary Starts a b) k =
          found_two (walk p lists node a k) (walk p lists node b k) (λ x y. flow_of p lists node (tree.binary Starts a b) k (Arrow x y)) (spots p lists node a k) (spots p lists node b k) (calls_in a) (calls_in b) (found a k) (found b k)
      found (tree.binary FollowedBy a b) k =
          let pre = λ (y : ℕ). flow_of p lists node (tree.unary Before b) k (Pre y) in
          let root = λ (x z : ℕ). flow_of p lists node (tree.binary FollowedBy a b) k (Arrow x z) in
          let B = spots_after (walk p lists node b k) (spots p lists node b k) no_spots in
          found_after (walk p lists node a k) (λ x. after (walk p lists node b k) (λ y. after (leaf (pre y)) (λ z. leaf (root x z)))) (spots p lists node a k) B (calls_in a) (calls_in b) (found a k)
          (λ x.
          subst (Found (after (walk p lists node b k) (λ y. after (leaf (pre y)) (λ z. leaf (root x z)))) B) (append-nil (calls_in b))
          (found_after (walk p lists node b k) (λ y. after (leaf (pre y)) (λ z. leaf (root x z))) (spots p lists node b k) no_spots (calls_in b) [] (found b k) (λ y. found_none (after (leaf (pre y)) (λ z. leaf (root x z))))))
      found (tree.choice c a b) k =
          let root = λ (x y z : ℕ). flow_of p lists node (tree.choice c a b) k (If x y z) in
          found_after (walk p lists node c k) (λ x. after (walk p lists node a k) (λ y. after (walk p lists node b k) (λ z. leaf (root x y z)))) (spots p lists node c k) (spots_after (walk p lists node a k) (spots p lists node a k) (spots_after (walk p lists node b k) (spots p lists node b k) no_spots)) (calls_in c) (calls_in a ++ calls_in b) (found c k)
          (λ x. found_two (walk p lists node a k) (walk p lists node b k) (root x) (spots p lists node a k) (spots p lists node b k) (calls_in a) (calls_in b) (found a k) (found b k))
      found (tree.when a c) k =
          let kc = clock_of node c.variable in
          found_one (walk p lists node a kc) (λ x. flow_of p lists node (tree.when a c) (Some c) (When x)) (spots p lists node a kc) (calls_in a) (found a kc)
      found (tree.current x) k = found_none (walk p lists node (tree.current x) k)
      found (tree.merge c ps all) k =
          let root = λ (xs : List ℕ). leaf (flow_of p lists node (tree.merge c ps all) k (Merge (variable_place p lists node c) xs)) in
          subst (Found (walk_branches p lists node c ps all root) (spots_branches p lists node c ps all no_spots)) (append-nil (calls_in_all all))
          (found_branches c ps all root no_spots [] (λ xs. found_none (root xs)))
      found (tree.call f all) k =
          found_all all k (λ xs. instance p lists f (clock_place node k) xs) (spot_at f) (record { node = f; arguments = length (trees_in all) } ∷ [])
          (λ xs. found_instance f (clock_place node k) xs (length (trees_in all)))

      found_all : (all : Trees) (k : Option Condition) (rest : List ℕ → Walking) (spr : ℕ → List Spot) (Y : List Call) → ((xs : List ℕ) → Found (rest xs) spr Y) → Found (walk_all p lists node all k rest) (spots_all p lists node all k spr) (calls_in_all all ++ Y)
      found_all tree.none k rest spr Y h = h []
      found_all (tree.more a all) k rest spr Y h =
          let w = λ (x : ℕ). walk_all p lists node all k (λ xs. rest (x ∷ xs)) in
          subst (Found (after (walk p lists node a k) w) (spots_after (walk p lists node a k) (spots p lists node a k) (spots_all p lists node all k spr))) (sym (append_assoc (calls_in a) (calls_in_all all) Y))
          (found_after (walk p lists node a k) w (spots p lists node a k) (spots_all p lists node all k spr) (calls_in a) (calls_in_all all ++ Y) (found a k)
          (λ x. found_all all k (λ xs. rest (x ∷ xs)) spr Y (λ xs. h (x ∷ xs))))

      found_branches : (c : List ℕ) (ps : List Pattern) (all : Trees) (rest : List ℕ → Walking) (spr : ℕ → List Spot) (Y : List Call) → ((xs : List ℕ) → Found (rest xs) spr Y) → Found (walk_branches p lists node c ps all rest) (spots_branches p lists node c ps all spr) (calls_in_all all ++ Y)
      found_branches c ps tree.none rest spr Y h = h []
      found_branches c ps (tree.more a all) rest spr Y h =
          let k = condition c (first_pattern ps) in
          let qs = next_patterns ps in
          let w = λ (x : ℕ). walk_branches p lists node c qs all (λ xs. rest (x ∷ xs)) in
          subst (Found (after (walk p lists node a k) w) (spots_after (walk p lists node a k) (spots p lists node a k) (spots_branches p lists node c qs all spr))) (sym (append_assoc (calls_in a) (calls_in_all all) Y))
          (found_after (walk p lists node a k) w (spots p lists node a k) (spots_branches p lists node c qs all spr) (calls_in a) (calls_in_all all ++ Y) (found a k)
          (λ x. found_branches c qs all (λ xs. rest (x ∷ xs)) spr Y (λ xs. h (x ∷ xs))))

    found_equations : (qs : List EquationTree) (s : ℕ) → (map spot_node (equation_spots p lists node qs s) ≡ flat_map (λ (q : EquationTree). map call_node (calls_in q.right)) qs) × All (Ends (s + length (inner_flows p lists node qs s))) (equation_spots p lists node qs s)
    found_equations [] s = (refl, All-nil (Ends (s + 0)))
    found_equations (q ∷ qs) s =
        let k = left_clock p lists node q in
        let w = walk_right p lists node q s in
        let s' = s + length w.inner in
        let f = found q.right k s in
        let t = found_equations qs s' in
        let A = spots p lists node q.right k s in
        let B = equation_spots p lists node qs s' in
        let rest = inner_flows p lists node qs s' in
        let n = s + length (w.inner ++ rest) in
        let lf : s' ≤ n = omega (arith, length-append w.inner rest) in
        let lt : s' + length rest ≤ n = omega (arith, length-append w.inner rest) in (
          map-append spot_node A B ∙ ap (λ l. l ++ map spot_node B) f.0 ∙ ap (λ l. map call_node (calls_in q.right) ++ l) t.0,
          All-append (Ends n) A B (ends_all s' n A lf f.1) (ends_all (s' + length rest) n B lt t.1),
        )

    -- the length of a node's list
    length-list : length (node_flows p lists node) ≡ variable_count p lists node + length (inner_flows p lists node node.equations (variable_count p lists node))
    length-list =
        let lp = ap length (parts p lists node) in
        let lf = length-front p lists node in
        omega (arith, length-append (front p lists node) (inner_flows p lists node node.equations (variable_count p lists node)))

    spots_end : All (Ends (length (node_flows p lists node))) (node_spots p lists node)
    spots_end = subst (λ n. All (Ends n) (node_spots p lists node)) (sym length-list) (found_equations node.equations (variable_count p lists node)).1

  -- the spots of a node are of the calls in its text
  spots_called : (o : Option NodeTree) → map spot_node (spots_in p lists o) ≡ called_in o
  spots_called None = refl
  spots_called (Some node) = (found_equations node node.equations (variable_count p lists node)).0

  pub spot_named : (o : Option NodeTree) (i : ℕ) → slice_get (called_in o) i ≡ option_map spot_node (slice_get (spots_in p lists o) i)
  spot_named o i = ap (λ l. slice_get l i) (sym (spots_called o)) ∙ slice_get-map spot_node (spots_in p lists o) i

  -- the step to the instance of a call
  abbrev Next : Path → NodeTree → Option Spot → Type 0
  Next path n o = option_and_then (λ g. instance_at p g path) (option_map spot_node o) ≡ Some n

  next : (f : List ℕ) (i : ℕ) (path : Path) (n : NodeTree) → instance_at p f (i ∷ path) ≡ Some n → Next path n (slice_get (spots_in p lists (node_called p f)) i)
  next f i path n here = ap (option_and_then (λ g. instance_at p g path)) (sym (spot_named (node_called p f) i)) ∙ here

  -- WHERE THE VARIABLES STAND

  -- Streams have all instances where they have the node's own variables, and those of the instances at its spots.
  module _ (f : List ℕ) (node : NodeTree) (found : node_called p f ≡ Some node) (τ : Streams) (σ : SourceStreams) where
    abbrev pub Inner : ℕ → Spot → Type 0
    Inner i spot = HasInstances p lists spot.node (λ y. τ (spot.at + y)) (λ path. σ (i ∷ path))

    pub has_instances : ((x : List ℕ) → place_of (variables_of node) x < length (variables_of node) → τ (place_of (variables_of node) x) ≡ σ [] x) → Each Inner 0 (node_spots p lists node) → HasInstances p lists f τ σ
    has_instances own inner [] n x here has =
        let same : node ≡ n = same_Some node n (sym found ∙ here) in
        let has' = subst (λ n. Contains (variables_of n) x) (sym same) has in
        let at = contains_at (variables_of node) x has' in
        ap (λ o. τ (place_named o x)) found ∙ own x (place_in (variables_of node) x at.0 at.1)
    has_instances own inner (i ∷ path) n x here has = one_spot (slice_get (spots_in p lists (node_called p f)) i) refl (next f i path n here)
      where
        one_spot : (o : Option Spot) → slice_get (spots_in p lists (node_called p f)) i ≡ o → Next path n o → τ (spot_place o (λ spot. spot.at + flow_place p lists spot.node path x)) ≡ σ (i ∷ path) x
        one_spot None e h = cc
        one_spot (Some spot) e h =
            let z : 0 + i ≡ i = omega arith in
            let there = ap (λ o. slice_get (spots_in p lists o) i) (sym found) ∙ e in
            subst (λ i. Inner i spot) z (each_at Inner 0 (node_spots p lists node) i spot inner there) path n x h has

  module _ (are : AreLists p lists) where
    -- each variable of each instance stands in the list
    pub place_inside : (path : Path) (f : List ℕ) (n : NodeTree) (x : List ℕ) → instance_at p f path ≡ Some n → Contains (variables_of n) x → flow_place p lists f path x < length (list_of p lists f)
    place_inside [] f n x here has =
        let at = contains_at (variables_of n) x has in
        let lt = place_in (variables_of n) x at.0 at.1 in
        let e = ap length (listed p lists are f n here) in
        let l = length-list n in
        subst (λ o. place_named o x < length (list_of p lists f)) (sym here) (omega (arith, lt, e, l))
    place_inside (i ∷ path) f n x here has =
        one_spot (λ g h. place_inside path g n x h has) (node_called p f) refl (slice_get (spots_in p lists (node_called p f)) i) refl (next f i path n here)
      where
        one_spot : ((g : List ℕ) → instance_at p g path ≡ Some n → flow_place p lists g path x < length (list_of p lists g)) → (c : Option NodeTree) → node_called p f ≡ c → (o : Option Spot) → slice_get (spots_in p lists c) i ≡ o → Next path n o → spot_place o (λ spot. spot.at + flow_place p lists spot.node path x) < length (list_of p lists f)
        one_spot rest c is None e h = cc
        one_spot rest None is (Some spot) e h = cc
        one_spot rest (Some node) is (Some spot) e h =
            let deep = rest spot.node h in
            let ends = all_at (Ends (length (node_flows p lists node))) (node_spots p lists node) i spot (spots_end node) e in
            let l = ap length (listed p lists are f node is) in
            omega (arith, deep, ends, l)
