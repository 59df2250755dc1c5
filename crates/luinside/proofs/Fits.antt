-- The calls of a node by sizes are those of its list.
use Rattle.std.proofs.Common.{◌≡◌, ℕ, suc, ◌+◌, ◌-◌, List, [], ◌∷◌, ◌++◌, length, map, Option, Some, refl, sym, ap, ◌∙◌, arith, length-append, append_assoc}
use Rattle.std.specs.Prelude.{slice_get, All}
use Rattle.std.proofs.lemmas.List.{append-nil, length-map, map-append}
use Rattle.lutree.specs.declared.expr.Pattern.{Pattern}
use Rattle.lutree.specs.declared.expr.Condition.{Condition}
use Rattle.lutree.specs.declared.expr.Prefix.TheVariants.{Data as Data1, Pre as Before}
use Rattle.lutree.specs.declared.expr.Infix.TheVariants.{Data as Data2, Arrow as Starts, FollowedBy}
use Rattle.lutree.specs.Tree.{Tree, Trees, list_of as trees_in, EquationTree, NodeTree, ProgramTree}
use Rattle.lutree.specs.Tree as tree
use Rattle.luflow.specs.declared.form.Form.TheVariants.{Unary, Binary, If, Pre, Arrow, When, Merge}
use Rattle.luflow.specs.declared.form.Flow.{Flow}
use Rattle.lusource.specs.Names.{clock_of}
use Rattle.lusource.specs.Source.{condition, first_pattern, next_patterns}
use Rattle.lustat_rules.specs.Naming.{Call, calls_in, calls_in_all, node_place}
use Rattle.lucore_laws.specs.Layout.{Walking, root_flows, made, place, behind, leaf, after, moved, instance, list_of, clock_place, flow_of, variable_place, walk, walk_all, walk_branches, walk_right, left_clock, variable_count}
use Rattle.lucore_laws.specs.Sizes.{size_of, root_size, made_size, all_size}
use Rattle.lucore_laws.proofs.Names.{all_left, all_right, all_head}
use Rattle.lucore_laws.proofs.Spots.{Spot, spots_after, no_spots, spot_at, spots, spots_all, spots_branches, equation_spots, node_spots}
use Rattle.luinside.specs.declared.starts.CallStart.{CallStart}
use Rattle.luinside.specs.Starts.{starts, all_starts, equation_starts, node_starts}

module _ (p : ProgramTree) where
  -- a spot as a call's start
  abbrev pub start_of : Spot → CallStart
  start_of spot = record { node = node_place p spot.node; at = spot.at }

  abbrev no_starts : ℕ → List CallStart
  no_starts s = []

  -- a walk makes m flows, r of them at its root, and its spots are these starts
  abbrev Fits : Walking → (ℕ → List Spot) → ℕ → ℕ → (ℕ → List CallStart) → Type 0
  Fits w sp m r st = (s : ℕ) → (length (w s).inner + r ≡ m) × (length (root_flows (w s).root) ≡ r) × (map start_of (sp s) ≡ st s)

  fits_as : (w : Walking) (sp : ℕ → List Spot) (m n r : ℕ) (st st' : ℕ → List CallStart) → m ≡ n → ((s : ℕ) → st s ≡ st' s) → Fits w sp m r st → Fits w sp n r st'
  fits_as w sp m n r st st' e f h s =
      let g = h s in
      (g.0 ∙ e, g.1, g.2 ∙ f s)

  fits_after : (a : Walking) (rest : ℕ → Walking) (spa spr : ℕ → List Spot) (ma ra m r : ℕ) (sta str : ℕ → List CallStart) → Fits a spa ma ra sta
      → ((x : ℕ) → Fits (rest x) spr m r str) → Fits (after a rest) (spots_after a spa spr) (ma + m) r (λ s. sta s ++ str (s + ma))
  fits_after a rest spa spr ma ra m r sta str first then s =
      let f = first s in
      let S = behind s (a s) in
      let t = then (place s (a s)) S in
      let e = f.0 in
      let e' = f.1 in
      let g = t.0 in
      let there : S ≡ s + ma = omega (arith, length-append (a s).inner (root_flows (a s).root)) in (
        omega (arith, length-append (a s).inner (root_flows (a s).root), length-append (made (a s)) (rest (place s (a s)) S).inner),
        t.1,
        map-append start_of (spa s) (spr S) ∙ ap (λ l. l ++ map start_of (spr S)) f.2 ∙ ap (λ l. sta s ++ l) t.2 ∙ ap (λ n. sta s ++ str n) there,
      )

  -- an operand, and then no call
  fits_last : (a : Walking) (rest : ℕ → Walking) (spa : ℕ → List Spot) (ma ra m r : ℕ) (sta : ℕ → List CallStart) → Fits a spa ma ra sta
      → ((x : ℕ) → Fits (rest x) no_spots m r no_starts) → Fits (after a rest) (spots_after a spa no_spots) (ma + m) r sta
  fits_last a rest spa ma ra m r sta first then =
      fits_as (after a rest) (spots_after a spa no_spots) (ma + m) (ma + m) r (λ s. sta s ++ []) sta refl (λ s. append-nil (sta s))
      (fits_after a rest spa no_spots ma ra m r sta no_starts first then)

  fits_leaf : (f : Flow) → Fits (leaf f) no_spots 1 1 no_starts
  fits_leaf f s = (refl, refl, refl)

  fits_two : (a b : Walking) (rest : ℕ → ℕ → Walking) (spa spb : ℕ → List Spot) (ma ra mb rb m r : ℕ) (sta stb : ℕ → List CallStart) → Fits a spa ma ra sta → Fits b spb mb rb stb
      → ((x y : ℕ) → Fits (rest x y) no_spots m r no_starts)
      → Fits (after a (λ x. after b (λ y. rest x y))) (spots_after a spa (spots_after b spb no_spots)) (ma + (mb + m)) r (λ s. sta s ++ stb (s + ma))
  fits_two a b rest spa spb ma ra mb rb m r sta stb first second then =
      fits_after a (λ x. after b (λ y. rest x y)) spa (spots_after b spb no_spots) ma ra (mb + m) r sta stb first
      (λ x. fits_last b (λ y. rest x y) spb mb rb m r stb second (λ y. then x y))

  module _ (lists : List (List Flow)) (sizes : List ℕ) (node : NodeTree) where
    -- the size of a node is the length of its list
    abbrev pub Counts : Call → Type 0
    Counts c = length (list_of p lists c.node) ≡ size_of p sizes c.node

    abbrev walk_of : Tree → Option Condition → Walking
    walk_of = walk p lists node

    abbrev spots_of : Tree → Option Condition → ℕ → List Spot
    spots_of = spots p lists node

    abbrev size : Tree → ℕ
    size = made_size p sizes

    abbrev calls : Tree → ℕ → List CallStart
    calls = starts p sizes

    joined : (x : Tree) (all : Trees) (str : ℕ → List CallStart) (s : ℕ)
        → calls x s ++ (all_starts p sizes all (s + size x) ++ str (s + size x + all_size p sizes all)) ≡ all_starts p sizes (tree.more x all) s ++ str (s + (size x + all_size p sizes all))
    joined x all str s =
        let ma = all_size p sizes all in
        let z : s + size x + ma ≡ s + (size x + ma) = omega arith in
        ap (λ n. calls x s ++ (all_starts p sizes all (s + size x) ++ str n)) z ∙ sym (append_assoc (calls x s) (all_starts p sizes all (s + size x)) (str (s + (size x + ma))))

    mutual
      pub fits : (e : Tree) (k : Option Condition) → All Counts (calls_in e) → Fits (walk_of e k) (spots_of e k) (size e) (root_size e) (calls e)
      fits (tree.number n) k h = λ s. (refl, refl, refl)
      fits (tree.truth c) k h = λ s. (refl, refl, refl)
      fits (tree.label x) k h = λ s. (refl, refl, refl)
      fits (tree.variable x) k h = λ s. (refl, refl, refl)
      fits (tree.unary (Data1 op) x) k h =
          fits_last (walk_of x k) (λ i. leaf (flow_of p lists node (tree.unary (Data1 op) x) k (Unary op i))) (spots_of x k) (size x) (root_size x) 1 1 (calls x) (fits x k h)
          (λ i. fits_leaf (flow_of p lists node (tree.unary (Data1 op) x) k (Unary op i)))
      fits (tree.unary Before x) k h =
          fits_last (walk_of x k) (λ i. leaf (flow_of p lists node (tree.unary Before x) k (Pre i))) (spots_of x k) (size x) (root_size x) 1 1 (calls x) (fits x k h)
          (λ i. fits_leaf (flow_of p lists node (tree.unary Before x) k (Pre i)))
      fits (tree.binary (Data2 op) x y) k h =
          let e = tree.binary (Data2 op) x y in
          let root = λ (i j : ℕ). flow_of p lists node e k (Binary op i j) in
          let z : size x + (size y + 1) ≡ size x + size y + 1 = omega arith in
          fits_as (walk_of e k) (spots_of e k) (size x + (size y + 1)) (size e) 1 (calls e) (calls e) z (λ s. refl)
          (fits_two (walk_of x k) (walk_of y k) (λ i j. leaf (root i j)) (spots_of x k) (spots_of y k) (size x) (root_size x) (size y) (root_size y) 1 1 (calls x) (calls y)
          (fits x k (all_left Counts (calls_in x) (calls_in y) h)) (fits y k (all_right Counts (calls_in x) (calls_in y) h)) (λ i j. fits_leaf (root i j)))
      fits (tree.binary Starts x y) k h =
          let e = tree.binary Starts x y in
          let root = λ (i j : ℕ). flow_of p lists node e k (Arrow i j) in
          let z : size x + (size y + 1) ≡ size x + size y + 1 = omega arith in
          fits_as (walk_of e k) (spots_of e k) (size x + (size y + 1)) (size e) 1 (calls e) (calls e) z (λ s. refl)
          (fits_two (walk_of x k) (walk_of y k) (λ i j. leaf (root i j)) (spots_of x k) (spots_of y k) (size x) (root_size x) (size y) (root_size y) 1 1 (calls x) (calls y)
          (fits x k (all_left Counts (calls_in x) (calls_in y) h)) (fits y k (all_right Counts (calls_in x) (calls_in y) h)) (λ i j. fits_leaf (root i j)))
      fits (tree.binary FollowedBy x y) k h =
          let e = tree.binary FollowedBy x y in
          let pre = λ (j : ℕ). leaf (flow_of p lists node (tree.unary Before y) k (Pre j)) in
          let root = λ (i j : ℕ). leaf (flow_of p lists node e k (Arrow i j)) in
          let z : size x + (size y + (1 + 1)) ≡ size x + size y + 2 = omega arith in
          fits_as (walk_of e k) (spots_of e k) (size x + (size y + (1 + 1))) (size e) 1 (calls e) (calls e) z (λ s. refl)
          (fits_two (walk_of x k) (walk_of y k) (λ i j. after (pre j) (λ l. root i l)) (spots_of x k) (spots_of y k) (size x) (root_size x) (size y) (root_size y) (1 + 1) 1 (calls x) (calls y)
          (fits x k (all_left Counts (calls_in x) (calls_in y) h)) (fits y k (all_right Counts (calls_in x) (calls_in y) h)) (λ i j s. (refl, refl, refl)))
      fits (tree.choice c x y) k h =
          let e = tree.choice c x y in
          let h' = all_right Counts (calls_in c) (calls_in x ++ calls_in y) h in
          let root = λ (l i j : ℕ). leaf (flow_of p lists node e k (If l i j)) in
          let z : size c + (size x + (size y + 1)) ≡ size c + size x + size y + 1 = omega arith in
          let rest = λ (s : ℕ). calls x s ++ calls y (s + size x) in
          fits_as (walk_of e k) (spots_of e k) (size c + (size x + (size y + 1))) (size e) 1 (calls e) (calls e) z (λ s. refl)
          (fits_after (walk_of c k) (λ l. after (walk_of x k) (λ i. after (walk_of y k) (λ j. root l i j))) (spots_of c k)
          (spots_after (walk_of x k) (spots_of x k) (spots_after (walk_of y k) (spots_of y k) no_spots)) (size c) (root_size c) (size x + (size y + 1)) 1 (calls c) rest
          (fits c k (all_left Counts (calls_in c) (calls_in x ++ calls_in y) h))
          (λ l. fits_two (walk_of x k) (walk_of y k) (root l) (spots_of x k) (spots_of y k) (size x) (root_size x) (size y) (root_size y) 1 1 (calls x) (calls y)
          (fits x k (all_left Counts (calls_in x) (calls_in y) h')) (fits y k (all_right Counts (calls_in x) (calls_in y) h')) (λ i j s. (refl, refl, refl))))
      fits (tree.when x c) k h =
          let kc = clock_of node c.variable in
          fits_last (walk_of x kc) (λ i. leaf (flow_of p lists node (tree.when x c) (Some c) (When i))) (spots_of x kc) (size x) (root_size x) 1 1 (calls x) (fits x kc h)
          (λ i. fits_leaf (flow_of p lists node (tree.when x c) (Some c) (When i)))
      fits (tree.current x) k h = λ s. (refl, refl, refl)
      fits (tree.merge c ps all) k h =
          let e = tree.merge c ps all in
          let root = λ (xs : List ℕ). leaf (flow_of p lists node e k (Merge (variable_place p lists node c) xs)) in
          fits_as (walk_of e k) (spots_of e k) (size e) (size e) 1 (λ s. all_starts p sizes all s ++ []) (calls e) refl (λ s. append-nil (all_starts p sizes all s))
          (fits_branches c ps all root no_spots 1 1 no_starts h (λ xs s. (refl, refl, refl)))
      fits (tree.call f all) k h =
          let c : Call = record { node = f; arguments = length (trees_in all) } in
          let count = all_head Counts c [] (all_right Counts (calls_in_all all) (c ∷ []) h) in
          let ck = clock_place node k in
          fits_all all k (λ xs. instance p lists f ck xs) (spot_at f) (size_of p sizes f) 0 (λ s. record { node = node_place p f; at = s } ∷ []) (all_left Counts (calls_in_all all) (c ∷ []) h)
          (λ xs s. ((let l = length-map (list_of p lists f) (moved s ck xs) in omega (arith, count)), refl, refl))

      fits_all : (all : Trees) (k : Option Condition) (rest : List ℕ → Walking) (spr : ℕ → List Spot) (m r : ℕ) (str : ℕ → List CallStart) → All Counts (calls_in_all all)
          → ((xs : List ℕ) → Fits (rest xs) spr m r str)
          → Fits (walk_all p lists node all k rest) (spots_all p lists node all k spr) (all_size p sizes all + m) r (λ s. all_starts p sizes all s ++ str (s + all_size p sizes all))
      fits_all tree.none k rest spr m r str h rests =
          let z : m ≡ 0 + m = omega arith in
          fits_as (rest []) spr m (0 + m) r str (λ s. str (s + 0)) z (λ s. let y : s ≡ s + 0 = omega arith in ap str y) (rests [])
      fits_all (tree.more x all) k rest spr m r str h rests =
          let mx = size x in
          let ma = all_size p sizes all in
          let z : mx + (ma + m) ≡ mx + ma + m = omega arith in
          let w = walk_all p lists node (tree.more x all) k rest in
          let sp = spots_all p lists node (tree.more x all) k spr in
          let inner = λ (s : ℕ). all_starts p sizes all s ++ str (s + ma) in
          fits_as w sp (mx + (ma + m)) (mx + ma + m) r (λ s. calls x s ++ inner (s + mx)) (λ s. all_starts p sizes (tree.more x all) s ++ str (s + (mx + ma))) z (λ s. joined x all str s)
          (fits_after (walk_of x k) (λ i. walk_all p lists node all k (λ xs. rest (i ∷ xs))) (spots_of x k) (spots_all p lists node all k spr) mx (root_size x) (ma + m) r (calls x) inner
          (fits x k (all_left Counts (calls_in x) (calls_in_all all) h))
          (λ i. fits_all all k (λ xs. rest (i ∷ xs)) spr m r str (all_right Counts (calls_in x) (calls_in_all all) h) (λ xs. rests (i ∷ xs))))

      fits_branches : (c : List ℕ) (ps : List Pattern) (all : Trees) (rest : List ℕ → Walking) (spr : ℕ → List Spot) (m r : ℕ) (str : ℕ → List CallStart) → All Counts (calls_in_all all)
          → ((xs : List ℕ) → Fits (rest xs) spr m r str)
          → Fits (walk_branches p lists node c ps all rest) (spots_branches p lists node c ps all spr) (all_size p sizes all + m) r (λ s. all_starts p sizes all s ++ str (s + all_size p sizes all))
      fits_branches c ps tree.none rest spr m r str h rests =
          let z : m ≡ 0 + m = omega arith in
          fits_as (rest []) spr m (0 + m) r str (λ s. str (s + 0)) z (λ s. let y : s ≡ s + 0 = omega arith in ap str y) (rests [])
      fits_branches c ps (tree.more x all) rest spr m r str h rests =
          let k = condition c (first_pattern ps) in
          let qs = next_patterns ps in
          let mx = size x in
          let ma = all_size p sizes all in
          let z : mx + (ma + m) ≡ mx + ma + m = omega arith in
          let w = walk_branches p lists node c ps (tree.more x all) rest in
          let sp = spots_branches p lists node c ps (tree.more x all) spr in
          let inner = λ (s : ℕ). all_starts p sizes all s ++ str (s + ma) in
          fits_as w sp (mx + (ma + m)) (mx + ma + m) r (λ s. calls x s ++ inner (s + mx)) (λ s. all_starts p sizes (tree.more x all) s ++ str (s + (mx + ma))) z (λ s. joined x all str s)
          (fits_after (walk_of x k) (λ i. walk_branches p lists node c qs all (λ xs. rest (i ∷ xs))) (spots_of x k) (spots_branches p lists node c qs all spr) mx (root_size x) (ma + m) r (calls x) inner
          (fits x k (all_left Counts (calls_in x) (calls_in_all all) h))
          (λ i. fits_branches c qs all (λ xs. rest (i ∷ xs)) spr m r str (all_right Counts (calls_in x) (calls_in_all all) h) (λ xs. rests (i ∷ xs))))

    abbrev pub AllCount : List EquationTree → Type 0
    AllCount qs = (j : ℕ) (q : EquationTree) → slice_get qs j ≡ Some q → All Counts (calls_in q.right)

    fits_equations : (qs : List EquationTree) (s : ℕ) → AllCount qs → map start_of (equation_spots p lists node qs s) ≡ equation_starts p sizes qs s
    fits_equations [] s h = refl
    fits_equations (q ∷ qs) s h =
        let k = left_clock p lists node q in
        let w = walk_right p lists node q s in
        let f = fits q.right k (h 0 q refl) s in
        let e = f.0 in
        let here = spots_of q.right k s in
        let s' = s + length w.inner in
        let there : s' ≡ s + (size q.right - root_size q.right) = omega (arith, e) in
        map-append start_of here (equation_spots p lists node qs s') ∙ ap (λ l. l ++ map start_of (equation_spots p lists node qs s')) f.2
        ∙ ap (λ l. calls q.right s ++ l) (fits_equations qs s' (λ j q e. h (suc j) q e)) ∙ ap (λ n. calls q.right s ++ equation_starts p sizes qs n) there

    pub fits_node : AllCount node.equations → map start_of (node_spots p lists node) ≡ node_starts p sizes node
    fits_node h = fits_equations node.equations (variable_count p lists node) h
