-- Calls and the edges of their graph.
use Rattle.std.proofs.Common.{◌≡◌, ◌<◌, inl, inr, ℕ, zero, suc, List, [], ◌∷◌, Some, length, drop, sym, ap, subst, ◌∙◌, arith, get_or}
use Rattle.std.specs.Prelude.{slice_get, map, Contains, Vec}
use Rattle.std.specs.Global.{Global}
use Rattle.std.proofs.lemmas.Option.{none-some, same_Some, slice_get_within, slice_get_past, slice_get-get_or}
use Rattle.std.proofs.lemmas.List.{get_or_default, get_or-take, length-take, length-map}
use Rattle.std.proofs.lemmas.List.Elements.{All-weaker}
use Rattle.lutree.specs.Tree.{NodeTree, ProgramTree}
use Rattle.lustat_rules.specs.Scope.{node_called}
use Rattle.lustat_rules.specs.Naming.{called_by, node_place, Calls, Reaches, IsCallOrder}
use Rattle.lubase.specs.Graph.{Graph, items_of, row_of, PointsTo, IsCycle, IsOrder}
use Rattle.lubase.specs.Graph as graph
use Rattle.lubase.proofs.Marks.{below_or_not}
use Rattle.lustat_rules.proofs.Calling.{place_of}
use Rattle.lutype.specs.CallGraph.{places_called, IsCallGraph, AreOnce, IsRecursive, NoneRecursiveBefore}
use Rattle.lutype.proofs.CallPlaces.{Means, means, meant, found_of, found_in}

-- a call of a node by a name, and the place of what it means
pub record CallAt (p : ProgramTree) (i j : ℕ) : Type 0 where
  pub node : NodeTree
  pub there : slice_get p.nodes i ≡ Some node
  pub name : List ℕ
  pub called : Contains (called_by node) name
  pub at_place : node_place p name ≡ Some j

called_node : (p : ProgramTree) (f : List ℕ) (i : ℕ) → Means p.nodes f i → (n : NodeTree) → slice_get p.nodes i ≡ Some n → node_called p f ≡ Some n
called_node p f i m n there = subst (λ x. node_called p f ≡ Some x) (same_Some m.node n (sym m.there ∙ there)) m.called

-- a name that a name reaches, and the place of what it means
pub record ReachesAt (p : ProgramTree) (f : List ℕ) (j : ℕ) : Type 0 where
  pub name : List ℕ
  pub at_place : node_place p name ≡ Some j
  pub way : Reaches p f name

source_inside : (g : Graph) (v w : ℕ) → PointsTo g v w → v < length g
source_inside g v w e =
    elim (below_or_not v (length g)) [
      | inl lt ↦ lt
      | inr past ↦
          let none : row_of g v ≡ [] = ap items_of (slice_get_past g v past) in
          absurd (omega (arith, e.listed.1, ap length none))
    ]

last_edge : (g : Graph) (u v : ℕ) → graph.Reaches g u v → (x : ℕ) × PointsTo g x v
last_edge g u v (graph.one _ _ e) = (u, e)
last_edge g u v (graph.more _ x _ way e) = (x, e)

-- the rows of a graph, by place
pub record AreRows (p : ProgramTree) (g : Graph) : Type 0 where
  pub long : length g ≡ length p.nodes
  pub rows : (i : ℕ) (n : NodeTree) → slice_get p.nodes i ≡ Some n → row_of g i ≡ places_called p n

row_at : (h : NodeTree → List ℕ) (p : List NodeTree) (g : Graph) → map (λ (row : Vec ℕ Global). row.items) g ≡ map h p → (i : ℕ) (n : NodeTree) → slice_get p i ≡ Some n → row_of g i ≡ h n
row_at h [] g e i n there = absurd (none-some n there)
row_at h (m ∷ p) [] e i n there = absurd (omega (arith, ap length e))
row_at h (m ∷ p) (row ∷ g) e zero n there = ap (λ rows. get_or rows 0 []) e ∙ ap h (same_Some m n there)
row_at h (m ∷ p) (row ∷ g) e (suc i) n there = row_at h p g (ap (drop 1) e) i n there

pub are_rows : (p : ProgramTree) (g : Graph) → IsCallGraph p g → AreRows p g
are_rows p g e = record { long = sym (length-map g (λ (row : Vec ℕ Global). row.items)) ∙ ap length e ∙ length-map p.nodes (places_called p); rows = row_at (places_called p) p.nodes g e }

module _ (p : ProgramTree) (g : Graph) (s : AreRows p g) where
  pub edge : (i j : ℕ) → CallAt p i j → PointsTo g i j
  edge i j c =
      record {
        listed = subst (λ row. Contains row j) (sym (s.rows i c.node c.there)) (found_in (node_place p) (called_by c.node) c.name j c.at_place c.called);
        inside = omega (arith, slice_get_within p.nodes j (means p c.name j c.at_place).node (means p c.name j c.at_place).there, s.long);
      }

  pub call_of : (i j : ℕ) → PointsTo g i j → CallAt p i j
  call_of i j e =
      let n : NodeTree = get_or p.nodes i unnamed in
      let there : slice_get p.nodes i ≡ Some n = slice_get-get_or p.nodes i unnamed (omega (arith, source_inside g i j e, s.long)) in
      let f = found_of (node_place p) (called_by n) j (subst (λ row. Contains row j) (s.rows i n there) e.listed) in
      record { node = n; there = there; name = f.name; called = f.among; at_place = f.found } where
        unnamed : NodeTree
        unnamed = record { name = []; inputs = []; outputs = []; locals = []; equations = [] }

  -- a call of the node that a name means
  call_at : (f h : List ℕ) (i j : ℕ) → Calls p f h → node_place p f ≡ Some i → node_place p h ≡ Some j → CallAt p i j
  call_at f h i j (n, called, has) at_f at_h =
      let m = means p f i at_f in
      record { node = m.node; there = m.there; name = h; called = subst (λ x. Contains (called_by x) h) (same_Some n m.node (sym called ∙ m.called)) has; at_place = at_h }

  -- WAYS OF CALLS ARE WAYS OF THE GRAPH

  pub way_along : (f h : List ℕ) (i j : ℕ) → Reaches p f h → node_place p f ≡ Some i → node_place p h ≡ Some j → graph.Reaches g i j
  way_along f h i j (Reaches.one _ _ call) at_f at_h = graph.one i j (edge i j (call_at f h i j call at_f at_h))
  way_along f h i j (Reaches.more _ k _ way call) at_f at_h =
      let here = place_of p k call.0 call.1 in
      graph.more i here.place j (way_along f k i here.place way at_f here.at_place) (edge here.place j (call_at k h here.place j call here.at_place at_h))

  pub way_back : (i j : ℕ) → graph.Reaches g i j → (f : List ℕ) → node_place p f ≡ Some i → ReachesAt p f j
  way_back i j (graph.one _ _ e) f at_f =
      let here = means p f i at_f in
      let c = call_of i j e in
      record { name = c.name; at_place = c.at_place; way = Reaches.one f c.name (c.node, called_node p f i here c.node c.there, c.called) }
  way_back i j (graph.more _ k _ way e) f at_f =
      let first = way_back i k way f at_f in
      let here = means p first.name k first.at_place in
      let c = call_of k j e in
      record { name = c.name; at_place = c.at_place; way = Reaches.more f first.name c.name first.way (c.node, called_node p first.name k here c.node c.there, c.called) }

  -- WHAT THE GRAPH TELLS

  -- a vertex that reaches itself is a node that does
  pub recursive_at : (i : ℕ) → IsCycle g i → IsRecursive p i
  recursive_at i cycle =
      let e = last_edge g i i cycle in
      let c = call_of e.0 i e.1 in
      let back = way_back i i cycle c.name c.at_place in
      let m = means p c.name i c.at_place in
      let again = means p back.name i back.at_place in
      let one_name : back.name ≡ m.node.name = sym again.named ∙ ap (λ (n : NodeTree). n.name) (same_Some again.node m.node (sym again.there ∙ m.there)) in
      (m.node, m.there, subst (λ x. Reaches p x m.node.name) (sym m.named) (subst (Reaches p c.name) one_name back.way))

  -- before the least vertex that does, no node does
  pub none_before : (v : ℕ) → ((u : ℕ) → u < v → ¬ IsCycle g u) → NoneRecursiveBefore p v
  none_before v least j n lt there way =
      let m = meant p.nodes j n there in
      least m.place (omega (arith, m.first, lt)) (way_along n.name n.name m.place m.place way m.at_place m.at_place)

  pub in_order : (order : List ℕ) → IsOrder g order → IsCallOrder p order
  in_order order o =
      record {
        all = λ i lt. o.all i (omega (arith, lt, s.long));
        after = λ k i j n f at_k there has at_f.
            let e = edge i j (record { node = n; there = there; name = f; called = has; at_place = at_f }) in
            let l = o.all j e.inside in
            let in_k : k < length order = slice_get_within order k i at_k in
            let caller : get_or order k 0 ≡ i = same_Some (get_or order k 0) i (sym (slice_get-get_or order k 0 in_k) ∙ at_k) in
            let callee : get_or order l.0 0 ≡ j = get_or_default order l.0 0 j l.1 ∙ l.2 in
            let behind : l.0 < k = o.behind k l.0 in_k l.1 (subst (λ x. PointsTo g x (get_or order l.0 0)) (sym caller) (subst (PointsTo g i) (sym callee) e)) in
            (l.0, omega (arith, behind, l.1, length-take k order), get_or-take k order l.0 j behind ∙ l.2);
      }

  pub once_each : (order : List ℕ) → IsOrder g order → AreOnce p order
  once_each order o = record { inside = All-weaker (λ i. i < length g) (λ i. i < length p.nodes) (λ i lt. omega (arith, lt, s.long)) order o.inside; once = o.once }
