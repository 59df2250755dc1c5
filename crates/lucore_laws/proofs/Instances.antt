-- What stands in an instance that has a place in the flat list is read there, and the instances of its calls have places too.
use Rattle.std.proofs.Common.{◌≡◌, ℕ, suc, ◌+◌, ◌<◌, inl, inr, List, [], ◌∷◌, ◌++◌, length, map, Some, refl, sym, ap, ◌∙◌, subst, arith}
use Rattle.std.specs.Prelude.{slice_get, option_map, IfSome}
use Rattle.std.proofs.lemmas.Option.{slice_get_within, same_Some}
use Rattle.lutree.specs.Tree.{Tree, DeclarationTree, EquationTree, NodeTree, ProgramTree}
use Rattle.lutree.specs.Tree as tree
use Rattle.luflow.specs.declared.form.Flow.{Flow}
use Rattle.luflow.specs.Program.{FlatView}
use Rattle.lusource.specs.Names.{variables_of, name_at, clock_of, AreDistinct}
use Rattle.lustat_rules.specs.Scope.{declarations_of, node_called}
use Rattle.lustat_rules.specs.Scope as rules
use Rattle.lustat_rules.specs.Naming.{value_count}
use Rattle.lustat_rules.specs.Clocks.{HasClock}
use Rattle.lucore_laws.specs.Layout.{Root, walk_right, root_flow, inner_flows, variable_flow, variable_place, variable_count, node_flows, clock_place}
use Rattle.lucore_laws.specs.Layout.Root.{own, at}
use Rattle.lucore_laws.proofs.Each.{Each, each_right, each_left, each_at, each_all}
use Rattle.lucore_laws.proofs.Names.{get-front, all_at, mapped_some, get-names, place_at, clock_named}
use Rattle.lucore_laws.proofs.Well.{Known}
use Rattle.lucore_laws.proofs.Roots.{LeftRoots, Roots, roots_stand, parts, length-front, front, get-input, get-variable}
use Rattle.lucore_laws.proofs.ListToSource.{name_there}
use Rattle.lucore_laws.proofs.NodeStatic.{variables}
use Rattle.lucore_laws.proofs.Facts.{Below, NodeFacts}
use Rattle.lucore_laws.specs.Reads.{Position, Occurrence, Instance, Item, if_there, clocked, output, items, left_clock, left_items, equation_items, input_items, node_items}
use Rattle.lucore_laws.specs.Reads.Occurrence.{variable, operator}
use Rattle.lucore_laws.proofs.Graph.{Every, every_right, every_join, Model, form_targets, clock_targets, FlowHolds, Hold, Solves, solves_hold}
use Rattle.lucore_laws.proofs.Places.{spot, right_spot, left_place, find, spotted, IsOperator, FlatReads, Step}
use Rattle.lucore_laws.proofs.Placing.{Good, variable_spot, operator_spot, steps, clocked_same, RootGood, good}

joined : (f : Occurrence → ℕ) (xs ys : List Occurrence) → map f (xs ++ ys) ≡ map f xs ++ map f ys
joined f [] ys = refl
joined f (x ∷ xs) ys = ap (λ l. f x ∷ l) (joined f xs ys)

module _ (p : ProgramTree) (lists : List (List Flow)) (main : List ℕ) (flat : FlatView) (node : NodeTree) (facts : NodeFacts p node) (here : Instance) (apart : (f : List ℕ) (n : NodeTree) → node_called p f ≡ Some n → AreDistinct (variables_of n))
    (node_is : node_called p here.node ≡ Some node) (m : Model ℕ) (found : find p lists main here.path ≡ record { node = here.node; on = m.on }) (base_is : m.base ≡ map (spotted p lists main) here.clock)
    (given_are : (r : ℕ) → r < length node.inputs → m.given r ≡ map (spotted p lists main) (if_there (slice_get here.arguments r)))
    (values : (n : ℕ) (q : EquationTree) → slice_get node.equations n ≡ Some q → IfSome (value_count p q.right) (λ count. length q.left ≡ count))
    (sol : Solves (FlatReads p lists main flat) m (node_flows p lists node)) where
  abbrev G : ℕ → ℕ → Type 0
  G = FlatReads p lists main flat

  abbrev at_place : Occurrence → ℕ
  at_place = spotted p lists main

  abbrev IsGood : Item → Type 0
  IsGood = Good p lists main flat node (Below node) here apart node_is m found base_is

  abbrev Steps : Occurrence → Occurrence → Type 0
  Steps = Step p lists main flat

  abbrev var : List ℕ → Occurrence
  var x = variable here.path x

  abbrev vp : List ℕ → ℕ
  vp x = variable_place p lists node x

  abbrev nv : ℕ
  nv = variable_count p lists node

  stepped : (x : Occurrence) (y : ℕ) (vs : List Occurrence) (ts : List ℕ) → at_place x ≡ y → map at_place vs ≡ ts → Every (G y) ts → Every (Steps x) vs
  stepped = steps p lists main flat node (Below node) here apart node_is m found base_is

  var_spot : (x : List ℕ) → at_place (var x) ≡ m.on (vp x)
  var_spot = variable_spot p lists main flat node (Below node) here apart node_is m found base_is

  -- a flow at a variable's place reads what it looks at
  abbrev HasRoot : List ℕ → Flow → Type 0
  HasRoot x f = FlowHolds G m (vp x) f

  abbrev F : List ℕ → Flow
  F x = variable_flow p lists node node.equations nv x

  roots_hold : Roots p lists node HasRoot node.equations nv
  roots_hold = go node.equations nv (λ j q e. (j, e)) (roots_stand p lists node facts.anew)
    where
      one : (j : ℕ) (q : EquationTree) (i : ℕ) (x : List ℕ) (f : Flow) → slice_get node.equations j ≡ Some q → slice_get q.left i ≡ Some x → F x ≡ f → HasRoot x f
      one j q i x f e named same =
          let known = all_at (Known p node (Below node)) q.left i x (facts.lefts j q e) named in
          let out = all_at (λ x. ¬ rules.IsInput node x) q.left i x (facts.anew j q e).no_input named in
          subst (HasRoot x) same (sol (vp x) (F x) (get-variable p lists node x known out))

      lefts : (j : ℕ) (q : EquationTree) (root : Root) → slice_get node.equations j ≡ Some q → Each (λ j x. F x ≡ root_flow p lists node q root j x) 0 q.left → Each (λ j x. HasRoot x (root_flow p lists node q root j x)) 0 q.left
      lefts j q root e h =
          each_all (λ j x. HasRoot x (root_flow p lists node q root j x)) 0 q.left (λ i x named. one j q i x (root_flow p lists node q root (0 + i) x) e named (each_at (λ j x. F x ≡ root_flow p lists node q root j x) 0 q.left i x h named))

      go : (qs : List EquationTree) (s : ℕ) → ((j : ℕ) (q : EquationTree) → slice_get qs j ≡ Some q → (i : ℕ) × (slice_get node.equations i ≡ Some q)) → Roots p lists node (λ x f. F x ≡ f) qs s → Roots p lists node HasRoot qs s
      go [] s there r = tt
      go (q ∷ qs) s there r =
          let t = there 0 q refl in
          (lefts t.0 q (walk_right p lists node q s).root t.1 r.0, go qs (s + length (walk_right p lists node q s).inner) (λ j q e. there (suc j) q e) r.1)

  inner_hold : Hold G m nv (inner_flows p lists node node.equations nv)
  inner_hold =
      let inner = inner_flows p lists node node.equations nv in
      let h = subst (Hold G m 0) (parts p lists node) (solves_hold G m (node_flows p lists node) sol) in
      let l = length-front p lists node in
      let z : 0 + length (front p lists node) ≡ nv = omega arith in
      subst (λ n. Hold G m n inner) z (each_right (FlowHolds G m) 0 (front p lists node) inner h)

  -- a variable's flow reads the variable of its clock
  clock_read : (n : ℕ) (q : EquationTree) → slice_get node.equations n ≡ Some q → (i : ℕ) (x : List ℕ) → slice_get q.left i ≡ Some x → Every (Steps (var x)) (clocked p here node (clock_of node x))
  clock_read n q e i x named =
      let a = facts.agree n q e in
      let has = all_at (λ x. HasClock node x a.0) q.left i x a.1 named in
      let k = clock_of node x in
      let has' : HasClock node x k = subst (HasClock node x) (sym (clock_named (declarations_of node) x a.0 has)) has in
      let g = mapped_some (λ (f : Flow). f.clock) (slice_get (node_flows p lists node) (vp x)) (clock_place node k) (variables p lists node facts x k has') in
      let read = every_right (G (m.on (vp x))) (form_targets m g.0.form) (clock_targets m g.0.clock) (sol (vp x) g.0 g.1) in
      stepped (var x) (m.on (vp x)) (clocked p here node k) (clock_targets m (clock_place node k)) (var_spot x) (clocked_same p lists main flat node (Below node) here apart node_is m found base_is k)
      (subst (λ c. Every (G (m.on (vp x))) (clock_targets m c)) g.2 read)

  left_good : (right : Tree) (t : Position) (j : ℕ) (xs : List (List ℕ)) → ((i : ℕ) (x : List ℕ) → slice_get xs i ≡ Some x → Steps (var x) (output p here node right t (j + i)) × Every (Steps (var x)) (clocked p here node (clock_of node x))) → Every IsGood (left_items p here node right t j xs)
  left_good right t j [] h = tt
  left_good right t j (x ∷ xs) h =
      let z : j + 0 ≡ j = omega arith in
      let first = h 0 x refl in (
        (subst (λ n. Steps (var x) (output p here node right t n)) z first.0, first.1),
        left_good right t (suc j) xs (λ i y e.
            let z : j + suc i ≡ suc j + i = omega arith in
            let r = h (suc i) y e in
            (subst (λ n. Steps (var y) (output p here node right t n)) z r.0, r.1)),
      )

  -- an operator is the only value of its right side
  single : (e : Tree) (t : Position) (w : ℕ) → IfSome (value_count p e) (λ count. w ≡ count) → IsOperator p lists main (output p here node e t 0) → w ≡ 1
  single (tree.number n) t w h o = h
  single (tree.truth b) t w h o = h
  single (tree.label x) t w h o = h
  single (tree.variable x) t w h o = h
  single (tree.unary op a) t w h o = h
  single (tree.binary op a b) t w h o = h
  single (tree.choice c a b) t w h o = h
  single (tree.when a c) t w h o = h
  single (tree.current x) t w h o = h
  single (tree.merge c ps all) t w h o = h
  single (tree.call f all) t w h o = absurd o

  abbrev Rooted : EquationTree → Position → Root → Type 0
  Rooted q t root =
      RootGood p lists main flat node (Below node) here apart node_is m found base_is q.right (left_clock p here node q) t (length q.left) root

  equation_good : (n : ℕ) (q : EquationTree) (root : Root) → slice_get node.equations n ≡ Some q → Rooted q (record { equation = n; operands = [] }) root → LeftRoots p lists node HasRoot q root
      → Every IsGood (left_items p here node q.right (record { equation = n; operands = [] }) 0 q.left) × Every IsGood (items p here node q.right (left_clock p here node q) (record { equation = n; operands = [] }))
  equation_good n q (own f) e r roots =
      let t : Position = record { equation = n; operands = [] } in
      let x0 = name_at q.left 0 in
      let first = name_there q.left 0 (facts.some n q e) in
      let holds = each_at (λ j x. HasRoot x (root_flow p lists node q (own f) j x)) 0 q.left 0 x0 roots first in
      let there : at_place (operator here.path t) ≡ m.on (vp x0) = operator_spot p lists main flat node (Below node) here apart node_is m found base_is t ∙ ap (λ o. m.on (left_place p lists node o)) e in
      let g = r (vp x0) there holds in
      let one = single q.right t (length q.left) (values n q e) (g.1 0).1 in (
        left_good q.right t 0 q.left (λ i x named.
            let lt = slice_get_within q.left i x named in
            let z : i ≡ 0 = omega (arith, lt, one) in
            let same : x ≡ x0 = same_Some x x0 (sym (subst (λ n. slice_get q.left n ≡ Some x) z named) ∙ first) in
            (inr (var_spot x ∙ ap (λ x. m.on (vp x)) same ∙ sym (g.1 (0 + i)).0, tt, (g.1 (0 + i)).1), clock_read n q e i x named)),
        g.0,
      )
  equation_good n q (at a) e r roots =
      let t : Position = record { equation = n; operands = [] } in (
        left_good q.right t 0 q.left (λ i x named.
            let lt = slice_get_within q.left i x named in
            let holds = each_at (λ j x. HasRoot x (root_flow p lists node q (at a) j x)) 0 q.left i x roots named in
            let out = r.1 (0 + i) (omega (arith, lt)) in
            (inl (subst (λ n. G n (at_place (output p here node q.right t (0 + i)))) (sym (var_spot x)) (subst (G (m.on (vp x))) (sym out) holds.0)), clock_read n q e i x named)),
        r.0,
      )

  equations_good : (qs : List EquationTree) (s n : ℕ) → ((j : ℕ) (q : EquationTree) → slice_get qs j ≡ Some q → slice_get node.equations (n + j) ≡ Some q) → ((j : ℕ) → right_spot p lists node node.equations nv (n + j) ≡ right_spot p lists node qs s j) → Hold G m s (inner_flows p lists node qs s) → Roots p lists node HasRoot qs s → Every IsGood (equation_items p here node qs n)
  equations_good [] s n there spots hold roots = tt
  equations_good (q ∷ qs) s n there spots hold roots =
      let z : n + 0 ≡ n = omega arith in
      let e : slice_get node.equations n ≡ Some q = ap (slice_get node.equations) (sym z) ∙ there 0 q refl in
      let t : Position = record { equation = n; operands = [] } in
      let k = left_clock p here node q in
      let w = walk_right p lists node q s in
      let s' = s + length w.inner in
      let rest = inner_flows p lists node qs s' in
      let is : right_spot p lists node node.equations nv n ≡ spot q.right k s = ap (right_spot p lists node node.equations nv) (sym z) ∙ spots 0 in
      let r = good p lists main flat node (Below node) here apart node_is m found base_is q.right k t s (length q.left) (facts.rights n q e) is (each_left (FlowHolds G m) s w.inner rest hold) in
      let g = equation_good n q w.root e r roots.0 in
      let li = left_items p here node q.right t 0 q.left in
      let it = items p here node q.right k t in
      let ri = equation_items p here node qs (suc n) in
      let more = equations_good qs s' (suc n) (λ j q e. let y : suc n + j ≡ n + suc j = omega arith in ap (slice_get node.equations) y ∙ there (suc j) q e) (λ j. let y : suc n + j ≡ n + suc j = omega arith in ap (right_spot p lists node node.equations nv) y ∙ spots (suc j)) (each_right (FlowHolds G m) s w.inner rest hold) roots.1 in
      every_join IsGood li (it ++ ri) g.0 (every_join IsGood it ri g.1 more)

  inputs_good : (ds : List DeclarationTree) (r : ℕ) → ((j : ℕ) (d : DeclarationTree) → slice_get ds j ≡ Some d → slice_get node.inputs (r + j) ≡ Some d) → Every IsGood (input_items p here node ds r)
  inputs_good [] r there = tt
  inputs_good (d ∷ ds) r there =
      let z : r + 0 ≡ r = omega arith in
      let e = ap (slice_get node.inputs) (sym z) ∙ there 0 d refl in
      let lt = slice_get_within node.inputs r d e in
      let name = get-names (declarations_of node) r ∙ ap (option_map (λ (d : DeclarationTree). d.name)) (get-front node.inputs (node.outputs ++ node.locals) r lt ∙ e) in
      let place = place_at (variables_of node) d.name r facts.apart name in
      let vs = if_there (slice_get here.arguments r) in
      let same : map at_place (vs ++ here.clock) ≡ m.given r ++ m.base = joined at_place vs here.clock ∙ ap (λ l. l ++ map at_place here.clock) (sym (given_are r lt)) ∙ ap (λ l. m.given r ++ l) (sym base_is) in (
        stepped (var d.name) (m.on r) (vs ++ here.clock) (m.given r ++ m.base) (var_spot d.name ∙ ap m.on place) same (sol r _ (get-input p lists node r d e)),
        inputs_good ds (suc r) (λ j d e. let y : suc r + j ≡ r + suc j = omega arith in ap (slice_get node.inputs) y ∙ there (suc j) d e),
      )

  pub node_good : Every IsGood (node_items p here node)
  node_good =
      every_join IsGood (input_items p here node node.inputs 0) (equation_items p here node node.equations 0)
      (inputs_good node.inputs 0 (λ j d e. let y : 0 + j ≡ j = omega arith in ap (slice_get node.inputs) y ∙ e))
      (equations_good node.equations nv 0 (λ j q e. let y : 0 + j ≡ j = omega arith in ap (slice_get node.equations) y ∙ e) (λ j. let y : 0 + j ≡ j = omega arith in ap (right_spot p lists node node.equations nv) y) inner_hold roots_hold)
