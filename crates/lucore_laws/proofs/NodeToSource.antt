-- Solutions of the open lists are solutions of the nodes, at all paths.
use Rattle.std.proofs.Common.{◌≡◌, ℕ, suc, ◌+◌, ◌<◌, ◌≤◌, List, [], ◌∷◌, ◌++◌, length, Option, Some, None, refl, sym, ap, ◌∙◌, subst, arith}
use Rattle.std.specs.Prelude.{slice_get, option_map}
use Rattle.std.proofs.lemmas.Option.{slice_get_within}
use Rattle.lutree.specs.Tree.{DeclarationTree, EquationTree, NodeTree, ProgramTree}
use Rattle.luflow.specs.declared.form.Flow.{Flow}
use Rattle.luflow.specs.Streams.{Stream, Ticks}
use Rattle.lusource.specs.Names.{variables_of, AreDistinct}
use Rattle.lustat_rules.specs.Scope.{declarations_of, node_called}
use Rattle.lusource.specs.Source.{Named, CallInstance, calls, output, LeftHolds, EquationsHold, all_sites, sites, InstanceHolds, Path, If, sites_of, HoldsAt}
use Rattle.lustat_rules.specs.Scope as rules
use Rattle.lustat_rules.specs.Naming.{Calls, Reaches}
use Rattle.lucore_laws.specs.Layout.{Root, walk_right, left_clock, root_flow, inner_flows, variable_flow, variable_place, variable_count, list_of, node_flows, AreLists}
use Rattle.lucore_laws.specs.Layout.Root.{own, at}
use Rattle.lucore_laws.proofs.Each.{Each, each_left, each_right, each_join, each_at, each_all}
use Rattle.lucore_laws.proofs.Names.{get-front, all_at, get-names, place_at, listed}
use Rattle.lucore_laws.proofs.Open.{Model, flow_stream, FlowHolds, Hold, Solves, solves_hold, root_stream}
use Rattle.lucore_laws.proofs.Spots.{Spot, spots, equation_spots, node_spots, spots_in, streams_of, place_named, of_spot, length-spots, length-sites}
use Rattle.lucore_laws.proofs.Well.{IsWell, Known}
use Rattle.lucore_laws.proofs.Roots.{Roots, roots_stand, parts, length-front, front, get-input, get-variable}
use Rattle.lucore_laws.proofs.ListToSource.{within, Served, Stand, means}
use Rattle.lucore_laws.proofs.Facts.{Below, NodeFacts}
use Rattle.lucore_laws.proofs.ByCalls.{by_calls}

-- a variable with the flow of a root has the root's stream
pub root_flow_stream : (p : ProgramTree) (lists : List (List Flow)) (node : NodeTree) (base : Ticks) (m : Model) (q : EquationTree) (root : Root) (j : ℕ) (x : List ℕ) → flow_stream base m (root_flow p lists node q root j x) ≡ root_stream base m root j
root_flow_stream p lists node base m q (own f) j x = refl
root_flow_stream p lists node base m q (at i) j x = refl

module _ (p : ProgramTree) (lists : List (List Flow)) (node : NodeTree) (facts : NodeFacts p node) (base : Ticks) (m : Model) (apart : (f : List ℕ) (n : NodeTree) → node_called p f ≡ Some n → AreDistinct (variables_of n)) where
  abbrev all_spots : List Spot
  all_spots = node_spots p lists node

  abbrev var : Named
  var x = m.on (variable_place p lists node x)

  abbrev inside : ℕ → Named
  inside = within p lists node (Below node) base m all_spots apart

  abbrev IsServed : ℕ → CallInstance → Type 0
  IsServed = Served p lists node (Below node) base m all_spots apart

  abbrev HasRoot : List ℕ → Flow → Type 0
  HasRoot x f = var x ≡ flow_stream base m f

  left_holds : (q : EquationTree) (root : Root) (val : ℕ → Stream) (i : ℕ) (w : ℕ) → ((j : ℕ) → j < w → root_stream base m root j ≡ output p node base var inside q.right (left_clock p lists node q) i j) → (j : ℕ) (xs : List (List ℕ)) → j + length xs ≤ w → Each (λ j x. HasRoot x (root_flow p lists node q root j x)) j xs → LeftHolds p node base var inside q.right (left_clock p lists node q) i j xs
  left_holds q root val i w h j [] le r = tt
  left_holds q root val i w h j (x ∷ xs) le r =
      (r.0 ∙ root_flow_stream p lists node base m q root j x ∙ h j (omega arith), left_holds q root val i w h (suc j) xs (omega arith) r.1)

  equations_hold : (qs : List EquationTree) (s i : ℕ) → ((j : ℕ) (q : EquationTree) → slice_get qs j ≡ Some q → IsWell p node (Below node) q.right (length q.left)) → Stand p lists node (Below node) base m all_spots apart i (equation_spots p lists node qs s) → Hold base m s (inner_flows p lists node qs s) → Roots p lists node HasRoot qs s → EquationsHold p node base var inside qs i × Each IsServed i (all_sites p node base var inside qs i)
  equations_hold [] s i well stand hold roots = (tt, tt)
  equations_hold (q ∷ qs) s i well stand hold roots =
      let k = left_clock p lists node q in
      let w = walk_right p lists node q s in
      let s' = s + length w.inner in
      let S = spots p lists node q.right k s in
      let r = means p lists node (Below node) base m all_spots apart q.right k i (length q.left) (well 0 q refl) s (each_left _ i S (equation_spots p lists node qs s') stand) (each_left (FlowHolds base m) s w.inner (inner_flows p lists node qs s') hold) in
      let stand' = subst (λ n. Stand p lists node (Below node) base m all_spots apart (i + n) (equation_spots p lists node qs s')) (length-spots p lists node q.right k s) (each_right _ i S (equation_spots p lists node qs s') stand) in
      let rest = equations_hold qs s' (i + calls q.right) (λ j q e. well (suc j) q e) stand' (each_right (FlowHolds base m) s w.inner (inner_flows p lists node qs s') hold) roots.1 in
      let A = sites p node base var inside q.right k i in
      let B = all_sites p node base var inside qs (i + calls q.right) in (
        (left_holds q w.root (λ j. m.on j) i (length q.left) r.0 0 q.left (omega arith) roots.0, rest.0),
        each_join IsServed i A B r.1 (subst (λ n. Each IsServed (i + n) B) (sym (length-sites p node base var inside q.right k i)) rest.1),
      )

  abbrev F : List ℕ → Flow
  F x = variable_flow p lists node node.equations (variable_count p lists node) x

  -- where the open list holds, every variable on a left side has the stream of its root
  roots_hold : Solves base m (node_flows p lists node) → Roots p lists node HasRoot node.equations (variable_count p lists node)
  roots_hold sol = go node.equations (variable_count p lists node) (λ j q e. (j, e)) (roots_stand p lists node facts.anew)
    where
      one : (j : ℕ) (q : EquationTree) (i : ℕ) (x : List ℕ) (f : Flow) → slice_get node.equations j ≡ Some q → slice_get q.left i ≡ Some x → F x ≡ f → HasRoot x f
      one j q i x f e named same =
          let known = all_at (Known p node (Below node)) q.left i x (facts.lefts j q e) named in
          let out = all_at (λ x. ¬ rules.IsInput node x) q.left i x (facts.anew j q e).no_input named in
          sol (variable_place p lists node x) (F x) (get-variable p lists node x known out) ∙ ap (flow_stream base m) same

      lefts : (j : ℕ) (q : EquationTree) (root : Root) → slice_get node.equations j ≡ Some q → Each (λ j x. F x ≡ root_flow p lists node q root j x) 0 q.left → Each (λ j x. HasRoot x (root_flow p lists node q root j x)) 0 q.left
      lefts j q root e h =
          each_all (λ j x. HasRoot x (root_flow p lists node q root j x)) 0 q.left (λ i x named. one j q i x (root_flow p lists node q root (0 + i) x) e named (each_at (λ j x. F x ≡ root_flow p lists node q root j x) 0 q.left i x h named))

      go : (qs : List EquationTree) (s : ℕ) → ((j : ℕ) (q : EquationTree) → slice_get qs j ≡ Some q → (i : ℕ) × (slice_get node.equations i ≡ Some q)) → Roots p lists node (λ x f. F x ≡ f) qs s → Roots p lists node HasRoot qs s
      go [] s there r = tt
      go (q ∷ qs) s there r =
          let t = there 0 q refl in
          (lefts t.0 q (walk_right p lists node q s).root t.1 r.0, go qs (s + length (walk_right p lists node q s).inner) (λ j q e. there (suc j) q e) r.1)

  inner_hold : Solves base m (node_flows p lists node) → Hold base m (variable_count p lists node) (inner_flows p lists node node.equations (variable_count p lists node))
  inner_hold sol =
      let inner = inner_flows p lists node node.equations (variable_count p lists node) in
      let h = subst (Hold base m 0) (parts p lists node) (solves_hold base m (node_flows p lists node) sol) in
      let l = length-front p lists node in
      let z : 0 + length (front p lists node) ≡ variable_count p lists node = omega arith in
      subst (λ n. Hold base m n inner) z (each_right (FlowHolds base m) 0 (front p lists node) inner h)

  -- an instance of the node, read from its list
  pub node_holds : (given : List Stream) → Solves base m (node_flows p lists node) → ((r : ℕ) → r < length node.inputs → slice_get given r ≡ Some (m.given r)) → InstanceHolds p node base given var inside × Each IsServed 0 (all_sites p node base var inside node.equations 0)
  node_holds given sol given_are =
      let stand = each_all (λ j x. slice_get all_spots j ≡ Some x) 0 all_spots (λ j x e. let z : 0 + j ≡ j = omega arith in ap (slice_get all_spots) z ∙ e) in
      let r = equations_hold node.equations (variable_count p lists node) 0 facts.rights stand (inner_hold sol) (roots_hold sol) in (
        record {
          inputs = λ j d e.
              let place = place_at (variables_of node) d.name j facts.apart (get-names (declarations_of node) j ∙ ap (option_map (λ (d : DeclarationTree). d.name)) (get-front node.inputs (node.outputs ++ node.locals) j (slice_get_within node.inputs j d e) ∙ e)) in
              given_are j (slice_get_within node.inputs j d e) ∙ ap Some (sym (sol j _ (get-input p lists node j d e)) ∙ ap m.on (sym place));
          equations = r.0;
        },
        r.1,
      )

module _ (p : ProgramTree) (lists : List (List Flow)) (are : AreLists p lists) (facts : (f : List ℕ) (n : NodeTree) → node_called p f ≡ Some n → NodeFacts p n) (never : (f : List ℕ) → ¬ Reaches p f f) where
  apart : (f : List ℕ) (n : NodeTree) → node_called p f ≡ Some n → AreDistinct (variables_of n)
  apart f n e = (facts f n e).apart

  -- what is shown of each name, along calls
  abbrev Reads : List ℕ → Type 0
  Reads f =
      (node : NodeTree) → node_called p f ≡ Some node → (base : Ticks) (given : List Stream) (m : Model) → Solves base m (list_of p lists f) → ((r : ℕ) → r < length node.inputs → slice_get given r ≡ Some (m.given r)) → (path : Path) → HoldsAt p f base given (streams_of p lists f m.on) path

  abbrev own_streams : Option NodeTree → Model → Named
  own_streams o m x = m.on (place_named o x)

  abbrev inner_streams : Option NodeTree → Model → ℕ → Named
  inner_streams o m i x = of_spot (slice_get (spots_in p lists o) i) (λ spot. m.on (spot.at + place_named (node_called p spot.node) x))

  abbrev HereHolds : Ticks → List Stream → Model → Option NodeTree → Type 0
  HereHolds base given m o = If o (λ node. InstanceHolds p node base given (own_streams o m) (inner_streams o m))

  abbrev path_streams : Option NodeTree → Model → ℕ → Path → Named
  path_streams o m i path x = of_spot (slice_get (spots_in p lists o) i) (λ spot. streams_of p lists spot.node (λ y. m.on (spot.at + y)) path x)

  abbrev BelowHolds : Ticks → Model → ℕ → Path → Option NodeTree → Type 0
  BelowHolds base m i path o =
      If (slice_get (sites_of p o base (own_streams o m) (inner_streams o m)) i) (λ site. HoldsAt p site.node site.base site.arguments (path_streams o m i) path)

  below_holds : (node : NodeTree) (base : Ticks) (m : Model) (i : ℕ) (path : Path) → NodeFacts p node → Each (Served p lists node (Below node) base m (node_spots p lists node) apart) 0 (sites_of p (Some node) base (own_streams (Some node) m) (inner_streams (Some node) m)) → ((g : List ℕ) → Below node g → Reads g) → (o : Option CallInstance) → slice_get (sites_of p (Some node) base (own_streams (Some node) m) (inner_streams (Some node) m)) i ≡ o → If o (λ site. HoldsAt p site.node site.base site.arguments (path_streams (Some node) m i) path)
  below_holds node base m i path fs served rest None e = tt
  below_holds node base m i path fs served rest (Some c) e =
      let z : 0 + i ≡ i = omega arith in
      let sites = sites_of p (Some node) base (own_streams (Some node) m) (inner_streams (Some node) m) in
      let s0 = each_at (Served p lists node (Below node) base m (node_spots p lists node) apart) 0 sites i c served e in
      let s = subst (λ i. Served p lists node (Below node) base m (node_spots p lists node) apart i c) z s0 in
      let same : path_streams (Some node) m i ≡ streams_of p lists c.node (λ y. m.on (s.spot.at + y)) =
      ap (λ o (path : Path) (x : List ℕ). of_spot o (λ spot. streams_of p lists spot.node (λ y. m.on (spot.at + y)) path x)) s.there
      ∙ ap (λ f. streams_of p lists f (λ y. m.on (s.spot.at + y))) (sym s.same) in
      subst (λ σ. HoldsAt p c.node c.base c.arguments σ path) (sym same)
      (rest c.node s.below s.callee s.found c.base c.arguments (record { on = λ y. m.on (s.spot.at + y); given = s.given }) s.solves (s.given_are s.callee s.found) path)

  step : (f : List ℕ) → ((g : List ℕ) → Calls p f g → Reads g) → Reads f
  step f rest node found base given m sol given_are path =
      let fs = facts f node found in
      let sol' = subst (Solves base m) (listed p lists are f node found) sol in
      let h = node_holds p lists node fs base m apart given sol' given_are in
      at_path path h.0 h.1
    where
      below : (g : List ℕ) → Below node g → Reads g
      below g b = rest g (node, found, b)

      at_path : (path : Path) → HereHolds base given m (Some node) → Each (Served p lists node (Below node) base m (node_spots p lists node) apart) 0 (sites_of p (Some node) base (own_streams (Some node) m) (inner_streams (Some node) m)) → HoldsAt p f base given (streams_of p lists f m.on) path
      at_path [] here served = subst (HereHolds base given m) (sym found) here
      at_path (i ∷ path) here served = subst (BelowHolds base m i path) (sym found) (below_holds node base m i path (facts f node found) served below _ refl)

  pub reads : (f : List ℕ) → Reads f
  reads = by_calls p never Reads step
