-- Solutions of the nodes give solutions of the open lists.
use Rattle.std.proofs.Common.{◌≡◌, ℕ, suc, ◌+◌, ◌<◌, ◌≤◌, ⊎_elim, List, [], ◌∷◌, ◌++◌, length, map, Option, Some, None, refl, sym, ap, ◌∙◌, subst, arith, length-append}
use Rattle.std.specs.Prelude.{slice_get, option_map, Contains}
use Rattle.std.proofs.lemmas.List.{length-map}
use Rattle.std.proofs.lemmas.Option.{slice_get_within, slice_get-map}
use Rattle.lutree.specs.declared.expr.Condition.{Condition}
use Rattle.lutree.specs.Tree.{DeclarationTree, EquationTree, NodeTree, ProgramTree}
use Rattle.luflow.specs.declared.form.Flow.{Flow}
use Rattle.luflow.specs.Streams.{Stream, Ticks}
use Rattle.lusource.specs.Names.{variables_of, name_at, clock_of, AreDistinct}
use Rattle.lustat_rules.specs.Scope.{names_of, declarations_of, node_called}
use Rattle.lusource.specs.Source.{Named, CallInstance, calls, output, LeftHolds, EquationsHold, all_sites, sites, InstanceHolds, Path, SourceStreams, If, sites_of, HoldsAt}
use Rattle.lustat_rules.specs.Scope as rules
use Rattle.lustat_rules.specs.Naming.{Calls, Reaches}
use Rattle.lucore_laws.specs.Layout.{Root, walk_right, left_clock, root_flow, inner_flows, variable_flow, variable_place, variable_count, input_flows, node_flows, AreLists}
use Rattle.lucore_laws.proofs.Each.{Each, each_left, each_right, each_join, each_at, each_all, each_map}
use Rattle.lucore_laws.proofs.Names.{get-front, get-behind, contains_at, mapped_some, get-names, get_place, clock_cases, listed}
use Rattle.lucore_laws.proofs.Open.{Model, flow_stream, FlowHolds, Hold, hold_solves, root_stream}
use Rattle.lucore_laws.proofs.Spots.{Spot, spots, equation_spots, length-spots, length-sites}
use Rattle.lucore_laws.proofs.ListInstances.{has_instances}
use Rattle.lucore_laws.proofs.Well.{IsWell}
use Rattle.lucore_laws.proofs.Roots.{LeftRoots, Roots, rooted, parts, length-front, length-inputs, front, others}
use Rattle.lucore_laws.proofs.NodeToSource.{root_flow_stream}
use Rattle.lucore_laws.proofs.ListToFlat.{Has, Makes, makes_none, makes_join, makes_imp, makes_under, ListHas, Gives, KnownClock, Agree, Placed, Solved, solved_then, makes}
use Rattle.lucore_laws.proofs.Facts.{Below, NodeFacts}
use Rattle.lucore_laws.proofs.ByCalls.{by_calls}

module _ (p : ProgramTree) (lists : List (List Flow)) (node : NodeTree) (facts : NodeFacts p node) where
  -- a variable that is no input has an equation
  pub other_has_equation : (j : ℕ) (x : List ℕ) → slice_get (others p lists node) j ≡ Some x → Contains (rules.lefts_of node.equations) x
  other_has_equation j x e =
      let there : slice_get (variables_of node) (length node.inputs + j) ≡ Some x =
      get-names (declarations_of node) (length node.inputs + j)
      ∙ ap (option_map (λ (d : DeclarationTree). d.name)) (get-behind node.inputs (node.outputs ++ node.locals) (length node.inputs) j refl)
      ∙ sym (get-names (node.outputs ++ node.locals) j) ∙ e in
      ⊎_elim (λ (h : rules.IsInput node x).
      let c = contains_at (names_of node.inputs) x h in
      let d = mapped_some (λ (d : DeclarationTree). d.name) (slice_get node.inputs c.0) x (sym (get-names node.inputs c.0) ∙ c.1) in
      let lt = slice_get_within node.inputs c.0 d.0 d.1 in
      let also : slice_get (variables_of node) c.0 ≡ Some x = get-names (declarations_of node) c.0 ∙ ap (option_map (λ (d : DeclarationTree). d.name)) (get-front node.inputs (node.outputs ++ node.locals) c.0 lt ∙ d.1) ∙ ap Some d.2 in
      let same = facts.apart c.0 (length node.inputs + j) x also there in
      absurd (omega (arith, same, lt)))
      (λ (h : Contains (rules.lefts_of node.equations) x). h)
      (facts.defined (length node.inputs + j) x there)

module _ (p : ProgramTree) (lists : List (List Flow)) (node : NodeTree) (facts : NodeFacts p node) (base : Ticks) (σ : SourceStreams) (apart : (f : List ℕ) (n : NodeTree) → node_called p f ≡ Some n → AreDistinct (variables_of n)) (gives : (f : List ℕ) → Below node f → Gives p lists f) where
  abbrev var : Named
  var = σ []

  abbrev below : ℕ → Named
  below i = σ (i ∷ [])

  abbrev IsKnown : Option Condition → Type 0
  IsKnown = KnownClock p lists node (Below node) base σ apart gives

  abbrev HasStreams : Model → Type 0
  HasStreams = Agree p lists node (Below node) base σ apart gives

  abbrev IsPlaced : Model → ℕ → Spot → Type 0
  IsPlaced = Placed p lists node (Below node) base σ apart gives

  abbrev AreSolved : ℕ → List CallInstance → Type 0
  AreSolved = Solved p lists node (Below node) base σ apart gives

  known_one : (x : List ℕ) (k : Option Condition) → option_map (λ (d : DeclarationTree). d.clock) (rules.meaning node x) ≡ Some k → IsKnown k
  known_one x None e = tt
  known_one x (Some c) e = facts.clocks x c e

  clock_known : (x : List ℕ) → IsKnown (clock_of node x)
  clock_known x =
      ⊎_elim (λ (h : clock_of node x ≡ None). subst IsKnown (sym h) tt)
      (λ (h : option_map (λ (d : DeclarationTree). d.clock) (rules.meaning node x) ≡ Some (clock_of node x)). known_one x (clock_of node x) h)
      (clock_cases (declarations_of node) x)

  -- the root of each equation has the streams of its variables
  abbrev RootIs : Model → List ℕ → Flow → Type 0
  RootIs m x f = flow_stream base m f ≡ var x

  left_roots : (m : Model) (q : EquationTree) (root : Root) (i w : ℕ) → ((j : ℕ) → j < w → root_stream base m root j ≡ output p node base var below q.right (left_clock p lists node q) i j) → (j : ℕ) (xs : List (List ℕ)) → j + length xs ≤ w → LeftHolds p node base var below q.right (left_clock p lists node q) i j xs → Each (λ j x. RootIs m x (root_flow p lists node q root j x)) j xs
  left_roots m q root i w h j [] le holds = tt
  left_roots m q root i w h j (x ∷ xs) le holds =
      (root_flow_stream p lists node base m q root j x ∙ h j (omega arith) ∙ sym holds.0, left_roots m q root i w h (suc j) xs (omega arith) holds.1)

  equations_make : (qs : List EquationTree) (s i : ℕ) → ((j : ℕ) (q : EquationTree) → slice_get qs j ≡ Some q → IsWell p node (Below node) q.right (length q.left)) → AreSolved i (all_sites p node base var below qs i) → EquationsHold p node base var below qs i → Makes base HasStreams s (inner_flows p lists node qs s) (λ m. Roots p lists node (RootIs m) qs s × Each (IsPlaced m) i (equation_spots p lists node qs s))
  equations_make [] s i well sol holds = makes_none base HasStreams _ s (λ m a. (tt, tt))
  equations_make (q ∷ qs) s i well sol holds =
      let k = left_clock p lists node q in
      let w = walk_right p lists node q s in
      let s' = s + length w.inner in
      let SA = sites p node base var below q.right k i in
      let SR = all_sites p node base var below qs (i + calls q.right) in
      let first = makes p lists node (Below node) base σ apart gives clock_known HasStreams (λ m a. a) q.right k i (length q.left) (clock_known (name_at q.left 0)) (well 0 q refl) (each_left _ i SA SR sol) s in
      let SS = spots p lists node q.right k s in
      let TT = equation_spots p lists node qs s' in
      let First : Model → Type 0 = λ m. LeftRoots p lists node (RootIs m) q w.root × Each (IsPlaced m) i SS in
      let Rest : Model → Type 0 = λ m. Roots p lists node (RootIs m) qs s' × Each (IsPlaced m) (i + calls q.right) TT in
      let first' = makes_imp base HasStreams _ First s w.inner (λ m a r. (left_roots m q w.root i (length q.left) r.0 0 q.left (omega arith) holds.0, r.1)) first in
      let rest = equations_make qs s' (i + calls q.right) (λ j q e. well (suc j) q e) (solved_then p lists node (Below node) base σ apart gives i SA SR (calls q.right) (length-sites p node base var below q.right k i) sol) holds.1 in
      makes_imp base HasStreams (λ m. First m × Rest m) _ s (w.inner ++ inner_flows p lists node qs s') (λ m a r. ((r.0.0, r.1.0), each_join (IsPlaced m) i SS TT r.0.1 (subst (λ n. Each (IsPlaced m) (i + n) TT) (sym (length-spots p lists node q.right k s)) r.1.1)))
      (makes_join base HasStreams First Rest s w.inner (inner_flows p lists node qs s') first'
      (makes_under base HasStreams (λ m. HasStreams m × First m) Rest s' (inner_flows p lists node qs s') (λ m a. a.0) rest))

  abbrev nv : ℕ
  nv = variable_count p lists node

  abbrev streams : List Stream
  streams = map var (variables_of node)

  stream_at : (m : Model) (l : List Stream) → Has m 0 (streams ++ l) → (i : ℕ) (x : List ℕ) → slice_get (variables_of node) i ≡ Some x → m.on i ≡ var x
  stream_at m l h i x e =
      let z : 0 + i ≡ i = omega arith in
      subst (λ n. m.on n ≡ var x) z (each_at (λ x t. m.on x ≡ t) 0 streams i (var x) (each_left (λ x t. m.on x ≡ t) 0 streams l h) (slice_get-map var (variables_of node) i ∙ ap (option_map var) e))

  inputs_hold : (m : Model) (l : List Stream) (given : List Stream) → Has m 0 (streams ++ l) → ((r : ℕ) (s : Stream) → slice_get given r ≡ Some s → m.given r ≡ s) → ((j : ℕ) (d : DeclarationTree) → slice_get node.inputs j ≡ Some d → slice_get given j ≡ Some (var d.name))
      → (ds : List DeclarationTree) (r : ℕ) → ((j : ℕ) (d : DeclarationTree) → slice_get ds j ≡ Some d → slice_get node.inputs (r + j) ≡ Some d) → Hold base m r (input_flows p lists node r ds)
  inputs_hold m l given h are inputs [] r there = tt
  inputs_hold m l given h are inputs (d ∷ ds) r there =
      let z : r + 0 ≡ r = omega arith in
      let here = ap (slice_get node.inputs) (sym z) ∙ there 0 d refl in
      let name = get-names (declarations_of node) r ∙ ap (option_map (λ (d : DeclarationTree). d.name)) (get-front node.inputs (node.outputs ++ node.locals) r (slice_get_within node.inputs r d here) ∙ here) in (
        stream_at m l h r d.name name ∙ sym (are r (var d.name) (inputs r d here)),
        inputs_hold m l given h are inputs ds (suc r) (λ j d e. let y : suc r + j ≡ r + suc j = omega arith in ap (slice_get node.inputs) y ∙ there (suc j) d e),
      )

  others_hold : (m : Model) (l : List Stream) → Has m 0 (streams ++ l) → Roots p lists node (RootIs m) node.equations nv → Hold base m (length node.inputs) (map (variable_flow p lists node node.equations nv) (others p lists node))
  others_hold m l h roots =
      each_map (FlowHolds base m) (variable_flow p lists node node.equations nv) (length node.inputs) (others p lists node)
      (each_all (λ x name. FlowHolds base m x (variable_flow p lists node node.equations nv name)) (length node.inputs) (others p lists node) (λ j x e.
      let there : slice_get (variables_of node) (length node.inputs + j) ≡ Some x =
      get-names (declarations_of node) (length node.inputs + j)
      ∙ ap (option_map (λ (d : DeclarationTree). d.name)) (get-behind node.inputs (node.outputs ++ node.locals) (length node.inputs) j refl)
      ∙ sym (get-names (node.outputs ++ node.locals) j) ∙ e in
      stream_at m l h (length node.inputs + j) x there ∙ sym (rooted p lists node (RootIs m) node.equations nv x roots (other_has_equation p lists node facts j x e))))

  pub node_gives : (f : List ℕ) → node_called p f ≡ Some node → (given : List Stream) → InstanceHolds p node base given var below → AreSolved 0 (all_sites p node base var below node.equations 0) → ListHas p lists f node base given σ (node_flows p lists node)
  node_gives f found given holds sol =
      let inner = inner_flows p lists node node.equations nv in
      let mk = equations_make node.equations nv 0 facts.rights sol holds.equations in
      let ls = length-map (variables_of node) var in
      let lf = length-front p lists node in
      let lp = ap length (parts p lists node) in
      let ll : length (streams ++ mk.0) ≡ length (node_flows p lists node) = (let e = mk.1 in omega (arith, length-append streams mk.0, length-append (front p lists node) inner)) in (
        streams ++ mk.0,
        ll,
        λ m h are.
            let agree : HasStreams m = λ x lt. stream_at m mk.0 h (variable_place p lists node x) x (get_place (variables_of node) x lt) in
            let z : 0 + length streams ≡ nv = omega arith in
            let r = mk.2 m agree (subst (λ n. Has m n mk.0) z (each_right (λ x t. m.on x ≡ t) 0 streams mk.0 h)) in
            let first = inputs_hold m mk.0 given h are holds.inputs node.inputs 0 (λ j d e. let y : 0 + j ≡ j = omega arith in ap (slice_get node.inputs) y ∙ e) in
            let li = length-inputs p lists node 0 node.inputs in
            let y : length node.inputs ≡ 0 + length (input_flows p lists node 0 node.inputs) = omega arith in
            let variables = others_hold m mk.0 h r.1.0 in
            let fronts = each_join (FlowHolds base m) 0 (input_flows p lists node 0 node.inputs) (map (variable_flow p lists node node.equations nv) (others p lists node)) first (subst (λ n. Hold base m n (map (variable_flow p lists node node.equations nv) (others p lists node))) y variables) in
            let x : nv ≡ 0 + length (front p lists node) = omega arith in
            let all = each_join (FlowHolds base m) 0 (front p lists node) inner fronts (subst (λ n. Hold base m n inner) x r.0) in
            (hold_solves base m (node_flows p lists node) (subst (Hold base m 0) (sym (parts p lists node)) all), agree, has_instances p lists f node found m.on σ agree r.1.1),
      )

module _ (p : ProgramTree) (lists : List (List Flow)) (are : AreLists p lists) (facts : (f : List ℕ) (n : NodeTree) → node_called p f ≡ Some n → NodeFacts p n) (never : (f : List ℕ) → ¬ Reaches p f f) where
  apart : (f : List ℕ) (n : NodeTree) → node_called p f ≡ Some n → AreDistinct (variables_of n)
  apart f n e = (facts f n e).apart

  step : (f : List ℕ) → ((g : List ℕ) → Calls p f g → Gives p lists g) → Gives p lists f
  step f rest node found base given σ sol =
      let fs = facts f node found in
      let below : (g : List ℕ) → Below node g → Gives p lists g = λ g b. rest g (node, found, b) in
      let var = σ [] in
      let inner = λ (i : ℕ). σ (i ∷ []) in
      let here = subst (λ o. If o (λ node. InstanceHolds p node base given var inner)) found (sol []) in
      let ss = sites_of p (Some node) base var inner in
      let es : sites_of p (node_called p f) base var inner ≡ ss = ap (λ o. sites_of p o base var inner) found in
      let solved = each_all (λ j c. (path : Path) → HoldsAt p c.node c.base c.arguments (λ ρ. σ (j ∷ ρ)) path) 0 ss (λ j c e path.
      let z : j ≡ 0 + j = omega arith in
      let e' : slice_get (sites_of p (node_called p f) base var inner) j ≡ Some c = ap (λ s. slice_get s j) es ∙ e in
      let h = subst (λ o. If o (λ c. HoldsAt p c.node c.base c.arguments (λ ρ. σ (j ∷ ρ)) path)) e' (sol (j ∷ path)) in
      subst (λ j. HoldsAt p c.node c.base c.arguments (λ ρ. σ (j ∷ ρ)) path) z h) in
      let g = node_gives p lists node fs base σ apart below f found given here solved in
      let l = listed p lists are f node found in
      subst (ListHas p lists f node base given σ) (sym l) g

  pub gives_all : (f : List ℕ) → Gives p lists f
  gives_all = by_calls p never (Gives p lists) step
