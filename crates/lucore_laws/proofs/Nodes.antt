-- Where all items of an instance hold, the flows of its node's list are occurrences.
use Rattle.std.proofs.Common.{◌≡◌, ℕ, suc, ◌+◌, ◌<◌, ◌≤◌, ⊎_elim, List, [], ◌∷◌, ◌++◌, length, map, Option, Some, None, refl, sym, ap, ◌∙◌, subst, arith, length-append}
use Rattle.std.specs.Prelude.{slice_get, option_map}
use Rattle.std.proofs.lemmas.List.{length-map}
use Rattle.std.proofs.lemmas.Option.{slice_get_within, slice_get-map}
use Rattle.lutree.specs.declared.expr.Condition.{Condition}
use Rattle.lutree.specs.Tree.{DeclarationTree, EquationTree, NodeTree, ProgramTree}
use Rattle.luflow.specs.declared.form.Flow.{Flow}
use Rattle.lusource.specs.Names.{variables_of, place_of, name_at, clock_of, AreDistinct}
use Rattle.lustat_rules.specs.Scope.{declarations_of, node_called}
use Rattle.lustat_rules.specs.Scope as rules
use Rattle.lustat_rules.specs.Clocks.{HasClock}
use Rattle.lucore_laws.specs.Layout.{node_owners, Root, walk_right, root_flow, inner_flows, variable_flow, variable_place, variable_count, input_flows, node_flows}
use Rattle.lucore_laws.specs.Layout.Root.{own, at}
use Rattle.lucore_laws.proofs.Each.{Each, each_right, each_left, each_join, each_at, each_all, each_map}
use Rattle.lucore_laws.proofs.Names.{get-front, get-behind, all_at, get-names, get_place, clock_cases, clock_named}
use Rattle.lucore_laws.proofs.Roots.{LeftRoots, Roots, rooted, parts, length-front, length-inputs, front, others}
use Rattle.lucore_laws.proofs.ListToSource.{name_there}
use Rattle.lucore_laws.proofs.NodeToFlat.{other_has_equation}
use Rattle.lucore_laws.proofs.Facts.{Below, NodeFacts}
use Rattle.lucore_laws.specs.Reads.{Position, Occurrence, Instance, Item, if_there, clocked, output, items, left_clock, left_items, equation_items, input_items, node_items}
use Rattle.lucore_laws.specs.Reads.Occurrence.{variable}
use Rattle.lucore_laws.proofs.Graph.{Every, every_left, every_right, every_imp, Model, targets, FlowHolds, Hold, Solves, hold_solves, RootIs}
use Rattle.lucore_laws.proofs.Makes.{Has, Makes, makes_none, makes_join, makes_imp, makes_under, makes_any}
use Rattle.lucore_laws.specs.Owners.{owner}
use Rattle.lucore_laws.proofs.Owning.{Belongs, Mine, Pieces, mine_operator, mine_instance, all_belong, all_owners}
use Rattle.lucore_laws.proofs.Expressions.{ItemHolds, Gives, KnownClock, Agree, clock_agree, makes}

-- what is asked of each declared clock of a node
pub clocks_of : (P : Option Condition → Type 0) → P None → (node : NodeTree) → ((x : List ℕ) (c : Condition) → HasClock node x (Some c) → P (Some c)) → (x : List ℕ) → P (clock_of node x)
clocks_of P none node some x =
    ⊎_elim (λ (h : clock_of node x ≡ None). subst P (sym h) none)
    (λ (h : option_map (λ (d : DeclarationTree). d.clock) (rules.meaning node x) ≡ Some (clock_of node x)). one (clock_of node x) h)
    (clock_cases (declarations_of node) x)
  where
    one : (k : Option Condition) → option_map (λ (d : DeclarationTree). d.clock) (rules.meaning node x) ≡ Some k → P k
    one None e = none
    one (Some c) e = some x c e

-- all variables on a left side have its clock
pub left_same : (p : ProgramTree) (here : Instance) (node : NodeTree) (facts : NodeFacts p node) (n : ℕ) (q : EquationTree) → slice_get node.equations n ≡ Some q → (i : ℕ) (x : List ℕ) → slice_get q.left i ≡ Some x → clock_of node x ≡ left_clock p here node q
left_same p here node facts n q e i x named =
    let a = facts.agree n q e in
    let first = all_at (λ x. HasClock node x a.0) q.left 0 (name_at q.left 0) a.1 (name_there q.left 0 (facts.some n q e)) in
    let each = all_at (λ x. HasClock node x a.0) q.left i x a.1 named in
    clock_named (declarations_of node) x a.0 each ∙ sym (clock_named (declarations_of node) (name_at q.left 0) a.0 first)

module _ (G : Occurrence → Occurrence → Type 0) (through : (x y z : Occurrence) → G x y → G y z → G x z) (I : Instance → Type 0) (p : ProgramTree) (lists : List (List Flow)) (node : NodeTree) (facts : NodeFacts p node) (here : Instance)
    (apart : (f : List ℕ) (n : NodeTree) → node_called p f ≡ Some n → AreDistinct (variables_of n)) (gives : (a : Instance) → Below node a.node → I a → Gives G p lists a) where
  abbrev var : List ℕ → Occurrence
  var x = variable here.path x

  abbrev Holds : Item → Type 0
  Holds = ItemHolds G I

  abbrev IsKnown : Option Condition → Type 0
  IsKnown = KnownClock G I p lists node (Below node) here apart gives

  abbrev Agrees : Model Occurrence → Type 0
  Agrees = Agree G I p lists node (Below node) here apart gives

  clock_known : (x : List ℕ) → IsKnown (clock_of node x)
  clock_known x = clocks_of IsKnown tt node (λ x c h. facts.clocks x c h) x

  -- a variable is joined to what its flow looks at
  abbrev RootHolds : Model Occurrence → List ℕ → Flow → Type 0
  RootHolds m x f = Every (G (var x)) (targets m f)

  root_holds : (m : Model Occurrence) (q : EquationTree) (root : Root) (j : ℕ) (x : List ℕ) (v : Occurrence) → Agrees m → clock_of node x ≡ left_clock p here node q → RootIs G m root j v → Every (G (var x)) (v ∷ clocked p here node (clock_of node x)) → RootHolds m x (root_flow p lists node q root j x)
  root_holds m q (own f) j x v agree same r h = every_imp (G v) (G (var x)) (targets m f) (λ t g. through (var x) v t h.0 g) r
  root_holds m q (at i) j x v agree same r h =
      let k = left_clock p here node q in
      let c = subst (λ k. Every (G (var x)) (clocked p here node k)) same h.1 in
      (subst (G (var x)) (sym r) h.0, subst (Every (G (var x))) (clock_agree G I p lists node (Below node) here apart gives m k (clock_known (name_at q.left 0)) agree) c)

  left_roots : (m : Model Occurrence) (q : EquationTree) (root : Root) (t : Position) (w : ℕ) → Agrees m → ((j : ℕ) → j < w → RootIs G m root j (output p here node q.right t j)) → (j : ℕ) (xs : List (List ℕ)) → j + length xs ≤ w → ((i : ℕ) (x : List ℕ) → slice_get xs i ≡ Some x → clock_of node x ≡ left_clock p here node q) → Every Holds (left_items p here node q.right t j xs) → Each (λ j x. RootHolds m x (root_flow p lists node q root j x)) j xs
  left_roots m q root t w agree h j [] le same items = tt
  left_roots m q root t w agree h j (x ∷ xs) le same items = (
    root_holds m q root j x (output p here node q.right t j) agree (same 0 x refl) (h j (omega (arith, le))) items.0,
    left_roots m q root t w agree h (suc j) xs (omega (arith, le)) (λ i y e. same (suc i) y e) items.1,
  )

  abbrev Any : Occurrence → Type 0
  Any x = Unit {0}

  equations_make : (qs : List EquationTree) (s n : ℕ) → ((j : ℕ) (q : EquationTree) → slice_get qs j ≡ Some q → slice_get node.equations (n + j) ≡ Some q) → Every Holds (equation_items p here node qs n) → (made : Makes G Any Agrees s (inner_flows p lists node qs s) (λ m. Roots p lists node (RootHolds m) qs s)) × Pieces p lists node here.path qs s n made.0
  equations_make [] s n there h = (makes_none G Any Agrees _ s (λ m a. tt), refl)
  equations_make (q ∷ qs) s n there h =
      let z : n + 0 ≡ n = omega arith in
      let e : slice_get node.equations n ≡ Some q = ap (slice_get node.equations) (sym z) ∙ there 0 q refl in
      let k = left_clock p here node q in
      let w = walk_right p lists node q s in
      let s' = s + length w.inner in
      let t : Position = record { equation = n; operands = [] } in
      let li = left_items p here node q.right t 0 q.left in
      let it = items p here node q.right k t in
      let ri = equation_items p here node qs (suc n) in
      let hr = every_right Holds li (it ++ ri) h in
      let first = makes G I p lists node (Below node) here apart gives clock_known (Mine here.path n) n (mine_operator here.path n) (mine_instance here.path n) Agrees (λ m a. a) q.right k t (length q.left) refl (clock_known (name_at q.left 0)) (facts.rights n q e) (every_left Holds it ri hr) s in
      let first' = makes_imp G (Mine here.path n) Agrees _ (λ m. LeftRoots p lists node (RootHolds m) q w.root) s w.inner (λ m a r. left_roots m q w.root t (length q.left) a r 0 q.left (omega arith) (left_same p here node facts n q e) (every_left Holds li (it ++ ri) h)) first in
      let rest = equations_make qs s' (suc n) (λ j q e. let y : suc n + j ≡ n + suc j = omega arith in ap (slice_get node.equations) y ∙ there (suc j) q e) (every_right Holds it ri hr) in
      let any = makes_any G (Mine here.path n) Agrees (λ m. LeftRoots p lists node (RootHolds m) q w.root) s w.inner first' in (
        makes_join G Any Agrees (λ m. LeftRoots p lists node (RootHolds m) q w.root) (λ m. Roots p lists node (RootHolds m) qs s') s w.inner (inner_flows p lists node qs s') any
            (makes_under G Any Agrees (λ m. Agrees m × LeftRoots p lists node (RootHolds m) q w.root) (λ m. Roots p lists node (RootHolds m) qs s') s' (inner_flows p lists node qs s') (λ m a. a.0) rest.0),
        (first'.0, rest.0.0, refl {a = first'.0 ++ rest.0.0}, first'.1, first'.2, rest.1),
      )

  abbrev nv : ℕ
  nv = variable_count p lists node

  abbrev vertices : List Occurrence
  vertices = map var (variables_of node)

  vertex_at : (m : Model Occurrence) (l : List Occurrence) → Has m 0 (vertices ++ l) → (i : ℕ) (x : List ℕ) → slice_get (variables_of node) i ≡ Some x → m.on i ≡ var x
  vertex_at m l h i x e =
      let z : 0 + i ≡ i = omega arith in
      subst (λ n. m.on n ≡ var x) z (each_at (λ x t. m.on x ≡ t) 0 vertices i (var x) (each_left (λ x t. m.on x ≡ t) 0 vertices l h) (slice_get-map var (variables_of node) i ∙ ap (option_map var) e))

  inputs_hold : (m : Model Occurrence) (l : List Occurrence) → Has m 0 (vertices ++ l) → m.base ≡ here.clock → ((r : ℕ) → r < length node.inputs → m.given r ≡ if_there (slice_get here.arguments r))
      → (ds : List DeclarationTree) (r : ℕ) → ((j : ℕ) (d : DeclarationTree) → slice_get ds j ≡ Some d → slice_get node.inputs (r + j) ≡ Some d) → Every Holds (input_items p here node ds r) → Hold G m r (input_flows p lists node r ds)
  inputs_hold m l h base given [] r there items = tt
  inputs_hold m l h base given (d ∷ ds) r there items =
      let z : r + 0 ≡ r = omega arith in
      let here' = ap (slice_get node.inputs) (sym z) ∙ there 0 d refl in
      let lt = slice_get_within node.inputs r d here' in
      let name = get-names (declarations_of node) r ∙ ap (option_map (λ (d : DeclarationTree). d.name)) (get-front node.inputs (node.outputs ++ node.locals) r lt ∙ here') in
      let same : if_there (slice_get here.arguments r) ++ here.clock ≡ m.given r ++ m.base = ap (λ l. l ++ here.clock) (sym (given r lt)) ∙ ap (λ l. m.given r ++ l) (sym base) in (
        subst (λ v. Every (G v) (m.given r ++ m.base)) (sym (vertex_at m l h r d.name name)) (subst (Every (G (var d.name))) same items.0),
        inputs_hold m l h base given ds (suc r) (λ j d e. let y : suc r + j ≡ r + suc j = omega arith in ap (slice_get node.inputs) y ∙ there (suc j) d e) items.1,
      )

  others_hold : (m : Model Occurrence) (l : List Occurrence) → Has m 0 (vertices ++ l) → Roots p lists node (RootHolds m) node.equations nv → Hold G m (length node.inputs) (map (variable_flow p lists node node.equations nv) (others p lists node))
  others_hold m l h roots =
      each_map (FlowHolds G m) (variable_flow p lists node node.equations nv) (length node.inputs) (others p lists node)
      (each_all (λ x name. FlowHolds G m x (variable_flow p lists node node.equations nv name)) (length node.inputs) (others p lists node) (λ j x e.
      let there : slice_get (variables_of node) (length node.inputs + j) ≡ Some x =
      get-names (declarations_of node) (length node.inputs + j)
      ∙ ap (option_map (λ (d : DeclarationTree). d.name)) (get-behind node.inputs (node.outputs ++ node.locals) (length node.inputs) j refl)
      ∙ sym (get-names (node.outputs ++ node.locals) j) ∙ e in
      let f = variable_flow p lists node node.equations nv x in
      subst (λ v. Every (G v) (targets m f)) (sym (vertex_at m l h (length node.inputs + j) x there)) (rooted p lists node (RootHolds m) node.equations nv x roots (other_has_equation p lists node facts j x e))))

  pub node_gives : Every Holds (node_items p here node)
      → (l : List Occurrence) × (length l ≡ length (node_flows p lists node)) × Every (Belongs here.path) l × (here.path ≡ [] → map (owner node) l ≡ node_owners p lists node) × ((m : Model Occurrence) → Has m 0 l → m.base ≡ here.clock → ((r : ℕ) → r < length node.inputs → m.given r ≡ if_there (slice_get here.arguments r))
      → Solves G m (node_flows p lists node) × ((x : List ℕ) → place_of (variables_of node) x < length (variables_of node) → m.on (place_of (variables_of node) x) ≡ var x))
  node_gives holds =
      let ii = input_items p here node node.inputs 0 in
      let ei = equation_items p here node node.equations 0 in
      let inner = inner_flows p lists node node.equations nv in
      let made = equations_make node.equations nv 0 (λ j q e. let y : 0 + j ≡ j = omega arith in ap (slice_get node.equations) y ∙ e) (every_right Holds ii ei holds) in
      let mk = made.0 in
      let ls = length-map (variables_of node) var in
      let lf = length-front p lists node in
      let lp = ap length (parts p lists node) in
      let ll : length (vertices ++ mk.0) ≡ length (node_flows p lists node) = (let e = mk.1 in omega (arith, length-append vertices mk.0, length-append (front p lists node) inner)) in (
        vertices ++ mk.0,
        ll,
        all_belong p lists node here.path (variables_of node) node.equations nv 0 mk.0 made.1,
        λ e. all_owners p lists node here.path mk.0 e made.1,
        λ m h base given.
            let agree : Agrees m = (base, λ x lt. vertex_at m mk.0 h (variable_place p lists node x) x (get_place (variables_of node) x lt)) in
            let z : 0 + length vertices ≡ nv = omega arith in
            let r = mk.3 m agree (subst (λ n. Has m n mk.0) z (each_right (λ x t. m.on x ≡ t) 0 vertices mk.0 h)) in
            let first = inputs_hold m mk.0 h base given node.inputs 0 (λ j d e. let y : 0 + j ≡ j = omega arith in ap (slice_get node.inputs) y ∙ e) (every_left Holds ii ei holds) in
            let li = length-inputs p lists node 0 node.inputs in
            let y : length node.inputs ≡ 0 + length (input_flows p lists node 0 node.inputs) = omega arith in
            let variables = others_hold m mk.0 h r.1 in
            let fronts = each_join (FlowHolds G m) 0 (input_flows p lists node 0 node.inputs) (map (variable_flow p lists node node.equations nv) (others p lists node)) first (subst (λ n. Hold G m n (map (variable_flow p lists node node.equations nv) (others p lists node))) y variables) in
            let x : nv ≡ 0 + length (front p lists node) = omega arith in
            let all = each_join (FlowHolds G m) 0 (front p lists node) inner fronts (subst (λ n. Hold G m n inner) x r.0) in
            (hold_solves G m (node_flows p lists node) (subst (Hold G m 0) (sym (parts p lists node)) all), agree.1),
      )
